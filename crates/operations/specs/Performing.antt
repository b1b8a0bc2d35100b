-- One operation of a body on the section of tuples: what it leaves there, and what the code does by its parts. Assumes nothing.
use Rattle.std.specs.Prelude as code
use Rattle.std.specs.Prelude.{None, Some}
use Rattle.std.specs.Prelude.{◌≡◌, ℕ, zero, suc, ◌+◌, ◌-◌, ◌≤◌, ◌<◌, Bool, cond, get_or, T}
use Rattle.std.proofs.Math.Path.{refl, sym, ap}
use Rattle.std.proofs.Common.{subst, ◌∙◌, arith}
use Rattle.std.proofs.Math.Bool.{true, false}
use Rattle.std.proofs.Math.Option
use Rattle.std.proofs.Math.Option.{Option, none, some, some-injective, none-ne-some}
use mathlib.Core.List.{List, [], ◌∷◌, ◌++◌, map}
use Rattle.std.proofs.Math.ListN.{length}
use Rattle.std.proofs.Math.Seq.{get_or-append_seam}
use Rattle.std.proofs.Math.Dec.{leb}
use borrow.Author.Tests.{le-leb, lt-leb}
use Rattle.basis.specs.Choice.{maybe}
use Rattle.basis.specs.Lists.{first, remove_at, keep}
use Rattle.basis.specs.ListLaws.{Each, First, first_some, first_below}
use Rattle.basis.specs.Sizes.{space_numbers, most_tuples}
use Rattle.model.specs.Value.{Value}
use Rattle.model.specs.Statement as Model
use Rattle.model.specs.Statement.{deposit, transfer}
use Rattle.model.specs.Valid.{legal_tuple}
use Rattle.model.specs.Matching.{Tuple, Bindings, template, is_match, selected, matches, selects, oldest, bind}
use Rattle.model.proofs.MatchingLaws.{matched}
use Rattle.model.specs.Execution.{Result, done, failed, looked_up, made_all, appended, in_space, moved, perform}
use Rattle.matching.specs.declared.Template.{Template}
use Rattle.layout.specs.States.{tuple_read}
use Rattle.sections.specs.Shapes.{items_length, holds_read, holds}
use Rattle.tuples.specs.Section.{Legal, tuple_shape, entry_bytes, tuple_at, tuples_of, Holds, Section}
use Rattle.tuples.specs.Entry.{Entry}
use Rattle.tuples.specs.EntryLaws.{entry_of, entry_read}
use Rattle.tuples.specs.SectionLaws.{read_at_lem}
use Rattle.matching.specs.Meaning.{template_is, found_is}
use Rattle.moves.specs.Moves.{relocated, Copies}
use Rattle.bindings.specs.declared.Vars.{Vars}
use Rattle.bindings.specs.Variables.{bindings_of}
use Rattle.bindings.specs.Making.{CanMake, tuple_of, made_bytes}

-- ---- what is left

-- a result as the code tells it: outcome 0, or the number of the failure
unfoldable pub result_is : ℕ → Bindings → List Tuple → Result
result_is zero bs ts = done bs ts
result_is (suc k) bs ts = failed (suc k)

-- the code's answer is this result, and there is a section: after a failure, of the tuples before the operation that failed
pub record Leaves (x : Result) (outcome n : ℕ) (v : Vars) (p : List ℕ) : Type 0 where
  pub is : result_is outcome (bindings_of v) (tuples_of p n) ≡ x
  pub section : Section p n

-- it is done, and the section holds the tuples
pub leaves_done : (bs : Bindings) (ts : List Tuple) (n : ℕ) (v : Vars) (p : List ℕ) → bindings_of v ≡ bs → Holds p n ts → Leaves (done bs ts) 0 n v p
unfolding result_is
leaves_done bs ts n v p e h = record { is = rw (e, holds_read tuple_shape p n ts h); section = holds tuple_shape p n ts h }

-- it failed
pub leaves_failed : (k n : ℕ) (v : Vars) (p : List ℕ) → Section p n → Leaves (failed (suc k)) (suc k) n v p
unfolding result_is
leaves_failed k n v p h = record { is = refl; section = h }

-- ---- in and rd

unfoldable pub look_up : (withdraws : Bool) → Bindings → ℕ → List Model.Field → List Tuple → Result
look_up withdraws bs s fs ts = maybe (oldest bs s fs ts) (failed 16) (looked_up withdraws fs bs ts)

-- the oldest match is the tuple at an index
abbrev pub OldestAt : Bindings → ℕ → List Model.Field → (p : List ℕ) (n i : ℕ) → Type 0
OldestAt bs s fs p n i = oldest bs s fs (tuples_of p n) ≡ some (record { index = i; item = tuple_at p i })

-- the number of tuples after it is taken, or read
unfoldable pub after_taking : (withdraws : Bool) → ℕ → ℕ
after_taking withdraws n = cond withdraws (n - 1) n

-- what the search answers
module _ (bs : Bindings) (s : ℕ) (fs : List Model.Field) (p : List ℕ) (n : ℕ) (t : Template) (a : template_is t ≡ template bs s fs) where
  found_oldest : (r : code.Option ℕ) → found_is p r ≡ first (is_match (template_is t)) (tuples_of p n) → oldest bs s fs (tuples_of p n) ≡ found_is p r
  unfolding oldest
  found_oldest r e = ap (λ (h : Tuple → Bool). first h (tuples_of p n)) (sym (ap is_match a)) ∙ sym e

  pub search_none : found_is p None ≡ first (is_match (template_is t)) (tuples_of p n) → (withdraws : Bool) (v : Vars) → Section p n → Leaves (look_up withdraws bs s fs (tuples_of p n)) 16 n v p
  unfolding look_up found_is
  search_none e withdraws v h = rw (found_oldest None e) (leaves_failed 15 n v p h)

  pub search_at : (i : ℕ) → found_is p (Some i) ≡ first (is_match (template_is t)) (tuples_of p n) → OldestAt bs s fs p n i
  unfolding found_is
  search_at i e = found_oldest (Some i) e

-- an oldest match at an index is the tuple that stands there
pub oldest_at : (bs : Bindings) (s : ℕ) (fs : List Model.Field) (p : List ℕ) (n i : ℕ) (t : Tuple) → oldest bs s fs (tuples_of p n) ≡ some (record { index = i; item = t }) → OldestAt bs s fs p n i
unfolding oldest
oldest_at bs s fs p n i t e =
    let h = first_some (matches bs s fs) (tuples_of p n) (record { index = i; item = t }) e in
    let below : i < n = subst (λ (m : ℕ). i < m) (items_length tuple_shape p n) (first_below (matches bs s fs) (tuples_of p n) (record { index = i; item = t }) h) in
    let there : get_or (tuples_of p n) i t ≡ t = ap (λ (k : ℕ). get_or (tuples_of p n) k t) h.index ∙ ap (λ (l : List Tuple). get_or l (length h.front) t) h.split ∙ get_or-append_seam h.front t h.back t in
    e ∙ ap (λ (x : Tuple). some (record { index = i; item = x })) (sym there ∙ read_at_lem p n i t below)

-- a tuple that was found
module _ (bs : Bindings) (s : ℕ) (fs : List Model.Field) (p : List ℕ) (n i : ℕ) (e : OldestAt bs s fs p n i) where
  at_first : First (matches bs s fs) (tuples_of p n) (record { index = i; item = tuple_at p i })
  unfolding oldest
  at_first = first_some (matches bs s fs) (tuples_of p n) (record { index = i; item = tuple_at p i }) e

  pub at_below : i < n
  at_below = subst (λ (m : ℕ). i < m) (items_length tuple_shape p n) (first_below (matches bs s fs) (tuples_of p n) (record { index = i; item = tuple_at p i }) at_first)

  pub at_count : length (tuple_at p i).values ≡ length fs
  at_count = (matched bs s fs (tuple_at p i) at_first.passes).0

  look_at : (withdraws : Bool) → done (bind bs fs (tuple_at p i).values) (cond withdraws (remove_at i (tuples_of p n)) (tuples_of p n)) ≡ look_up withdraws bs s fs (tuples_of p n)
  unfolding look_up looked_up
  look_at withdraws = rw e

  module _ (v : Vars) (b : bindings_of v ≡ bind bs fs (tuple_at p i).values) (withdraws : Bool) where
    pub look_removed : withdraws ≡ true → (q : List ℕ) → Holds q (n - 1) (remove_at i (tuples_of p n)) → Leaves (look_up withdraws bs s fs (tuples_of p n)) 0 (n - 1) v q × (n - 1 ≡ after_taking withdraws n)
    unfolding after_taking
    look_removed w q h = rw w (subst (λ (x : Result). Leaves x 0 (n - 1) v q) (look_at true) (leaves_done _ _ (n - 1) v q b h), refl)

    pub look_read : withdraws ≡ false → Section p n → Leaves (look_up withdraws bs s fs (tuples_of p n)) 0 n v p × (n ≡ after_taking withdraws n)
    unfolding after_taking
    look_read w h = rw w (subst (λ (x : Result). Leaves x 0 n v p) (look_at false) (leaves_done _ _ n v p b h), refl)

-- ---- out

-- what an out needs: a space number, sums of legal values, and 1 to 6 of them
pub record CanDeposit (bs : Bindings) (s : ℕ) (fs : List Model.Field) : Type 0 where
  pub space : s < space_numbers
  pub make : Each (CanMake bs) fs
  pub legal : (vs : List Value) → made_all bs fs ≡ some vs → T (legal_tuple (tuple_of s vs))

-- the tuple that was made: its values, and its bytes
record Made (bs : Bindings) (s : ℕ) (fs : List Model.Field) (tuple : List ℕ) : Type 0 where
  values : List Value
  is : made_all bs fs ≡ some values
  bytes : tuple ≡ entry_bytes (tuple_of s values)

made : (bs : Bindings) (s : ℕ) (fs : List Model.Field) (tuple : List ℕ) → some tuple ≡ made_bytes bs s fs → Made bs s fs tuple
unfolding made_bytes
made bs s fs tuple h = go (made_all bs fs) refl h
  where
    go : (o : Option (List Value)) → made_all bs fs ≡ o → some tuple ≡ Option.map (λ vs. entry_bytes (tuple_of s vs)) o → Made bs s fs tuple
    go none d h = absurd (none-ne-some tuple (sym h))
    go (some vs) d h = record { values = vs; is = d; bytes = some-injective tuple (entry_bytes (tuple_of s vs)) h }

module _ (bs : Bindings) (s : ℕ) (fs : List Model.Field) (p : List ℕ) (n : ℕ) (v : Vars) (e : bindings_of v ≡ bs) where
  pub deposit_unmade : Section p n → none ≡ made_bytes bs s fs → Leaves (perform (deposit s fs) bs (tuples_of p n)) 17 n v p
  unfolding perform made_bytes
  deposit_unmade k h = go (made_all bs fs) refl h
    where
      go : (o : Option (List Value)) → made_all bs fs ≡ o → none ≡ Option.map (λ vs. entry_bytes (tuple_of s vs)) o → Leaves (perform (deposit s fs) bs (tuples_of p n)) 17 n v p
      go none d h = rw d (leaves_failed 16 n v p k)
      go (some vs) d h = absurd (none-ne-some (entry_bytes (tuple_of s vs)) h)

  module _ (tuple : List ℕ) (h : some tuple ≡ made_bytes bs s fs) where
    pub deposit_full : Section p n → most_tuples ≤ n → Leaves (perform (deposit s fs) bs (tuples_of p n)) 12 n v p
    unfolding perform appended
    deposit_full o k =
        let full : leb (length (tuples_of p n) + 1) most_tuples ≡ false = lt-leb (length (tuples_of p n) + 1) most_tuples (omega (arith, items_length tuple_shape p n)) in
        rw ((made bs s fs tuple h).is, full) (leaves_failed 11 n v p o)

    legal : (c : CanDeposit bs s fs) → Legal (tuple_of s (made bs s fs tuple h).values)
    legal c = (c.legal (made bs s fs tuple h).values (made bs s fs tuple h).is, c.space)

    -- its bytes are an entry
    pub deposit_entry : CanDeposit bs s fs → Entry tuple
    deposit_entry c = entry_of tuple (tuple_of s (made bs s fs tuple h).values) (legal c) (made bs s fs tuple h).bytes

    pub deposit_done : (q : List ℕ) → n < most_tuples → CanDeposit bs s fs → Holds q (n + 1) (tuples_of p n ++ (tuple_read tuple ∷ [])) → Leaves (perform (deposit s fs) bs (tuples_of p n)) 0 (n + 1) v q
    unfolding perform appended
    deposit_done q k c l =
        let m = made bs s fs tuple h in
        let room : leb (length (tuples_of p n) + 1) most_tuples ≡ true = le-leb (length (tuples_of p n) + 1) most_tuples (omega (arith, items_length tuple_shape p n)) in
        let read : tuple_read tuple ≡ tuple_of s m.values = entry_read tuple (tuple_of s m.values) (legal c) m.bytes in
        rw (m.is, room) (leaves_done bs _ (n + 1) v q e (rw read at l))

-- ---- move and copy

module _ (bs : Bindings) (from to : ℕ) (fs : List Model.Field) (p : List ℕ) (n : ℕ) (v : Vars) (e : bindings_of v ≡ bs) (t : Template) (a : template_is t ≡ template bs from fs) where
  pub transfer_moved : (q : List ℕ) (withdraws : Bool) → withdraws ≡ true → Holds q n (moved (selected (template_is t)) to (tuples_of p n)) → Leaves (perform (transfer withdraws from to fs) bs (tuples_of p n)) 0 n v q
  unfolding perform
  transfer_moved q withdraws w h = rw w (leaves_done bs _ n v q e (subst (λ (s : Tuple → Bool). Holds q n (moved s to (tuples_of p n))) (ap selected a) h))

  -- the copies
  copies : relocated t to (tuples_of p n) ≡ map (in_space to) (keep (selects bs from fs) (tuples_of p n))
  unfolding relocated
  copies = ap (λ (s : Tuple → Bool). map (in_space to) (keep s (tuples_of p n))) (ap selected a)

  pub transfer_full : (q : List ℕ) (withdraws : Bool) → withdraws ≡ false → Section p n → Copies None p q n (relocated t to (tuples_of p n)) → Leaves (perform (transfer withdraws from to fs) bs (tuples_of p n)) 12 n v q
  unfolding perform appended
  transfer_full q withdraws w k h =
      let full : leb (length (tuples_of p n) + length (relocated t to (tuples_of p n))) most_tuples ≡ false =
      lt-leb (length (tuples_of p n) + length (relocated t to (tuples_of p n))) most_tuples (omega (arith, h.0, items_length tuple_shape p n)) in
      rw (w, ← copies, full, h.1) (leaves_failed 11 n v p k)

  pub transfer_copied : (q : List ℕ) (m : ℕ) (withdraws : Bool) → withdraws ≡ false → Copies (Some m) p q n (relocated t to (tuples_of p n)) → Leaves (perform (transfer withdraws from to fs) bs (tuples_of p n)) 0 m v q
  unfolding perform appended
  transfer_copied q m withdraws w h =
      let room : leb (length (tuples_of p n) + length (relocated t to (tuples_of p n))) most_tuples ≡ true =
      le-leb (length (tuples_of p n) + length (relocated t to (tuples_of p n))) most_tuples (omega (arith, h.0, h.1.few, items_length tuple_shape p n)) in
      rw (w, ← copies, room) (leaves_done bs _ m v q e h.1)
