-- Rule 2: the branch search, branch by branch and tuple by tuple. Assumes nothing.
use Rattle.std.specs.Prelude as code
use Rattle.std.specs.Prelude.{◌≡◌, ℕ, zero, suc, ◌+◌, ◌-◌, ◌≤◌, ◌<◌, Bool, ◌||◌, List, [], ◌∷◌, None, Some, length, get_or, T, eqb}
use Rattle.std.proofs.Math.Path.{refl, sym, ap, subst}
use Rattle.std.proofs.Common.{◌∙◌, arith}
use Rattle.std.proofs.Math.Numerals.{add-one}
use Rattle.std.proofs.Math.Bool.{true, false}
use Rattle.std.proofs.Math.Option.{Option, none, some, none-ne-some}
use Rattle.std.proofs.Math.ListN.{drop}
use Rattle.basis.specs.Choice.{maybe, is_some}
use Rattle.basis.specs.Logic.{and_l}
use Rattle.basis.specs.ListLaws.{first_any}
use Rattle.basis.specs.Lists.{all, any, Found, first_from, first}
use Rattle.basis.specs.Sizes.{count_width, branch_count_at, branches_at}
use Rattle.model.specs.Statement as Model
use Rattle.model.specs.Statement.{always, lookup, deposit, transfer, Branch, Statement}
use Rattle.model.specs.Reading.{several, operation, branch}
use Rattle.model.specs.Legal.{is_guard, legal_branch, legal_body}
use Rattle.model.specs.Matching.{Tuple, unbound, template, is_match, matches, oldest}
use Rattle.model.specs.Execution.{sought, holds, guard_holds, ready, chosen, is_blocking, can_wait}
use Rattle.layout.specs.Stored.{statement_of}
use Rattle.statements.specs.declared.Bare.{Bare}
use Rattle.statements.specs.declared.Operation.{Operation}
use Rattle.statements.specs.Ends.{end_at}
use Rattle.statements.specs.Codes.{blocking_of}
use Rattle.statements.specs.Flat.{operation_of, operation_is, few_fields}
use Rattle.statements.specs.Front.{bare}
use Rattle.tuples.specs.Section.{tuple_at, tuples_of}
use Rattle.matching.specs.declared.Template.{Template}
use Rattle.matching.specs.Meaning.{template_is, found_is}
use Rattle.matching.specs.SearchLaws.{searched, search_hit, search_end}
use Rattle.bindings.specs.Fields.{fields_in}
use Rattle.walk.specs.Standing.{no_items}
use Rattle.walk.specs.declared.Choice.{Choice}
use Rattle.walk.specs.Walk.{Branches, branches_from, NextBranch, ReadBranch, PassedBranch, operations_there, operations_past, stop_is, body_is, body_branches}
use Rattle.walk.specs.Choosing.{Chosen, Finds, is_true, finds, Picks, Chooses}

-- ---- a guard

-- true holds
pub guard_true : (o : Operation) (ts : List Tuple) → o.code ≡ 0 → holds ts (operation_is o) ≡ true
unfolding operation_is operation_of holds
guard_true o ts e = rw e

-- and looks for no tuple
pub true_finds : (o : Operation) (ts : List Tuple) (j : ℕ) → o.code ≡ 0 → Finds ts (operation_is o) j
unfolding operation_is operation_of
true_finds o ts j e = rw e is_true

-- the others look for a tuple by their fields
guard_lookup : (o : Operation) → T (is_guard (operation_is o)) → (o.code ≡ 0 → ⊥) → (withdraws : Bool) × (blocks : Bool) × (operation_is o ≡ lookup withdraws blocks o.from (fields_in o))
unfolding operation_is operation_of is_guard
guard_lookup o g z = go o.code refl g z
  where
    go : (n : ℕ) → o.code ≡ n → T (is_guard (operation_of n o.from o.to (fields_in o))) → (n ≡ 0 → ⊥) → (withdraws : Bool) × (blocks : Bool) × (operation_is o ≡ lookup withdraws blocks o.from (fields_in o))
    go zero q g z = absurd (z refl)
    go (suc zero) q g z = (true, true, rw q)
    go (suc (suc zero)) q g z = (true, false, rw q)
    go (suc (suc (suc zero))) q g z = (false, true, rw q)
    go (suc (suc (suc (suc zero)))) q g z = (false, false, rw q)
    go (suc (suc (suc (suc (suc zero))))) q g z = absurd g
    go (suc (suc (suc (suc (suc (suc zero)))))) q g z = absurd g
    go (suc (suc (suc (suc (suc (suc (suc n))))))) q g z = absurd g

module _ (o : Operation) (ts : List Tuple) (t : Template) (g : T (is_guard (operation_is o))) (z : o.code ≡ 0 → ⊥) (a : template_is t ≡ template unbound o.from (fields_in o)) where
  -- they hold where their template matches a tuple
  pub guard_template : holds ts (operation_is o) ≡ any (is_match (template_is t)) ts
  unfolding holds
  guard_template = rw ((guard_lookup o g z).2, a)

  -- and find the first that it matches
  pub guard_sought : sought (operation_is o) unbound ts ≡ first (is_match (template_is t)) ts
  unfolding oldest
  guard_sought = rw ((guard_lookup o g z).2, a)

-- what finds a tuple, or is true, holds
finds_holds : (ts : List Tuple) (o : Model.Operation) (j : ℕ) → Finds ts o j → holds ts o ≡ true
unfolding holds
finds_holds ts o j is_true = refl
finds_holds ts guard index (finds {o} {j} {t} e) = go o e
  where
    go : (o : Model.Operation) → sought o unbound ts ≡ some (record { index = j; item = t }) → holds ts o ≡ true
    go always e = refl
    go (lookup withdraws blocks s fs) e = unfold oldest is_some in sym (first_any (matches unbound s fs) ts) ∙ ap is_some e
    go (deposit s fs) e = absurd (none-ne-some _ e)
    go (transfer withdraws from to fs) e = absurd (none-ne-some _ e)

-- none of the first j of n tuples matches: the search goes on from there
abbrev pub Unmatched : (t : Template) (tuples : List ℕ) (n j : ℕ) → Type 0
Unmatched t p n j = first (is_match (template_is t)) (tuples_of p n) ≡ searched (is_match (template_is t)) p n j

module _ (o : Operation) (p : List ℕ) (n : ℕ) (t : Template) (g : T (is_guard (operation_is o))) (z : o.code ≡ 0 → ⊥) (a : template_is t ≡ template unbound o.from (fields_in o)) (j : ℕ) (h : Unmatched t p n j) where
  -- the next one does: it is found
  pub guard_finds : j < n → is_match (template_is t) (tuple_at p j) ≡ true → Finds (tuples_of p n) (operation_is o) j
  unfolding found_is
  guard_finds l e = finds (guard_sought o (tuples_of p n) t g z a ∙ h ∙ sym (search_hit (is_match (template_is t)) p n j l e))

  -- there is no other: the guard does not hold
  pub guard_fails : n ≤ j → holds (tuples_of p n) (operation_is o) ≡ false
  unfolding found_is is_some
  guard_fails l = guard_template o (tuples_of p n) t g z a ∙ sym (first_any (is_match (template_is t)) (tuples_of p n)) ∙ ap is_some (h ∙ sym (search_end (is_match (template_is t)) p n j l))

-- ---- the branches, from one on

-- x is what is said of all branches, and g says it of those that stand ahead
pub record Ahead {B : Type 0} (x : B) (g : List Branch → B) (b : List ℕ) (at count : ℕ) : Type 0 where
  pub stand : Branches b at count
  pub same : x ≡ g (branches_from b at count)

pub ahead_first : {B : Type 0} (x : B) (g : List Branch → B) (b : List ℕ) → T (legal_body b) → x ≡ g (statement_of b).branches → Ahead x g b branches_at (get_or b branch_count_at 0 - 0)
ahead_first x g b t e =
    let n : get_or b branch_count_at 0 - 0 ≡ get_or b branch_count_at 0 = omega arith in
    let h = body_branches b (statement_of b) (body_is b t) in
    rw n (record { stand = h.stands; same = e ∙ ap g (sym h.items) })

-- the position after the body of a branch, as the code finds it, is where the others stand
pub body_past : (b : List ℕ) (at others end : ℕ) (h : NextBranch b at others end) (count next : ℕ) → count ≡ get_or b end 0 → some next ≡ end_at (several operation count) (all few_fields) b (end + count_width) → next ≡ h.stop
body_past b at others end h count next c e =
    let k = operations_past b (end + count_width) (get_or b end 0) h.body next (rw c at e) in
    stop_is b at others end next h k.1 k.0

-- there is one
pub body_there : (b : List ℕ) (at others end : ℕ) (h : NextBranch b at others end) (count : ℕ) → count ≡ get_or b end 0 → T (is_some (end_at (several operation count) (all few_fields) b (end + count_width)))
body_there b at others end h count c = rw c (operations_there b (end + count_width) (get_or b end 0) h.body)

module _ {B : Type 0} (x : B) (g : List Branch → B) (b : List ℕ) (at count : ℕ) (h : Ahead x g b at count) where
  pub ahead_end : count ≡ 0 → x ≡ g []
  ahead_end z = h.same ∙ rw (z, no_items branch b at)

  module _ (others : ℕ) (s : count ≡ suc others) where
    pub ahead_stand : Branches b at (suc others)
    ahead_stand = subst (Branches b at) s h.stand

    module _ (end : ℕ) (n : NextBranch b at others end) where
      pub ahead_here : x ≡ g (n.first ∷ branches_from b n.stop others)
      ahead_here = h.same ∙ rw s (ap g n.items)

      -- this one is passed
      pub ahead_next : (f : List Branch → B) → ((l : List Branch) → g (n.first ∷ l) ≡ f l) → (next : ℕ) → next ≡ n.stop → Ahead x f b next others
      ahead_next f e next q = rw q (record { stand = n.later; same = ahead_here ∙ e (branches_from b n.stop others) })

-- a guard that was read is one
pub read_guard : (b : List ℕ) (at others : ℕ) (r : Operation × ℕ) → ReadBranch b at others r → T (is_guard (operation_is r.0))
unfolding legal_branch
read_guard b at others r n = let t = n.0.legal in rw n.1 (search (and_l, t) depth 6)

-- ---- which branch is chosen

-- of the branches from number i on
abbrev pub Seeking : List ℕ → List Tuple → (i at count : ℕ) → Type 0
Seeking b ts i at count = Ahead (chosen ts (statement_of b)) (first_from (guard_holds ts) i) b at count

module _ (b : List ℕ) (ts : List Tuple) where
  pub seek_first : T (legal_body b) → Seeking b ts 0 branches_at (get_or b branch_count_at 0 - 0)
  unfolding chosen first
  seek_first t = ahead_first (chosen ts (statement_of b)) (first_from (guard_holds ts) 0) b t refl

  module _ (i at count : ℕ) (h : Seeking b ts i at count) where
    abbrev choice : Option (Found Branch)
    choice = chosen ts (statement_of b)

    pub seek_end : count ≡ 0 → (c : code.Option Choice) → c ≡ None → Chooses b ts choice c
    unfolding first_from
    seek_end z c e = rw e (ahead_end choice (first_from (guard_holds ts) i) b at count h z)

    module _ (others : ℕ) (s : count ≡ suc others) (r : Operation × ℕ) (n : ReadBranch b at others r) where
      -- its guard finds a tuple or is true
      pub seek_found : (j : ℕ) → Finds ts (operation_is r.0) j → Chooses b ts choice (Some (record { branch = i + 1; at = at; tuple = j }))
      unfolding first_from guard_holds
      seek_found j f =
          let k = n.0 in
          let f : Finds ts k.first.guard j = subst (λ (o : Model.Operation). Finds ts o j) n.1 f in
          let first_is : choice ≡ some (record { index = i; item = k.first }) = ahead_here choice (first_from (guard_holds ts) i) b at count h others s r.1 k ∙ rw (finds_holds ts k.first.guard j f) in
          record { index = i; item = k.first; is = first_is; number = refl; stands = record { rest = drop k.stop b; reads = k.reads; legal = k.legal }; guard = f }

      -- it does not
      pub seek_next : holds ts (operation_is r.0) ≡ false → (next : ℕ) → next ≡ n.0.stop → Seeking b ts (i + 1) next others
      unfolding first_from guard_holds
      seek_next f next q =
          let e : holds ts n.0.first.guard ≡ false = ap (holds ts) (sym n.1) ∙ f in
          ahead_next choice (first_from (guard_holds ts) i) b at count h others s r.1 n.0 (first_from (guard_holds ts) (i + 1)) (λ l. rw (e, add-one i)) next q

-- some guard holds where a branch is chosen
module _ (ts : List Tuple) (st : Statement) where
  is_ready_lem : (o : Option (Found Branch)) → chosen ts st ≡ o → ready ts st ≡ is_some o
  unfolding ready chosen
  is_ready_lem o e = sym (first_any (guard_holds ts) st.branches) ∙ ap is_some e

  pub picks_ready : (b : List ℕ) (c : Choice) → Picks b ts (chosen ts st) c → ready ts st ≡ true
  unfolding is_some
  picks_ready b c h = is_ready_lem _ h.is

  pub none_ready : chosen ts st ≡ none → ready ts st ≡ false
  unfolding is_some
  none_ready e = is_ready_lem none e

-- ---- whether a statement can wait

-- whatever the fields
bare_blocks : (o : Model.Operation) → is_blocking (bare o) ≡ is_blocking o
unfolding bare is_blocking
bare_blocks always = refl
bare_blocks (lookup withdraws blocks s fs) = refl
bare_blocks (deposit s fs) = refl
bare_blocks (transfer withdraws from to fs) = refl

abbrev blocks : Branch → Bool
blocks br = is_blocking br.guard

-- the answer is the one among the branches ahead
abbrev pub Asking : List ℕ → (at count : ℕ) → Type 0
Asking b at count = Ahead (can_wait (statement_of b)) (any blocks) b at count

module _ (b : List ℕ) where
  pub ask_first : T (legal_body b) → Asking b branches_at (get_or b branch_count_at 0 - 0)
  unfolding can_wait
  ask_first t = ahead_first (can_wait (statement_of b)) (any blocks) b t refl

  module _ (at count : ℕ) (h : Asking b at count) where
    pub ask_end : count ≡ 0 → false ≡ can_wait (statement_of b)
    unfolding any
    ask_end z = sym (ahead_end (can_wait (statement_of b)) (any blocks) b at count h z)

    module _ (others : ℕ) (s : count ≡ suc others) (r : Bare × ℕ) (n : PassedBranch b at others r) (t : Bool) (e : t ≡ (eqb r.0.code 1 || eqb r.0.code 3)) where
      told : blocks n.0.first ≡ t
      told = sym (bare_blocks n.0.first.guard) ∙ ap is_blocking (sym n.1) ∙ blocking_of r.0.code r.0.from r.0.to [] ∙ sym e

      pub ask_yes : t ≡ true → true ≡ can_wait (statement_of b)
      unfolding any
      ask_yes z = sym (ahead_here (can_wait (statement_of b)) (any blocks) b at count h others s r.1 n.0 ∙ rw (told ∙ z))

      pub ask_next : t ≡ false → (next : ℕ) → next ≡ n.0.stop → Asking b next others
      unfolding any
      ask_next z next q = ahead_next (can_wait (statement_of b)) (any blocks) b at count h others s r.1 n.0 (any blocks) (λ l. rw (told ∙ z)) next q

-- ---- the branch at a position

unfoldable pub branch_at : List ℕ → ℕ → Branch
branch_at b at = maybe (branch (drop at b)) (record { guard = always; body = [] }) (λ r. r.0)

pub branch_is : (b : List ℕ) (at : ℕ) (br : Branch) → Chosen b at br → branch_at b at ≡ br
unfolding branch_at
branch_is b at br c = rw c.reads
