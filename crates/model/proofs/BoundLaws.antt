-- The values of a statement that ran done are the statement's own: a variable is among them exactly if a field that binds it stands in the guard or body of the branch that ran. Assumes nothing.
use Rattle.std.specs.Prelude.{◌≡◌, refl, ◌↔◌, ◌⊎◌, ℕ, zero, suc, ◌+◌, ◌<◌, Bool, true, not, ◌||◌, length, get_or, set, replicate, T, eqb}
use Rattle.std.proofs.Math.Path.{sym, ap}
use Rattle.std.proofs.Common.{subst, ◌∙◌, inl, inr, arith, get_or-set_same, get_or-set_other, eqb→eq}
use Rattle.std.proofs.Math.Bool.{false, or-true, or-false, or_assoc}
use Rattle.std.proofs.Math.Option.{Option, none, some}
use mathlib.Core.List.Memᴰ
use mathlib.Core.List.{List, [], ◌∷◌, map, flat_map, Memᴰ}
use Rattle.std.proofs.lemmas.List.{length-map}
use Rattle.std.proofs.Math.Dec.{eqb_refl}
use Rattle.basis.specs.Choice.{maybe, is_some}
use Rattle.basis.specs.Logic.{and_l, and_r, not_eq}
use Rattle.basis.specs.Lists.{any, keep, is_in, count_from}
use Rattle.basis.specs.ListLaws.{keep_true, keep_member}
use Rattle.basis.specs.IndexLaws.{Decides, Least}
use Rattle.basis.specs.Sizes.{variables}
use Rattle.model.specs.Value.{Value}
use Rattle.model.specs.Statement.{Field, Binder, binder_of, Operation, always, lookup, deposit, transfer, Branch, operations, Statement}
use Rattle.model.specs.Legal.{Kinds, no_kinds, bind_kind, bind_kinds, legal_fields, fields_of, template_forms, legal_operation, legal_operations, legal_branch, legal_statement}
use Rattle.model.proofs.LegalWords.{FieldOk, FormIn, OperationOk, BranchOk, Throughout, throughout_in}
use Rattle.model.proofs.BinderLaws.{BindsAt, binder_binds, binds_binder, binding_barred, binds_none}
use Rattle.model.proofs.LegalLaws.{branch_iff}
use Rattle.model.specs.Matching.{Tuple, Bindings, unbound, bind_field, bind}
use Rattle.model.proofs.MatchingLaws.{bind_field_length}
use Rattle.model.specs.Execution.{Result, done, failed, perform, perform_all, Executed, attempt, tuples_after}
use Rattle.model.proofs.OperationLaws.{done_bindings, Taken, always_done, in_removes, rd_reads, out_appends, move_moves, copy_copies, least_in}
use Rattle.model.proofs.ExecutionLaws.{Holds, Runs, attempt_runs, performed_in_order, failure_number}
use Rattle.model.proofs.CheckLaws.{Some, any_iff}
use Rattle.model.proofs.BoundKinds.{fields_cons}
use Rattle.model.proofs.Keeps.{legal_branches}
use Rattle.model.specs.Run.{Reply, bound_from, ran_reply}
use Rattle.model.proofs.RunLaws.{Ends, Answered, answered_words, bound_only}

-- ---- what a branch binds, by its text alone

-- the field binds the variable
unfoldable pub binds_field : (variable : ℕ) → Field → Bool
binds_field x f = maybe (binder_of f) false (λ b. eqb x b.variable)

-- a field that binds the variable stands in the operation
unfoldable pub binds_operation : (variable : ℕ) → Operation → Bool
binds_operation x o = any (binds_field x) (fields_of o)

-- a field that binds the variable stands in the guard or body
unfoldable pub binds : Branch → (variable : ℕ) → Bool
binds b x = any (binds_operation x) (operations b)

-- in words: the field binds the variable, at some kind
abbrev pub BindsField : (variable : ℕ) → Field → Type 0
BindsField x f = (k : ℕ) × BindsAt k x f

-- in words: some field of some operation of the guard and body binds the variable
abbrev pub Binds : Branch → (variable : ℕ) → Type 0
Binds b x = Some (λ (o : Operation). Some (BindsField x) (fields_of o)) (b.guard ∷ b.body)

-- Of a branch and a reply: "A statement's values are all its bound variables in rising number"; a variable is among them exactly if the branch binds it
pub record Valued (b : Branch) (r : Reply) : Type 0 where
  pub rising : map (λ (a : ℕ × Value). a.0) r.values ≡ keep (binds b) (count_from variables 0)
  pub exactly : (x : ℕ) → ((v : Value) × Memᴰ (x, v) r.values) ↔ Binds b x

-- ---- the test is the words

field_iff : (x : ℕ) → Decides (binds_field x) (BindsField x)
unfolding binds_field
field_iff x f = (go (binder_of f) refl, λ q. rw (binds_binder q.0 x f q.1) (eqb_refl x))
  where
    go : (o : Option Binder) → binder_of f ≡ o → T (maybe o false (λ b. eqb x b.variable)) → BindsField x f
    go none q t = absurd t
    go (some b) q t = (b.kind, rw (eqb→eq x b.variable t) (binder_binds f b q))

operation_iff : (x : ℕ) → Decides (binds_operation x) (λ (o : Operation). Some (BindsField x) (fields_of o))
unfolding binds_operation
operation_iff x o = any_iff (binds_field x) (BindsField x) (field_iff x) (fields_of o)

-- a branch binds a variable exactly if it does so in words
pub binds_iff : (b : Branch) → Decides (binds b) (Binds b)
unfolding binds operations
binds_iff b x = any_iff (binds_operation x) (λ (o : Operation). Some (BindsField x) (fields_of o)) (operation_iff x) (b.guard ∷ b.body)

-- "variable (0 to 15)": what a legal branch binds
binds_low : (b : Branch) (x : ℕ) → BranchOk b → Binds b x → x < variables
binds_low b x ok q =
    let r = throughout_in (λ earlier o. OperationOk (flat_map fields_of earlier) o) (b.guard ∷ b.body) q.0 ok.each q.1 in
    of_operation (flat_map fields_of r.0) q.0 r.1 q.2
  where
    of_fields : (allowed : List ℕ) (before fs : List Field) → Throughout (λ left f. FormIn allowed f × FieldOk before left f) fs → Some (BindsField x) fs → x < variables
    of_fields allowed before fs h q =
        let r = throughout_in (λ left f. FormIn allowed f × FieldOk before left f) fs q.0 h q.1 in
        (r.1.1.0 q.2.0 x q.2.1).1

    of_operation : (before : List Field) (o : Operation) → OperationOk before o → Some (BindsField x) (fields_of o) → x < variables
    of_operation before always h q = unfold fields_of in absurd (Memᴰ.not-nil q.1)
    of_operation before (lookup withdraws blocks s fs) h q = of_fields template_forms before fs h.3 (unfold fields_of in q)
    of_operation before (deposit s fs) h q = of_fields (0 ∷ 2 ∷ 3 ∷ 4 ∷ []) before fs h.3 (unfold fields_of in q)
    of_operation before (transfer withdraws from to fs) h q = of_fields (0 ∷ 2 ∷ 5 ∷ []) before fs h.3 (unfold fields_of in q)

-- ---- what operations bind as they run

abbrev is_bound : Bindings → ℕ → Bool
is_bound bs x = is_some (get_or bs x none)

-- as many variables as before; bound is what was bound, and what is named
record More (named : ℕ → Bool) (bs bs' : Bindings) : Type 0 where
  places : length bs' ≡ length bs
  bound : (x : ℕ) → x < length bs → is_bound bs' x ≡ (is_bound bs x || named x)

more_nothing : (named : ℕ → Bool) (bs bs' : Bindings) → bs' ≡ bs → ((x : ℕ) → named x ≡ false) → More named bs bs'
more_nothing named bs bs' e n = record { places = ap length e; bound = λ x h. rw (e, n x) (sym (or-false (is_bound bs x))) }

more_then : (f g : ℕ → Bool) (bs bs' bs'' : Bindings) → More f bs bs' → More g bs' bs'' → More (λ x. f x || g x) bs bs''
more_then f g bs bs' bs'' m n = record {
  places = n.places ∙ m.places;
  bound = λ x h. n.bound x (omega (arith, m.places)) ∙ ap (λ (c : Bool). c || g x) (m.bound x h) ∙ or_assoc (is_bound bs x) (f x) (g x);
}

field_binds : (bs : Bindings) (f : Field) (v : Value) (x : ℕ) → x < length bs → is_bound (bind_field bs f v) x ≡ (is_bound bs x || binds_field x f)
unfolding bind_field binds_field is_some
field_binds bs f v x h = go (binder_of f)
  where
    sets : (y : ℕ) (c : Bool) → eqb x y ≡ c → is_bound (set bs y (some v)) x ≡ (is_bound bs x || c)
    sets y true q =
        let e : x ≡ y = eqb→eq x y (rw q tt) in
        let s : is_bound (set bs x (some v)) x ≡ true = unfold is_some in ap is_some (get_or-set_same bs x (some v) none h) in
        rw (← e) (s ∙ sym (or-true (is_bound bs x)))
    sets y false q = ap is_some (get_or-set_other bs y x (some v) none (not_eq x y (rw q tt))) ∙ sym (or-false (is_bound bs x))

    go : (o : Option Binder) → is_bound (maybe o bs (λ b. set bs b.variable (some v))) x ≡ (is_bound bs x || maybe o false (λ b. eqb x b.variable))
    go none = sym (or-false (is_bound bs x))
    go (some b) = sets b.variable (eqb x b.variable) refl

-- a template binds, at as many values, what its fields bind
bind_binds : (bs : Bindings) (fs : List Field) (vs : List Value) → length vs ≡ length fs → More (λ x. any (binds_field x) fs) bs (bind bs fs vs)
unfolding bind any
bind_binds bs [] vs n = more_nothing (λ x. false) bs bs refl (λ x. refl)
bind_binds bs (f ∷ fs) [] n = absurd (omega arith)
bind_binds bs (f ∷ fs) (v ∷ vs) n =
    more_then (λ x. binds_field x f) (λ x. any (binds_field x) fs) bs (bind_field bs f v) (bind (bind_field bs f v) fs vs)
    (record { places = bind_field_length bs f v; bound = field_binds bs f v })
    (bind_binds (bind_field bs f v) fs vs (omega arith))

taken_binds : (s : ℕ) (fs : List Field) (bs : Bindings) (ts : List Tuple) (bs' : Bindings) → Taken s fs bs ts bs' → More (λ x. any (binds_field x) fs) bs bs'
taken_binds s fs bs ts bs' h = rw h.bound (bind_binds bs fs h.tuple.values h.oldest.passes.count)

other_form : (f : Field) (x : ℕ) → binder_of f ≡ none → binds_field x f ≡ false
unfolding binds_field
other_form f x e = rw e

-- fields of which none may be of form 1 or 6 bind nothing
none_binds : (allowed : List ℕ) (earlier now : Kinds) (fs : List Field) (x : ℕ) → T (binding_barred allowed) → T (legal_fields allowed earlier now fs) → any (binds_field x) fs ≡ false
unfolding any
none_binds allowed earlier now [] x barred t = refl
none_binds allowed earlier now (f ∷ fs) x barred t =
    let h = fields_cons allowed earlier now f fs t in
    rw (other_form f x (binds_none allowed f barred h.0)) (none_binds allowed earlier (bind_kind now f) fs x barred h.2)

out_binds : (ks : Kinds) (s : ℕ) (fs : List Field) (x : ℕ) → T (legal_operation ks (deposit s fs)) → any (binds_field x) fs ≡ false
unfolding legal_operation is_in any
out_binds ks s fs x t = none_binds (0 ∷ 2 ∷ 3 ∷ 4 ∷ []) ks ks fs x tt (search (and_l, and_r, t) depth 6)

transfer_binds : (ks : Kinds) (withdraws : Bool) (from to : ℕ) (fs : List Field) (x : ℕ) → T (legal_operation ks (transfer withdraws from to fs)) → any (binds_field x) fs ≡ false
unfolding legal_operation is_in any
transfer_binds ks withdraws from to fs x t = none_binds (0 ∷ 2 ∷ 5 ∷ []) ks ks fs x tt (search (and_l, and_r, t) depth 6)

-- an operation that is done binds what its fields bind
operation_binds : (ks : Kinds) (o : Operation) (bs : Bindings) (ts : List Tuple) (bs' : Bindings) (ts' : List Tuple) → T (legal_operation ks o) → perform o bs ts ≡ done bs' ts'
    → More (λ x. binds_operation x o) bs bs'
unfolding binds_operation fields_of any
operation_binds ks always bs ts bs' ts' t e = more_nothing (λ x. false) bs bs' (done_bindings bs bs' ts ts' (sym (always_done bs ts) ∙ e)) (λ x. refl)
operation_binds ks (lookup true blocks s fs) bs ts bs' ts' t e = taken_binds s fs bs ts bs' (in_removes blocks s fs bs ts bs' ts' e).0
operation_binds ks (lookup false blocks s fs) bs ts bs' ts' t e = taken_binds s fs bs ts bs' (rd_reads blocks s fs bs ts bs' ts' e).0
operation_binds ks (deposit s fs) bs ts bs' ts' t e = more_nothing (λ x. any (binds_field x) fs) bs bs' (out_appends s fs bs ts bs' ts' e).3 (λ x. out_binds ks s fs x t)
operation_binds ks (transfer true from to fs) bs ts bs' ts' t e =
    more_nothing (λ x. any (binds_field x) fs) bs bs' (done_bindings bs bs' _ ts' (sym (move_moves from to fs bs ts).3 ∙ e)) (λ x. transfer_binds ks true from to fs x t)
operation_binds ks (transfer false from to fs) bs ts bs' ts' t e =
    more_nothing (λ x. any (binds_field x) fs) bs bs' (copy_copies from to fs bs ts bs' ts' e).4 (λ x. transfer_binds ks false from to fs x t)

-- and so do operations in their order
operations_bind : (ks : Kinds) (os : List Operation) (bs : Bindings) (ts : List Tuple) (bs' : Bindings) (ts' : List Tuple) → T (legal_operations ks os) → perform_all os bs ts ≡ done bs' ts'
    → More (λ x. any (binds_operation x) os) bs bs'
unfolding legal_operations any
operations_bind ks [] bs ts bs' ts' t e = more_nothing (λ x. false) bs bs' (done_bindings bs bs' ts ts' (unfold perform_all in e)) (λ x. refl)
operations_bind ks (o ∷ os) bs ts bs' ts' t e =
    let r = performed_in_order o os bs ts bs' ts' e in
    let a = legal_operation ks o in
    let b = legal_operations (bind_kinds ks (fields_of o)) os in
    more_then (λ x. binds_operation x o) (λ x. any (binds_operation x) os) bs r.0 bs' (operation_binds ks o bs ts r.0 r.1 (and_l a b t) r.2)
    (operations_bind (bind_kinds ks (fields_of o)) os r.0 r.1 bs' ts' (and_r a b t) r.3)

-- ---- the values of its reply

variables_of : (named : ℕ → Bool) (k : ℕ) (bs : Bindings) → ((i : ℕ) → i < length bs → is_bound bs i ≡ named (k + i)) → map (λ (a : ℕ × Value). a.0) (bound_from k bs) ≡ keep named (count_from (length bs) k)
unfolding bound_from keep count_from is_some
variables_of named k [] h = refl
variables_of named k (none ∷ bs) h =
    let z : k + 0 ≡ k = omega arith in
    let e : named k ≡ false = rw z at (sym (h 0 (omega arith))) in
    rw e (variables_of named (suc k) bs (λ i l. h (suc i) (omega arith) ∙ ap named (omega arith)))
variables_of named k (some v ∷ bs) h =
    let z : k + 0 ≡ k = omega arith in
    let e : named k ≡ true = rw z at (sym (h 0 (omega arith))) in
    rw e (ap (λ (l : List ℕ). k ∷ l) (variables_of named (suc k) bs (λ i l. h (suc i) (omega arith) ∙ ap named (omega arith))))

count_from_member : (n m i : ℕ) → i < n → Memᴰ (m + i) (count_from n m)
unfolding count_from
count_from_member zero m i h = absurd (omega arith)
count_from_member (suc n) m zero h = let e : m + 0 ≡ m = omega arith in Memᴰ.head e
count_from_member (suc n) m (suc i) h = let e : m + suc i ≡ suc m + i = omega arith in rw e (Memᴰ.tail (count_from_member n (suc m) i (omega arith)))

rising_exactly : (b : Branch) (vs : List (ℕ × Value)) → BranchOk b → map (λ (a : ℕ × Value). a.0) vs ≡ keep (binds b) (count_from variables 0) → (x : ℕ) → ((v : Value) × Memᴰ (x, v) vs) ↔ Binds b x
rising_exactly b vs ok e x = (
  λ q. (binds_iff b x).0 (keep_true (binds b) (count_from variables 0) x (subst (λ (l : List ℕ). Memᴰ x l) e (Memᴰ.map (λ (a : ℕ × Value). a.0) q.1))),
  λ q.
      let z : 0 + x ≡ x = omega arith in
      let m = keep_member (binds b) (count_from variables 0) x (rw z at (count_from_member variables 0 x (binds_low b x ok q))) ((binds_iff b x).1 q) in
      let r = Memᴰ.of_map (λ (a : ℕ × Value). a.0) vs (subst (λ (l : List ℕ). Memᴰ x l) (sym e) m) in
      (r.0.1, subst (λ (y : ℕ). Memᴰ (y, r.0.1) vs) r.2 r.1),
)

nothing_bound : (n x : ℕ) → is_bound (replicate n none) x ≡ false
unfolding is_some
nothing_bound zero x = refl
nothing_bound (suc n) zero = refl
nothing_bound (suc n) (suc x) = nothing_bound n x

branch_valued : (b : Branch) (ts : List Tuple) (bs : Bindings) (ts' : List Tuple) (r : Reply) → T (legal_branch b) → perform_all (operations b) unbound ts ≡ done bs ts' → r.values ≡ bound_from 0 bs → Valued b r
unfolding legal_branch binds
branch_valued b ts bs ts' r legal e v =
    let named : ℕ → Bool = λ x. any (binds_operation x) (operations b) in
    let m = operations_bind no_kinds (operations b) unbound ts bs ts' (search (and_r, legal) depth 4) e in
    let n : length bs ≡ variables = m.places in
    let l = variables_of named 0 bs (λ x h. m.bound x (omega arith) ∙ ap (λ (c : Bool). c || named x) (nothing_bound variables x) ∙ ap named (omega arith)) in
    let all : map (λ (a : ℕ × Value). a.0) r.values ≡ keep (binds b) (count_from variables 0) = rw v (rw n at l) in
    record { rising = all; exactly = rising_exactly b r.values ((branch_iff b).0 legal) all }

not_done : (n : ℕ) → n ≡ 0 → (n ≡ 12) ⊎ ((n ≡ 16) ⊎ (n ≡ 17)) → ⊥
not_done n z (inl e) = omega arith
not_done n z (inr (inl e)) = omega arith
not_done n z (inr (inr e)) = omega arith

-- Of the tuples that a statement ran on and its reply: the reply names "the first branch whose guard finds a tuple or is true", "Branch counts from 1", and where it is done its values are those that this branch binds
pub record OwnReply (ts : List Tuple) (st : Statement) (r : Reply) : Type 0 where
  pub index : ℕ
  pub branch : Branch
  pub chosen : Least (λ (b : Branch). Holds ts b.guard) st.branches index branch
  pub number : r.branch ≡ suc index
  pub valued : r.outcome ≡ 0 → Valued branch r

-- so is every answer to a legal statement that ran, by the words on both
pub answered_own : (p : ℕ) (st : Statement) (e : Executed) (ts after : List Tuple) (r : Reply) → T (legal_statement st) → Runs ts st e → Answered p st e ts after r → OwnReply ts st r
answered_own p st e ts after r legal h a = record { index = h.index; branch = b; chosen = h.least; number = a.branch ∙ h.number; valued = go e.result h.result a.ends }
  where
    b : Branch
    b = h.branch

    go : (x : Result) → x ≡ perform_all (b.guard ∷ b.body) unbound ts → Ends x ts after r → r.outcome ≡ 0 → Valued b r
    go (done bs ts') q n z = branch_valued b ts bs ts' r (legal_branches st legal b (least_in h.least)) (unfold operations in sym q) (bound_only bs r.values n.2)
    go (failed k) q n z = absurd (not_done k (sym n.1 ∙ z) (failure_number (b.guard ∷ b.body) unbound ts k (sym q)))

-- the reply to a legal statement that runs, whatever the tuples are
pub ran_valued : (ts : List Tuple) (st : Statement) (e : Executed) (p : ℕ) → T (legal_statement st) → attempt ts st ≡ some e → OwnReply ts st (ran_reply p st e)
ran_valued ts st e p legal q = answered_own p st e ts (tuples_after ts e.result) (ran_reply p st e) legal (attempt_runs ts st e q) (answered_words p st e ts)

-- as many as the variables that the branch binds
pub valued_count : (b : Branch) (r : Reply) → Valued b r → length r.values ≡ length (keep (binds b) (count_from variables 0))
valued_count b r h = sym (length-map r.values (λ (a : ℕ × Value). a.0)) ∙ ap length h.rising
