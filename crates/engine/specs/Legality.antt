-- What an operation needs, a legal one has; and it leaves the variables legal. Assumes nothing.
use Rattle.std.specs.Prelude.{◌≡◌, ◌⊎◌, ℕ, ◌+◌, ◌≤◌, Bool, true, false, List, [], ◌∷◌, length, get_or, T, leb}
use Rattle.std.proofs.Common.{inl, inr, arith, leb→le}
use Rattle.std.proofs.Math.Option.{none}
use Rattle.std.proofs.Math.Dec.{ltb→lt}
use Rattle.basis.specs.Choice.{maybe-ind, cond_ind}
use Rattle.basis.specs.Logic.{and_l, and_r}
use Rattle.basis.specs.Lists.{any, is_in, first}
use Rattle.basis.specs.ListLaws.{Each, each_nil, each-cons, first_some, first_member}
use Rattle.basis.specs.Sizes.{space_numbers, most_fields, most_tuples}
use Rattle.model.specs.Value.{Value}
use Rattle.model.specs.Statement.{Field, sum, difference, Operation, always, lookup, deposit, transfer}
use Rattle.model.specs.Legal.{Kinds, kind_in, summable, legal_parts, bind_kind, bind_kinds, legal_fields, fields_of, is_space, field_count, legal_operation}
use Rattle.model.specs.Matching.{Tuple, Bindings, matches, oldest}
use Rattle.model.proofs.MatchingLaws.{matched}
use Rattle.model.proofs.BinderLaws.{legal_parts_lem}
use Rattle.model.specs.Execution.{Result, done, failed, looked_up, made_all, appended, perform}
use Rattle.model.proofs.ValidLaws.{tuple_values}
use Rattle.model.proofs.BoundKinds.{Agree, agree_at, agree_bind, fields_cons, binds_nothing, summed, made_all_legal}
use Rattle.model.proofs.Keeps.{legal_tuple_lem}
use Rattle.tuples.specs.Section as Section
use Rattle.bindings.specs.Making.{CanMake}
use Rattle.operations.specs.Performing.{CanDeposit}
use Rattle.operations.specs.Codes.{CanPerform}

-- a legal field's value can be made
can_make : (ks : Kinds) (bs : Bindings) (f : Field) → T (legal_parts ks f) → Agree ks bs → CanMake bs f
can_make ks bs f t a = record { summed = λ x v e. summed (kind_in ks x) (get_or bs x none) v (of_sum x v e) (agree_at ks bs x a) }
  where
    of_sum : (x : ℕ) (v : Value) → (f ≡ sum x v) ⊎ (f ≡ difference x v) → T (summable (kind_in ks x) v)
    of_sum x v (inl e) = unfold legal_parts in (rw e at t)
    of_sum x v (inr e) = unfold legal_parts in (rw e at t)

can_make_all : (allowed : List ℕ) (ks now : Kinds) (bs : Bindings) (fs : List Field) → T (legal_fields allowed ks now fs) → Agree ks bs → Each (CanMake bs) fs
can_make_all allowed ks now bs [] t a = each_nil (CanMake bs)
can_make_all allowed ks now bs (f ∷ fs) t a =
    let h = fields_cons allowed ks now f fs t in
    each-cons (CanMake bs) f fs (can_make ks bs f (legal_parts_lem ks now f h.1) a) (can_make_all allowed ks (bind_kind now f) bs fs h.2 a)

can_deposit : (ks : Kinds) (bs : Bindings) (s : ℕ) (fs : List Field) → T (legal_operation ks (deposit s fs)) → Agree ks bs → CanDeposit bs s fs
unfolding legal_operation field_count is_space
can_deposit ks bs s fs t a =
    let l : T (legal_fields (0 ∷ 2 ∷ 3 ∷ 4 ∷ []) ks ks fs) = search (and_l, and_r, t) depth 6 in
    let least : 1 ≤ length fs = leb→le 1 (length fs) (search (and_l, and_r, t) depth 6) in
    let most : length fs ≤ most_fields = leb→le (length fs) most_fields (search (and_l, and_r, t) depth 6) in
    record {
      space = ltb→lt s space_numbers (search (and_l, and_r, t) depth 6);
      make = can_make_all (0 ∷ 2 ∷ 3 ∷ 4 ∷ []) ks ks bs fs l a;
      legal = λ vs e. let h = made_all_legal (0 ∷ 2 ∷ 3 ∷ 4 ∷ []) ks ks bs fs vs l a e in legal_tuple_lem s vs (omega (arith, h.1)) (omega (arith, h.1)) h.0;
    }

-- a legal operation can be performed
pub can_perform : (ks : Kinds) (bs : Bindings) (o : Operation) → T (legal_operation ks o) → Agree ks bs → CanPerform bs o
can_perform ks bs always t a = tt
can_perform ks bs (lookup withdraws blocks s fs) t a = tt
can_perform ks bs (deposit s fs) t a = can_deposit ks bs s fs t a
can_perform ks bs (transfer withdraws from to fs) t a = unfold legal_operation is_space in ltb→lt to space_numbers (search (and_l, and_r, t) depth 6)

-- ---- the variables after it

-- the variables of a result agree with these kinds
abbrev pub AgreeAfter : Kinds → Result → Type 0
AgreeAfter ks (done bs ts) = Agree ks bs
AgreeAfter ks (failed n) = Unit {0}

appended_agrees : (ks : Kinds) (bs : Bindings) (ts new : List Tuple) → Agree ks bs → AgreeAfter ks (appended bs ts new)
unfolding appended
appended_agrees ks bs ts new a = cond_ind (AgreeAfter ks) (leb (length ts + length new) most_tuples) _ _ (λ e. a) (λ e. tt)

lookup_agrees : (withdraws blocks : Bool) (s : ℕ) (fs : List Field) (ks : Kinds) (bs : Bindings) (ts : List Tuple) → Each Section.Legal ts → Agree ks bs → AgreeAfter (bind_kinds ks fs) (perform (lookup withdraws blocks s fs) bs ts)
unfolding perform oldest looked_up
lookup_agrees withdraws blocks s fs ks bs ts l a =
    maybe-ind (AgreeAfter (bind_kinds ks fs)) (first (matches bs s fs) ts) _ _ (λ e. tt) (λ f e.
    let h = first_some (matches bs s fs) ts f e in
    let m = matched bs s fs f.item h.passes in
    agree_bind bs fs f.item.values ks bs m.0 m.1
    (tuple_values f.item (l f.item (first_member (matches bs s fs) ts f h)).0) a)

deposit_agrees : (s : ℕ) (fs : List Field) (ks : Kinds) (bs : Bindings) (ts : List Tuple) → T (legal_operation ks (deposit s fs)) → Agree ks bs → AgreeAfter (bind_kinds ks fs) (perform (deposit s fs) bs ts)
unfolding perform legal_operation is_in any
deposit_agrees s fs ks bs ts t a =
    let nothing : bind_kinds ks fs ≡ ks = binds_nothing (0 ∷ 2 ∷ 3 ∷ 4 ∷ []) ks ks ks fs tt (search (and_l, and_r, t) depth 6) in
    rw nothing (maybe-ind (AgreeAfter ks) (made_all bs fs) _ _ (λ e. tt) (λ vs e. appended_agrees ks bs ts _ a))

transfer_agrees : (withdraws : Bool) (from to : ℕ) (fs : List Field) (ks : Kinds) (bs : Bindings) (ts : List Tuple) → T (legal_operation ks (transfer withdraws from to fs)) → Agree ks bs
    → AgreeAfter (bind_kinds ks fs) (perform (transfer withdraws from to fs) bs ts)
unfolding perform legal_operation is_in any
transfer_agrees true from to fs ks bs ts t a = rw (binds_nothing (0 ∷ 2 ∷ 5 ∷ []) ks ks ks fs tt (search (and_l, and_r, t) depth 6)) a
transfer_agrees false from to fs ks bs ts t a = rw (binds_nothing (0 ∷ 2 ∷ 5 ∷ []) ks ks ks fs tt (search (and_l, and_r, t) depth 6)) (appended_agrees ks bs ts _ a)

-- a legal operation leaves the variables at the kinds that it binds
pub perform_agrees : (o : Operation) (ks : Kinds) (bs : Bindings) (ts : List Tuple) → T (legal_operation ks o) → Each Section.Legal ts → Agree ks bs → AgreeAfter (bind_kinds ks (fields_of o)) (perform o bs ts)
unfolding fields_of
perform_agrees always ks bs ts t l a = unfold perform bind_kinds in a
perform_agrees (lookup withdraws blocks s fs) ks bs ts t l a = lookup_agrees withdraws blocks s fs ks bs ts l a
perform_agrees (deposit s fs) ks bs ts t l a = deposit_agrees s fs ks bs ts t a
perform_agrees (transfer withdraws from to fs) ks bs ts t l a = transfer_agrees withdraws from to fs ks bs ts t a
