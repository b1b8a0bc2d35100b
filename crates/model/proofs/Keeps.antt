-- A legal statement keeps the tuples within their limits: at most 512, each legal and in an open space. Its variables hold legal values. Assumes nothing.
use Rattle.std.specs.Prelude.{◌≡◌, ◌⊎◌, ℕ, ◌+◌, ◌≤◌, Bool, ◌&&◌, leb}
use Rattle.std.proofs.Math.Path.{refl, subst}
use Rattle.std.proofs.Common.{◌∙◌, inl, inr, arith, le→leb}
use Rattle.std.proofs.Math.Bool.{true, false, not}
use Rattle.std.proofs.Math.Option
use Rattle.std.proofs.Math.Option.{Option, none, some, some-injective, none-ne-some}
use mathlib.Core.List.Memᴰ
use mathlib.Core.List.{List, [], ◌∷◌, ◌++◌, map, flat_map, Memᴰ}
use Rattle.std.proofs.Math.ListN.{length, length-append, length-map}
use Rattle.std.proofs.Math.Dec.{T, leb→le}
use Rattle.basis.specs.Choice.{maybe-ind, cond_ind}
use Rattle.basis.specs.Logic.{and_l, and_r, both}
use Rattle.basis.specs.Lists.{all, any, keep, is_in, Found, first, remove_at}
use Rattle.basis.specs.ListLaws.{Each, each_nil, each-cons, each_append, each_map, all_at, all_of, keep_in, keep_length, First, first_some, first_member, remove_at_in, remove_at_few}
use Rattle.basis.specs.Sizes.{variables, most_fields, most_tuples}
use Rattle.model.specs.Value.{Value, legal_value}
use Rattle.model.specs.Statement.{Field, Operation, always, lookup, deposit, transfer, Branch, operations, Statement, spaces_of, spaces_named}
use Rattle.model.specs.Legal.{Kinds, no_kinds, bind_kinds, legal_fields, fields_of, field_count, legal_operation, legal_operations, legal_branch, legal_statement}
use Rattle.model.specs.Matching.{Tuple, Bindings, unbound, matches, selects, oldest}
use Rattle.model.proofs.MatchingLaws.{matched}
use Rattle.model.specs.Execution.{Result, done, failed, looked_up, made_all, appended, in_space, moved, perform, and_then, perform_all, guard_holds, chosen, Executed, execute, attempt, tuples_after}
use Rattle.model.specs.Run.{Space, is_open}
use Rattle.model.specs.Valid.{legal_tuple}
use Rattle.model.proofs.ValidLaws.{tuple_fields, tuple_values}
use Rattle.model.proofs.BoundKinds.{Legal, LegalOr, Agree, agree_unbound, agree_legal, agree_length, agree_bind, bind_kinds_length, binds_nothing, made_all_legal}

-- ---- spaces that a statement names

flat_map_member : {A B : Type 0} (f : A → List B) (l : List A) (a : A) (b : B) → Memᴰ a l → Memᴰ b (f a) → Memᴰ b (flat_map f l)
unfolding flat_map
flat_map_member f [] a b m i = absurd (Memᴰ.not-nil m)
flat_map_member f (c ∷ l) a b m i = go (Memᴰ.cases_cons m) (λ j. flat_map_member f l a b j i)
  where
    go : (a ≡ c) ⊎ Memᴰ a l → (Memᴰ a l → Memᴰ b (flat_map f l)) → Memᴰ b (f c ++ flat_map f l)
    go (inl e) later = Memᴰ.append_left (flat_map f l) (subst (λ x. Memᴰ b (f x)) e i)
    go (inr j) later = Memᴰ.append_right (f c) (later j)

-- all that are named are open
abbrev pub Open : List Space → List ℕ → Type 0
Open ss ns = Each (λ (n : ℕ). T (is_open ss n)) ns

branch_open : (ss : List Space) (st : Statement) → Open ss (spaces_named st) → (b : Branch) → Memᴰ b st.branches → Open ss (flat_map spaces_of (operations b))
unfolding spaces_named
branch_open ss st o b m n i = o n (flat_map_member (λ c. flat_map spaces_of (operations c)) st.branches b n m i)

-- ---- tuples

-- a legal tuple in an open space
abbrev pub LegalIn : List Space → Tuple → Type 0
LegalIn ss t = T (legal_tuple t) × T (is_open ss t.space)

-- at most 512 of them
pub record Kept (ss : List Space) (ts : List Tuple) : Type 0 where
  pub few : length ts ≤ most_tuples
  pub each : Each (LegalIn ss) ts

-- 1 to 6 legal values make a legal tuple
pub legal_tuple_lem : (s : ℕ) (vs : List Value) → 1 ≤ length vs → length vs ≤ most_fields → Each Legal vs → T (legal_tuple (record { space = s; values = vs }))
unfolding legal_tuple
legal_tuple_lem s vs a b l =
    both (leb 1 (length vs) && leb (length vs) most_fields) (all legal_value vs) (both (leb 1 (length vs)) (leb (length vs) most_fields) (le→leb 1 (length vs) a) (le→leb (length vs) most_fields b)) (all_of legal_value vs l)

-- each branch of a legal statement is legal
pub legal_branches : (st : Statement) → T (legal_statement st) → Each (λ (b : Branch). T (legal_branch b)) st.branches
unfolding legal_statement
legal_branches st t = all_at legal_branch st.branches (search (and_r, t) depth 4)

module _ (ss : List Space) where
  -- the variables hold legal values of these kinds, and the tuples are within their limits
  abbrev Keeps : Kinds → Result → Type 0
  Keeps ks (done bs ts) = Agree ks bs × Kept ss ts
  Keeps ks (failed n) = Unit {0}

  looked_up_keeps : (withdraws : Bool) (s : ℕ) (fs : List Field) (ks : Kinds) (bs : Bindings) (ts : List Tuple) (f : Found Tuple) → First (matches bs s fs) ts f → Agree ks bs → Kept ss ts
      → Keeps (bind_kinds ks fs) (looked_up withdraws fs bs ts f)
  unfolding looked_up
  looked_up_keeps withdraws s fs ks bs ts f h a k =
      let m = matched bs s fs f.item h.passes in
      let l = k.each f.item (first_member (matches bs s fs) ts f h) in (
        agree_bind bs fs f.item.values ks bs m.0 m.1 (tuple_values f.item l.0) a,
        cond_ind (Kept ss) withdraws (remove_at f.index ts) ts (λ e. record { few = omega (arith, remove_at_few f.index ts, k.few); each = λ t i. k.each t (remove_at_in f.index ts t i) }) (λ e. k),
      )

  appended_keeps : (ks : Kinds) (bs : Bindings) (ts new : List Tuple) → Agree ks bs → Kept ss ts → Each (LegalIn ss) new → Keeps ks (appended bs ts new)
  unfolding appended
  appended_keeps ks bs ts new a k l =
      cond_ind (Keeps ks) (leb (length ts + length new) most_tuples) _ _
      (λ e. (a, record { few = omega (arith, leb→le (length ts + length new) most_tuples (rw e tt), length-append ts new); each = each_append (LegalIn ss) ts new k.each l }))
      (λ e. tt)

  in_space_legal : (to : ℕ) (p : Tuple → Bool) (ts : List Tuple) → T (is_open ss to) → Kept ss ts → Each (LegalIn ss) (map (in_space to) (keep p ts))
  unfolding in_space
  in_space_legal to p ts o k =
      each_map (LegalIn ss) (in_space to) (keep p ts)
      (λ t i. let l = (k.each t (keep_in p ts t i)).0 in (legal_tuple_lem to t.values (tuple_fields t l).0 (tuple_fields t l).1 (tuple_values t l), o))

  moved_keeps : (p : Tuple → Bool) (to : ℕ) (ts : List Tuple) → T (is_open ss to) → Kept ss ts → Kept ss (moved p to ts)
  unfolding moved
  moved_keeps p to ts o k = record {
    few = rw (length-append (keep (λ t. not (p t)) ts) (map (in_space to) (keep p ts)), length-map (keep p ts) (in_space to), keep_length p ts) k.few;
    each = each_append (LegalIn ss) (keep (λ t. not (p t)) ts) (map (in_space to) (keep p ts)) (λ t i. k.each t (keep_in (λ t. not (p t)) ts t i)) (in_space_legal to p ts o k);
  }

  -- ---- an operation

  deposit_keeps : (s : ℕ) (fs : List Field) (ks : Kinds) (bs : Bindings) (ts : List Tuple) → T (legal_operation ks (deposit s fs)) → T (is_open ss s) → Agree ks bs → Kept ss ts → Keeps ks (perform (deposit s fs) bs ts)
  unfolding perform legal_operation field_count
  deposit_keeps s fs ks bs ts t o a k =
      let l : T (legal_fields (0 ∷ 2 ∷ 3 ∷ 4 ∷ []) ks ks fs) = search (and_l, and_r, t) depth 6 in
      let least : 1 ≤ length fs = leb→le 1 (length fs) (search (and_l, and_r, t) depth 6) in
      let most : length fs ≤ most_fields = leb→le (length fs) most_fields (search (and_l, and_r, t) depth 6) in
      maybe-ind (Keeps ks) (made_all bs fs) _ _ (λ e. tt) (λ vs e.
      let h = made_all_legal (0 ∷ 2 ∷ 3 ∷ 4 ∷ []) ks ks bs fs vs l a e in
      appended_keeps ks bs ts _ a k (each-cons (LegalIn ss) _ [] (legal_tuple_lem s vs (omega (arith, h.1)) (omega (arith, h.1)) h.0, o) (each_nil (LegalIn ss))))

  transfer_keeps : (withdraws : Bool) (from to : ℕ) (fs : List Field) (ks : Kinds) (bs : Bindings) (ts : List Tuple) → T (is_open ss to) → Agree ks bs → Kept ss ts → Keeps ks (perform (transfer withdraws from to fs) bs ts)
  unfolding perform
  transfer_keeps true from to fs ks bs ts o a k = (a, moved_keeps (selects bs from fs) to ts o k)
  transfer_keeps false from to fs ks bs ts o a k = appended_keeps ks bs ts (map (in_space to) (keep (selects bs from fs) ts)) a k (in_space_legal to (selects bs from fs) ts o k)

  lookup_keeps : (withdraws blocks : Bool) (s : ℕ) (fs : List Field) (ks : Kinds) (bs : Bindings) (ts : List Tuple) → Agree ks bs → Kept ss ts → Keeps (bind_kinds ks fs) (perform (lookup withdraws blocks s fs) bs ts)
  unfolding perform oldest
  lookup_keeps withdraws blocks s fs ks bs ts a k =
      maybe-ind (Keeps (bind_kinds ks fs)) (first (matches bs s fs) ts) _ _ (λ e. tt) (λ f e. looked_up_keeps withdraws s fs ks bs ts f (first_some (matches bs s fs) ts f e) a k)

  -- out, move and copy bind nothing
  deposit_binds : (s : ℕ) (fs : List Field) (ks : Kinds) → T (legal_operation ks (deposit s fs)) → bind_kinds ks fs ≡ ks
  unfolding legal_operation is_in any
  deposit_binds s fs ks t = binds_nothing (0 ∷ 2 ∷ 3 ∷ 4 ∷ []) ks ks ks fs tt (search (and_l, and_r, t) depth 6)

  transfer_binds : (withdraws : Bool) (from to : ℕ) (fs : List Field) (ks : Kinds) → T (legal_operation ks (transfer withdraws from to fs)) → bind_kinds ks fs ≡ ks
  unfolding legal_operation is_in any
  transfer_binds withdraws from to fs ks t = binds_nothing (0 ∷ 2 ∷ 5 ∷ []) ks ks ks fs tt (search (and_l, and_r, t) depth 6)

  perform_keeps : (o : Operation) (ks : Kinds) (bs : Bindings) (ts : List Tuple) → T (legal_operation ks o) → Open ss (spaces_of o) → Agree ks bs → Kept ss ts → Keeps (bind_kinds ks (fields_of o)) (perform o bs ts)
  unfolding spaces_of fields_of
  perform_keeps always ks bs ts t n a k = unfold perform bind_kinds in (a, k)
  perform_keeps (lookup withdraws blocks s fs) ks bs ts t n a k = lookup_keeps withdraws blocks s fs ks bs ts a k
  perform_keeps (deposit s fs) ks bs ts t n a k = rw (deposit_binds s fs ks t) (deposit_keeps s fs ks bs ts t (n s (Memᴰ.head refl)) a k)
  perform_keeps (transfer withdraws from to fs) ks bs ts t n a k =
      rw (transfer_binds withdraws from to fs ks t) (transfer_keeps withdraws from to fs ks bs ts (n to (Memᴰ.tail (Memᴰ.head refl))) a k)

  -- ---- a branch and a statement

  -- the bindings are of sixteen variables and legal, the tuples within their limits
  abbrev pub KeepsAll : Result → Type 0
  KeepsAll (done bs ts) = (length bs ≡ variables) × Each LegalOr bs × Kept ss ts
  KeepsAll (failed n) = Unit {0}

  perform_all_keeps : (os : List Operation) (ks : Kinds) (bs : Bindings) (ts : List Tuple) → length ks ≡ variables → T (legal_operations ks os) → Open ss (flat_map spaces_of os) → Agree ks bs → Kept ss ts → KeepsAll (perform_all os bs ts)
  unfolding perform_all legal_operations flat_map
  perform_all_keeps [] ks bs ts n t o a k = (agree_length ks bs a ∙ n, agree_legal ks bs a, k)
  perform_all_keeps (p ∷ os) ks bs ts n t o a k =
      go (perform p bs ts) (perform_keeps p ks bs ts (and_l (legal_operation ks p) (legal_operations (bind_kinds ks (fields_of p)) os) t) (λ m i. o m (Memᴰ.append_left (flat_map spaces_of os) i)) a k)
      (λ bs' ts' a' k'. perform_all_keeps os (bind_kinds ks (fields_of p)) bs' ts' (bind_kinds_length ks (fields_of p) ∙ n) (and_r (legal_operation ks p) (legal_operations (bind_kinds ks (fields_of p)) os) t)
      (λ m i. o m (Memᴰ.append_right (spaces_of p) i)) a' k')
    where
      go : (r : Result) → Keeps (bind_kinds ks (fields_of p)) r → ((bs' : Bindings) (ts' : List Tuple) → Agree (bind_kinds ks (fields_of p)) bs' → Kept ss ts' → KeepsAll (perform_all os bs' ts')) → KeepsAll (and_then r (perform_all os))
      go (done bs' ts') h f = unfold and_then in f bs' ts' h.0 h.1
      go (failed m) h f = unfold and_then in tt

  execute_keeps : (b : Branch) (ts : List Tuple) → T (legal_branch b) → Open ss (flat_map spaces_of (operations b)) → Kept ss ts → KeepsAll (perform_all (operations b) unbound ts)
  unfolding legal_branch
  execute_keeps b ts t o k = perform_all_keeps (operations b) no_kinds unbound ts refl (search (and_r, t) depth 4) o agree_unbound k

  -- a legal statement over open spaces keeps all limits, whatever branch runs
  pub attempt_keeps : (ts : List Tuple) (st : Statement) (x : Executed) → T (legal_statement st) → Open ss (spaces_named st) → Kept ss ts → attempt ts st ≡ some x → KeepsAll x.result
  unfolding attempt chosen
  attempt_keeps ts st x t o k e = go (first (guard_holds ts) st.branches) refl e
    where
      go : (f : Option (Found Branch)) → first (guard_holds ts) st.branches ≡ f → Option.map (execute ts) f ≡ some x → KeepsAll x.result
      go none q e = absurd (none-ne-some x e)
      go (some f) q e =
          let m = first_member (guard_holds ts) st.branches f (first_some (guard_holds ts) st.branches f q) in
          subst (λ (y : Executed). KeepsAll y.result) (some-injective (execute ts f) x e) (unfold execute in execute_keeps f.item ts (legal_branches st t f.item m) (branch_open ss st o f.item m) k)

  -- and so the tuples after it are within their limits
  pub tuples_after_keeps : (ts : List Tuple) (r : Result) → Kept ss ts → KeepsAll r → Kept ss (tuples_after ts r)
  unfolding tuples_after
  tuples_after_keeps ts (done bs us) k h = h.2
  tuples_after_keeps ts (failed n) k h = k
