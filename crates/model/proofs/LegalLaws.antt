-- A statement is legal exactly if it is so in the words of "The stream". Assumes nothing.
use Rattle.std.specs.Prelude.{◌≡◌, refl, ◌↔◌, ℕ, zero, suc, ◌≤◌, ◌<◌, Bool, true, false, ◌&&◌, length, replicate, T, leb, ltb}
use Rattle.std.proofs.Common.{sym, ap, ◌∙◌, ltb→lt, lt→ltb, leb→le, le→leb}
use native.Mathlib.Omega.{arith}
use Rattle.std.proofs.Math.Option.{Option, none, some, none-ne-some}
use mathlib.Core.List.Memᴰ
use mathlib.Core.List.{List, [], ◌∷◌, ◌++◌, append-nil, append_assoc, flat_map}
use Rattle.std.proofs.lemmas.List.{length-replicate}
use Rattle.std.proofs.Math.Pow.{are_bytes}
use Rattle.basis.specs.Logic.{and_l, and_r, both}
use Rattle.basis.specs.Lists.{all}
use Rattle.basis.specs.ListLaws.{Each, all_at, all_of}
use Rattle.basis.specs.IndexLaws.{Decides}
use Rattle.basis.specs.Sizes.{variables, hosts, processes, most_branches, most_operations, most_fields, most_body, space_numbers}
use Rattle.model.specs.Statement.{Field, Operation, always, lookup, deposit, transfer, operations, Statement}
use Rattle.model.specs.Legal.{Kinds, no_kinds, kind_in, bind_kinds, legal_fields, fields_of, is_space, field_count, template_forms, legal_operation, legal_operations, is_guard, is_body_operation, legal_branch, legal_statement, parse}
use Rattle.model.specs.Writing.{statement_bytes}
use Rattle.model.proofs.ReadBack.{parse_parts}
use Rattle.model.proofs.RoundTrip.{parse_written}
use Rattle.model.proofs.LegalFields.{Tell, and_iff, fields_iff, fields_tell}
use Rattle.model.proofs.LegalWords.{Throughout, OperationOk, GuardOk, InBody, BranchOk, StatementOk, throughout_cons, throughout_head, throughout_tail, throughout_nil}

-- ---- an operation

-- spaces are 0 to 65,535
pub space_iff : (n : ℕ) → T (is_space n) ↔ (n < space_numbers)
unfolding is_space
space_iff n = (λ t. ltb→lt n space_numbers t, λ h. lt→ltb n space_numbers h)

-- a field count from `least` to 6
pub count_iff : (least : ℕ) (fs : List Field) → T (field_count least fs) ↔ ((least ≤ length fs) × (length fs ≤ most_fields))
unfolding field_count
count_iff least fs = and_iff (leb least (length fs)) (leb (length fs) most_fields) (least ≤ length fs) (length fs ≤ most_fields) (λ t. leb→le least (length fs) t, λ h. le→leb least (length fs) h) (λ t. leb→le (length fs) most_fields t, λ h. le→leb (length fs) most_fields h)

module _ (ks : Kinds) (before : List Field) (t : Tell ks before) where
  operation_iff : (o : Operation) → T (legal_operation ks o) ↔ OperationOk before o
  unfolding legal_operation
  operation_iff always = (λ s. tt, λ s. tt)
  operation_iff (lookup withdraws blocks s fs) =
      let r = and_iff (is_space s && field_count 1 fs) (legal_fields template_forms ks ks fs) _ _ (and_iff (is_space s) (field_count 1 fs) _ _ (space_iff s) (count_iff 1 fs)) (fields_iff template_forms ks before t fs) in
      (λ s. let q = r.0 s in (q.0.0, q.0.1.0, q.0.1.1, q.1), λ q. r.1 ((q.0, (q.1, q.2)), q.3))
  operation_iff (deposit s fs) =
      let r = and_iff (is_space s && field_count 1 fs) (legal_fields (0 ∷ 2 ∷ 3 ∷ 4 ∷ []) ks ks fs) _ _ (and_iff (is_space s) (field_count 1 fs) _ _ (space_iff s) (count_iff 1 fs)) (fields_iff (0 ∷ 2 ∷ 3 ∷ 4 ∷ []) ks before t fs) in
      (λ s. let q = r.0 s in (q.0.0, q.0.1.0, q.0.1.1, q.1), λ q. r.1 ((q.0, (q.1, q.2)), q.3))
  operation_iff (transfer withdraws from to fs) =
      let r = and_iff (is_space from && is_space to && field_count 0 fs) (legal_fields (0 ∷ 2 ∷ 5 ∷ []) ks ks fs) _ _
      (and_iff (is_space from && is_space to) (field_count 0 fs) _ _ (and_iff (is_space from) (is_space to) _ _ (space_iff from) (space_iff to)) (count_iff 0 fs)) (fields_iff (0 ∷ 2 ∷ 5 ∷ []) ks before t fs) in
      (λ s. let q = r.0 s in (q.0.0.0, q.0.0.1, q.0.1.1, q.1), λ q. r.1 (((q.0, q.1), (omega arith, q.2)), q.3))

  -- the kinds after a legal operation
  operation_tell : (o : Operation) → T (legal_operation ks o) → Tell (bind_kinds ks (fields_of o)) (before ++ fields_of o)
  unfolding legal_operation fields_of bind_kinds
  operation_tell always s = rw (append-nil before) t
  operation_tell (lookup withdraws blocks n fs) s = fields_tell template_forms ks before t fs (and_r (is_space n && field_count 1 fs) (legal_fields template_forms ks ks fs) s)
  operation_tell (deposit n fs) s = fields_tell (0 ∷ 2 ∷ 3 ∷ 4 ∷ []) ks before t fs (and_r (is_space n && field_count 1 fs) (legal_fields (0 ∷ 2 ∷ 3 ∷ 4 ∷ []) ks ks fs) s)
  operation_tell (transfer withdraws from to fs) s = fields_tell (0 ∷ 2 ∷ 5 ∷ []) ks before t fs (and_r (is_space from && is_space to && field_count 0 fs) (legal_fields (0 ∷ 2 ∷ 5 ∷ []) ks ks fs) s)

-- ---- operations in order

fields_snoc : (front : List Operation) (o : Operation) → flat_map fields_of (front ++ (o ∷ [])) ≡ flat_map fields_of front ++ fields_of o
unfolding flat_map
fields_snoc [] o = append-nil (fields_of o)
fields_snoc (p ∷ front) o = ap (λ (k : List Field). fields_of p ++ k) (fields_snoc front o) ∙ sym (append_assoc (fields_of p) (flat_map fields_of front) (fields_of o))

abbrev After : List Operation → List Operation → Operation → Type 0
After front more o = OperationOk (flat_map fields_of (front ++ more)) o

after_operation : (ks : Kinds) (front : List Operation) (o : Operation) → Tell ks (flat_map fields_of front) → T (legal_operation ks o) → Tell (bind_kinds ks (fields_of o)) (flat_map fields_of (front ++ (o ∷ [])))
after_operation ks front o t s = rw (fields_snoc front o) (operation_tell ks (flat_map fields_of front) t o s)

operations_to : (ks : Kinds) (front : List Operation) → Tell ks (flat_map fields_of front) → (os : List Operation) → T (legal_operations ks os) → Throughout (After front) os
unfolding legal_operations
operations_to ks front t [] s = throughout_nil _
operations_to ks front t (o ∷ os) s =
    let a = legal_operation ks o in
    let b = legal_operations (bind_kinds ks (fields_of o)) os in
    let r = operations_to (bind_kinds ks (fields_of o)) (front ++ (o ∷ [])) (after_operation ks front o t (and_l a b s)) os (and_r a b s) in
    throughout_cons (After front) o os (rw (append-nil front) ((operation_iff ks (flat_map fields_of front) t o).0 (and_l a b s))) (λ more right p e. rw (append_assoc front (o ∷ []) more) at (r more right p e))

operations_from : (ks : Kinds) (front : List Operation) → Tell ks (flat_map fields_of front) → (os : List Operation) → Throughout (After front) os → T (legal_operations ks os)
unfolding legal_operations
operations_from ks front t [] h = tt
operations_from ks front t (o ∷ os) h =
    let a = legal_operation ks o in
    let b = legal_operations (bind_kinds ks (fields_of o)) os in
    let s = (operation_iff ks (flat_map fields_of front) t o).1 (rw (append-nil front) at (throughout_head (After front) o os h)) in
    let later = throughout_tail (After front) o os h in
    both a b s (operations_from (bind_kinds ks (fields_of o)) (front ++ (o ∷ [])) (after_operation ks front o t s) os (λ more right p e. rw (append_assoc front (o ∷ []) more) (later more right p e)))

-- before any field no variable is bound
pub tell_nothing : Tell no_kinds []
tell_nothing = record { places = length-replicate {A = Option ℕ} variables none; each = λ x k. (λ e. absurd (none-ne-some k (sym (unkinded variables x) ∙ e)), λ m. absurd (Memᴰ.not-nil m.1)) }
  where
    unkinded : (n x : ℕ) → kind_in (replicate n none) x ≡ none
    unkinded zero x = refl
    unkinded (suc n) zero = refl
    unkinded (suc n) (suc x) = unkinded n x

operations_iff : (os : List Operation) → T (legal_operations no_kinds os) ↔ Throughout (After []) os
unfolding flat_map
operations_iff os = (λ s. operations_to no_kinds [] tell_nothing os s, λ h. operations_from no_kinds [] tell_nothing os h)

-- ---- branches and statements

guard_iff : (o : Operation) → T (is_guard o) ↔ GuardOk o
unfolding is_guard
guard_iff always = (λ t. t, λ t. t)
guard_iff (lookup withdraws blocks s fs) = (λ t. t, λ t. t)
guard_iff (deposit s fs) = (λ t. t, λ t. t)
guard_iff (transfer withdraws from to fs) = (λ t. t, λ t. t)

body_iff : (o : Operation) → T (is_body_operation o) ↔ InBody o
unfolding is_body_operation
body_iff always = (λ t. t, λ t. t)
body_iff (lookup withdraws true s fs) = (λ t. t, λ t. t)
body_iff (lookup withdraws false s fs) = (λ t. t, λ t. t)
body_iff (deposit s fs) = (λ t. t, λ t. t)
body_iff (transfer withdraws from to fs) = (λ t. t, λ t. t)

all_iff : {A : Type 0} (p : A → Bool) (P : A → Type 0) → Decides p P → (l : List A) → T (all p l) ↔ Each P l
all_iff p P d l = (λ t a m. (d a).0 (all_at p l t a m), λ h. all_of p l (λ a m. (d a).1 (h a m)))

at_most_iff : (m n : ℕ) → T (leb m n) ↔ (m ≤ n)
at_most_iff m n = (λ t. leb→le m n t, λ h. le→leb m n h)

-- a branch is legal exactly if it is so in words
pub branch_iff : Decides legal_branch BranchOk
unfolding legal_branch operations
branch_iff b =
    let r = and_iff (is_guard b.guard && leb (length b.body) most_operations && all is_body_operation b.body) (legal_operations no_kinds (b.guard ∷ b.body)) _ _
    (and_iff (is_guard b.guard && leb (length b.body) most_operations) (all is_body_operation b.body) _ _
    (and_iff (is_guard b.guard) (leb (length b.body) most_operations) _ _ (guard_iff b.guard) (at_most_iff (length b.body) most_operations)) (all_iff is_body_operation InBody body_iff b.body)) (operations_iff (b.guard ∷ b.body)) in (
      λ t. let q = r.0 t in record { guard = q.0.0.0; count = q.0.0.1; body = q.0.1; each = q.1 },
      λ w. r.1 (((w.guard, w.count), w.body), w.each),
    )

below_iff : (n m : ℕ) → T (ltb n m) ↔ (n < m)
below_iff n m = (λ t. ltb→lt n m t, λ h. lt→ltb n m h)

-- a statement is legal exactly if it is so in words
pub legal_iff : Decides legal_statement StatementOk
unfolding legal_statement
legal_iff st =
    let h = ltb st.host hosts in
    let p = ltb st.process processes in
    let n = leb 1 (length st.branches) in
    let m = leb (length st.branches) most_branches in
    let r = and_iff (h && p && n && m) (all legal_branch st.branches) _ _
    (and_iff (h && p && n) m _ _ (and_iff (h && p) n _ _ (and_iff h p _ _ (below_iff st.host hosts) (below_iff st.process processes)) (at_most_iff 1 (length st.branches))) (at_most_iff (length st.branches) most_branches))
    (all_iff legal_branch BranchOk branch_iff st.branches) in (
      λ t. let q = r.0 t in record { host = q.0.0.0.0; process = q.0.0.0.1; some_branch = q.0.0.1; few = q.0.1; each = q.1 },
      λ w. r.1 ((((w.host, w.process), w.some_branch), w.few), w.each),
    )

-- Bytes are the body of a statement exactly if they are the statement written as "The stream" lays it out, at most 250, and it is legal.
pub statement_body_iff : (b : List ℕ) (st : Statement) → T (are_bytes b) → (parse b ≡ some st) ↔ ((b ≡ statement_bytes st) × (length b ≤ most_body) × StatementOk st)
statement_body_iff b st t = (
  λ e. let k = parse_parts b st t e in (sym k.bytes, k.size, (legal_iff st).0 k.legal),
  λ q. let few = q.1 in rw q.0 (parse_written st ((legal_iff st).1 q.2) (rw (← q.0) few)),
)
