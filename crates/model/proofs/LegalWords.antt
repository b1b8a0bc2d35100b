-- "Spare bytes or any breach make the body malformed": the words for a legal statement, and the fields of one operation. Assumes nothing.
use Rattle.std.specs.Prelude.{◌≡◌, refl, ◌≢◌, ◌⊎◌, ℕ, ◌≤◌, ◌<◌, true, false, length, get_or, T}
use Rattle.std.proofs.Common.{ap, inl, inr, arith}
use mathlib.Core.List.Memᴰ
use mathlib.Core.List.{List, [], ◌∷◌, ◌++◌, flat_map, Memᴰ}
use Rattle.basis.specs.ListLaws.{Each}
use Rattle.basis.specs.Sizes.{hosts, processes, variables, most_branches, most_operations, most_fields, space_numbers}
use Rattle.model.specs.Value.{value, name, legal_value, Range, at_most}
use Rattle.model.specs.Statement.{Field, actual, formal, reference, sum, difference, anonymous, ranged, Operation, always, lookup, deposit, transfer, Branch, Statement}
use Rattle.model.specs.Legal.{form_of, fields_of, template_forms}
use Rattle.model.specs.Writing.{field_bytes}
use Rattle.model.proofs.BinderLaws.{BindsAt, BoundIn}

-- ---- the words

-- Of what a field binds, where `sofar` are the fields before it in its branch: kinds 0 to 2, variables 0 to 15; "A variable is bound once in a branch".
abbrev pub BinderOk : (sofar : List Field) (kind variable : ℕ) → Type 0
BinderOk sofar k x = (k ≤ 2) × (x < variables) × ((j : ℕ) → ¬ BoundIn j x sofar)

-- A range: whole numbers or metres, both ends legal, "Lowest above highest is malformed".
abbrev pub RangeOk : (kind : ℕ) → Range → Type 0
RangeOk k r = (k ≢ name) × T (legal_value (value k r.lowest)) × T (legal_value (value k r.highest)) × T (at_most k r.lowest r.highest)

-- Of the other parts of a field, where `before` are the fields of the earlier operations of its branch: values are legal, kinds 0 to 2; a variable is "used only in a later operation of that branch. Forms 3 and 4 need the variable's kind to be theirs, and not name."
abbrev pub PartsOk : (before : List Field) → Field → Type 0
PartsOk before (actual v) = T (legal_value v)
PartsOk before (formal k x) = Unit {0}
PartsOk before (reference x) = (k : ℕ) × BoundIn k x before
PartsOk before (sum x v) = BoundIn v.kind x before × (v.kind ≢ name) × T (legal_value v)
PartsOk before (difference x v) = BoundIn v.kind x before × (v.kind ≢ name) × T (legal_value v)
PartsOk before (anonymous k) = k ≤ 2
PartsOk before (ranged k r x) = RangeOk k r

-- a field, where `left` are those before it in its operation
abbrev pub FieldOk : (before left : List Field) → Field → Type 0
FieldOk before left f = ((k x : ℕ) → BindsAt k x f → BinderOk (before ++ left) k x) × PartsOk before f

-- a field of one of the forms
abbrev pub FormIn : List ℕ → Field → Type 0
FormIn allowed f = Memᴰ (form_of f) allowed

-- which is the byte that it is written with first
pub form_written : (f : Field) → get_or (field_bytes f) 0 0 ≡ form_of f
unfolding field_bytes form_of
form_written (actual v) = refl
form_written (formal k x) = refl
form_written (reference x) = refl
form_written (sum x v) = refl
form_written (difference x v) = refl
form_written (anonymous k) = refl
form_written (ranged k r x) = refl

-- each element, with those to its left, is P
abbrev pub Throughout : {A : Type 0} → (List A → A → Type 0) → List A → Type 0
Throughout {A} P l = (left right : List A) (a : A) → l ≡ left ++ (a ∷ right) → P left a

-- an operation after earlier ones whose fields are `before`: spaces are 0 to 65,535; "1 to 5: space, field count 1 to 6, fields. 6 and 7: from, to, field count 0 to 6, fields"; "1 to 4 allow forms 0, 1, 2, 5", and form 6; "out 0, 2, 3, 4; move and copy 0, 2, 5"
abbrev pub OperationOk : (before : List Field) → Operation → Type 0
OperationOk before always = Unit {0}
OperationOk before (lookup withdraws blocks s fs) = (s < space_numbers) × (1 ≤ length fs) × (length fs ≤ most_fields) × Throughout (λ left f. FormIn template_forms f × FieldOk before left f) fs
OperationOk before (deposit s fs) = (s < space_numbers) × (1 ≤ length fs) × (length fs ≤ most_fields) × Throughout (λ left f. FormIn (0 ∷ 2 ∷ 3 ∷ 4 ∷ []) f × FieldOk before left f) fs
OperationOk before (transfer withdraws from to fs) = (from < space_numbers) × (to < space_numbers) × (length fs ≤ most_fields) × Throughout (λ left f. FormIn (0 ∷ 2 ∷ 5 ∷ []) f × FieldOk before left f) fs

-- codes 0 to 4; "5 to 7 body only"
abbrev pub GuardOk : Operation → Type 0
GuardOk always = Unit {0}
GuardOk (lookup withdraws blocks s fs) = Unit {0}
GuardOk (deposit s fs) = ⊥
GuardOk (transfer withdraws from to fs) = ⊥

-- true, inp and rdp are "guard only"
abbrev pub InBody : Operation → Type 0
InBody always = ⊥
InBody (lookup withdraws true s fs) = Unit {0}
InBody (lookup withdraws false s fs) = ⊥
InBody (deposit s fs) = Unit {0}
InBody (transfer withdraws from to fs) = Unit {0}

-- "A branch is a guard, a count 0 to 8, and that many body operations"
pub record BranchOk (b : Branch) : Type 0 where
  pub guard : GuardOk b.guard
  pub count : length b.body ≤ most_operations
  pub body : Each InBody b.body
  pub each : Throughout (λ earlier o. OperationOk (flat_map fields_of earlier) o) (b.guard ∷ b.body)

-- "host, process, branch count 1 to 4, branches"
pub record StatementOk (st : Statement) : Type 0 where
  pub host : st.host < hosts
  pub process : st.process < processes
  pub some_branch : 1 ≤ length st.branches
  pub few : length st.branches ≤ most_branches
  pub each : Each BranchOk st.branches

-- ---- throughout, element by element

-- the first element, and the others with it to their left
pub throughout_cons : {A : Type 0} (P : List A → A → Type 0) (a : A) (l : List A) → P [] a → Throughout (λ left b. P (a ∷ left) b) l → Throughout P (a ∷ l)
throughout_cons P a l p h [] right b e = let w : a ≡ b = cc in rw (← w) p
throughout_cons P a l p h (c ∷ left) right b e = let w : a ≡ c = cc in let v : l ≡ left ++ (b ∷ right) = cc in rw (← w) (h left right b v)

-- the first element has nothing to its left
pub throughout_head : {A : Type 0} (P : List A → A → Type 0) (a : A) (l : List A) → Throughout P (a ∷ l) → P [] a
throughout_head P a l h = h [] l a refl

-- the others have it to their left
pub throughout_tail : {A : Type 0} (P : List A → A → Type 0) (a : A) (l : List A) → Throughout P (a ∷ l) → Throughout (λ left b. P (a ∷ left) b) l
throughout_tail P a l h left right b e = h (a ∷ left) right b (ap (λ (k : List _). a ∷ k) e)

-- of no elements nothing is asked
pub throughout_nil : {A : Type 0} (P : List A → A → Type 0) → Throughout P []
throughout_nil P [] right a e = let z : ◌≡◌ {A = ℕ} 0 1 = cc in absurd (omega arith)
throughout_nil P (c ∷ left) right a e = let z : ◌≡◌ {A = ℕ} 0 1 = cc in absurd (omega arith)

-- each member is P, with some elements to its left
pub throughout_in : {A : Type 0} (P : List A → A → Type 0) (l : List A) (a : A) → Throughout P l → Memᴰ a l → (left : List A) × P left a
throughout_in P [] a h m = absurd (Memᴰ.not-nil m)
throughout_in {A} P (b ∷ l) a h m = go (Memᴰ.cases_cons m) (throughout_in (λ left c. P (b ∷ left) c) l a (throughout_tail P b l h))
  where
    go : (a ≡ b) ⊎ Memᴰ a l → (Memᴰ a l → (left : List A) × P (b ∷ left) a) → (left : List A) × P left a
    go (inl e) later = ([], rw e (throughout_head P b l h))
    go (inr i) later = let r = later i in (b ∷ r.0, r.1)
