-- Every legal statement can be handed in: its additions have parts. Assumes nothing.
use Rattle.std.specs.Prelude.{◌≡◌, refl, ℕ, ◌-◌, ◌≤◌, ◌<◌, true, false, List, [], ◌∷◌, ◌++◌, map, length, take, replicate, T, leb}
use Rattle.std.proofs.Common.{ap, ◌∙◌, arith, take_at, leb→le}
use Rattle.std.proofs.Math.Option.{some}
use Rattle.std.proofs.lemmas.List.{length-map}
use Rattle.basis.specs.Logic.{and_l, and_r, both}
use Rattle.basis.specs.Lists.{all}
use Rattle.basis.specs.Sizes.{most_fields}
use Rattle.model.specs.Statement as model
use Rattle.model.specs.Statement.{actual, formal, reference, sum, difference, anonymous, ranged, always, lookup, deposit, transfer, Branch, Statement}
use Rattle.model.specs.Legal.{fields_of, legal_branch, legal_statement}
use Rattle.statements.specs.declared.Field.{Field}
use Rattle.statements.specs.declared.Operation.{Operation}
use Rattle.statements.specs.Flat.{codes, has_form, field_of, field_is, fields_are, operation_of, operation_is, few_fields}
use Rattle.writer.specs.Writer.{handed}
use Rattle.writer.specs.Tests.{parts_handed}
use Rattle.walk.specs.LegalEnds.{legal_some, legal_branches, few_parts}
use Rattle.rewriter.specs.Additions.{Addition, operation, branch, additions, Parts, no_part, operation_part, branch_part}

-- the parts of a field; those that its form lacks are 0
unfoldable pub field_parts : model.Field → Field
field_parts (actual v) = record { form = 0; kind = v.kind; variable = 0; bits = v.bits; highest = 0 }
field_parts (formal k x) = record { form = 1; kind = k; variable = x; bits = 0; highest = 0 }
field_parts (reference x) = record { form = 2; kind = 0; variable = x; bits = 0; highest = 0 }
field_parts (sum x v) = record { form = 3; kind = v.kind; variable = x; bits = v.bits; highest = 0 }
field_parts (difference x v) = record { form = 4; kind = v.kind; variable = x; bits = v.bits; highest = 0 }
field_parts (anonymous k) = record { form = 5; kind = k; variable = 0; bits = 0; highest = 0 }
field_parts (ranged k r x) = record { form = 6; kind = k; variable = x; bits = r.lowest; highest = r.highest }

-- they are the field's, of one of the seven forms
parts_are : (f : model.Field) → (field_is (field_parts f) ≡ f) × T (has_form (field_parts f))
unfolding field_is field_of has_form field_parts
parts_are (actual v) = (refl, tt)
parts_are (formal k x) = (refl, tt)
parts_are (reference x) = (refl, tt)
parts_are (sum x v) = (refl, tt)
parts_are (difference x v) = (refl, tt)
parts_are (anonymous k) = (refl, tt)
parts_are (ranged k r x) = (refl, tt)

-- room for six
abbrev no_field : Field
no_field = record { form = 0; kind = 0; variable = 0; bits = 0; highest = 0 }

unfoldable pub six_of : List model.Field → List Field
six_of fs = map field_parts fs ++ replicate (most_fields - length fs) no_field

six_take : (fs : List model.Field) → take (length fs) (six_of fs) ≡ map field_parts fs
unfolding six_of
six_take fs = take_at (map field_parts fs) (replicate (most_fields - length fs) no_field) (length fs) (length-map fs field_parts)

all_have : (fs : List model.Field) → T (all has_form (map field_parts fs))
unfolding all
all_have [] = tt
all_have (f ∷ fs) = both (has_form (field_parts f)) (all has_form (map field_parts fs)) (parts_are f).1 (all_have fs)

fields_are_lem : (fs : List model.Field) → fields_are (map field_parts fs) ≡ fs
unfolding fields_are
fields_are_lem [] = refl
fields_are_lem (f ∷ fs) = λ i. (parts_are f).0 i ∷ fields_are_lem fs i

-- an operation of a code, spaces and fields
abbrev made : (code from to : ℕ) → List model.Field → Operation
made code from to fs = record { code = code; from = from; to = to; count = length fs; fields = six_of fs }

made_is : (code from to : ℕ) (fs : List model.Field) → operation_is (made code from to fs) ≡ operation_of code from to fs
unfolding operation_is
made_is code from to fs = rw (six_take fs, fields_are_lem fs)

made_handed : (code from to : ℕ) (fs : List model.Field) → code < codes → T (leb (length fs) most_fields) → handed (made code from to fs) ≡ some (operation_of code from to fs)
made_handed code from to fs h n = parts_handed (made code from to fs) h (leb→le (length fs) most_fields n) (rw (six_take fs) (all_have fs)) ∙ ap some (made_is code from to fs)

-- the parts of an operation that has room for its fields
pub record HandedBy (o : model.Operation) : Type 0 where
  pub parts : Operation
  pub is : handed parts ≡ some o

pub has_part : (o : model.Operation) → T (few_fields o) → HandedBy o
unfolding few_fields fields_of operation_of
has_part always t = record { parts = made 0 0 0 []; is = made_handed 0 0 0 [] (omega arith) tt }
has_part (lookup true true s fs) t = record { parts = made 1 s 0 fs; is = made_handed 1 s 0 fs (omega arith) t }
has_part (lookup true false s fs) t = record { parts = made 2 s 0 fs; is = made_handed 2 s 0 fs (omega arith) t }
has_part (lookup false true s fs) t = record { parts = made 3 s 0 fs; is = made_handed 3 s 0 fs (omega arith) t }
has_part (lookup false false s fs) t = record { parts = made 4 s 0 fs; is = made_handed 4 s 0 fs (omega arith) t }
has_part (deposit s fs) t = record { parts = made 5 s 0 fs; is = made_handed 5 s 0 fs (omega arith) t }
has_part (transfer true from to fs) t = record { parts = made 6 from to fs; is = made_handed 6 from to fs (omega arith) t }
has_part (transfer false from to fs) t = record { parts = made 7 from to fs; is = made_handed 7 from to fs (omega arith) t }

-- parts of a list of additions
pub record HandedAll (ys : List (Addition model.Operation)) : Type 0 where
  pub parts : List (Addition Operation)
  pub are : Parts parts ys

operations_parts : (os : List model.Operation) (ys : List (Addition model.Operation)) → T (all few_fields os) → HandedAll ys → HandedAll (map operation os ++ ys)
unfolding all
operations_parts [] ys t h = h
operations_parts (o ∷ os) ys t h =
    let p = has_part o (and_l (few_fields o) (all few_fields os) t) in
    let k = operations_parts os ys (and_r (few_fields o) (all few_fields os) t) h in
    record { parts = operation p.parts ∷ k.parts; are = operation_part p.is k.are }

branches_parts : (bs : List Branch) → T (all legal_branch bs) → HandedAll (additions bs)
unfolding all additions
branches_parts [] t = record { parts = []; are = no_part }
branches_parts (b ∷ bs) t =
    let few = few_parts b (and_l (legal_branch b) (all legal_branch bs) t) in
    let g = has_part b.guard few.0 in
    let k = operations_parts b.body (additions bs) few.1 (branches_parts bs (and_r (legal_branch b) (all legal_branch bs) t)) in
    record { parts = branch g.parts ∷ k.parts; are = branch_part g.is k.are }

-- parts of a statement: the first guard, and what comes after it
pub record HandedStatement (st : Statement) : Type 0 where
  pub guard : Operation
  pub later : List (Addition Operation)
  pub are : Parts (branch guard ∷ later) (additions st.branches)

-- every legal statement has them
pub has_parts : (st : Statement) → T (legal_statement st) → HandedStatement st
unfolding additions
has_parts st t = go st.branches refl (branches_parts st.branches (legal_branches st t)) (legal_some st t)
  where
    made_of_lem : (bs : List Branch) (xs : List (Addition Operation)) → st.branches ≡ bs → Parts xs (additions bs) → 1 ≤ length bs → HandedStatement st
    made_of_lem [] xs e p one = absurd (omega arith)
    made_of_lem (b ∷ bs) [] e p one = elim p [ ]
    made_of_lem (b ∷ bs) (operation _ ∷ xs) e p one = elim p [ ]
    made_of_lem (b ∷ bs) (branch g ∷ xs) e (branch_part h ps) one = record { guard = g; later = xs; are = rw e (branch_part h ps) }

    go : (bs : List Branch) → st.branches ≡ bs → HandedAll (additions bs) → 1 ≤ length st.branches → HandedStatement st
    go bs e h one = made_of_lem bs h.parts e h.are (omega (arith, ap length e))
