-- Parts that are an operation: what it has after its code. Assumes nothing.
use Rattle.std.specs.Prelude.{◌≡◌, true, ◌&&◌, ◌⊎◌, ◌≤◌, ◌<◌, take, T, ltb, leb, eqb}
use Rattle.std.proofs.Common.{inl, inr, arith, ltb→lt, leb→le, eqb→eq, lt-ltb}
use Rattle.basis.specs.Logic.{and_l, and_r, or_cases, true_is}
use Rattle.basis.specs.Lists.{all}
use Rattle.basis.specs.Sizes.{most_fields, space_numbers}
use Rattle.model.specs.Statement.{spaces_of}
use Rattle.model.specs.Legal.{is_space}
use Rattle.statements.specs.At.{which}
use Rattle.statements.specs.Codes.{spaces_one, spaces_two}
use Rattle.statements.specs.declared.Operation.{Operation}
use Rattle.statements.specs.Flat.{codes, has_form, fields_are, operation_of, operation_is}
use Rattle.writer.specs.Writer.{true_code, two_spaces, is_handed}

-- what an operation has after its code, where that is not true
pub record HasParts (o : Operation) : Type 0 where
  pub code : o.code < codes
  pub count : o.count ≤ most_fields
  pub forms : T (all has_form (take o.count o.fields))
  pub spaces : T (all is_space (spaces_of (operation_is o)))

handed_parts : (o : Operation) → T (is_handed o) → (o.code ≡ true_code → ⊥) → T (ltb o.code codes && leb o.count most_fields && all has_form (take o.count o.fields))
unfolding is_handed
handed_parts o t n = go (or_cases (eqb o.code true_code) (ltb o.code codes && leb o.count most_fields && all has_form (take o.count o.fields)) t)
  where
    go : T (eqb o.code true_code) ⊎ T (ltb o.code codes && leb o.count most_fields && all has_form (take o.count o.fields))
        → T (ltb o.code codes && leb o.count most_fields && all has_form (take o.count o.fields))
    go (inl z) = absurd (n (eqb→eq o.code true_code z))
    go (inr u) = u

-- what is handed in as spaces are space numbers
spaces_are : (o : Operation) → o.from < space_numbers → o.to < space_numbers → (o.code ≡ true_code → ⊥) → T (all is_space (spaces_of (operation_is o)))
unfolding operation_is all is_space
spaces_are o f t n = go (which two_spaces o.code)
  where
    go : (two_spaces ≤ o.code) ⊎ (o.code < two_spaces) → T (all is_space (spaces_of (operation_of o.code o.from o.to (fields_are (take o.count o.fields)))))
    go (inl l) = rw (spaces_two o.code o.from o.to (fields_are (take o.count o.fields)) l, lt-ltb o.from space_numbers f, lt-ltb o.to space_numbers t) tt
    go (inr l) = rw (spaces_one o.code o.from o.to (fields_are (take o.count o.fields)) (omega (arith, n)) l, lt-ltb o.from space_numbers f) tt

pub has_parts : (o : Operation) → is_handed o ≡ true → o.from < space_numbers → o.to < space_numbers → (o.code ≡ true_code → ⊥) → HasParts o
has_parts o e f t n =
    let h = handed_parts o (true_is (is_handed o) e) n in
    record {
      code = ltb→lt o.code codes (search (and_l, and_r, h) depth 16);
      count = leb→le o.count most_fields (search (and_l, and_r, h) depth 16);
      forms = search (and_l, and_r, h) depth 16;
      spaces = spaces_are o f t n;
    }
