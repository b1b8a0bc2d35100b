-- `statements::field_parts` meets its contract. Assumes nothing.
use mathlib.Core.Path.{◌≡◌, refl, sym, ap, ◌∙◌}
use native.Mathlib.Omega.{arith}
use Prim.Native.Nat.{ℕ}
use mathlib.Core.List.{List}
use Rattle.std.proofs.Math.Option.{some, some-injective}
use lib.ListN.{get_or}
use Rattle.basis.specs.Sizes.{actual_size, formal_size, sum_size, range_size}
use Rattle.statements.specs.Fields.{width_of, FieldStands, width_sum, width_range, width_more}
use Rattle.statements.specs.Flat.{field_is}
use Rattle.statements.specs.FlatLaws.{parts_actual, parts_formal, parts_reference, parts_sum, parts_anonymous, parts_ranged}
use Rattle.statements.proofs.field_parts.Goals as goal

-- the width that a field has is that of its form
width_is : {b : List ℕ} {at : ℕ} (h : FieldStands b at) (size : ℕ) → width_of (get_or b at 0) ≡ some size → h.width ≡ size
width_is h size e = some-injective h.width size (sym h.is ∙ e)

pub bounds-b-at : goal.bounds-b-at
bounds-b-at c = omega (arith, c.requires.fits, width_more (get_or c.args.b.now c.args.at 0) c.requires.width c.requires.is)

pub bounds-b-from : goal.bounds-b-from
bounds-b-from c = omega (arith, c.requires.fits, width_more (get_or c.args.b.now c.args.at 0) c.requires.width c.requires.is)

pub word4-requires : goal.word4-requires
unfolding width_of
word4-requires c = let w : c.requires.width ≡ actual_size = width_is c.requires actual_size (ap width_of c.in-0.is) in omega (arith, w, c.requires.fits)

pub bounds-b-from-in-1 : goal.bounds-b-from-in-1
unfolding width_of
bounds-b-from-in-1 c = let w : c.requires.width ≡ formal_size = width_is c.requires formal_size (ap width_of c.in-1.is) in omega (arith, w, c.requires.fits)

pub bounds-b-from-in-3 : goal.bounds-b-from-in-3
bounds-b-from-in-3 c = let w : c.requires.width ≡ sum_size = width_is c.requires sum_size (width_sum (get_or c.args.b.now c.args.at 0) (omega arith) (omega arith)) in
    omega (arith, w, c.requires.fits)

pub word4-requires-in-3 : goal.word4-requires-in-3
word4-requires-in-3 c = let w : c.requires.width ≡ sum_size = width_is c.requires sum_size (width_sum (get_or c.args.b.now c.args.at 0) (omega arith) (omega arith)) in
    omega (arith, w, c.requires.fits)

pub bounds-b-from-in_default : goal.bounds-b-from-in_default
bounds-b-from-in_default c = let w : c.requires.width ≡ range_size = width_range (get_or c.args.b.now c.args.at 0) c.requires.width (omega arith) c.requires.is in omega (arith, w, c.requires.fits)

pub word4-requires-in_default : goal.word4-requires-in_default
word4-requires-in_default c = let w : c.requires.width ≡ range_size = width_range (get_or c.args.b.now c.args.at 0) c.requires.width (omega arith) c.requires.is in omega (arith, w, c.requires.fits)

pub word4-requires-in_default-2 : goal.word4-requires-in_default-2
word4-requires-in_default-2 c = let w : c.requires.width ≡ range_size = width_range (get_or c.args.b.now c.args.at 0) c.requires.width (omega arith) c.requires.is in omega (arith, w, c.requires.fits)

pub returns-in-0 : goal.returns-in-0
unfolding field_is
returns-in-0 c = (parts_actual c.args.b.now c.args.at _ _ _ c.in-0.is c.word4.ensures, refl)

pub returns-in-1 : goal.returns-in-1
unfolding field_is
returns-in-1 c = (parts_formal c.args.b.now c.args.at _ _ c.in-1.is, refl)

pub returns-in-2 : goal.returns-in-2
unfolding field_is
returns-in-2 c = (parts_reference c.args.b.now c.args.at _ _ _ c.in-2.is, refl)

pub returns-in-5 : goal.returns-in-5
unfolding field_is
returns-in-5 c = (parts_anonymous c.args.b.now c.args.at _ _ _ c.in-5.is, refl)

pub returns-in-3 : goal.returns-in-3
unfolding field_is
returns-in-3 c = (parts_sum c.args.b.now c.args.at _ _ (omega arith) (omega arith) c.word4-in-3.ensures, refl)

pub returns-in_default : goal.returns-in_default
unfolding field_is
returns-in_default c = (parts_ranged c.args.b.now c.args.at _ _ (omega arith) c.word4-in_default.ensures c.word4-in_default-2.ensures, refl)
