-- `sections::cut` meets its contract. Assumes nothing.
use native.Mathlib.Omega.{arith}
use Rattle.sections.specs.RowLaws.{cuts, rows_cut}
use Rattle.sections.proofs.cut.Goals as goal

pub overflow_mul-i : goal.overflow_mul-i
overflow_mul-i c = let p = cuts c.args.size c.args.n c.args.i c.requires.1 in omega (arith, p.last, p.all, c.requires.0.room)

pub overflow_mul-i-2 : goal.overflow_mul-i-2
overflow_mul-i-2 c = let p = cuts c.args.size c.args.n c.args.i c.requires.1 in omega (arith, p.next, p.last, p.all, c.requires.0.room)

pub overflow_mul-n : goal.overflow_mul-n
overflow_mul-n c = let p = cuts c.args.size c.args.n c.args.i c.requires.1 in omega (arith, p.last, p.all, c.requires.0.room)

pub move_down-requires : goal.move_down-requires
move_down-requires c = let p = cuts c.args.size c.args.n c.args.i c.requires.1 in (omega (arith, p.next), omega (arith, p.next, p.last, p.all, c.requires.0.room))

pub overflow_mul-n-2 : goal.overflow_mul-n-2
overflow_mul-n-2 c = let p = cuts c.args.size c.args.n c.args.i c.requires.1 in omega (arith, p.all, c.requires.0.room)

pub clear-requires : goal.clear-requires
clear-requires c = let p = cuts c.args.size c.args.n c.args.i c.requires.1 in omega (arith, p.all, c.requires.0.room, c.move_down.auto.a)

pub returns : goal.returns
returns c =
    rows_cut _ _ _ _ _ _ _ _ c.requires.0 c.requires.1 c.move_down.ensures c.clear.ensures
