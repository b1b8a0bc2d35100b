-- `copier::copy_branches` meets its contract. Assumes nothing.
use Prim.Native.Nat.{◌-◌}
use Rattle.rewriter.specs.Copying.{Underway}
use Rattle.copier.proofs.copy_branches.Given as goal

abbrev pub invariant-loop : goal.invariant-loop
invariant-loop l = Underway l.body l.initial.out l.next 0 (l.branches - l.counter) l.filled l.out
