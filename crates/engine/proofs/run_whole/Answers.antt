-- `engine::run_whole` meets its contract. Assumes nothing.
use mathlib.Core.Path.{sym, subst}
use Prim.Native.Nat.{ℕ, ◌+◌}
use mathlib.Core.List.{List}
use Rattle.basis.specs.Sizes.{count_width}
use Rattle.tuples.specs.Section.{tuples_of}
use Rattle.walk.specs.Walk.{Operations, operations_at}
use Rattle.engine.specs.Unfailing.{CannotFail}
use Rattle.engine.specs.Attempting.{body_of, whole_done}
use Rattle.engine.proofs.run_whole.Goals as goal
use Rattle.engine.proofs.run_whole.Goals.{After-size}

module _ (c : After-size) where
  abbrev bytes : List ℕ
  bytes = c.args.body.now

  abbrev from : ℕ
  from = c.args.guard.now.1 + count_width

pub cannot_fail-requires : goal.cannot_fail-requires
cannot_fail-requires c = subst (Operations (bytes c) (from c)) (sym c.size.ensures.0) c.requires.1.due.stands

pub returns-then-cannot_fail : goal.returns-then-cannot_fail
returns-then-cannot_fail c =
    let a = c.args in
    let r = c.run_branch.result in
    let safe =
    subst (λ (k : ℕ). CannotFail k (body_of (bytes (goal.at.returns-then-cannot_fail c).After-size) a.guard.now)) c.room_after-room.ensures
    (subst (λ (k : ℕ). CannotFail c.room_after-room.result (operations_at (bytes (goal.at.returns-then-cannot_fail c).After-size) (from (goal.at.returns-then-cannot_fail c).After-size) k)) c.size.ensures.0 (c.cannot_fail.ensures c.if-cannot_fail.true)) in
    whole_done _ (tuples_of a.tuples.now a.n) r.outcome r.n r.vars _ c.run_branch.ensures.0 (c.run_branch.ensures.1 safe)

pub returns : goal.returns
returns c = c.run_saved.ensures
