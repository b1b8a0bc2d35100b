-- `wakes::wake_one` meets its contract. Assumes nothing.
use Prim.Native.Nat.{ℕ}
use native.Mathlib.Omega.{arith}
use mathlib.Core.Path.{◌≡◌, subst}
use mathlib.Core.List.{List}
use Rattle.layout.specs.States.{decode}
use Rattle.sections.specs.Shapes.{holds_length}
use Rattle.tuples.specs.Section.{tuple_shape, tuples_of, Section}
use Rattle.queue.specs.Queue.{waiting_of}
use Rattle.header.specs.Rows.{queue_lent, tuples_lent}
use Rattle.lent.specs.Sections.{queue_read, is_queued}
use Rattle.state.specs.Lent.{tuples_read, is_section}
use Rattle.oldest.specs.Searching.{RunsAt, Answers}
use Rattle.wakes.specs.Turns.{wakes_none, wakes_at, wakes_picked, wakes_some}
use Rattle.wakes.proofs.wake_one.Goals as goal
use Rattle.wakes.proofs.wake_one.Goals.{After-tuple_count-m, In-Some}

-- both counts are read
module _ (c : After-tuple_count-m) where
  abbrev bytes : List ℕ
  bytes = c.args.state.now

  queue-is : waiting_of (queue_lent bytes) c.waiting_count-n.result ≡ (decode bytes).waiting
  queue-is = queue_read bytes c.waiting_count-n.result c.requires.0 c.waiting_count-n.ensures.0

  tuples_are : tuples_of (tuples_lent bytes) c.tuple_count-m.result ≡ (decode bytes).tuples
  tuples_are = tuples_read bytes c.tuple_count-m.result c.requires.0 c.tuple_count-m.ensures.0

  section : Section (tuples_lent bytes) c.tuple_count-m.result
  section = is_section bytes c.tuple_count-m.result c.requires.0 c.tuple_count-m.ensures.0

pub oldest_ready-requires : goal.oldest_ready-requires
oldest_ready-requires c =
    let t = section (goal.at.oldest_ready-requires c).After-tuple_count-m in
    (is_queued (bytes (goal.at.oldest_ready-requires c).After-tuple_count-m) c.waiting_count-n.result c.requires.0 c.waiting_count-n.ensures.0, holds_length tuple_shape _ _ _ t, t.few)

-- the oldest is found
runs : (c : In-Some) → RunsAt (queue_lent c.args.state.now) c.waiting_count-n.result (tuples_of (tuples_lent c.args.state.now) c.tuple_count-m.result) c.in-Some.i c.in-Some.choice
runs c = subst (Answers _ _ _) c.in-Some.is c.oldest_ready.ensures

pub wake_at-requires : goal.wake_at-requires
wake_at-requires c =
    let h = (goal.at.wake_at-requires c).In-Some in
    let t = (goal.at.wake_at-requires c).After-tuple_count-m in
    let b = (wakes_at c.args.state.now _ _ c.requires.0 (tuples_are t) (queue-is t) c.in-Some.i c.in-Some.choice (runs h)).below in
    (c.requires.0, b, wakes_picked c.args.state.now _ _ c.requires.0 (tuples_are t) (queue-is t) c.in-Some.i c.in-Some.choice (runs h), omega (arith, b, c.requires.1))

pub returns-in_default : goal.returns-in_default
returns-in_default c =
    (wakes_none (bytes (goal.at.returns-in_default c).After-tuple_count-m) _ _ c.requires.0 (tuples_are (goal.at.returns-in_default c).After-tuple_count-m) (queue-is (goal.at.returns-in_default c).After-tuple_count-m) c.args.out.now (subst (Answers _ _ _) c.in_default.is c.oldest_ready.ensures), omega arith)

pub returns : goal.returns
returns c =
    let w = c.wake_at in
    let t = (goal.at.returns c).After-tuple_count-m in
    (wakes_some c.args.state.now _ _ c.requires.0 (tuples_are t) (queue-is t) c.in-Some.i c.in-Some.choice (runs (goal.at.returns c).In-Some) c.args.out.now w.new.state w.new.out w.result w.ensures.0, w.ensures.1)
