-- `refusals::refuse_space` meets its contract. Assumes nothing.
use mathlib.Core.Path.{◌≡◌}
use Rattle.layout.specs.States.{decode}
use Rattle.spaces.specs.Spaces.{spaces_of, IsListed, Rising}
use Rattle.header.specs.Rows.{spaces_lent}
use Rattle.lent.specs.Sections.{spaces_read, is_listed, is_rising}
use Rattle.refusals.specs.Naming.{one_closed, one_denied, one_used, one_free}
use Rattle.refusals.proofs.refuse_space.Goals as goal
use Rattle.refusals.proofs.refuse_space.Goals.{After-space_count-n}

-- the count of the spaces is read
module _ (c : After-space_count-n) where
  known : IsListed (spaces_lent c.args.state.now) c.space_count-n.result × Rising (spaces_of (spaces_lent c.args.state.now) c.space_count-n.result)
  known = (is_listed _ _ c.requires c.space_count-n.ensures.0, is_rising _ _ c.requires c.space_count-n.ensures.0)

  same : spaces_of (spaces_lent c.args.state.now) c.space_count-n.result ≡ (decode c.args.state.now).spaces
  same = spaces_read _ _ c.requires c.space_count-n.ensures.0

pub is_open-requires : goal.is_open-requires
is_open-requires c = known (goal.at.is_open-requires c).After-space_count-n

pub returns-then-not-is_open : goal.returns-then-not-is_open
returns-then-not-is_open c =
    one_closed (decode c.args.state.now) _ _ _ (same (goal.at.returns-then-not-is_open c).After-space_count-n) _ c.is_open.ensures c.if-not-is_open.true

pub is_denied-requires : goal.is_denied-requires
is_denied-requires c = known (goal.at.is_denied-requires c).After-space_count-n

pub returns-then-is_denied : goal.returns-then-is_denied
returns-then-is_denied c =
    one_denied (decode c.args.state.now) _ _ _ (same (goal.at.returns-then-is_denied c).After-space_count-n) _ c.is_open.ensures c.if-not-is_open.false _ c.is_denied.ensures c.if-is_denied.true

pub returns-then-in_use : goal.returns-then-in_use
returns-then-in_use c =
    one_used (decode c.args.state.now) _ _ _ (same (goal.at.returns-then-in_use c).After-space_count-n) _ c.is_open.ensures c.if-not-is_open.false _ c.is_denied.ensures c.if-is_denied.false _ c.in_use.ensures c.if-in_use.true

pub returns : goal.returns
returns c =
    one_free (decode c.args.state.now) _ _ _ (same (goal.at.returns c).After-space_count-n) _ c.is_open.ensures c.if-not-is_open.false _ c.is_denied.ensures c.if-is_denied.false _ c.in_use.ensures c.if-in_use.false
