-- `refusals::refuse_named` meets its contract. Assumes nothing.
use mathlib.Core.Path.{◌≡◌}
use Rattle.layout.specs.States.{decode}
use Rattle.spaces.specs.Spaces.{spaces_of, IsListed, Rising}
use Rattle.header.specs.Rows.{spaces_lent}
use Rattle.lent.specs.Sections.{spaces_read, is_listed, is_rising}
use Rattle.refusals.specs.Naming.{let_in, found_closed, found_denied}
use Rattle.refusals.proofs.refuse_named.Goals as goal
use Rattle.refusals.proofs.refuse_named.Goals.{After-space_count-n}

-- the count of the spaces is read
module _ (c : After-space_count-n) where
  listed : IsListed (spaces_lent c.args.state.now) c.space_count-n.result
  listed = is_listed c.args.state.now c.space_count-n.result c.requires.0 c.space_count-n.ensures.0

  rising : Rising (spaces_of (spaces_lent c.args.state.now) c.space_count-n.result)
  rising = is_rising c.args.state.now c.space_count-n.result c.requires.0 c.space_count-n.ensures.0

  same : spaces_of (spaces_lent c.args.state.now) c.space_count-n.result ≡ (decode c.args.state.now).spaces
  same = spaces_read c.args.state.now c.space_count-n.result c.requires.0 c.space_count-n.ensures.0

pub some_named-requires : goal.some_named-requires
some_named-requires c = (c.requires.1, listed (goal.at.some_named-requires c).After-space_count-n, rising (goal.at.some_named-requires c).After-space_count-n)

pub returns-then-not-some_named : goal.returns-then-not-some_named
returns-then-not-some_named c =
    let_in (decode c.args.state.now) _ _ _ (same (goal.at.returns-then-not-some_named c).After-space_count-n) _ c.some_named.ensures c.if-not-some_named.true

pub some_named-requires-2 : goal.some_named-requires-2
some_named-requires-2 c = (c.requires.1, listed (goal.at.some_named-requires-2 c).After-space_count-n, rising (goal.at.some_named-requires-2 c).After-space_count-n)

pub returns-then-some_named : goal.returns-then-some_named
returns-then-some_named c =
    found_closed (decode c.args.state.now) _ _ _ (same (goal.at.returns-then-some_named c).After-space_count-n) _ c.some_named-2.ensures c.if-some_named.true

pub returns : goal.returns
returns c =
    found_denied (decode c.args.state.now) _ _ _ (same (goal.at.returns c).After-space_count-n) _ _ c.some_named.ensures c.if-not-some_named.false c.some_named-2.ensures c.if-some_named.false
