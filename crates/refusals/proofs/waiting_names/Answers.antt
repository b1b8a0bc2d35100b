-- `refusals::waiting_names` meets its contract. Assumes nothing.
use Rattle.queue.specs.PlaceLaws.{waiting_nth}
use Rattle.queue.specs.Bodies.{row_within, body_within, body_legal_lem, body_statement}
use Rattle.refusals.specs.Naming.{naming_is}
use Rattle.refusals.proofs.waiting_names.Goals as goal

pub body_length-requires : goal.body_length-requires
body_length-requires c = row_within _ _ _ c.requires.0 c.requires.1

pub slice_bounds-some_named-end : goal.slice_bounds-some_named-end
slice_bounds-some_named-end c = body_within _ _ _ c.requires.0 c.requires.1 _ _ c.body_length.ensures.0 c.body_at-from.ensures

pub some_named-requires : goal.some_named-requires
some_named-requires c =
    (body_legal_lem _ _ _ c.requires.0 c.requires.1 _ _ c.body_length.ensures.0 c.body_at-from.ensures, c.requires.2, c.requires.3)

pub returns : goal.returns
returns c =
    naming_is _ _ (waiting_nth c.args.waiting.now c.args.n c.args.i) _ _ (body_statement _ _ _ c.requires.0 c.requires.1 _ _ c.body_length.ensures.0 c.body_at-from.ensures) c.some_named.ensures
