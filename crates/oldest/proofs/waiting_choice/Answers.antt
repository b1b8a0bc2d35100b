-- `oldest::waiting_choice` meets its contract. Assumes nothing.
use Rattle.queue.specs.Bodies.{row_within, body_within, body_lent, body_legal_lem}
use Rattle.oldest.specs.Searching.{chooses_at}
use Rattle.oldest.proofs.waiting_choice.Goals as goal

pub body_length-requires : goal.body_length-requires
body_length-requires c = row_within _ _ _ c.requires.0 c.requires.1

pub slice_bounds-search-end : goal.slice_bounds-search-end
slice_bounds-search-end c =
    body_within _ _ _ c.requires.0 c.requires.1 _ _ c.body_length.ensures.0 c.body_at-from.ensures

pub search-requires : goal.search-requires
search-requires c =
    (c.requires.2, c.requires.3, body_legal_lem _ _ _ c.requires.0 c.requires.1 _ _ c.body_length.ensures.0 c.body_at-from.ensures)

pub returns : goal.returns
returns c =
    chooses_at _ _ _ _ c.requires.0 c.requires.1 _ (body_lent _ _ _ c.requires.0 c.requires.1 _ _ c.body_length.ensures.0 c.body_at-from.ensures) c.search.result c.search.ensures
