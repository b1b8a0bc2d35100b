-- `running::choose_in` meets its contract. Assumes nothing.
use Rattle.sections.specs.Shapes.{holds_length}
use Rattle.tuples.specs.Section.{tuple_shape}
use Rattle.state.specs.Lent.{tuples_read, is_section}
use Rattle.running.proofs.choose_in.Goals as goal

pub search-requires : goal.search-requires
search-requires c = let t = is_section c.args.state.now c.tuple_count-n.result c.requires.0 c.tuple_count-n.ensures.0 in
    (holds_length tuple_shape _ _ _ t, t.few, c.requires.1)

pub returns : goal.returns
returns c = rw (tuples_read c.args.state.now c.tuple_count-n.result c.requires.0 c.tuple_count-n.ensures.0) at c.search.ensures
