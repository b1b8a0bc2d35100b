-- `operations::look_up` meets its contract. Assumes nothing.
use mathlib.Core.Path.{sym, ap, ◌∙◌}
use mathlib.Core.List.{List}
use Prim.Native.Nat.{ℕ}
use Rattle.tuples.specs.Section.{tuple_shape}
use Rattle.sections.specs.Shapes.{holds_length}
use Rattle.matching.specs.Meaning.{found_is}
use Rattle.bindings.specs.Fields.{fields_in}
use Rattle.bindings.specs.Variables.{bindings_of}
use Rattle.operations.specs.Performing.{search_none, search_at}
use Rattle.operations.proofs.look_up.Goals as goal
use Rattle.operations.proofs.look_up.Goals.{After-find}

module _ (c : After-find) where
  abbrev bytes : List ℕ
  bytes = c.args.tuples.now

pub find-requires : goal.find-requires
find-requires c =
    (holds_length tuple_shape _ _ _ c.requires.0, c.requires.0.few, c.template_of.ensures.1)

pub take_found-requires : goal.take_found-requires
take_found-requires c =
    let a = c.args in (
      c.requires.0,
      c.requires.1,
      search_at (bindings_of a.v.now) a.op.now.from (fields_in a.op.now) (bytes (goal.at.take_found-requires c).After-find) a.n c.template_of.result c.template_of.ensures.0 c.in-Some.i
          (ap (found_is (bytes (goal.at.take_found-requires c).After-find)) (sym c.in-Some.is) ∙ c.find.ensures),
    )

pub returns-in-Some : goal.returns-in-Some
returns-in-Some c = c.take_found.ensures.0

pub returns-in-None : goal.returns-in-None
returns-in-None c =
    let a = c.args in
    search_none (bindings_of a.v.now) a.op.now.from (fields_in a.op.now) (bytes (goal.at.returns-in-None c).After-find) a.n c.template_of.result c.template_of.ensures.0
    (ap (found_is (bytes (goal.at.returns-in-None c).After-find)) (sym c.in-None.is) ∙ c.find.ensures) a.withdraws a.v.now c.requires.0
