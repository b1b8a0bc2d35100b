-- `names::operation_names` meets its contract. Assumes nothing.
use mathlib.Core.Path.{sym, ◌∙◌}
use Rattle.names.specs.Named.{names_none, names_first, names_one_lem, names_two}
use Rattle.names.proofs.operation_names.Goals as goal

pub returns-then-operation-eq-TRUE : goal.returns-then-operation-eq-TRUE
returns-then-operation-eq-TRUE c = let o = c.args.operation in
    names_none _ o.from o.to o.code c.if-operation-eq-TRUE.true

pub returns-then-passes : goal.returns-then-passes
returns-then-passes c = let o = c.args.operation in
    names_first _ o.from o.to o.code c.if-operation-eq-TRUE.false (sym c.passes.ensures ∙ c.if-passes.true)

pub returns-then-operation-lt-TWO_SPACES : goal.returns-then-operation-lt-TWO_SPACES
returns-then-operation-lt-TWO_SPACES c = let o = c.args.operation in
    names_one_lem _ o.from o.to o.code c.if-operation-eq-TRUE.false (sym c.passes.ensures ∙ c.if-passes.false) c.if-operation-lt-TWO_SPACES.true

pub returns : goal.returns
returns c = let o = c.args.operation in
    c.passes-2.ensures ∙ names_two _ o.from o.to o.code c.if-operation-eq-TRUE.false (sym c.passes.ensures ∙ c.if-passes.false) c.if-operation-lt-TWO_SPACES.false
