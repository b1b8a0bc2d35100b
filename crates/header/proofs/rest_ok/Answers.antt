-- `header::rest_ok` meets its contract. Assumes nothing.
use native.Mathlib.Omega.{arith}
use mathlib.Core.Path.{ap, ◌∙◌}
use mathlib.Core.Bool.{Bool, ◌&&◌}
use mathlib.Core.List.{List}
use Prim.Native.Nat.{ℕ, ◌-◌}
use Rattle.basis.specs.Sizes.{header_used, header_size}
use Rattle.words.specs.Over.{zeros_at}
use Rattle.header.specs.WholeLaws.{debts_room, debts_full, few_monitors}
use Rattle.header.proofs.rest_ok.Goals as goal

-- the bytes after the masks are zero
abbrev unused : List ℕ → Bool
unused b = zeros_at b header_used (header_size - header_used)

pub returns-then-tuple_count-lt-MOST_TUPLES : goal.returns-then-tuple_count-lt-MOST_TUPLES
returns-then-tuple_count-lt-MOST_TUPLES c =
    c.zero_from.ensures ∙ ap (λ (x : Bool). x && unused c.args.state.now) (debts_room _ _ c.tuple_count.ensures.0 c.if-tuple_count-lt-MOST_TUPLES.true)

pub zero_from-requires-else-tuple_count-lt-MOST_TUPLES : goal.zero_from-requires-else-tuple_count-lt-MOST_TUPLES
zero_from-requires-else-tuple_count-lt-MOST_TUPLES c = (omega (arith, c.requires.0), omega (arith, few_monitors _ _ c.monitors-given.ensures.0 c.requires.1))

pub returns-else-tuple_count-lt-MOST_TUPLES : goal.returns-else-tuple_count-lt-MOST_TUPLES
returns-else-tuple_count-lt-MOST_TUPLES c =
    c.zero_from-else-tuple_count-lt-MOST_TUPLES.ensures ∙ ap (λ (x : Bool). x && unused c.args.state.now) (debts_full _ _ c.tuple_count.ensures.0 (omega (arith, c.if-tuple_count-lt-MOST_TUPLES.false)) _ c.monitors-given.ensures.0)
