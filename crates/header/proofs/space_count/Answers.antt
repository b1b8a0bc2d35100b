-- `header::space_count` meets its contract. Assumes nothing.
use Rattle.std.proofs.Common.{◌≡◌, ◌∙◌, arith}
use Rattle.basis.specs.Numbers.{number_at}
use Rattle.basis.specs.Sizes.{space_count_at, count_width}
use Rattle.header.specs.RowLaws.{space_count, byte_read}
use Rattle.header.proofs.space_count.Goals as goal

pub returns : goal.returns
returns c =
    let read : c.from.result ≡ number_at space_count_at count_width c.args.state.now = byte_read _ space_count_at _ (omega arith) c.from.ensures in
    (read ∙ space_count _ c.requires, read)
