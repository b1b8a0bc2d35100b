-- `header::monitors` meets its contract. Assumes nothing.
use Rattle.std.proofs.Common.{◌≡◌, ◌∙◌, arith}
use Rattle.basis.specs.Numbers.{number_at}
use Rattle.basis.specs.Sizes.{monitors_at, count_width}
use Rattle.header.specs.RowLaws.{monitors_say, byte_read}
use Rattle.header.proofs.monitors.Goals as goal

pub returns : goal.returns
returns c =
    let read : c.from.result ≡ number_at monitors_at count_width c.args.state.now = byte_read _ monitors_at _ (omega arith) c.from.ensures in
    (read ∙ monitors_say _ c.requires, read)
