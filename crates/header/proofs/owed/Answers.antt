-- `header::owed` meets its contract. Assumes nothing.
use mathlib.Core.Path.{◌≡◌, ap, ◌∙◌}
use Prim.Native.Nat.{ℕ, ◌+◌, ◌*◌}
use Rattle.basis.specs.Numbers.{number_at, bits}
use Rattle.basis.specs.Sizes.{hosts, mask_width, owed_at}
use Rattle.header.specs.RowLaws.{owed_say}
use Rattle.header.proofs.owed.Goals as goal

pub returns : goal.returns
returns c =
    let b = c.args.state.now in
    let read : c.word2.result ≡ number_at (owed_at + c.args.i * mask_width) mask_width b = c.word2.ensures ∙ ap (λ (k : ℕ). number_at k mask_width b) c.owed_at.ensures in
    (ap (bits hosts) read ∙ owed_say b c.args.i c.requires.1, read)
