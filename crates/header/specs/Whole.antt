-- What "The state buffer" asks of the header. Assumes nothing.
use Rattle.std.specs.Prelude.{ℕ, ◌-◌, Bool, ◌&&◌, List, take}
use Rattle.basis.specs.Lists.{same_bytes}
use Rattle.basis.specs.Sizes.{mark_width, header_used, header_size}
use Rattle.model.specs.Run.{Run}
use Rattle.model.specs.Valid.{counts_fit, owed_to_given, owes_only_full}
use Rattle.layout.specs.States.{state_mark, decode}
use Rattle.words.specs.Over.{zeros_at}

-- what is asked of the owed masks
unfoldable pub debts_fit : Run → Bool
debts_fit s = owed_to_given s && owes_only_full s

-- `TS`, "every limit", the owed masks, "All unused bytes are zero"
unfoldable pub header_legal : List ℕ → Bool
header_legal b = same_bytes state_mark (take mark_width b) && (counts_fit (decode b) && (debts_fit (decode b) && zeros_at b header_used (header_size - header_used)))
