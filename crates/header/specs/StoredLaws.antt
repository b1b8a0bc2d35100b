-- A section in the whole of a state's bytes as it is lent, and the run that stored bytes say. Assumes nothing.
use Rattle.std.specs.Prelude.{◌≡◌, ℕ, ◌*◌, ◌≤◌, ◌<◌, List, [], length, get_or}
use Rattle.std.proofs.Common.{ap, ◌∙◌}
use Rattle.basis.specs.ListLaws.{Each}
use Rattle.model.specs.Run.{Run}
use Rattle.layout.specs.States.{area, decode}
use Rattle.layout.specs.StateLaws.{decode_fit}
use Rattle.layout.specs.Stored.{Stored, IsStored}
use Rattle.sections.specs.Parts.{part_read}
use Rattle.sections.specs.Shapes.{Shape, Holds, area_holds}
use Rattle.header.specs.Rows.{widths, parts_of, part_at}
use Rattle.header.specs.RowLaws.{stored_parts}

-- a section as it is lent
pub part_holds : {A : Type 0} (k : Shape A) (b : List ℕ) (s : Run) → Stored b s → (r : ℕ) → r < length widths → (l : List A)
    → get_or (parts_of s) r [] ≡ area (k.most * k.size) k.size k.write l → length l ≤ k.most → Each k.Lawful l → Holds k (part_at r b) (length l) l
part_holds k b s h r below l is few lawful =
    let e : part_at r b ≡ area (k.most * k.size) k.size k.write l = part_read widths b (parts_of s) (stored_parts b s h) r below ∙ is in
    rw e (area_holds k l few lawful)

-- stored bytes say the run
pub stored_says : (b : List ℕ) (s : Run) → Stored b s → decode b ≡ s
stored_says b s h = ap decode h.bytes ∙ decode_fit s h.fit

pub said : (b : List ℕ) (s : Run) → Stored b s → IsStored b
said b s h = rw (stored_says b s h) h
