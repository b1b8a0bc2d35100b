-- A byte of a part. Assumes nothing.
use Rattle.std.specs.Prelude.{◌≡◌, ℕ, ◌+◌, ◌-◌, ◌<◌, List, length, take, drop, get_or}
use Rattle.std.proofs.Common.{◌∙◌, arith, length-take, get_or-take, get_or-drop}

pub part_inside : (l : List ℕ) (at w i : ℕ) → i < length (take (at + w - at) (drop at l)) → i < w
part_inside l at w i h = omega (arith, length-take (at + w - at) (drop at l))

pub part_byte : (l : List ℕ) (at w i : ℕ) → i < length (take (at + w - at) (drop at l)) → get_or (take (at + w - at) (drop at l)) i 0 ≡ get_or l (at + i) 0
part_byte l at w i h = get_or-take (at + w - at) (drop at l) i 0 (omega (arith, part_inside l at w i h)) ∙ get_or-drop at l i 0
