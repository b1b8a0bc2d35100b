-- A corollary of the claim, by name: "Two cabinets at one position also owe the same." Assumes nothing.
use Rattle.std.specs.Prelude.{◌≡◌, ◌↔◌, ℕ, ◌*◌, length, take, drop}
use Rattle.std.proofs.Common.{ap}
use mathlib.Core.List.{List, Memᴰ}
use Rattle.basis.specs.Sizes.{most_monitors, mask_width, owed_at, state_size}
use Rattle.model.proofs.Debts.{Owes}
use Rattle.layout.specs.States.{decode}
use Rattle.calls.specs.Calls.{Bytes, fresh_call, take_call}
use Rattle.calls.specs.TwoReplicas.{Side, Held, Event, Befalls, begin, end, inputs, NoClash}
use Rattle.calls.proofs.Theorem.{theorem}

-- the bytes of the owed masks
abbrev pub mask_bytes : Bytes → Bytes
mask_bytes b = take (most_monitors * mask_width) (drop owed_at b)

-- of any two states that the replicas held between calls at one position, on one replica or on both, at whatever times: the masks have the same bytes, and say the same pairs
pub record OweTheSame (h k : Held) : Type 0 where
  pub bytes : mask_bytes h.bytes ≡ mask_bytes k.bytes
  pub pairs : (m g : ℕ) → Owes (decode h.bytes) m g ↔ Owes (decode k.bytes) m g

pub same_debts : (buffers : Side → Bytes) → ((c : Side) → length (buffers c) ≡ state_size) → (es : List Event) → Befalls fresh_call take_call (begin fresh_call take_call buffers) es → NoClash (inputs es)
    → (c d : Side) (h k : Held) → Memᴰ h (end fresh_call take_call (begin fresh_call take_call buffers) es c).history → Memᴰ k (end fresh_call take_call (begin fresh_call take_call buffers) es d).history
    → h.position ≡ k.position → OweTheSame h k
same_debts buffers empty es t nc c d h k i j e =
    let same : h.bytes ≡ k.bytes = (theorem buffers empty es t nc).equal_states c d h k i j e in
    record { bytes = ap mask_bytes same; pairs = λ m g. rw same (λ o. o, λ o. o) }
