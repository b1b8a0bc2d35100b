-- The fresh state is a state, and a step leaves one. Assumes nothing.
use Rattle.std.specs.Prelude.{◌≡◌, ℕ, suc, true, T}
use Rattle.std.proofs.Math.Option.{some}
use Rattle.std.proofs.Math.Pow.{are_bytes}
use Rattle.model.specs.Run.{Run, fresh, Turn}
use Rattle.model.proofs.Sound.{Sound}
use Rattle.model.proofs.Preserve.{fresh_sound}
use Rattle.layout.specs.States.{encode}
use Rattle.layout.specs.IsState.{is_state}
use Rattle.layout.specs.StateLaws.{encode_state}
use Rattle.calls.specs.Calls.{Bytes, number_of, step_bytes}
use Rattle.calls.proofs.CallLaws.{step_bytes_sound}

pub fresh_state : is_state (encode fresh) ≡ true
fresh_state = encode_state fresh fresh_sound

-- the next record keeps every limit
pub step_state : (s : Run) (x : Bytes) → Sound s → T (are_bytes x) → number_of x ≡ some (suc s.last) → is_state (encode (step_bytes s x).run) ≡ true
step_state s x h t e = encode_state (step_bytes s x).run (step_bytes_sound s x h t e)
