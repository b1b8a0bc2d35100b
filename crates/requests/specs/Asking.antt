-- What a record but AG asks, as the code says it. Assumes nothing.
use Rattle.std.specs.Prelude.{◌≡◌, ℕ, ◌<◌, Bool, true, ◌&&◌, List, length, get_or, eqb, ltb, None, Some}
use Rattle.std.specs.Prelude as code
use Rattle.std.proofs.Math.Option.{Option, none, some}
use Rattle.basis.specs.Numbers.{number_at}
use Rattle.basis.specs.Sizes.{hosts, space_numbers, host_at, process_at, process_width}
use Rattle.model.specs.Step as model
use Rattle.model.specs.Step.{recover, crash, monitor, open_space, close_space}
use Rattle.requests.specs.declared.Request.{Request}
use Rattle.requests.specs.declared.Request.TheVariants.{Recover, Crash, Monitor, Open, Close}

-- n bytes, the first a host
unfoldable pub from_host : List ℕ → ℕ → Bool
from_host body n = eqb (length body) n && ltb (get_or body host_at 0) hosts

-- that host
pub record IsFrom (body : List ℕ) (n host : ℕ) : Type 0 where
  pub yes : from_host body n ≡ true
  pub long : length body ≡ n
  pub at : host ≡ get_or body host_at 0
  pub small : host < hosts

-- that host, and the process after it
pub record AreFrom (body : List ℕ) (n host process : ℕ) : Type 0 where
  pub first : IsFrom body n host
  pub second : process ≡ number_at process_at process_width body

abbrev pub request_is : Request → model.Request
request_is (Recover h) = recover h
request_is (Crash h) = crash h
request_is (Monitor h p) = monitor h p
request_is (Open h p isPrivate) = open_space h p isPrivate
request_is (Close h p n) = close_space h p n

-- none where the body is malformed
abbrev pub asked_is : code.Option Request → Option model.Request
asked_is None = none
asked_is (Some q) = some (request_is q)

-- its host is one of the 16, and the space that it closes a space number
abbrev pub Within : Request → Type 0
Within (Recover h) = h < hosts
Within (Crash h) = h < hosts
Within (Monitor h p) = h < hosts
Within (Open h p isPrivate) = h < hosts
Within (Close h p n) = (h < hosts) × (n < space_numbers)
