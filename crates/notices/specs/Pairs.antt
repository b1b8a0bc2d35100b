-- What the contracts cite. Assumes nothing.
use Rattle.std.specs.Prelude.{ℕ, ◌≤◌, ◌<◌}
use Rattle.basis.specs.Sizes.{hosts}
use Rattle.model.specs.Run.{Run}

-- a monitor number that was given, and a host
pub record IsPair (s : Run) (monitor host : ℕ) : Type 0 where
  pub one : 1 ≤ monitor
  pub given : monitor ≤ s.monitors
  pub low : host < hosts
