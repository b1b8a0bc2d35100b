-- A sound run: one that meets every condition of "The state buffer" and whose numbers fit their widths. The run of a stream is always sound (`Preserve`). Assumes nothing.
use Rattle.std.specs.Prelude.{◌≡◌, ℕ, ◌<◌, length, T}
use Rattle.std.proofs.Math.Option.{some}
use Rattle.basis.specs.ListLaws.{Each}
use Rattle.basis.specs.Sizes.{hosts, processes, positions}
use Rattle.model.specs.Legal.{parse}
use Rattle.model.specs.Writing.{statement_bytes}
use Rattle.model.specs.Run.{Access, shared, private, Space, Waiting, Run}
use Rattle.model.specs.Valid.{valid_run}
use Rattle.model.proofs.Debts.{Masks}

abbrev pub OwnerFits : Access → Type 0
OwnerFits shared = Unit {0}
OwnerFits (private owner) = owner < processes

pub record Sound (s : Run) : Type 0 where
  pub last : s.last < positions
  pub hosts : length s.up ≡ hosts
  pub owners : Each (λ (a : Space). OwnerFits a.access) s.spaces
  -- a waiting statement is what its written body is read as
  pub written : Each (λ (w : Waiting). parse (statement_bytes w.statement) ≡ some w.statement) s.waiting
  pub owed : Masks s.owed
  pub valid : T (valid_run s)
