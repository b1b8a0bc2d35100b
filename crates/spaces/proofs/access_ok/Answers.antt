-- `spaces::access_ok` meets its contract. Assumes nothing.
use native.Mathlib.Omega.{arith}
use Rattle.spaces.specs.LegalLaws.{access_private, access_odd, access_shared}
use Rattle.spaces.proofs.access_ok.Goals as goal

pub returns-in-0 : goal.returns-in-0
returns-in-0 c = access_shared _ _ _ _ _ c.requires.1 c.field.ensures (λ e. omega (arith, c.in-0.is)) c.in-0.is c.field-in-0.ensures

pub returns-in-1 : goal.returns-in-1
returns-in-1 c = access_private _ _ _ _ 0 c.requires.1 c.field.ensures c.in-1.is

pub returns-in_default : goal.returns-in_default
returns-in_default c = access_odd _ _ _ _ 0 c.requires.1 c.field.ensures (λ e. omega arith) (λ e. omega arith)
