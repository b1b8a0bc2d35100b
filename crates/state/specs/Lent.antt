-- The tuples of a stored state, as their section is lent. Assumes nothing.
use Rattle.std.specs.Prelude.{◌≡◌, ℕ, List, length}
use Rattle.std.proofs.Math.Path.{refl}
use Rattle.std.proofs.Common.{arith}
use Rattle.basis.specs.ListLaws.{Each}
use Rattle.model.specs.Run.{Run}
use Rattle.model.proofs.Fit.{Fit}
use Rattle.model.proofs.SpaceLaws.{open_below}
use Rattle.layout.specs.States.{decode}
use Rattle.layout.specs.Stored.{IsStored}
use Rattle.sections.specs.Shapes.{holds, holds_read}
use Rattle.header.specs.Rows.{parts_of, tuples_part, tuples_lent}
use Rattle.header.specs.StoredLaws.{part_holds}
use Rattle.tuples.specs.Section.{Legal, tuple_shape, tuples_of, Holds, Section}

tuples_legal_lem : (s : Run) → Fit s → Each Legal s.tuples
tuples_legal_lem s f t m = let k = f.tuples.each t m in (k.0, omega (arith, open_below s.spaces s.next t.space f.spaces.below k.1, f.spaces.limit))

module _ (b : List ℕ) (n : ℕ) (h : IsStored b) (e : n ≡ length (decode b).tuples) where
  pub tuples_lent_lem : Holds (tuples_lent b) n (decode b).tuples
  unfolding parts_of
  tuples_lent_lem = let s : Run = decode b in rw e (part_holds tuple_shape b s h tuples_part (omega arith) s.tuples refl h.fit.tuples.few (tuples_legal_lem s h.fit))

  pub tuples_read : tuples_of (tuples_lent b) n ≡ (decode b).tuples
  tuples_read = holds_read tuple_shape _ n (decode b).tuples tuples_lent_lem

  pub is_section : Section (tuples_lent b) n
  is_section = holds tuple_shape _ n (decode b).tuples tuples_lent_lem
