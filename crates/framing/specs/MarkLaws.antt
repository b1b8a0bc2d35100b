-- The mark that bytes are, by the tests in order. Assumes nothing.
use Rattle.std.specs.Prelude.{◌≡◌, ℕ, cond, List, [], ◌∷◌}
use Rattle.std.proofs.Math.Path.{refl}
use Rattle.std.proofs.Math.Option.{none, some}
use Rattle.basis.specs.Lists.{same_bytes}
use Rattle.model.specs.Step.{RV, CR, MO, MS, DS, AG, mark_bytes, mark_among, mark_of}

pub mark_cases : (bytes : List ℕ) → mark_of bytes ≡ cond (same_bytes (82 ∷ 86 ∷ []) bytes) (some RV) (cond (same_bytes (67 ∷ 82 ∷ []) bytes) (some CR) (cond (same_bytes (77 ∷ 79 ∷ []) bytes) (some MO)
    (cond (same_bytes (77 ∷ 83 ∷ []) bytes) (some MS) (cond (same_bytes (68 ∷ 83 ∷ []) bytes) (some DS) (cond (same_bytes (65 ∷ 71 ∷ []) bytes) (some AG) none)))))
unfolding mark_of mark_among mark_bytes
mark_cases bytes = refl
