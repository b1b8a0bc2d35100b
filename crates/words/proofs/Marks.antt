-- What `starts_with` tells of a mark. Assumes nothing.
use Rattle.std.specs.Prelude.{◌≡◌, refl, ℕ, ◌&&◌, Bool, List, [], ◌∷◌, length, take, eqb, nat_eq}
use Rattle.std.proofs.Common.{ap, ◌∙◌}
use Rattle.std.specs.Cmp.Lexicographic.{pointwise}
use Rattle.std.specs.List.{starts_with}
use Rattle.basis.specs.Lists.{same_bytes}

same_pointwise : (l k : List ℕ) → pointwise nat_eq l k ≡ same_bytes l k
unfolding same_bytes
same_pointwise [] [] = refl
same_pointwise [] (b ∷ k) = refl
same_pointwise (a ∷ l) [] = refl
same_pointwise (a ∷ l) (b ∷ k) = ap (λ (t : Bool). eqb a b && t) (same_pointwise l k)

pub same_start : (m l : List ℕ) (w : ℕ) → length m ≡ w → starts_with nat_eq l m ≡ same_bytes m (take w l)
same_start m l w e = same_pointwise m (take (length m) l) ∙ ap (λ (k : ℕ). same_bytes m (take k l)) e
