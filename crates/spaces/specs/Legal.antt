-- What "The state buffer" asks of the open spaces, of their section and its count. Assumes nothing.
use Rattle.std.specs.Prelude.{ℕ, Bool, ◌&&◌, ◌||◌, List, eqb, ltb}
use Rattle.basis.specs.Lists.{all, any, pairwise, same_bytes}
use Rattle.basis.specs.Numbers.{number_at}
use Rattle.basis.specs.Sizes.{kind_width, process_width, space_kind_at, space_owner_at, space_size, spaces_size}
use Rattle.model.specs.Run.{Space}
use Rattle.model.specs.Valid.{is_shared}
use Rattle.layout.specs.States.{space_bytes, area}
use Rattle.spaces.specs.Spaces.{spaces_of}

abbrev pub lower : Space → Space → Bool
lower a b = ltb a.number b.number

abbrev pub zero_open : Space → Bool
zero_open a = eqb a.number 0 && is_shared a.access

abbrev pub below_next : ℕ → Space → Bool
below_next next a = ltb a.number next

-- the section is that of the spaces that it says; "Spaces rise by number", "space 0 is open and shared, spaces are below the next number"
unfoldable pub spaces_legal : List ℕ → (n next : ℕ) → Bool
spaces_legal p n next =
    same_bytes (area spaces_size space_size space_bytes (spaces_of p n)) p
    && (pairwise lower (spaces_of p n) && (any zero_open (spaces_of p n) && all (below_next next) (spaces_of p n)))

-- kind and owner of a row: private, or shared, whose owner is 0
unfoldable pub access_ok : List ℕ → Bool
access_ok r = eqb (number_at space_kind_at kind_width r) 1 || (eqb (number_at space_kind_at kind_width r) 0 && eqb (number_at space_owner_at process_width r) 0)
