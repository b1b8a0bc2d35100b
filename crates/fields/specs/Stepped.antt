-- The kinds after one field of an operation. Assumes nothing.
use Rattle.std.specs.Prelude as rust
use Rattle.std.specs.Prelude.{◌≡◌, ℕ, true, false, ◌&&◌, List, None, Some}
use Rattle.std.proofs.Math.Option.{Option}
use Rattle.basis.specs.Choice.{provided}
use Rattle.model.specs.Statement as model
use Rattle.model.specs.Legal.{Kinds, legal_field, bind_kind}
use Rattle.fields.specs.Kinds.{kinds_are, bound_is}
use Rattle.fields.specs.Forms.{allows}

-- the kinds after one field
unfoldable pub stepped : (code : ℕ) (earlier now : Kinds) → model.Field → (form : ℕ) → Option Kinds
stepped code earlier now f form = provided (allows code form && legal_field earlier now f) (bind_kind now f)

pub stepped_refused : (code : ℕ) (earlier now : Kinds) (f : model.Field) (form : ℕ) → (allows code form && legal_field earlier now f) ≡ false → bound_is None ≡ stepped code earlier now f form
unfolding bound_is stepped provided
stepped_refused code earlier now f form e = rw e

pub stepped_legal : (code : ℕ) (earlier now : Kinds) (f : model.Field) (form : ℕ) (kinds : List (rust.Option ℕ)) → (allows code form && legal_field earlier now f) ≡ true
    → kinds_are kinds ≡ bind_kind now f → bound_is (Some kinds) ≡ stepped code earlier now f form
unfolding bound_is stepped provided
stepped_legal code earlier now f form kinds e k = rw (e, k)
