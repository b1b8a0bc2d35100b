-- The variables of a branch as the code keeps them: for each number the value, where it is bound. Assumes nothing.
use Rattle.std.specs.Prelude as code
use Rattle.std.specs.Prelude.{None, Some}
use Rattle.std.specs.Prelude.{◌≡◌, refl, ℕ, List, map, length, get_or, set, replicate}
use Rattle.std.proofs.Common.{sym, ap, ◌∙◌}
use Rattle.std.proofs.Math.ListN.{get_or-map}
use Rattle.std.proofs.Math.Option.{none, some}
use Rattle.std.proofs.lemmas.List.{map-set, length-map}
use Rattle.basis.specs.Sizes.{variables}
use Rattle.model.specs.Value.{value, whole}
use Rattle.model.specs.Matching.{Bindings, unbound, value_of}
use Rattle.values.specs.declared.Scalar.{Scalar}
use Rattle.values.specs.Meaning.{scalar_is, scalar_given}
use Rattle.bindings.specs.declared.Vars.{Vars}

-- the bindings that a list of values is
abbrev pub bindings : List (code.Option Scalar) → Bindings
bindings vs = map scalar_given vs

abbrev pub bindings_of : Vars → Bindings
bindings_of v = bindings v.values

-- a variable's entry
pub bindings_at : (vs : List (code.Option Scalar)) (x : ℕ) → get_or (bindings vs) x none ≡ scalar_given (get_or vs x None)
bindings_at vs x = get_or-map scalar_given vs x None

-- a variable that is bound
pub bindings_set : (vs : List (code.Option Scalar)) (x : ℕ) (s : Scalar) → bindings (set vs x (Some s)) ≡ set (bindings vs) x (some (scalar_is s))
bindings_set vs x s = map-set scalar_given vs x (Some s)

-- at first none is bound
pub bindings_none : bindings (replicate variables None) ≡ unbound
bindings_none = refl

pub bindings_length : (vs : List (code.Option Scalar)) → length (bindings vs) ≡ length vs
bindings_length vs = length-map vs scalar_given

-- ---- a variable that the code reads

module _ (v : Vars) (x y : ℕ) (e : y ≡ x) where
  -- one that is bound
  pub read_bound : (s : Scalar) → get_or v.values y None ≡ Some s → scalar_is s ≡ value_of (bindings_of v) x
  read_bound s b =
      let k : get_or (bindings_of v) y none ≡ some (scalar_is s) = bindings_at v.values y ∙ ap scalar_given b in
      sym (rw (sym e, k))

  -- one that is not
  pub read_unbound : get_or v.values y None ≡ None → value whole 0 ≡ value_of (bindings_of v) x
  read_unbound b =
      let k : get_or (bindings_of v) y none ≡ none = bindings_at v.values y ∙ ap scalar_given b in
      sym (rw (sym e, k))
