-- "Whether two templates can ever meet": each the bytes of one operation, codes 1 to 4. Assumes nothing.
use Rattle.std.specs.Prelude.{ℕ, Bool, true, false, ◌&&◌, ◌||◌, cond, List, [], ◌∷◌, replicate, eqb}
use Rattle.std.proofs.Math.Option.{Option, none, some}
use Rattle.basis.specs.Choice.{maybe, provided}
use Rattle.basis.specs.Lists.{any}
use Rattle.basis.specs.Sizes.{variables}
use Rattle.model.specs.Value.{whole, Range, at_most}
use Rattle.model.specs.Statement.{Field, Operation, always, lookup, deposit, transfer}
use Rattle.model.specs.Reading.{whole_of, operation}
use Rattle.model.specs.Legal.{Kinds, no_kinds, form_of, legal_lookup}
use Rattle.model.specs.Matching.{unbound, TemplateField, Template, template}

-- every variable has been bound before, so that of a form 2 is asked "only that its variable is 0 to 15"
abbrev pub every_kind : Kinds
every_kind = replicate variables (some whole)

-- An operation by itself, codes 1 to 4: space and fields, where they are legal and no variable is bound twice. Which code it is plays no part.
unfoldable pub lookup_alone : Operation → Option (ℕ × List Field)
lookup_alone always = none
lookup_alone (lookup withdraws blocks s fs) = provided (legal_lookup every_kind no_kinds s fs) (s, fs)
lookup_alone (deposit s fs) = none
lookup_alone (transfer withdraws from to fs) = none

-- the bytes of one such operation, and nothing more
unfoldable pub lookup_in : List ℕ → Option (ℕ × List Field)
lookup_in bytes = maybe (whole_of operation bytes) none lookup_alone

-- a form 2 is among the fields
unfoldable pub refers : List Field → Bool
refers fs = any (λ f. eqb (form_of f) 2) fs

-- two ranges share a value: neither begins above the other's end
unfoldable pub overlap : (kind : ℕ) → Range → Range → Bool
overlap k r q = at_most k r.lowest q.highest && at_most k q.lowest r.highest

-- one value meets both fields: of one kind, and in both ranges where two are given
unfoldable pub fields_meet : TemplateField → TemplateField → Bool
fields_meet f g = eqb f.kind g.kind && maybe f.given true (λ r. maybe g.given true (λ q. overlap f.kind r q))

unfoldable pub each_meets : List TemplateField → List TemplateField → Bool
each_meets [] [] = true
each_meets [] (g ∷ gs) = false
each_meets (f ∷ fs) [] = false
each_meets (f ∷ fs) (g ∷ gs) = fields_meet f g && each_meets fs gs

-- the same space, and as many fields
unfoldable pub meet : Template → Template → Bool
meet μ ν = eqb μ.space ν.space && each_meets μ.fields ν.fields

-- the template of a space and fields, with no variable bound
abbrev pub template_of : ℕ × List Field → Template
template_of x = template unbound x.0 x.1

-- of two operations' spaces and fields: "Any form 2 is refused 19"; else 1 or 0
unfoldable pub meeting : (x y : ℕ × List Field) → ℕ
meeting x y = cond (refers x.1 || refers y.1) 19 (cond (meet (template_of x) (template_of y)) 1 0)

-- 19 comes "after 6", of either
unfoldable pub can_meet : (first second : List ℕ) → ℕ
can_meet a b = maybe (lookup_in a) 6 (λ x. maybe (lookup_in b) 6 (meeting x))
