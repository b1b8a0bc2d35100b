-- The filled bytes of a buffer that are a legal body, and parts that are handed in. Assumes nothing.
use Rattle.std.specs.Prelude.{◌≡◌, refl, Bool, true, false, cond, List, ℕ, ◌≤◌, ◌<◌, length, take, T, leb}
use Rattle.std.proofs.Common.{sym, ◌∙◌, true≢false, arith, length-take-le, leb→le, le-leb}
use Rattle.std.proofs.Math.Option.{Option, none, some, none-ne-some}
use Rattle.std.proofs.lemmas.Bool.{lt-leb}
use Rattle.basis.specs.Choice.{is_some, provided}
use Rattle.basis.specs.Logic.{true_is}
use Rattle.basis.specs.Sizes.{most_body}
use Rattle.model.specs.Statement.{Statement}
use Rattle.model.specs.Legal.{legal_statement, parse, legal_body}
use Rattle.model.proofs.ReadBack.{parse_some}
use Rattle.statements.specs.declared.Operation.{Operation}
use Rattle.statements.specs.Flat.{operation_is}
use Rattle.writer.specs.Writer.{is_handed, handed, held}

pub handed_some : (o : Operation) → is_handed o ≡ true → handed o ≡ some (operation_is o)
unfolding handed provided
handed_some o e = rw e

-- the filled bytes of a legal body
pub record Held (buffer : List ℕ) (fill : ℕ) (st : Statement) : Type 0 where
  pub within : fill ≤ length buffer
  pub parses : parse (take fill buffer) ≡ some st
  pub size : fill ≤ most_body
  pub legal : T (legal_statement st)

pub held_some : (buffer : List ℕ) (fill : ℕ) (st : Statement) → held buffer fill ≡ some st → Held buffer fill st
unfolding held
held_some buffer fill st e = go (leb fill (length buffer)) refl e
  where
    go : (t : Bool) → leb fill (length buffer) ≡ t → cond t (parse (take fill buffer)) none ≡ some st → Held buffer fill st
    go true q e =
        let w : fill ≤ length buffer = leb→le fill (length buffer) (true_is (leb fill (length buffer)) q) in
        let k = parse_some (take fill buffer) st e in
        record { within = w; parses = e; size = omega (arith, k.size, length-take-le fill buffer w); legal = k.legal }
    go false q e = absurd (none-ne-some st e)

pub held_is : (buffer : List ℕ) (fill : ℕ) → is_some (held buffer fill) ≡ true → (st : Statement) × (held buffer fill ≡ some st)
unfolding is_some
held_is buffer fill e = go (held buffer fill) refl e
  where
    go : (o : Option Statement) → held buffer fill ≡ o → is_some o ≡ true → (st : Statement) × (held buffer fill ≡ some st)
    go none q e = absurd (true≢false (sym e))
    go (some st) q e = (st, q)

pub held_past : (buffer : List ℕ) (fill : ℕ) → length buffer < fill → false ≡ is_some (held buffer fill)
unfolding held is_some
held_past buffer fill h = rw (lt-leb fill (length buffer) h)

pub held_body : (buffer : List ℕ) (fill : ℕ) (r : Bool) → fill ≤ length buffer → r ≡ legal_body (take fill buffer) → r ≡ is_some (held buffer fill)
unfolding held legal_body
held_body buffer fill r h e = e ∙ rw (le-leb fill (length buffer) h)

pub body_held : (buffer : List ℕ) (fill : ℕ) → is_some (held buffer fill) ≡ true → legal_body (take fill buffer) ≡ true
unfolding legal_body is_some
body_held buffer fill e = let st = held_is buffer fill e in rw (held_some buffer fill st.0 st.1).parses
