-- Whatever is handed in, done or refused: what the filled bytes are read as is what was answered 0. Assumes nothing.
use Rattle.std.specs.Prelude.{◌≡◌, refl, ℕ, Bool, true, false, cond, List, [], ◌∷◌, eqb}
use Rattle.std.proofs.Common.{◌∙◌, eqb-true}
use Rattle.std.proofs.Math.Option.{Option, some}
use Rattle.std.proofs.lemmas.Bool.{eqb-false}
use Rattle.model.specs.Statement.{Statement}
use Rattle.statements.specs.declared.Operation.{Operation}
use Rattle.writer.specs.Writer.{Written, refused_by, written, held, begin_on, add_to, add_operation, add_branch}
use Rattle.writer.specs.WriterLaws.{Answered, filled, malformed, short, answered}
use Rattle.rewriter.specs.Additions.{Addition, operation, branch, no_part, hand_in, hand_all, grow, grow_all}
use Rattle.rewriter.specs.RoundTrips.{taken, Grown, ReadBack, first, begun_held, read_back}

-- of the additions handed in one after the other, those that are answered 0
unfoldable pub accepted : Written → List (Addition Operation) → List (Addition Operation)
accepted w [] = []
accepted w (x ∷ xs) = cond (eqb (hand_in w x).answer 0) (x ∷ accepted (hand_in w x) xs) (accepted (hand_in w x) xs)

-- a refusal leaves what the filled bytes are
refused_keeps : (buffer : List ℕ) (fill : ℕ) (o : Option Statement) → ((written buffer fill o).answer ≡ 0 → ⊥) → held (written buffer fill o).bytes (written buffer fill o).fill ≡ held buffer fill
unfolding refused_by
refused_keeps buffer fill o z = go (written buffer fill o) (answered buffer fill o) z
  where
    go : (w : Written) → Answered buffer fill o w → (w.answer ≡ 0 → ⊥) → held w.bytes w.fill ≡ held buffer fill
    go w (filled st e f) z = absurd (z f.done)
    go w (malformed l e) z = rw e
    go w (short st e t l q) z = rw q

kept : (w : Written) (st : Statement) (x : Addition Operation) → held w.bytes w.fill ≡ some st → ((hand_in w x).answer ≡ 0 → ⊥) → held (hand_in w x).bytes (hand_in w x).fill ≡ some st
unfolding hand_in add_operation add_branch add_to
kept w st (operation p) e z = refused_keeps w.bytes w.fill _ z ∙ e
kept w st (branch p) e z = refused_keeps w.bytes w.fill _ z ∙ e

accepted_held : (w : Written) (st : Statement) (xs : List (Addition Operation)) → held w.bytes w.fill ≡ some st → Grown (hand_all w xs) st (accepted w xs)
unfolding accepted hand_all grow_all
accepted_held w st [] e = record { ys = []; parts = no_part; now = e }
accepted_held w st (x ∷ xs) e = go (eqb (hand_in w x).answer 0) refl (λ now q. accepted_held (hand_in w x) now xs q)
  where
    go : (b : Bool) → eqb (hand_in w x).answer 0 ≡ b → ((now : Statement) → held (hand_in w x).bytes (hand_in w x).fill ≡ some now → Grown (hand_all (hand_in w x) xs) now (accepted (hand_in w x) xs))
        → Grown (hand_all w (x ∷ xs)) st (accepted w (x ∷ xs))
    go true q more =
        let t = taken w st x e (eqb-true _ _ q) in
        let r = more (grow st t.y) t.now in
        record { ys = t.y ∷ r.ys; parts = rw q (t.part r.parts); now = r.now }
    go false q more =
        let r = more st (kept w st x e (eqb-false _ _ q)) in
        record { ys = r.ys; parts = rw q r.parts; now = r.now }

-- Whatever is handed in after a begin that is done, the filled bytes are read as exactly what was answered 0.
pub accepted_read : (buffer : List ℕ) (h p : ℕ) (g : Operation) (xs : List (Addition Operation)) → (begin_on buffer h p g).answer ≡ 0
    → ReadBack h p g (accepted (begin_on buffer h p g) xs) (hand_all (begin_on buffer h p g) xs)
accepted_read buffer h p g xs z =
    let w : Written = begin_on buffer h p g in
    read_back buffer h p g z (accepted w xs) (hand_all w xs) (accepted_held w (first buffer h p g z) xs (begun_held buffer h p g z))
