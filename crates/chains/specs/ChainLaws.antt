-- A refusal stays, so that 0 is told only where each call was done; no call changes the buffer's length. Assumes nothing.
use Rattle.std.specs.Prelude.{◌≡◌, refl, List, ℕ, length, eqb}
use Rattle.std.proofs.Common.{ap, eq-eqb, ne_eqb, eqb-true}
use Rattle.std.proofs.Math.Option.{Option}
use Rattle.basis.specs.Choice.{cond_ind}
use Rattle.model.specs.Statement.{Statement}
use Rattle.statements.specs.declared.Operation.{Operation}
use Rattle.writer.specs.Writer.{Written, refused_by, begin_on, add_to, add_operation, add_branch}
use Rattle.writer.specs.WriterLaws.{Answered, filled, malformed, short, answered, written_length}
use Rattle.chains.specs.Chains.{onward, operation_more, branch_more}

-- ---- a refused begin

refused : (buffer : List ℕ) (fill : ℕ) (o : Option Statement) (w : Written) → Answered buffer fill o w → (w.answer ≡ 0 → ⊥) → w.fill ≡ fill
unfolding refused_by
refused buffer fill o w (filled st e f) h = absurd (h f.done)
refused buffer fill o w (malformed n e) h = ap (λ (v : Written). v.fill) e
refused buffer fill o w (short st q t l e) h = ap (λ (v : Written). v.fill) e

-- a begin that is refused has filled no byte
pub refused_begin : (buffer : List ℕ) (host process : ℕ) (guard : Operation) → ((begin_on buffer host process guard).answer ≡ 0 → ⊥) → (begin_on buffer host process guard).fill ≡ 0
unfolding begin_on
refused_begin buffer host process guard h = refused buffer 0 _ _ (answered buffer 0 _) h

-- ---- a refusal stays

-- after a refusal an addition changes nothing, and the answer is that of the refusal
pub refusal_stays : (add : (buffer : List ℕ) (fill : ℕ) → Operation → Written) (o : Written) (x : Operation) → (o.answer ≡ 0 → ⊥) → onward add o x ≡ o
unfolding onward
refusal_stays add o x h = rw (ne_eqb o.answer 0 h) refl

-- where each call before it was done, it is the addition alone
pub goes_on_lem : (add : (buffer : List ℕ) (fill : ℕ) → Operation → Written) (o : Written) (x : Operation) → o.answer ≡ 0 → onward add o x ≡ add o.bytes o.fill x
unfolding onward
goes_on_lem add o x e = rw (eq-eqb o.answer 0 e) refl

-- an operation goes into the last branch, a branch after the others
pub operation_goes_on : (o : Written) (x : Operation) → o.answer ≡ 0 → operation_more o x ≡ add_operation o.bytes o.fill x
operation_goes_on o x e = goes_on_lem add_operation o x e

pub branch_goes_on : (o : Written) (g : Operation) → o.answer ≡ 0 → branch_more o g ≡ add_branch o.bytes o.fill g
branch_goes_on o g e = goes_on_lem add_branch o g e

-- the answer 0 is told only where each call before was done too
pub all_done : (add : (buffer : List ℕ) (fill : ℕ) → Operation → Written) (o : Written) (x : Operation) → (onward add o x).answer ≡ 0 → o.answer ≡ 0
unfolding onward
all_done add o x = cond_ind (λ (w : Written). w.answer ≡ 0 → o.answer ≡ 0) (eqb o.answer 0) _ _ (λ e z. eqb-true o.answer 0 e) (λ e z. z)

-- ---- lengths

pub length_begin : (buffer : List ℕ) (host process : ℕ) (guard : Operation) → length (begin_on buffer host process guard).bytes ≡ length buffer
unfolding begin_on
length_begin buffer host process guard = written_length buffer 0 _

pub length_operation : (buffer : List ℕ) (fill : ℕ) (operation : Operation) → length (add_operation buffer fill operation).bytes ≡ length buffer
unfolding add_operation add_to
length_operation buffer fill operation = written_length buffer fill _

pub length_branch : (buffer : List ℕ) (fill : ℕ) (guard : Operation) → length (add_branch buffer fill guard).bytes ≡ length buffer
unfolding add_branch add_to
length_branch buffer fill guard = written_length buffer fill _

-- an addition that leaves the length leaves it in a chain as well
pub length_onward : (add : (buffer : List ℕ) (fill : ℕ) → Operation → Written) → ((buffer : List ℕ) (fill : ℕ) (x : Operation) → length (add buffer fill x).bytes ≡ length buffer) → (o : Written) (x : Operation) → length (onward add o x).bytes ≡ length o.bytes
unfolding onward
length_onward add l o x = cond_ind (λ (w : Written). length w.bytes ≡ length o.bytes) (eqb o.answer 0) _ _ (λ e. l o.bytes o.fill x) (λ e. refl)
