-- Laws of the two calls: what each does on the bytes of a sound run. Assumes nothing.
use Rattle.std.specs.Prelude.{◌≡◌, ◌⊎◌, ℕ, zero, suc, ◌+◌, ◌≤◌, ◌<◌, Bool, not, cond, ◌&&◌, ◌||◌, List, [], ◌∷◌, ◌++◌, length, take, drop, T, leb, ltb, eqb}
use Rattle.std.proofs.Math.Path.{refl, ap}
use Rattle.std.proofs.Common.{sym, subst, ◌∙◌, inl, inr, arith, leb→le, le→leb, lt→ltb, eqb→eq}
use Rattle.std.proofs.Math.Bool.{true, false}
use Rattle.std.proofs.Math.Option.{Option, none, some, some-injective, none-ne-some}
use Rattle.std.proofs.Math.Dec.{nleb→lt, nltb→le, eqb_refl}
use Rattle.std.proofs.Math.Pow.{are_bytes}
use Rattle.basis.specs.Choice.{maybe, provided, first_number}
use Rattle.basis.specs.Logic.{is_true, false_is, or_l, or_r}
use Rattle.basis.specs.Sizes.{mark_width, length_width, position_width, length_at, position_at, body_at, positions, reply_header_size, reply_size, state_size}
use Rattle.basis.specs.Numbers.{number_at}
use Rattle.basis.specs.NumberLaws.{number_at_lt, bytes_drop}
use Rattle.model.specs.Run.{Run, fresh, Reply, Turn}
use Rattle.model.specs.Step.{Mark, Record, mark_of, record_of, step}
use Rattle.model.proofs.Sound.{Sound}
use Rattle.model.proofs.Preserve.{step_sound, step_last}
use Rattle.layout.specs.Replies.{replies_bytes}
use Rattle.layout.specs.States.{encode, decode}
use Rattle.layout.specs.IsState.{is_state}
use Rattle.layout.specs.ReplyLaws.{replies_took}
use Rattle.layout.specs.StateLaws.{decode_encode, encode_state}
use Rattle.calls.specs.Calls.{Bytes, FreshAnswer, fresh_call, Lent, Answer, number_of, in_turn, refusal_at, refusal, step_bytes, laid_over, turned_back, taken, take_call}
use Rattle.calls.specs.TwoReplicas.{took}

-- ---- a record's bytes

-- a record's position is a number of four bytes, and its body is bytes
pub record IsRecord (x : Bytes) (r : Record) : Type 0 where
  pub position : r.position < positions
  pub body : T (are_bytes r.body)

record_of_lem : (x : Bytes) (r : Record) → T (are_bytes x) → record_of x ≡ some r → IsRecord x r
unfolding record_of provided
record_of_lem x r t e = go (mark_of (take mark_width x)) e
  where
    found : (m : Mark) (b : Bool) → cond b (some (record { mark = m; position = number_at position_at position_width x; body = drop body_at x })) none ≡ some r → IsRecord x r
    found m true e =
        let q = some-injective (record { mark = m; position = number_at position_at position_width x; body = drop body_at x }) r e in
        subst (IsRecord x) q (record { position = number_at_lt position_at position_width x t; body = bytes_drop body_at x t })
    found m false e = absurd (none-ne-some r e)

    go : (o : Option Mark) → maybe o none (λ m. cond (eqb (length x) (body_at + number_at length_at length_width x)) (some (record { mark = m; position = number_at position_at position_width x; body = drop body_at x })) none) ≡ some r → IsRecord x r
    go none e = absurd (none-ne-some r e)
    go (some m) e = found m (eqb (length x) (body_at + number_at length_at length_width x)) e

-- bytes that have a number are a record of that number
pub record Numbered (x : Bytes) (n : ℕ) : Type 0 where
  pub item : Record
  pub read : record_of x ≡ some item
  pub number : item.position ≡ n

pub numbered : (x : Bytes) (n : ℕ) → number_of x ≡ some n → Numbered x n
unfolding number_of
numbered x n e = go (record_of x) refl e
  where
    go : (o : Option Record) → record_of x ≡ o → maybe o none (λ r. some r.position) ≡ some n → Numbered x n
    go none q e = absurd (none-ne-some n e)
    go (some r) q e = record { item = r; read = q; number = some-injective r.position n e }

step_of : (s : Run) (x : Bytes) (r : Record) → record_of x ≡ some r → step_bytes s x ≡ step s r
unfolding step_bytes
step_of s x r q = rw q

-- a step keeps a run sound
pub step_bytes_sound : (s : Run) (x : Bytes) → Sound s → T (are_bytes x) → number_of x ≡ some (suc s.last) → Sound (step_bytes s x).run
step_bytes_sound s x h t e =
    let n = numbered x (suc s.last) e in
    let k = record_of_lem x n.item t n.read in
    rw (step_of s x n.item n.read) (step_sound s n.item h n.number k.position k.body)

-- a step sets the last number
pub step_bytes_last : (s : Run) (x : Bytes) (n : ℕ) → number_of x ≡ some n → (step_bytes s x).run.last ≡ n
step_bytes_last s x n e =
    let r = numbered x n e in
    rw (step_of s x r.item r.read) (step_last s r.item ∙ r.number)

-- ---- the checks 2 to 5

-- they pass only for the record after the last
pub passes_next : (last : ℕ) (x reply : Bytes) → refusal_at last x reply ≡ none → number_of x ≡ some (suc last)
unfolding refusal_at
passes_next last x reply e = reply_long (ltb (length reply) reply_size) e
  where
    in_turn_lem : (n : ℕ) (a b : Bool) → leb n last ≡ a → ltb (suc last) n ≡ b → first_number ((a, 4) ∷ (b, 5) ∷ []) ≡ none → n ≡ suc last
    in_turn_lem n true b p q e = unfold first_number in absurd (none-ne-some 4 (sym e))
    in_turn_lem n false true p q e = unfold first_number in absurd (none-ne-some 5 (sym e))
    in_turn_lem n false false p q e = omega (arith, nleb→lt n last (false_is (leb n last) p), nltb→le (suc last) n (false_is (ltb (suc last) n) q))

    has_number : (o : Option ℕ) → in_turn last o ≡ none → o ≡ some (suc last)
    has_number none e = unfold in_turn in absurd (none-ne-some 3 (sym e))
    has_number (some n) e = unfold in_turn in ap {B = Option ℕ} some (in_turn_lem n (leb n last) (ltb (suc last) n) refl refl e)

    reply_long : (b : Bool) → cond b (some 2) (in_turn last (number_of x)) ≡ none → number_of x ≡ some (suc last)
    reply_long true e = absurd (none-ne-some 2 (sym e))
    reply_long false e = has_number (number_of x) e

-- a failing check has a number from 2 to 5
pub refused_small : (last : ℕ) (x reply : Bytes) (n : ℕ) → refusal_at last x reply ≡ some n → (2 ≤ n) × (n ≤ 5)
unfolding refusal_at
refused_small last x reply n e = reply_long (ltb (length reply) reply_size) e
  where
    is : (m : ℕ) → some m ≡ some n → 2 ≤ m → m ≤ 5 → (2 ≤ n) × (n ≤ 5)
    is m e p q = let k = some-injective m n e in omega arith

    in_turn_lem : (a b : Bool) → first_number ((a, 4) ∷ (b, 5) ∷ []) ≡ some n → (2 ≤ n) × (n ≤ 5)
    in_turn_lem true b e = unfold first_number in is 4 e (omega arith) (omega arith)
    in_turn_lem false true e = unfold first_number in is 5 e (omega arith) (omega arith)
    in_turn_lem false false e = unfold first_number in absurd (none-ne-some n e)

    has_number : (o : Option ℕ) → in_turn last o ≡ some n → (2 ≤ n) × (n ≤ 5)
    has_number none e = unfold in_turn in is 3 e (omega arith) (omega arith)
    has_number (some m) e = unfold in_turn in in_turn_lem (leb m last) (ltb (suc last) m) e

    reply_long : (b : Bool) → cond b (some 2) (in_turn last (number_of x)) ≡ some n → (2 ≤ n) × (n ≤ 5)
    reply_long true e = is 2 e (omega arith) (omega arith)
    reply_long false e = has_number (number_of x) e

-- ---- the calls

pub fresh_made : (buffer : Bytes) → length buffer ≡ state_size → (fresh_call buffer).state ≡ encode fresh
unfolding fresh_call
fresh_made buffer e = rw e

-- what a taken call answers, of the run that its state is
abbrev pub taken_by : Run → Lent → Answer
taken_by s l =
    let t = step_bytes s l.input in
    let bytes = replies_bytes t.replies in
    record { returned = length bytes; state = encode t.run; reply = laid_over bytes l.reply }

-- a call on the bytes of a sound run
pub take_sound : (s : Run) (l : Lent) → Sound s → l.state ≡ encode s → take_call l ≡ maybe (refusal_at s.last l.input l.reply) (taken_by s l) (turned_back l)
unfolding take_call refusal taken
take_sound s l h e =
    let d : decode l.state ≡ s = ap decode e ∙ decode_encode s h in
    let i : is_state l.state ≡ true = ap is_state e ∙ encode_state s h in
    rw (i, d)

-- "no count of reply bytes is one of 1 to 5"
pub count_took : (rs : List Reply) (state reply : Bytes) → T (took (record { returned = length (replies_bytes rs); state = state; reply = reply }))
unfolding took
count_took rs state reply = go (replies_took rs)
  where
    go : (length (replies_bytes rs) ≡ 0) ⊎ (reply_header_size ≤ length (replies_bytes rs)) → T (eqb (length (replies_bytes rs)) 0 || ltb 5 (length (replies_bytes rs)))
    go (inl e) = or_l (eqb (length (replies_bytes rs)) 0) (ltb 5 (length (replies_bytes rs))) (rw e tt)
    go (inr h) = or_r (eqb (length (replies_bytes rs)) 0) (ltb 5 (length (replies_bytes rs))) (lt→ltb 5 (length (replies_bytes rs)) (omega arith))
