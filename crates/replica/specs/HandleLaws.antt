-- A record handled: what it has come to, then rule 7; and check 6. Assumes nothing.
use Rattle.std.specs.Prelude.{◌≡◌, ℕ, ◌+◌, ◌*◌, ◌≤◌, Bool, true, length, take, drop, get_or, T}
use Rattle.std.proofs.Math.Path.{refl}
use Rattle.std.proofs.Common.{sym, ap, subst, ◌∙◌, arith, true≢false, length-append, take_at, drop_at, drop-drop}
use Rattle.std.proofs.Math.Bool.{false}
use Rattle.std.proofs.Math.Option.{Option, none, some, map}
use mathlib.Core.List.{List, ◌++◌, flat_map, append_assoc}
use Rattle.basis.specs.Choice.{maybe, is_some, first_number}
use Rattle.basis.specs.Logic.{true_is}
use Rattle.basis.specs.PadLaws.{flat_map_append}
use Rattle.basis.specs.Numbers.{number_at}
use Rattle.basis.specs.Sizes.{host_at, process_width, process_at, reply_size, most_reply}
use Rattle.model.specs.Statement.{Statement}
use Rattle.model.specs.Legal.{parse, legal_body}
use Rattle.model.specs.Run.{Run, laid, Turn, continued, settle}
use Rattle.model.specs.Step.{Mark, AG, Request, guarded, request_of, checks, refused, malformed, effect, settled, handled}
use Rattle.layout.specs.Replies.{reply_bytes, replies_bytes}
use Rattle.layout.specs.States.{decode}
use Rattle.layout.specs.Stored.{IsStored, Turned, statement_of, legal_parse}
use Rattle.header.specs.StoredLaws.{stored_says, said}
use Rattle.walk.specs.Walk.{body_is}
use Rattle.handling.specs.Answers.{Took}
use Rattle.handling.specs.AnswerLaws.{along}
use Rattle.wakes.specs.Woken.{Further}
use Rattle.replica.specs.Asks.{asked}

-- ---- a refusal

-- the host and the process of a statement, as the code reads them
pub refused_body : (s : Run) (body : List ℕ) (p k : ℕ) (buffer state out : List ℕ) (n : ℕ) → T (legal_body body) → p ≡ number_at process_at process_width body
    → Turned (refused s (get_or body host_at 0) p k) buffer state out n → Turned (refused s (statement_of body).host (statement_of body).process k) buffer state out n
refused_body s body p k buffer state out n t e h =
    along (refused s (get_or body host_at 0) p k) (refused s (statement_of body).host (statement_of body).process k) buffer state out n (λ i. refused s ((body_is body t).host i) ((e ∙ (body_is body t).process) i) k) h

-- ---- the room for rule 7

-- what rule 7 asks of the buffers, after a reply of a record's own
pub settle_may : (t : Turn) (buffer state out : List ℕ) (own : ℕ) → Turned t buffer state out own → own ≤ most_reply → reply_size ≤ length out
    → IsStored state × (own + most_reply * length (decode state).waiting ≤ length out)
settle_may t buffer state out own h short room = let i = said state t.run h.stored in (i, omega (arith, i.fit.waiting.few))

-- ---- a record handled

pub handled_done : (s : Run) (q : Request) (buffer middle out state state' : List ℕ) (own n : ℕ) → first_number (checks s q) ≡ none
    → Turned (effect s q) buffer state middle own → Further (settle (laid (decode state))) own middle state' out n → Turned (handled s q) buffer state' out n
unfolding handled settled continued replies_bytes
handled_done s q buffer middle out state state' own n none_of t f =
    let u : Turn = effect s q in
    let v : Turn = settle (laid u.run) in
    let same : settle (laid (decode state)) ≡ v = ap (λ (s : Run). settle (laid s)) (stored_says state u.run t.stored) in
    let A : List ℕ = flat_map reply_bytes u.replies in
    let B : List ℕ = flat_map reply_bytes v.replies in
    let both : flat_map reply_bytes (u.replies ++ v.replies) ≡ A ++ B = flat_map_append reply_bytes u.replies v.replies in
    let front : take own middle ≡ A = ap (take own) t.bytes ∙ take_at A (drop (length A) buffer) own (sym t.number) in
    let back : drop own middle ≡ drop (length A) buffer = ap (drop own) t.bytes ∙ drop_at A (drop (length A) buffer) own (sym t.number) in
    let past : drop (length B) (drop (length A) buffer) ≡ drop (length (A ++ B)) buffer = drop-drop (length B) (length A) buffer ∙ ap (λ (k : ℕ). drop k buffer) (sym (length-append A B)) in
    let g : Further v own middle state' out n = subst (λ (w : Turn). Further w own middle state' out n) same f in
    rw none_of (record {
      stored = g.stored;
      bytes = g.bytes ∙ (λ i. front i ++ (B ++ drop (length B) (back i))) ∙ sym (append_assoc A B (drop (length B) (drop (length A) buffer))) ∙ (λ i. sym both i ++ past i) ∙ ap (λ (k : ℕ). flat_map reply_bytes (u.replies ++ v.replies) ++ drop k buffer) (ap length (sym both));
      number = omega (arith, g.number, t.number, ap length both, length-append A B);
    })

-- of a record but AG
pub took_done : (o : Option Request) (s : Run) (buffer middle out state state' : List ℕ) (own n : ℕ) → Took o s buffer state middle own → Further (settle (laid (decode state))) own middle state' out n
    → Turned (maybe o (malformed s) (handled s)) buffer state' out n
took_done o s buffer middle out state state' own n t f = rw t.asked (handled_done s t.request buffer middle out state state' own n t.passes t.turned f)

-- ---- check 6

-- what is asked is the request that a body is
pub asked_as : (m : Mark) (body : List ℕ) (s : Run) (o : Option Request) (buffer state out : List ℕ) (n : ℕ) → o ≡ request_of m body → Turned (maybe o (malformed s) (handled s)) buffer state out n → Turned (asked m body s) buffer state out n
unfolding asked
asked_as m body s o buffer state out n e t = rw (← e) t

module _ (body : List ℕ) (r : Bool) where
  pub statement_yes : r ≡ legal_body body → r ≡ true → request_of AG body ≡ some (guarded (statement_of body))
  unfolding request_of
  statement_yes e z = rw (legal_parse body (true_is (legal_body body) (sym e ∙ z)))

  pub statement_no : r ≡ legal_body body → r ≡ false → request_of AG body ≡ none
  unfolding request_of legal_body is_some
  statement_no e z = go (parse body) (sym e ∙ z)
    where
      go : (o : Option Statement) → is_some o ≡ false → map guarded o ≡ none
      go none z = refl
      go (some st) z = unfold is_some in absurd (true≢false z)
