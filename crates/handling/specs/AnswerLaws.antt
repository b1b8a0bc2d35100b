-- A record's one reply, its checks from 7 on, and its effect. Assumes nothing.
use Rattle.std.specs.Prelude.{◌≡◌, refl, ℕ, ◌≤◌, Bool, true, ◌||◌, List, [], ◌∷◌, length, T, eqb, leb, Err}
use Rattle.std.proofs.Common.{sym, ap, subst, ◌∙◌, arith, le_refl}
use Rattle.std.proofs.Math.Bool.{false, not}
use Rattle.std.proofs.Math.Option.{Option, none, some, none-ne-some}
use Rattle.basis.specs.Choice.{maybe, first_number}
use Rattle.basis.specs.Logic.{and_l, and_r, is_false, is_true, not_not, not_eq}
use Rattle.basis.specs.Lists.{all}
use Rattle.basis.specs.Numbers.{number_at, count}
use Rattle.basis.specs.Sizes.{position_width, position_at, body_at, most_spaces, space_numbers, most_reply}
use Rattle.model.specs.Value.{Value}
use Rattle.model.specs.Run.{Run, with_monitors, host_up, next_monitor, monitors_used_up, Reply, Turn}
use Rattle.model.specs.Step.{Request, recover, crash, monitor, open_space, close_space, guarded, standing, access, some_waiting_names, checks, asking_host, asking_process, plain_reply, in_variable0, refused, replied, recovered, crashed, opened, closed, effect, settled, handled}
use Rattle.layout.specs.Replies.{replies_bytes}
use Rattle.layout.specs.ReplyLaws.{reply_length}
use Rattle.layout.specs.States.{decode}
use Rattle.layout.specs.Stored.{IsStored, Turned}
use Rattle.order.specs.declared.Refusal.{Refusal}
use Rattle.order.specs.Refusal.{refusal}
use Rattle.order.specs.RefusalLaws.{number_positive}
use Rattle.order.specs.Told.{number_of}
use Rattle.calls.specs.Calls.{number_of as position_of}
use Rattle.calls.proofs.CallLaws.{numbered}
use Rattle.replies.specs.Written.{reply, Wrote}
use Rattle.replies.specs.TurnLaws.{one_reply, turned_one}
use Rattle.framing.specs.FrameLaws.{record_parts}
use Rattle.handling.specs.declared.Refused.{Refused}
use Rattle.handling.specs.Answers.{Took, Answers}

-- ---- the position of a record

-- bytes that have a number are long enough for it, and it stands there
pub record Numbered (x : List ℕ) (n : ℕ) : Type 0 where
  pub long : body_at ≤ length x
  pub position : number_at position_at position_width x ≡ n

pub number_read : (x : List ℕ) (n : ℕ) → position_of x ≡ some n → Numbered x n
number_read x n e =
    let k = numbered x n e in
    let f = record_parts x k.item k.read in
    record { long = omega (arith, f.size); position = f.position ∙ k.number }

-- ---- one reply

-- the run as it is, and the reply at its last position
pub refused_turned : (b buffer out : List ℕ) (last h p n r : ℕ) → IsStored b → last ≡ (decode b).last → Wrote (reply last h p n 0 []) buffer out r → Turned (refused (decode b) h p n) buffer b out r
unfolding refused plain_reply
refused_turned b buffer out last h p n r k e w =
    turned_one (decode b) (reply (decode b).last h p n 0 []) b buffer out r k (subst (λ (l : ℕ). Wrote (reply l h p n 0 []) buffer out r) e w)

pub along : (t u : Turn) (buffer state out : List ℕ) (n : ℕ) → t ≡ u → Turned t buffer state out n → Turned u buffer state out n
along t u buffer state out n e h = subst (λ (v : Turn). Turned v buffer state out n) e h

-- ---- the checks, by the number that the code gets

nonzero : (cs : List (Bool × ℕ)) → T (all (λ c. not (eqb c.1 0)) cs) → refusal cs ≡ 0 → first_number cs ≡ none
unfolding refusal first_number all
nonzero [] t e = refl
nonzero (c ∷ cs) t e = go c.0 refl (nonzero cs)
  where
    go : (b : Bool) → c.0 ≡ b → (T (all (λ c. not (eqb c.1 0)) cs) → refusal cs ≡ 0 → first_number cs ≡ none) → first_number (c ∷ cs) ≡ none
    go true q later = unfold first_number refusal all in absurd (not_eq c.1 0 (and_l (not (eqb c.1 0)) (all (λ c. not (eqb c.1 0)) cs) t) (rw q at e))
    go false q later = unfold first_number refusal all in rw q (later (and_r (not (eqb c.1 0)) (all (λ c. not (eqb c.1 0)) cs) t) (rw q at e))

-- no check has the number 0, so 0 says that none refuses
pub none_refuses : (s : Run) (q : Request) → 0 ≡ refusal (checks s q) → first_number (checks s q) ≡ none
unfolding checks standing access all
none_refuses s (recover h) e = nonzero _ tt (sym e)
none_refuses s (crash h) e = nonzero _ tt (sym e)
none_refuses s (monitor h p) e = nonzero _ tt (sym e)
none_refuses s (open_space h p k) e = nonzero _ tt (sym e)
none_refuses s (close_space h p n) e = nonzero _ tt (sym e)
none_refuses s (guarded st) e = nonzero _ tt (sym e)

-- what passes does not refuse, nor does any after it
pub passed : (b : Bool) (k : ℕ) (cs : List (Bool × ℕ)) → first_number ((b, k) ∷ cs) ≡ none → T (not b) × (first_number cs ≡ none)
unfolding first_number
passed true k cs e = absurd (none-ne-some k (sym e))
passed false k cs e = (tt, e)

-- what an effect asks of the run, where no check refuses
module _ (s : Run) where
  pub may_recover : (h : ℕ) → first_number (checks s (recover h)) ≡ none → host_up s h ≡ false
  unfolding checks
  may_recover h e = is_false (host_up s h) (passed _ _ _ e).0

  pub may_crash : (h : ℕ) → first_number (checks s (crash h)) ≡ none → host_up s h ≡ true
  unfolding checks
  may_crash h e = is_true (host_up s h) (not_not (host_up s h) (passed _ _ _ e).0)

  pub may_monitor : (h p : ℕ) → first_number (checks s (monitor h p)) ≡ none → T (not (monitors_used_up s))
  unfolding checks standing
  may_monitor h p e = (passed _ _ _ (passed _ _ _ (passed _ _ _ e).1).1).0

  pub may_open : (h p : ℕ) (k : Bool) → first_number (checks s (open_space h p k)) ≡ none → T (not (leb most_spaces (length s.spaces) || leb space_numbers s.next))
  unfolding checks standing
  may_open h p k e = (passed _ _ _ (passed _ _ _ (passed _ _ _ e).1).1).0

  pub may_close : (h p n : ℕ) → first_number (checks s (close_space h p n)) ≡ none → T (not (eqb n 0 || some_waiting_names s n))
  unfolding checks standing access
  may_close h p n e = (passed _ _ _ (passed _ _ _ (passed _ _ _ (passed _ _ _ (passed _ _ _ e).1).1).1).1).0

-- ---- the own reply is short

-- no statement
abbrev pub Other : Request → Type 0
Other (recover h) = Unit {0}
Other (crash h) = Unit {0}
Other (monitor h p) = Unit {0}
Other (open_space h p k) = Unit {0}
Other (close_space h p n) = Unit {0}
Other (guarded st) = ⊥

replied_short : (s : Run) (q : Request) (vs : List (ℕ × Value)) → length vs ≤ 1 → length (replies_bytes (replied s q vs).replies) ≤ most_reply
unfolding replied plain_reply
replied_short s q vs l =
    let x : Reply = reply s.last (asking_host q) (asking_process q) 0 0 vs in
    omega (arith, ap length (one_reply x), reply_length x)

one_value : (n : ℕ) → length (in_variable0 n) ≤ 1
unfolding in_variable0
one_value n = le_refl 1

-- a record other than AG has one reply, with at most one value
effect_short : (s : Run) (q : Request) → Other q → length (replies_bytes (effect s q).replies) ≤ most_reply
unfolding effect
effect_short s (recover h) t = replied_short (recovered s h) (recover h) _ (one_value (count (recovered s h).up))
effect_short s (crash h) t = replied_short (crashed s h) (crash h) _ (one_value (count (crashed s h).up))
effect_short s (monitor h p) t = replied_short (with_monitors s (next_monitor s)) (monitor h p) _ (one_value (next_monitor s))
effect_short s (open_space h p k) t = replied_short (opened s p k) (open_space h p k) _ (one_value s.next)
effect_short s (close_space h p n) t = replied_short (closed s n) (close_space h p n) [] (omega arith)
effect_short s (guarded st) t = absurd t

-- ---- what a record has come to

pub took : (s : Run) (q : Request) (buffer state out : List ℕ) (n : ℕ) → Other q → 0 ≡ refusal (checks s q) → Turned (effect s q) buffer state out n → Took (some q) s buffer state out n
took s q buffer state out n o e t = record { request = q; asked = refl; passes = none_refuses s q e; turned = t; short = omega (arith, t.number, effect_short s q o) }

pub handled_refused : (s : Run) (q : Request) (x : Refusal) (buffer state out : List ℕ) (n : ℕ) → number_of x ≡ refusal (checks s q)
    → Turned (refused s (asking_host q) (asking_process q) (number_of x)) buffer state out n → Turned (handled s q) buffer state out n
unfolding handled refusal
handled_refused s q x buffer state out n e t = go (first_number (checks s q)) e
  where
    go : (o : Option ℕ) → number_of x ≡ maybe o 0 (λ n. n) → Turned (maybe o (settled (effect s q)) (refused s (asking_host q) (asking_process q))) buffer state out n
    go none e = absurd (number_positive x e)
    go (some m) e = along (refused s (asking_host q) (asking_process q) (number_of x)) (refused s (asking_host q) (asking_process q) m) buffer state out n (ap (refused s (asking_host q) (asking_process q)) e) t

pub was_refused : (s : Run) (q : Request) (x : Refusal) (buffer state out : List ℕ) (r : Refused) → number_of x ≡ refusal (checks s q)
    → Turned (refused s (asking_host q) (asking_process q) (number_of x)) buffer state out r.size → Answers (some q) s buffer state out (Err r)
unfolding refusal
was_refused s q x buffer state out r e t = (λ passes. number_positive x (e ∙ ap (λ (o : Option ℕ). maybe o 0 (λ n. n)) passes), handled_refused s q x buffer state out r.size e t)
