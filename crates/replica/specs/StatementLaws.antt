-- AG: a statement runs, waits, or is refused 18 or 13. Assumes nothing.
use Rattle.std.specs.Prelude.{◌≡◌, refl, ◌≢◌, ℕ, ◌≤◌, ◌<◌, Bool, true, cond, T, eqb, leb, Ok, Err}
use Rattle.std.specs.Prelude as code
use Rattle.std.proofs.Common.{sym, subst, ◌∙◌}
use Rattle.std.proofs.Math.Path.{ap}
use Rattle.std.proofs.Math.Nat.{le_refl}
use native.Mathlib.Omega.{arith}
use Rattle.std.proofs.Math.Bool.{false, not}
use Rattle.std.proofs.Math.Option.{Option, none, some}
use mathlib.Core.List.{List, [], ◌∷◌, flat_map}
use Rattle.std.proofs.Math.ListN.{length}
use Rattle.std.proofs.Math.Pow.{are_bytes}
use Rattle.std.proofs.lemmas.Bool.{lt-leb}
use Rattle.basis.specs.Choice.{maybe, first_number}
use Rattle.basis.specs.Logic.{not_not}
use Rattle.basis.specs.ListLaws.{none_at}
use Rattle.basis.specs.Sizes.{most_waiting, most_reply}
use Rattle.model.specs.Statement.{Statement, spaces_named}
use Rattle.model.specs.Legal.{legal_body}
use Rattle.model.proofs.ReadBack.{parse_again}
use Rattle.model.specs.Execution.{can_wait, Executed, attempt, tuples_after}
use Rattle.model.specs.Run.{Run, with_tuples, host_up, is_open, is_denied, is_waiting, Reply, ran_reply, Turn}
use Rattle.model.specs.Step.{guarded, standing, access, checks, plain_reply, refused, unmet, ran, effect}
use Rattle.model.proofs.Fit.{Fit, Waits}
use Rattle.model.proofs.Effects.{unmet_fit}
use Rattle.layout.specs.Replies.{replies_bytes}
use Rattle.layout.specs.ReplyLaws.{reply_length}
use Rattle.layout.specs.States.{decode}
use Rattle.layout.specs.Stored.{Stored, Turned, statement_of, legal_parse}
use Rattle.header.specs.StoredLaws.{stored_says}
use Rattle.replies.specs.Written.{reply}
use Rattle.replies.specs.TurnLaws.{one_reply}
use Rattle.state.specs.Meaning.{enqueued}
use Rattle.unmet.specs.Unmet.{answered_by}
use Rattle.order.specs.declared.Refusal.{Refusal}
use Rattle.order.specs.Told.{number_of}
use Rattle.handling.specs.AnswerLaws.{passed, along}
use Rattle.running.specs.Executed.{still, MayRun, executed}
use Rattle.replica.specs.Asks.{Later}

-- ---- no turn

still_bytes : (s : Run) (buffer state out : List ℕ) (n : ℕ) → Turned (still s) buffer state out n → out ≡ buffer
unfolding still replies_bytes flat_map
still_bytes s buffer state out n t = t.bytes

still_stored : (s : Run) (buffer state out : List ℕ) (n : ℕ) → Turned (still s) buffer state out n → Stored state s
unfolding still
still_stored s buffer state out n t = t.stored

-- ---- a statement that ran

pub ran_at : (b : List ℕ) (st : Statement) (p : ℕ) (buffer state out : List ℕ) (n : ℕ) → p ≡ (decode b).last → Turned (executed (decode b) p st) buffer state out n → Turned (executed (decode b) (decode b).last st) buffer state out n
ran_at b st p buffer state out n e t = subst (λ (k : ℕ). Turned (executed (decode b) k st) buffer state out n) e t

pub ran_turned : (s : Run) (st : Statement) (buffer state out : List ℕ) (n : ℕ) → Turned (executed s s.last st) buffer state out n → n ≢ 0 → Turned (effect s (guarded st)) buffer state out n
unfolding executed effect ran
ran_turned s st buffer state out n t z = go (attempt s.tuples st) t
  where
    go : (o : Option Executed) → Turned (maybe o (still s) (λ e. record { run = with_tuples s (tuples_after s.tuples e.result); replies = ran_reply s.last st e ∷ [] })) buffer state out n
        → Turned (maybe o (unmet s st) (λ e. record { run = with_tuples s (tuples_after s.tuples e.result); replies = ran_reply s.last st e ∷ [] })) buffer state out n
    go none t = unfold still replies_bytes flat_map in absurd (z t.number)
    go (some e) t = t

-- ---- no guard holds

pub record Quiet (s : Run) (st : Statement) (buffer state out : List ℕ) : Type 0 where
  pub stored : Stored state s
  pub bytes : out ≡ buffer
  pub turn : effect s (guarded st) ≡ unmet s st

pub quiet : (s : Run) (st : Statement) (buffer state out : List ℕ) (n : ℕ) → Turned (executed s s.last st) buffer state out n → n ≡ 0 → Quiet s st buffer state out
unfolding executed effect
quiet s st buffer state out n t z = go (attempt s.tuples st) refl t
  where
    go : (o : Option Executed) → attempt s.tuples st ≡ o → Turned (maybe o (still s) (λ e. record { run = with_tuples s (tuples_after s.tuples e.result); replies = ran_reply s.last st e ∷ [] })) buffer state out n → Quiet s st buffer state out
    go none q t = unfold effect in record { stored = still_stored s buffer state out n t; bytes = still_bytes s buffer state out n t; turn = rw q }
    go (some e) q t = absurd (omega (arith, z, t.number, ap length (one_reply (ran_reply s.last st e)), reply_length (ran_reply s.last st e)))

module _ (s : Run) (st : Statement) (buffer state out : List ℕ) (q : Quiet s st buffer state out) where
  pub quiet_later : Later s → Later (decode state)
  quiet_later h = rw (stored_says state s q.stored) h

  pub quiet_passed : first_number (checks s (guarded st)) ≡ none → first_number (checks (decode state) (guarded st)) ≡ none
  quiet_passed e = ap (λ (u : Run). first_number (checks u (guarded st))) (stored_says state s q.stored) ∙ e

  pub quiet_unmet : (state' out' : List ℕ) (n : ℕ) → Turned (unmet (decode state) st) out state' out' n → Turned (effect s (guarded st)) buffer state' out' n
  quiet_unmet state' out' n t =
      let a : Turned (unmet s st) out state' out' n = subst (λ (u : Run). Turned (unmet u st) out state' out' n) (stored_says state s q.stored) t in
      let b : Turned (unmet s st) buffer state' out' n = subst (λ (l : List ℕ). Turned (unmet s st) l state' out' n) q.bytes a in
      along (unmet s st) (effect s (guarded st)) buffer state' out' n (sym q.turn) b

-- a reply with no value, or none
pub unmet_short : (s : Run) (st : Statement) (r : code.Result Unit Refusal) (n : ℕ) → unmet s st ≡ answered_by r s st → n ≡ length (replies_bytes (unmet s st).replies) → n ≤ most_reply
unmet_short s st r n q e = omega (arith, e, ap (λ (t : Turn). length (replies_bytes t.replies)) q, go r)
  where
    go : (r : code.Result Unit Refusal) → length (replies_bytes (answered_by r s st).replies) ≤ most_reply
    go (Ok u) = unfold replies_bytes flat_map in omega arith
    go (Err y) =
        let x : Reply = reply s.last st.host st.process (number_of y) 0 [] in
        unfold refused plain_reply in omega (arith, ap length (one_reply x), reply_length x)

-- ---- by what was found

pub unmet_refused : (s : Run) (st : Statement) (x : Refusal) (buffer state out : List ℕ) (n : ℕ) → unmet s st ≡ answered_by (Err x) s st → Turned (refused s st.host st.process (number_of x)) buffer state out n → Turned (unmet s st) buffer state out n
unmet_refused s st x buffer state out n q t = rw q t

pub unmet_waiting : (s : Run) (st : Statement) (u : Unit) (state out : List ℕ) → unmet s st ≡ answered_by (Ok u) s st → Stored state (enqueued s st) → Turned (unmet s st) out state out 0
unfolding replies_bytes flat_map
unmet_waiting s st u state out q h = rw q (record { stored = h; bytes = refl; number = refl })

-- ---- what a statement that passes the checks may do

pub statement_may : (s : Run) (body : List ℕ) → T (legal_body body) → first_number (checks s (guarded (statement_of body))) ≡ none → MayRun s body
unfolding checks standing access
statement_may s body t e =
    let st : Statement = statement_of body in
    let c10 = passed _ _ _ (passed _ _ _ (passed _ _ _ e).1).1 in
    record { legal = t; opened = λ n i. not_not (is_open s.spaces n) (none_at (λ n. not (is_open s.spaces n)) (spaces_named st) c10.0 n i) }

module _ (s : Run) (body : List ℕ) where
  abbrev st : Statement
  st = statement_of body

  module _ (t : T (legal_body body)) (small : T (are_bytes body)) (later : Later s) (e : first_number (checks s (guarded st)) ≡ none) where
    waits : T (can_wait st) → Waits s.last s.up s.spaces (record { position = s.last; statement = st })
    unfolding checks standing access host_up
    waits w =
        let c7 = passed _ _ _ e in
        let c9 = passed _ _ _ c7.1 in
        let c10 = passed _ _ _ c9.1 in
        let c11 = passed _ _ _ c10.1 in
        record {
          early = later.above;
          late = le_refl s.last;
          written = parse_again body st small (legal_parse body t);
          host = not_not (host_up s st.host) c7.0;
          named = λ n i. (not_not (is_open s.spaces n) (none_at (λ n. not (is_open s.spaces n)) (spaces_named st) c10.0 n i), none_at (is_denied s.spaces st.process) (spaces_named st) c11.0 n i);
          waits = w;
        }

    alone : T (not (is_waiting s st.process))
    unfolding checks standing
    alone = (passed _ _ _ (passed _ _ _ e).1).0

    waits_fit : (fitted : Fit s) → can_wait st ≡ true → leb most_waiting (length s.waiting) ≡ false → Fit (enqueued s st)
    unfolding unmet
    waits_fit fitted c f = let k : Fit (unmet s st).run = unmet_fit s fitted st later.older alone waits in rw (c, f) at k

    -- it waits
    pub may_wait_lem : (fitted : Fit s) → can_wait st ≡ true → length s.waiting < most_waiting → Fit (enqueued s st)
    may_wait_lem fitted c h = waits_fit fitted c (lt-leb most_waiting (length s.waiting) h)
