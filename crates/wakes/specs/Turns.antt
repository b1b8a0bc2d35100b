-- One turn of rule 7: who runs, and that its count of bytes tells whether one did. Assumes nothing.
use Rattle.std.specs.Prelude.{◌≡◌, ℕ, ◌*◌, ◌≤◌, ◌<◌, take}
use Rattle.std.proofs.Math.Path.{refl, sym, ap, subst}
use Rattle.std.proofs.Common.{◌∙◌, arith, T_not}
use Rattle.std.proofs.Math.Option
use Rattle.std.proofs.Math.Option.{Option, none, some}
use mathlib.Core.List.{List, [], ◌∷◌, flat_map}
use Rattle.std.proofs.Math.ListN.{length, get_or}
use Rattle.std.proofs.lemmas.List.{get_or_at}
use Rattle.basis.specs.Choice.{maybe}
use Rattle.basis.specs.Lists.{Found, first, remove_at}
use Rattle.basis.specs.ListLaws.{first_some, first_below}
use Rattle.basis.specs.Sizes.{reply_header_size, most_reply}
use Rattle.model.specs.Matching.{Tuple}
use Rattle.model.specs.Execution.{chosen, Executed, attempt, tuples_after}
use Rattle.model.specs.Run.{Waiting, Run, with_tuples, with_waiting, laid, ran_reply, Turn, woken_by, wake}
use Rattle.model.proofs.Debts.{laid_waiting}
use Rattle.model.proofs.Settle.{attempt_none, wake_some}
use Rattle.layout.specs.States.{decode}
use Rattle.layout.specs.Replies.{replies_bytes}
use Rattle.layout.specs.ReplyLaws.{reply_length}
use Rattle.layout.specs.Stored.{Stored, IsStored, Turned, statement_of}
use Rattle.header.specs.StoredLaws.{stored_says}
use Rattle.replies.specs.TurnLaws.{one_reply}
use Rattle.header.specs.Rows.{queue_lent}
use Rattle.queue.specs.Queue.{waiting_of}
use Rattle.queue.specs.PlaceLaws.{no_waiting, waiting_nth}
use Rattle.walk.specs.declared.Choice.{Choice}
use Rattle.oldest.specs.Searching.{ready_in, RunsAt}
use Rattle.running.specs.Executed.{MayRun, Picked, still, executed}
use Rattle.running.specs.Answers.{turned_still}
use Rattle.leaving.specs.Leaving.{place, without, Gone}
use Rattle.leaving.specs.LeavingLaws.{place_opened}
use Rattle.wakes.specs.Woken.{woken_at, woken, PickedAt}

-- ---- a statement that has left the queue

module _ (b : List ℕ) (i : ℕ) (state copy : List ℕ) (p n : ℕ) (g : Gone b i state copy p n) where
  says : decode state ≡ without (decode b) i
  says = stored_says state (without (decode b) i) g.stored

  -- it may run
  pub gone_may : IsStored b → i < length (decode b).waiting → MayRun (decode state) (take n copy)
  gone_may h below = record { legal = g.legal; opened = rw (g.statement, says) (place_opened b i h below) }

  -- the branch that was chosen is its
  pub gone_picked : (c : Choice) → PickedAt b i c → Picked (decode state) (take n copy) c
  gone_picked c k = rw (says, g.body, ap (chosen (decode b).tuples) (ap statement_of (sym g.body) ∙ g.statement)) k

  -- and what it does is its turn
  pub gone_turn : (buffer bytes out : List ℕ) (m : ℕ) → Turned (executed (decode state) p (statement_of (take n copy))) buffer bytes out m → Turned (woken_at (decode b) i) buffer bytes out m
  unfolding woken_at
  gone_turn buffer bytes out m r = subst (λ (u : Turn). Turned u buffer bytes out m) (λ k. executed (says k) (g.position k) (g.statement k)) r

-- ---- a turn

module _ (s : Run) where
  -- who is found runs
  woken_found : (f : Found Waiting) → first (ready_in s.tuples) s.waiting ≡ some f → woken s ≡ executed (with_waiting s (remove_at f.index s.waiting)) f.item.position f.item.statement
  unfolding woken wake executed woken_by
  woken_found f q = rw q (go (attempt s.tuples f.item.statement) refl)
    where
      go : (o : Option Executed) → attempt s.tuples f.item.statement ≡ o
          → Option.get_or (maybe o none (λ e. some (woken_by s f e))) (still s) ≡ maybe o (still (with_waiting s (remove_at f.index s.waiting))) (λ e. record { run = with_tuples (with_waiting s (remove_at f.index s.waiting)) (tuples_after s.tuples e.result); replies = ran_reply f.item.position f.item.statement e ∷ [] })
      go none r = absurd (T_not (ready_in s.tuples f.item) (attempt_none s.tuples f.item.statement r) (first_some (ready_in s.tuples) s.waiting f q).passes)
      go (some e) r = unfold woken_by in refl

  -- none holds
  woken_none : first (ready_in s.tuples) s.waiting ≡ none → woken s ≡ still s
  unfolding woken wake
  woken_none e = rw e

  turn_at : (i : ℕ) (f : Found Waiting) → place s i ≡ f.item → i ≡ f.index → woken_at s i ≡ executed (with_waiting s (remove_at f.index s.waiting)) f.item.position f.item.statement
  unfolding woken_at
  turn_at i f p e = λ k. executed (with_waiting s (remove_at (e k) s.waiting)) (p k).position (p k).statement

  -- the oldest runs
  pub record WokenAt (i : ℕ) : Type 0 where
    pub below : i < length s.waiting
    pub turn : woken_at s i ≡ woken s

  woken_at_lem : (f : Found Waiting) → first (ready_in s.tuples) s.waiting ≡ some f → WokenAt f.index
  unfolding place
  woken_at_lem f q =
      let g = first_some (ready_in s.tuples) s.waiting f q in
      let p : get_or s.waiting f.index no_waiting ≡ f.item = rw g.split (get_or_at g.front f.item g.back no_waiting f.index (sym g.index)) in
      record { below = first_below (ready_in s.tuples) s.waiting f g; turn = turn_at f.index f p refl ∙ sym (woken_found f q) }

  -- a turn has bytes
  woken_long : (t : Turn) → wake s ≡ some t → reply_header_size ≤ length (replies_bytes t.replies)
  unfolding woken_by
  woken_long t e =
      let w = wake_some s t e in
      rw (w.turned, one_reply) (omega (arith, reply_length (ran_reply w.found.item.position w.found.item.statement w.executed)))

  -- so it is told by its count
  pub told_none : (n : ℕ) → n ≡ length (replies_bytes (woken s).replies) → n ≡ 0 → wake s ≡ none
  unfolding woken
  told_none n e z = go (wake s) refl (sym e ∙ z)
    where
      go : (o : Option Turn) → wake s ≡ o → length (replies_bytes (Option.get_or o (still s)).replies) ≡ 0 → o ≡ none
      go none q z = refl
      go (some t) q z = absurd (omega (arith, woken_long t q))

  pub told_some : (n : ℕ) → n ≡ length (replies_bytes (woken s).replies) → (n ≡ 0 → ⊥) → wake s ≡ some (woken s)
  unfolding woken
  told_some n e z = go (wake s) e
    where
      go : (o : Option Turn) → n ≡ length (replies_bytes (Option.get_or o (still s)).replies) → o ≡ some (Option.get_or o (still s))
      go none e = unfold still replies_bytes flat_map in absurd (z e)
      go (some t) e = refl

-- ---- as the code tells it, by whom it finds in the sections

module _ (b : List ℕ) (n : ℕ) (ts : List Tuple) (h : IsStored b) (et : ts ≡ (decode b).tuples) (ew : waiting_of (queue_lent b) n ≡ (decode b).waiting) where
  pub wakes_none : (out : List ℕ) → first (ready_in ts) (waiting_of (queue_lent b) n) ≡ none → Turned (woken (decode b)) out b out 0
  wakes_none out q = subst (λ (t : Turn). Turned t out b out 0) (sym (woken_none (decode b) (rw (et, ew) at q))) (turned_still (decode b) b out h)

  module _ (i : ℕ) (c : Choice) (r : RunsAt (queue_lent b) n ts i c) where
    pub wakes_at : WokenAt (decode b) i
    wakes_at = woken_at_lem (decode b) (record { index = i; item = waiting_nth (queue_lent b) n i }) ((λ k. first (ready_in (sym et k)) (sym ew k)) ∙ r.is)

    -- the branch that was chosen is its
    pub wakes_picked : PickedAt b i c
    unfolding place
    wakes_picked =
        let same : (waiting_nth (queue_lent b) n i).statement ≡ (place (decode b) i).statement = ap (λ (ws : List Waiting). (get_or ws i no_waiting).statement) ew in
        rw (et, same) at r.picks

    pub wakes_some : (buffer state out : List ℕ) (m : ℕ) → Turned (woken_at (decode b) i) buffer state out m → Turned (woken (decode b)) buffer state out m
    wakes_some buffer state out m t = subst (λ (t : Turn). Turned t buffer state out m) wakes_at.turn t

-- ---- once what is owed is laid

-- as many wait
pub laid_room : (b b₁ : List ℕ) (room : ℕ) → Stored b₁ (laid (decode b)) → most_reply * length (decode b).waiting ≤ room → most_reply * length (decode b₁).waiting ≤ room
laid_room b b₁ room k h = rw (stored_says b₁ (laid (decode b)) k, laid_waiting (decode b)) h

pub laid_turn : (b b₁ buffer state out : List ℕ) (n : ℕ) → Stored b₁ (laid (decode b)) → Turned (woken (decode b₁)) buffer state out n → Turned (woken (laid (decode b))) buffer state out n
laid_turn b b₁ buffer state out n k t = subst (λ (s : Run). Turned (woken s) buffer state out n) (stored_says b₁ (laid (decode b)) k) t
