-- Each effect of a record, and each turn of rule 7, keeps a run within its limits. Assumes nothing.
use Rattle.std.specs.Prelude.{◌≡◌, refl, ◌≢◌, ◌&&◌, ◌||◌, length, drop, get_or, set, leb}
use Rattle.std.proofs.Common.{sym, ◌∙◌, arith, get_or-set_other, drop-set-lt, lit≤}
use Prim.Native.Nat.{ℕ, zero, suc, ◌-◌, ◌≤◌, ◌<◌}
use Rattle.std.proofs.Math.Bool.{Bool, true, false, not, cond}
use Rattle.std.proofs.Math.Option.{some}
use mathlib.Core.List.{List, [], ◌∷◌, ◌++◌, Memᴰ}
use Rattle.std.proofs.Math.ListN.{length-append, length-set}
use Rattle.std.proofs.Math.Dec.{T, ltb, eqb, eqb→eq, nleb→lt, ltb→lt, lt→ltb}
use Rattle.basis.specs.Choice.{cond_ind}
use Rattle.basis.specs.Logic.{and_l, and_r, both, or_no, not_eq, not-false}
use Rattle.basis.specs.Lists.{all, any, keep, is_in, remove_at, count_from}
use Rattle.basis.specs.ListLaws.{Each, each_nil, each-cons, each_append, foldl-keeps, any_at, any_of_lem, none_at, keep_in, keep_true, keep_few, remove_at_in, remove_at_few, first_member, pairwise_append, pairwise_keep, pairwise_remove_at, count_from_each}
use Rattle.basis.specs.Sizes.{hosts, processes, positions, most_monitors, most_spaces, space_numbers, most_tuples, most_waiting}
use Rattle.model.specs.Value.{value, whole, name, legal_value}
use Rattle.model.specs.Statement.{Statement, spaces_named}
use Rattle.model.specs.Legal.{parse}
use Rattle.model.specs.Writing.{statement_bytes}
use Rattle.model.specs.Matching.{Tuple}
use Rattle.model.specs.Execution.{ready, can_wait, Executed, attempt, tuples_after}
use Rattle.model.specs.Run.{shared, private, Space, Waiting, Run, with_monitors, with_waiting, host_up, monitor_numbers, next_monitor, monitors_used_up, is_open, is_waiting, failure_tuple, has_room, noticed, none_owed, owed_mask, is_owed, set_owed, laid_one, laid_for, laid, Turn, woken_by, wake}
use Rattle.model.specs.Step.{some_waiting_names, refused, recovered, dropped, notified, crashed, opened, closed, unmet, ran}
use Rattle.model.specs.Valid.{is_shared}
use Rattle.model.proofs.Debts.{set_below, masks_set}
use Rattle.model.proofs.Sound.{OwnerFits}
use Rattle.model.proofs.ReadBack.{parse_some}
use Rattle.model.proofs.Settle.{wake_some}
use Rattle.model.proofs.BoundKinds.{Legal}
use Rattle.model.proofs.Keeps.{LegalIn, Kept, legal_tuple_lem, attempt_keeps, tuples_after_keeps}
use Rattle.model.proofs.SpaceLaws.{any_more, any_keep, differ, open_more, open_keep, open_below, denied_keep, denied_more}
use Rattle.model.proofs.Fit.{Waits, Queue, Spaces, Fit}

-- ---- hosts

-- a host that is up stays up when one recovers
rose : (up : List Bool) (h k : ℕ) → T (get_or up k false) → T (get_or (set up h true) k false)
rose [] h k t = t
rose (b ∷ up) zero zero t = tt
rose (b ∷ up) zero (suc k) t = t
rose (b ∷ up) (suc h) zero t = t
rose (b ∷ up) (suc h) (suc k) t = rose up h k t

-- what holds past n holds past one more
drop_one : (n : ℕ) (os : List (List Bool)) → T (none_owed (drop n os)) → T (none_owed (drop (suc n) os))
unfolding all
drop_one n [] t = tt
drop_one zero (us ∷ os) t = and_r (not (any (λ b. b) us)) (none_owed os) t
drop_one (suc n) (us ∷ os) t = drop_one n os t

-- ---- the queue, where only the run about it changes

-- each entry of it meets the new conditions
pub queue_in : (last last' : ℕ) (up up' : List Bool) (ss ss' : List Space) (ws : List Waiting) → Queue last up ss ws → Each (Waits last' up' ss') ws → Queue last' up' ss' ws
queue_in last last' up up' ss ss' ws q h = record { few = q.few; each = h; rise = q.rise; differ = q.differ }

pub queue_keep : (last : ℕ) (up up' : List Bool) (ss : List Space) (ws : List Waiting) (p : Waiting → Bool) → Queue last up ss ws → Each (Waits last up' ss) (keep p ws) → Queue last up' ss (keep p ws)
queue_keep last up up' ss ws p q h = record {
  few = omega (arith, keep_few p ws, q.few);
  each = h;
  rise = pairwise_keep (λ v w. ltb v.position w.position) p ws q.rise;
  differ = pairwise_keep (λ v w. not (eqb v.statement.process w.statement.process)) p ws q.differ;
}

pub queue_remove_at : (last : ℕ) (up : List Bool) (ss : List Space) (ws : List Waiting) (i : ℕ) → Queue last up ss ws → Queue last up ss (remove_at i ws)
queue_remove_at last up ss ws i q = record {
  few = omega (arith, remove_at_few i ws, q.few);
  each = λ w m. q.each w (remove_at_in i ws w m);
  rise = pairwise_remove_at (λ v w. ltb v.position w.position) i ws q.rise;
  differ = pairwise_remove_at (λ v w. not (eqb v.statement.process w.statement.process)) i ws q.differ;
}

-- ---- the failure tuples of rule 6

whole_legal : (n : ℕ) → n < positions → Legal (value whole n)
unfolding legal_value
whole_legal n h = both (ltb n positions) true (lt→ltb n positions h) tt

failure_legal : (ss : List Space) (h m : ℕ) → T (is_open ss 0) → h < positions → m < positions → LegalIn ss (failure_tuple h m)
unfolding failure_tuple
failure_legal ss h m o p q = (
  legal_tuple_lem 0 (value name 1 ∷ value whole m ∷ value whole h ∷ []) (lit≤ tt) (lit≤ tt)
      (each-cons Legal (value name 1) _ (unfold legal_value in tt) (each-cons Legal (value whole m) _ (whole_legal m q) (each-cons Legal (value whole h) [] (whole_legal h p) (each_nil Legal)))),
  o,
)

zero_open_lem : (next : ℕ) (ss : List Space) → Spaces next ss → T (is_open ss 0)
unfolding is_open
zero_open_lem next ss f = let p = any_at (λ a. eqb a.number 0 && is_shared a.access) ss f.zero in
    any_of_lem (λ a. eqb a.number 0) ss p.item p.member (and_l (eqb p.item.number 0) (is_shared p.item.access) p.passes)

module _ (s : Run) (f : Fit s) where
  -- a host comes up
  pub recovered_fit : (h : ℕ) → Fit (recovered s h)
  unfolding recovered
  recovered_fit h = record {
    last = f.last;
    hosts = length-set s.up h true ∙ f.hosts;
    monitors = f.monitors;
    spaces = f.spaces;
    tuples = f.tuples;
    waiting = queue_in s.last s.last s.up (set s.up h true) s.spaces s.spaces s.waiting f.waiting
        (λ w i. let q = f.waiting.each w i in record { early = q.early; late = q.late; written = q.written; host = rose s.up h w.statement.host q.host; named = q.named; waits = q.waits });
    owed = f.owed;
  }

  -- "A crash drops that host's waiting statements"
  dropped_fit : (h : ℕ) → Fit (dropped s h)
  unfolding dropped
  dropped_fit h =
      let other : Waiting → Bool = λ w. not (eqb w.statement.host h) in
      record {
        last = f.last;
        hosts = length-set s.up h false ∙ f.hosts;
        monitors = f.monitors;
        spaces = f.spaces;
        tuples = f.tuples;
        waiting = queue_keep s.last s.up (set s.up h false) s.spaces s.waiting other f.waiting (λ w i.
            let q = f.waiting.each w (keep_in other s.waiting w i) in
            let d = not_eq w.statement.host h (keep_true other s.waiting w i) in
            record { early = q.early; late = q.late; written = q.written; host = rw (get_or-set_other s.up h w.statement.host false false d) q.host; named = q.named; waits = q.waits });
        owed = f.owed;
      }

  -- a failure tuple more
  pub noticed_fit : (m h : ℕ) → T (has_room s) → m ≤ most_monitors → h < hosts → Fit (noticed s m h)
  unfolding noticed has_room
  noticed_fit m h room small low =
      let t : Tuple = failure_tuple h m in
      record {
        last = f.last;
        hosts = f.hosts;
        monitors = f.monitors;
        spaces = f.spaces;
        tuples = record {
          few = omega (arith, ltb→lt (length s.tuples) most_tuples room, length-append s.tuples (t ∷ []));
          each = each_append (LegalIn s.spaces) s.tuples (t ∷ []) f.tuples.each (each-cons (LegalIn s.spaces) t [] (failure_legal s.spaces h m (zero_open_lem s.next s.spaces f.spaces) (omega arith) (omega arith)) (each_nil _));
        };
        waiting = f.waiting;
        owed = f.owed;
      }

  -- a pair of a number that was given, owed or owed no more
  pub owed_fit : (m h : ℕ) (b : Bool) → 1 ≤ m → m ≤ s.monitors → Fit (set_owed s m h b)
  unfolding set_owed owed_mask
  owed_fit m h b one given = record {
    last = f.last;
    hosts = f.hosts;
    monitors = f.monitors;
    spaces = f.spaces;
    tuples = f.tuples;
    waiting = f.waiting;
    owed = record {
      masks = masks_set s.owed f.owed.masks (m - 1) h b (omega (arith, f.monitors));
      given = rw (drop-set-lt s.monitors s.owed (m - 1) (set (get_or s.owed (m - 1) []) h b) (omega arith)) f.owed.given;
    };
  }

  -- one more monitor number
  pub monitored_fit : T (not (monitors_used_up s)) → Fit (with_monitors s (next_monitor s))
  unfolding monitors_used_up next_monitor
  monitored_fit t = record {
    last = f.last;
    hosts = f.hosts;
    monitors = omega (arith, nleb→lt most_monitors s.monitors t);
    spaces = f.spaces;
    tuples = f.tuples;
    waiting = f.waiting;
    owed = record { masks = f.owed.masks; given = drop_one s.monitors s.owed f.owed.given };
  }

  -- one more space, of the next number
  pub opened_fit : (p : ℕ) (isPrivate : Bool) → p < processes → T (not (leb most_spaces (length s.spaces) || leb space_numbers s.next)) → Fit (opened s p isPrivate)
  unfolding opened
  opened_fit p isPrivate l t =
      let room = or_no (leb most_spaces (length s.spaces)) (leb space_numbers s.next) t in
      let a : Space = record { number = s.next; access = cond isPrivate (private p) shared } in
      let more : List Space = s.spaces ++ (a ∷ []) in
      let still : (n : ℕ) → T (is_open s.spaces n) → T (is_open more n) = open_more s.spaces a in
      record {
        last = f.last;
        hosts = f.hosts;
        monitors = f.monitors;
        spaces = record {
          limit = omega (arith, nleb→lt space_numbers s.next room.1);
          few = omega (arith, nleb→lt most_spaces (length s.spaces) room.0, length-append s.spaces (a ∷ []));
          owners = each_append (λ (b : Space). OwnerFits b.access) s.spaces (a ∷ []) f.spaces.owners (each-cons (λ (b : Space). OwnerFits b.access) a [] (cond_ind OwnerFits isPrivate (private p) shared (λ e. l) (λ e. tt)) (each_nil _));
          below = each_append (λ (b : Space). b.number < suc s.next) s.spaces (a ∷ []) (λ b i. omega (arith, f.spaces.below b i)) (each-cons (λ (b : Space). b.number < suc s.next) a [] (omega arith) (each_nil _));
          rise = pairwise_append (λ a b. ltb a.number b.number) s.spaces a f.spaces.rise (λ b i. lt→ltb b.number s.next (f.spaces.below b i));
          zero = any_more (λ a. eqb a.number 0 && is_shared a.access) s.spaces (a ∷ []) f.spaces.zero;
        };
        tuples = record { few = f.tuples.few; each = λ t i. let h = f.tuples.each t i in (h.0, still t.space h.1) };
        waiting = queue_in s.last s.last s.up s.up s.spaces more s.waiting f.waiting (λ w i.
            let q = f.waiting.each w i in
            record {
              early = q.early;
              late = q.late;
              written = q.written;
              host = q.host;
              named = λ n j.
                  let h = q.named n j in
                  let below : n < s.next = open_below s.spaces s.next n f.spaces.below h.0 in
                  (still n h.0, denied_more s.spaces a w.statement.process n (λ e. omega arith) h.1);
              waits = q.waits;
            });
        owed = f.owed;
      }

  -- no waiting statement names the space
  not_named : (n : ℕ) → T (not (some_waiting_names s n)) → (w : Waiting) → Memᴰ w s.waiting → (m : ℕ) → Memᴰ m (spaces_named w.statement) → m ≢ n
  unfolding some_waiting_names is_in
  not_named n t w i m j e = not_eq n m (none_at (eqb n) (spaces_named w.statement) (none_at (λ w. is_in n (spaces_named w.statement)) s.waiting t w i) m j) (sym e)

  -- "closes a space, with its tuples", that no waiting statement names
  pub closed_fit : (n : ℕ) → T (not (eqb n 0 || some_waiting_names s n)) → Fit (closed s n)
  unfolding closed
  closed_fit n t =
      let free = or_no (eqb n 0) (some_waiting_names s n) t in
      let other : Space → Bool = λ a. not (eqb a.number n) in
      let outside : Tuple → Bool = λ t. not (eqb t.space n) in
      let less : List Space = keep other s.spaces in
      let still : (m : ℕ) → m ≢ n → T (is_open s.spaces m) → T (is_open less m) = λ m d o. open_keep s.spaces m n d o in
      record {
        last = f.last;
        hosts = f.hosts;
        monitors = f.monitors;
        spaces = record {
          limit = f.spaces.limit;
          few = omega (arith, keep_few other s.spaces, f.spaces.few);
          owners = λ a i. f.spaces.owners a (keep_in other s.spaces a i);
          below = λ a i. f.spaces.below a (keep_in other s.spaces a i);
          rise = pairwise_keep (λ a b. ltb a.number b.number) other s.spaces f.spaces.rise;
          zero = any_keep (λ a. eqb a.number 0 && is_shared a.access) other s.spaces
              (λ a u. differ a.number n (λ e. not_eq n 0 free.0 (sym e ∙ eqb→eq a.number 0 (and_l (eqb a.number 0) (is_shared a.access) u)))) f.spaces.zero;
        };
        tuples = record {
          few = omega (arith, keep_few outside s.tuples, f.tuples.few);
          each = λ t i. let h = f.tuples.each t (keep_in outside s.tuples t i) in (h.0, still t.space (not_eq t.space n (keep_true outside s.tuples t i)) h.1);
        };
        waiting = queue_in s.last s.last s.up s.up s.spaces less s.waiting f.waiting (λ w i.
            let q = f.waiting.each w i in
            record {
              early = q.early;
              late = q.late;
              written = q.written;
              host = q.host;
              named = λ m j. let h = q.named m j in (still m (not_named n free.1 w i m j) h.0, denied_keep s.spaces other w.statement.process m h.1);
              waits = q.waits;
            });
        owed = f.owed;
      }

  -- ---- statements

  -- the tuples after a statement that may be run
  after_fit : (st : Statement) (x : Executed) → parse (statement_bytes st) ≡ some st → Each (λ (n : ℕ). T (is_open s.spaces n)) (spaces_named st) → attempt s.tuples st ≡ some x → Kept s.spaces (tuples_after s.tuples x.result)
  after_fit st x p o e = tuples_after_keeps s.spaces s.tuples x.result f.tuples (attempt_keeps s.spaces s.tuples st x (parse_some (statement_bytes st) st p).legal o f.tuples e)

  -- a statement ran
  pub ran_fit : (st : Statement) (x : Executed) → parse (statement_bytes st) ≡ some st → Each (λ (n : ℕ). T (is_open s.spaces n)) (spaces_named st) → attempt s.tuples st ≡ some x → Fit (ran s st x).run
  unfolding ran
  ran_fit st x p o e = record { last = f.last; hosts = f.hosts; monitors = f.monitors; spaces = f.spaces; tuples = after_fit st x p o e; waiting = f.waiting; owed = f.owed }

  -- the statement waits, at a position above those that wait, and its process does not wait yet
  waiting_fit : (st : Statement) → Each (λ (w : Waiting). w.position < s.last) s.waiting → T (not (is_waiting s st.process)) → length s.waiting < most_waiting
      → Waits s.last s.up s.spaces (record { position = s.last; statement = st }) → Fit (with_waiting s (s.waiting ++ (record { position = s.last; statement = st } ∷ [])))
  unfolding is_waiting
  waiting_fit st older alone room q =
      let w : Waiting = record { position = s.last; statement = st } in
      record {
        last = f.last;
        hosts = f.hosts;
        monitors = f.monitors;
        spaces = f.spaces;
        tuples = f.tuples;
        waiting = record {
          few = omega (arith, length-append s.waiting (w ∷ []));
          each = each_append (Waits s.last s.up s.spaces) s.waiting (w ∷ []) f.waiting.each (each-cons (Waits s.last s.up s.spaces) w [] q (each_nil _));
          rise = pairwise_append (λ v w. ltb v.position w.position) s.waiting w f.waiting.rise (λ v i. lt→ltb v.position s.last (older v i));
          differ = pairwise_append (λ v w. not (eqb v.statement.process w.statement.process)) s.waiting w f.waiting.differ (none_at (λ v. eqb v.statement.process st.process) s.waiting alone);
        };
        owed = f.owed;
      }

  -- no guard of the statement holds
  pub unmet_fit : (st : Statement) → Each (λ (w : Waiting). w.position < s.last) s.waiting → T (not (is_waiting s st.process))
      → (T (can_wait st) → Waits s.last s.up s.spaces (record { position = s.last; statement = st })) → Fit (unmet s st).run
  unfolding unmet refused
  unmet_fit st older alone q =
      cond_ind (λ (t : Turn). Fit t.run) (not (can_wait st)) _ _ (λ e. f)
      (λ e. cond_ind (λ (t : Turn). Fit t.run) (leb most_waiting (length s.waiting)) _ _ (λ e. f)
      (λ u. waiting_fit st older alone (nleb→lt most_waiting (length s.waiting) (rw u tt)) (q (not-false (can_wait st) e))))

-- a turn of rule 7 keeps a run within its limits
pub wake_fit : (s : Run) (t : Turn) → wake s ≡ some t → Fit s → Fit t.run
unfolding woken_by
wake_fit s t e f =
    let k = wake_some s t e in
    let w = k.found.item in
    let q = f.waiting.each w (first_member (λ w. ready s.tuples w.statement) s.waiting k.found k.oldest) in
    rw k.turned (record {
      last = f.last;
      hosts = f.hosts;
      monitors = f.monitors;
      spaces = f.spaces;
      tuples = after_fit s f w.statement k.executed q.written (λ n i. (q.named n i).0) k.attempted;
      waiting = queue_remove_at s.last s.up s.spaces s.waiting k.found.index f.waiting;
      owed = f.owed;
    })

-- ---- crash and laying, pair by pair

-- within its limits, with so many monitor numbers
abbrev FitWith : ℕ → Run → Type 0
FitWith n s = Fit s × (s.monitors ≡ n)

numbers_below : (s : Run) → Each (λ (m : ℕ). (1 ≤ m) × (m ≤ s.monitors)) (monitor_numbers s)
unfolding monitor_numbers
numbers_below s m i = let l = count_from_each s.monitors 1 m i in (omega (arith, l.0), omega (arith, l.1))

notified_fit : (n h : ℕ) (s : Run) (m : ℕ) → h < hosts → (1 ≤ m) × (m ≤ n) → FitWith n s → FitWith n (notified h s m)
unfolding notified noticed set_owed
notified_fit n h s m low small f =
    cond_ind (FitWith n) (has_room s) (noticed s m h) (set_owed s m h true)
    (λ e. (noticed_fit s f.0 m h (rw e tt) (omega (arith, small.1, f.1, f.0.monitors)) low, f.1))
    (λ e. (owed_fit s f.0 m h true small.0 (omega (arith, small.1, f.1)), f.1))

-- a crash of a host that is up
pub crashed_fit : (s : Run) → Fit s → (h : ℕ) → T (host_up s h) → Fit (crashed s h)
unfolding crashed host_up dropped
crashed_fit s f h up =
    let low : h < hosts = omega (arith, set_below s.up h up, f.hosts) in
    (foldl-keeps (FitWith s.monitors) (notified h) (monitor_numbers s) (λ u m i k. notified_fit s.monitors h u m low (numbers_below s m i) k) (dropped s h) (dropped_fit s f h, refl)).0

laid_one_fit : (n : ℕ) (s : Run) (m h : ℕ) → h < hosts → (1 ≤ m) × (m ≤ n) → FitWith n s → FitWith n (laid_one s m h)
unfolding laid_one noticed set_owed has_room
laid_one_fit n s m h low small f =
    let given : m ≤ s.monitors = omega (arith, small.1, f.1) in
    cond_ind (FitWith n) (is_owed s m h && has_room s) _ s
    (λ e. (noticed_fit (set_owed s m h false) (owed_fit s f.0 m h false small.0 given) m h (unfold set_owed has_room in and_r (is_owed s m h) (has_room s) (rw e tt)) (omega (arith, f.0.monitors)) low, f.1))
    (λ e. f)

-- what is owed and laid
pub laid_fit : (s : Run) → Fit s → Fit (laid s)
unfolding laid laid_for
laid_fit s f =
    let each : (v : Run) (m h : ℕ) → Memᴰ m (monitor_numbers s) → Memᴰ h (count_from hosts 0) → FitWith s.monitors v → FitWith s.monitors (laid_one v m h) =
    λ v m h i j k. laid_one_fit s.monitors v m h (omega (arith, (count_from_each hosts 0 h j).1)) (numbers_below s m i) k in
    (foldl-keeps (FitWith s.monitors) laid_for (monitor_numbers s) (λ u m i k. foldl-keeps (FitWith s.monitors) (λ v h. laid_one v m h) (count_from hosts 0) (λ v h j e. each v m h i j e) u k) s (f, refl)).0
