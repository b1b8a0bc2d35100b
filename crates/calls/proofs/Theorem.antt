-- Demand 3, proved. The invariant: every state that a replica holds, or held, is that of the run at its position. Assumes nothing.
use Rattle.std.specs.Prelude.{◌≡◌, ◌⊎◌, Bool, true, not, cond, ◌||◌, length, drop, eqb}
use Rattle.std.proofs.Math.Path.{refl, ap, subst}
use Rattle.std.proofs.Common.{sym, ◌∙◌, inl, inr, arith, T_not, eqb→eq}
use Prim.Native.Nat.{ℕ, zero, suc, ◌≤◌, ◌<◌}
use Rattle.std.proofs.Math.Bool.{false}
use Rattle.std.proofs.Math.Option.{Option, none, some}
use mathlib.Core.List.Memᴰ
use mathlib.Core.List.{List, [], ◌∷◌, ◌++◌, Memᴰ}
use Rattle.std.proofs.Math.ListN.{take}
use Rattle.std.proofs.Math.Seq.{take_at}
use Rattle.std.proofs.Math.Pow.{are_bytes}
use Rattle.std.proofs.Math.Dec.{T, ltb, eqb_refl, eqb-suc-zero}
use Rattle.std.proofs.Math.Arith.{le→nltb}
use Rattle.basis.specs.Sizes.{state_size}
use Rattle.basis.specs.Choice.{maybe}
use Rattle.basis.specs.Logic.{is_true, is_false, false_is, true_is, no_or}
use Rattle.basis.specs.ListLaws.{Each, each_nil, each-cons, each_append, all_at, none_at, any_of_lem}
use Rattle.model.specs.Statement.{Operation, always, lookup, deposit, transfer, Branch, Statement}
use Rattle.model.specs.Matching.{Tuple, unbound, matches}
use Rattle.model.specs.Execution.{holds, guard_holds, ready}
use Rattle.model.specs.Run.{Waiting, Run, fresh}
use Rattle.model.proofs.Sound.{Sound}
use Rattle.model.specs.Valid.{none_ready}
use Rattle.model.proofs.ValidLaws.{valid_none_ready}
use Rattle.model.proofs.Preserve.{fresh_sound}
use Rattle.layout.specs.Replies.{replies_bytes}
use Rattle.layout.specs.States.{encode}
use Rattle.calls.specs.Calls.{Bytes, Lent, Answer, number_of, refusal_at, step_bytes, laid_over, turned_back, fresh_call, take_call}
use Rattle.calls.specs.TwoReplicas.{Side, one, two, other, Held, Event, call, cut, restart_fresh, restart_copy, Condition, running, stopped, Replica, World, replace, holding, stop, took, position_after, called, after, CanCall, IsStopped, Can, Befalls, end, begin, Called, answer, reply_bytes_of, position_of, call_of, calls, input_of, inputs, is_numbered, record_numbered, run_at, NoClash, Meets, Quiet, OfRun, Taken, TurnedBack, Answered, Claim, Demand3}
use Rattle.calls.proofs.CallLaws.{step_bytes_sound, step_bytes_last, passes_next, refused_small, fresh_made, taken_by, take_sound, count_took}

-- ---- the record with a number

numbered_is : (n : ℕ) (x : Bytes) → T (is_numbered n x) → number_of x ≡ some n
unfolding is_numbered
numbered_is n x t = go (number_of x) t
  where
    go : (o : Option ℕ) → T (maybe o false (λ m. eqb m n)) → o ≡ some n
    go none t = absurd t
    go (some m) t = ap {B = Option ℕ} some (eqb→eq m n t)

is_numbered_lem : (n : ℕ) (x : Bytes) → number_of x ≡ some n → T (is_numbered n x)
unfolding is_numbered
is_numbered_lem n x e = rw e (eqb_refl n)

-- where every record of xs with the number n is x, and x is one of them, it is found
found : (n : ℕ) (x : Bytes) (xs : List Bytes) → ((y : Bytes) → Memᴰ y xs → number_of y ≡ some n → y ≡ x) → number_of x ≡ some n → Memᴰ x xs → record_numbered n xs ≡ some x
unfolding record_numbered
found n x [] only e m = absurd (Memᴰ.not-nil m)
found n x (y ∷ ys) only e m =
    go (is_numbered n y) refl (Memᴰ.cases_cons m) (λ k. found n x ys (λ z i. only z (Memᴰ.tail i)) e k)
  where
    go : (b : Bool) → is_numbered n y ≡ b → (x ≡ y) ⊎ Memᴰ x ys → (Memᴰ x ys → record_numbered n ys ≡ some x) → cond b (some y) (record_numbered n ys) ≡ some x
    go true q s later = ap {B = Option Bytes} some (only y (Memᴰ.head refl) (numbered_is n y (true_is (is_numbered n y) q)))
    go false q (inl p) later = absurd (T_not (is_numbered n y) (false_is (is_numbered n y) q) (is_numbered_lem n y (ap number_of (sym p) ∙ e)))
    go false q (inr k) later = later k

-- the run takes the next record
runs : (xs : List Bytes) → NoClash xs → (p : ℕ) (s : Run) (x : Bytes) → run_at xs p ≡ some s → Memᴰ x xs → number_of x ≡ some (suc p) → run_at xs (suc p) ≡ some (step_bytes s x).run
unfolding run_at
runs xs nc p s x e m q = rw (e, found (suc p) x xs (λ y i d. nc (suc p) y x i m d q) q m)

-- ---- no guard is met

guard_quiet : (ts : List Tuple) (g : Operation) → T (not (holds ts g)) → (g ≡ always → ⊥) × ((t : Tuple) → Memᴰ t ts → Meets t g → ⊥)
unfolding holds
guard_quiet ts always h = absurd h
guard_quiet ts (lookup withdraws blocks s fs) h = (
  λ e. let z : ◌≡◌ {A = ℕ} 0 1 = cc in absurd (omega arith),
  λ t m met. T_not (matches unbound s fs t) (none_at (matches unbound s fs) ts h t m) met,
)
guard_quiet ts (deposit s fs) h = (λ e. let z : ◌≡◌ {A = ℕ} 0 1 = cc in absurd (omega arith), λ t m met. met)
guard_quiet ts (transfer withdraws from to fs) h = (λ e. let z : ◌≡◌ {A = ℕ} 0 1 = cc in absurd (omega arith), λ t m met. met)

guard_unmet : (s : Run) → T (none_ready s) → (w : Waiting) → Memᴰ w s.waiting → (b : Branch) → Memᴰ b w.statement.branches → T (not (holds s.tuples b.guard))
unfolding none_ready ready guard_holds
guard_unmet s h w i b j = none_at (guard_holds s.tuples) w.statement.branches (all_at (λ w. not (ready s.tuples w.statement)) s.waiting h w i) b j

quiet : (s : Run) → Sound s → Quiet s
quiet s h =
    let unmet = guard_unmet s (valid_none_ready s h.valid) in
    record {
      not_true = λ w i b j. (guard_quiet s.tuples b.guard (unmet w i b j)).0;
      not_met = λ w i b j. (guard_quiet s.tuples b.guard (unmet w i b j)).1;
    }

-- ---- the invariant

record Good (xs : List Bytes) (h : Held) : Type 0 where
  run : Run
  sound : Sound run
  last : run.last ≡ h.position
  reached : run_at xs h.position ≡ some run
  bytes : h.bytes ≡ encode run

abbrev GoodNow : List Bytes → Condition → Type 0
GoodNow xs (running h) = Good xs h
GoodNow xs (stopped b) = Unit {0}

abbrev Latest : Condition → List Held → Type 0
Latest (running h) past = Memᴰ h past
Latest (stopped b) past = Unit {0}

record GoodReplica (xs : List Bytes) (k : Replica) : Type 0 where
  now : GoodNow xs k.condition
  past : Each (Good xs) k.history
  latest : Latest k.condition k.history

abbrev GoodWorld : List Bytes → World → Type 0
GoodWorld xs w = (c : Side) → GoodReplica xs (w c)

good_replace : (xs : List Bytes) (w : World) (c : Side) (k : Replica) → GoodWorld xs w → GoodReplica xs k → GoodWorld xs (replace w c k)
unfolding replace
good_replace xs w one k gw gk one = gk
good_replace xs w one k gw gk two = gw two
good_replace xs w two k gw gk one = gw one
good_replace xs w two k gw gk two = gk

good_holding : (xs : List Bytes) (h : Held) (k : Replica) → Good xs h → Each (Good xs) k.history → GoodReplica xs (holding h k)
unfolding holding
good_holding xs h k g past = record { now = g; past = each-cons (Good xs) h k.history g past; latest = Memᴰ.head refl }

good_stop : (xs : List Bytes) (left : Bytes) (k : Replica) → GoodReplica xs k → GoodReplica xs (stop left k)
unfolding stop
good_stop xs left k gk = record { now = tt; past = gk.past; latest = tt }

good_fresh : (xs : List Bytes) (buffer : Bytes) → length buffer ≡ state_size → Good xs (record { position = 0; bytes = (fresh_call buffer).state })
unfolding run_at fresh
good_fresh xs buffer e = record { run = fresh; sound = fresh_sound; last = refl; reached = refl; bytes = fresh_made buffer e }

-- ---- a call on a state of the run

abbrev Answers : List Bytes → Called → Type 0
Answers xs k = Answered fresh_call take_call xs k (refusal_at k.position k.lent.input k.lent.reply)

small_untaken : (a : Answer) → 2 ≤ a.returned → a.returned ≤ 5 → took a ≡ false
unfolding took
small_untaken a p q =
    is_false (eqb a.returned 0 || ltb 5 a.returned)
    (no_or (eqb a.returned 0) (ltb 5 a.returned) (not_zero a.returned p) (le→nltb 5 a.returned q))
  where
    not_zero : (n : ℕ) → 2 ≤ n → T (not (eqb n 0))
    not_zero zero h = absurd (omega arith)
    not_zero (suc n) h = rw (eqb-suc-zero n) tt

module _ (xs : List Bytes) (nc : NoClash xs) (c : Side) (h : Held) (g : Good xs h) (l : Lent) (same : l.state ≡ h.bytes) (ab : T (are_bytes l.input)) (m : Memᴰ l.input xs) where
  abbrev this : Called
  this = record { side = c; position = h.position; lent = l }

  abbrev Next : Type 0
  Next = Good xs (record { position = position_after fresh_call take_call h.position l; bytes = (take_call l).state }) × Answers xs this

  is_taken : take_call l ≡ taken_by g.run l → refusal_at h.position l.input l.reply ≡ none → Next
  unfolding position_after laid_over
  is_taken e pass =
      let next : number_of l.input ≡ some (suc h.position) = passes_next h.position l.input l.reply pass in
      let tk : T (took (take_call l)) = rw e (count_took (step_bytes g.run l.input).replies _ _) in
      let at : position_after fresh_call take_call h.position l ≡ suc h.position = rw (is_true (took (take_call l)) tk, next) in
      let good : Good xs (record { position = suc h.position; bytes = (take_call l).state }) = record {
        run = (step_bytes g.run l.input).run;
        sound = step_bytes_sound g.run l.input g.sound ab (rw g.last next);
        last = step_bytes_last g.run l.input (suc h.position) next;
        reached = runs xs nc h.position g.run l.input g.reached m next;
        bytes = ap (λ (a : Answer). a.state) e;
      } in
      let replies : reply_bytes_of fresh_call take_call this ≡ replies_bytes (step_bytes g.run l.input).replies =
      ap (λ (a : Answer). take a.returned a.reply) e ∙ take_at (replies_bytes (step_bytes g.run l.input).replies) _ _ refl in (
        subst (λ (n : ℕ). Good xs (record { position = n; bytes = (take_call l).state })) (sym at) good,
        rw pass (record { taken = tk; next = next; run = g.run; reached = g.reached; count = ap (λ (a : Answer). a.returned) e; replies = replies; state = ap (λ (a : Answer). a.state) e }),
      )

  is_turned_back : (n : ℕ) → take_call l ≡ turned_back l n → refusal_at h.position l.input l.reply ≡ some n → Next
  unfolding position_after turned_back
  is_turned_back n e fail =
      let r : (take_call l).returned ≡ n = ap (λ (a : Answer). a.returned) e in
      let s = refused_small h.position l.input l.reply n fail in
      let no : took (take_call l) ≡ false = small_untaken (take_call l) (omega arith) (omega arith) in
      let at : position_after fresh_call take_call h.position l ≡ h.position = rw no in
      let good : Good xs (record { position = h.position; bytes = (take_call l).state }) = record
      { run = g.run; sound = g.sound; last = g.last; reached = g.reached; bytes = ap (λ (a : Answer). a.state) e ∙ same ∙ g.bytes } in (
        subst (λ (n : ℕ). Good xs (record { position = n; bytes = (take_call l).state })) (sym at) good,
        rw fail (record { returned = r; untaken = no; state = ap (λ (a : Answer). a.state) e; reply = ap (λ (a : Answer). a.reply) e }),
      )

  called_good : Next
  called_good =
      let e : take_call l ≡ maybe (refusal_at g.run.last l.input l.reply) (taken_by g.run l) (turned_back l) = take_sound g.run l g.sound (same ∙ g.bytes) in
      let e' : take_call l ≡ maybe (refusal_at h.position l.input l.reply) (taken_by g.run l) (turned_back l) =
      subst (λ (n : ℕ). take_call l ≡ maybe (refusal_at n l.input l.reply) (taken_by g.run l) (turned_back l)) g.last e in
      go (refusal_at h.position l.input l.reply) refl e'
    where
      go : (o : Option ℕ) → refusal_at h.position l.input l.reply ≡ o → take_call l ≡ maybe o (taken_by g.run l) (turned_back l) → Next
      go none q e = is_taken e q
      go (some n) q e = is_turned_back n e q

-- ---- an event, and a list of them

module _ (xs : List Bytes) (nc : NoClash xs) where
  call_good : (c : Side) (now : Condition) (l : Lent) (k : Replica) → GoodNow xs now → GoodReplica xs k → CanCall now l → Memᴰ l.input xs
      → GoodReplica xs (called fresh_call take_call now l k) × Answers xs (record { side = c; position = position_of now; lent = l })
  unfolding called position_of
  call_good c (running h) l k gn gk can m = let a = called_good xs nc c h gn l can.0 can.1 m in (good_holding xs _ k a.0 gk.past, a.1)
  call_good c (stopped b) l k gn gk can m = absurd can

  event_good : (w : World) (e : Event) → Each (λ (x : Bytes). Memᴰ x xs) (input_of e) → GoodWorld xs w → Can w e → GoodWorld xs (after fresh_call take_call w e) × Each (Answers xs) (call_of w e)
  unfolding after call_of input_of
  event_good w (call c l) sub gw can =
      let a = call_good c (w c).condition l (w c) (gw c).now (gw c) can (sub l.input (Memᴰ.head refl)) in
      (good_replace xs w c _ gw a.0, each-cons (Answers xs) _ [] a.1 (each_nil (Answers xs)))
  event_good w (cut c m left) sub gw can = (good_replace xs w c _ gw (good_stop xs left (w c) (gw c)), each_nil (Answers xs))
  event_good w (restart_fresh c buffer) sub gw can = (good_replace xs w c _ gw (good_holding xs _ (w c) (good_fresh xs buffer can.1) (gw c).past), each_nil (Answers xs))
  event_good w (restart_copy c h) sub gw can = (good_replace xs w c _ gw (good_holding xs h (w c) ((gw (other c)).past h can.1) (gw c).past), each_nil (Answers xs))

  events_good : (w : World) (es : List Event) → Each (λ (x : Bytes). Memᴰ x xs) (inputs es) → GoodWorld xs w → Befalls fresh_call take_call w es → GoodWorld xs (end fresh_call take_call w es) × Each (Answers xs) (calls fresh_call take_call w es)
  unfolding end calls inputs
  events_good w [] sub gw t = (gw, each_nil (Answers xs))
  events_good w (e ∷ es) sub gw t =
      let a = event_good w e (λ x i. sub x (Memᴰ.append_left (inputs es) i)) gw t.0 in
      let b = events_good (after fresh_call take_call w e) es (λ x i. sub x (Memᴰ.append_right (input_of e) i)) a.0 t.1 in
      (b.0, each_append (Answers xs) (call_of w e) (calls fresh_call take_call (after fresh_call take_call w e) es) a.1 b.1)

-- ---- the claim

good_begin : (xs : List Bytes) (buffers : Side → Bytes) → ((c : Side) → length (buffers c) ≡ state_size) → GoodWorld xs (begin fresh_call take_call buffers)
unfolding begin
good_begin xs buffers e c = good_holding xs _ _ (good_fresh xs (buffers c) (e c)) (each_nil (Good xs))

same_run : (xs : List Bytes) (m n : ℕ) (s t : Run) → m ≡ n → run_at xs m ≡ some s → run_at xs n ≡ some t → s ≡ t
same_run xs m n s t e p q = cc

-- a call that took its record was not turned back
was_taken : (xs : List Bytes) (k : Called) (o : Option ℕ) → T (took (answer fresh_call take_call k)) → Answered fresh_call take_call xs k o → Taken fresh_call take_call xs k
was_taken xs k none t a = a
was_taken xs k (some n) t a = absurd (T_not (took (answer fresh_call take_call k)) (false_is (took (answer fresh_call take_call k)) a.untaken) t)

same_replies : (xs : List Bytes) (j k : Called) → j.lent.input ≡ k.lent.input → Taken fresh_call take_call xs j → Taken fresh_call take_call xs k → reply_bytes_of fresh_call take_call j ≡ reply_bytes_of fresh_call take_call k
same_replies xs j k e a b =
    let n : some (suc j.position) ≡ some (suc k.position) = sym a.next ∙ ap number_of e ∙ b.next in
    let r : a.run ≡ b.run = same_run xs j.position k.position a.run b.run (cc) a.reached b.reached in
    a.replies ∙ (rw (r, e)) ∙ sym b.replies

not_one : (xs : List Bytes) (k : Called) → Answers xs k → (answer fresh_call take_call k).returned ≡ 1 → ⊥
not_one xs k a e = go (refusal_at k.position k.lent.input k.lent.reply) refl a
  where
    go : (o : Option ℕ) → refusal_at k.position k.lent.input k.lent.reply ≡ o → Answered fresh_call take_call xs k o → ⊥
    go none q a = unfold took in subst (λ (n : ℕ). T (eqb n 0 || ltb 5 n)) e a.taken
    go (some n) q a = omega (arith, refused_small k.position k.lent.input k.lent.reply n q, a.returned)

of_run : (xs : List Bytes) (h : Held) → Good xs h → OfRun xs h
of_run xs h g = record { run = g.run; reached = g.reached; bytes = g.bytes; quiet = quiet g.run g.sound }

same_bytes_lem : (xs : List Bytes) (h k : Held) → h.position ≡ k.position → Good xs h → Good xs k → h.bytes ≡ k.bytes
same_bytes_lem xs h k p g g' = g.bytes ∙ ap encode (same_run xs h.position k.position g.run g'.run p g.reached g'.reached) ∙ sym g'.bytes

pub theorem : Demand3
theorem buffers empty es t nc =
    let w : World = begin fresh_call take_call buffers in
    let xs : List Bytes = inputs es in
    let good = events_good xs nc w es (λ x i. i) (good_begin xs buffers empty) t in
    let taken : (k : Called) → Memᴰ k (calls fresh_call take_call w es) → T (took (answer fresh_call take_call k)) → Taken fresh_call take_call xs k =
    λ k i t. was_taken xs k (refusal_at k.position k.lent.input k.lent.reply) t (good.1 k i) in
    record {
      states = λ c h e. of_run xs h (subst (GoodNow xs) e (good.0 c).now);
      past_states = λ c h m. of_run xs h ((good.0 c).past h m);
      equal_states = λ c d h k m m' p. same_bytes_lem xs h k p ((good.0 c).past h m) ((good.0 d).past k m');
      latest = λ c h e. subst (λ (n : Condition). Latest n (end fresh_call take_call w es c).history) e (good.0 c).latest;
      answers = good.1;
      never1 = λ k i. not_one xs k (good.1 k i);
      equal_replies = λ j k i i' tj tk e. same_replies xs j k e (taken j i tj) (taken k i' tk);
    }
