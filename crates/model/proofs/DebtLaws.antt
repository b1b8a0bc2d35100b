-- What is owed, record by record: which pairs a record adds, which are laid during it, and that nothing else adds or removes one. Assumes nothing.
use Rattle.std.specs.Prelude.{◌≡◌, ◌↔◌, ◌⊎◌, Bool, true, false, length, set, T, ltb}
use Rattle.std.proofs.Math.Path.{refl, ap, subst}
use Rattle.std.proofs.Common.{sym, ◌∙◌, inl, inr, le_refl, arith, ltb→lt, nltb→le}
use mathlib.Core.Logic.Iff
use Prim.Native.Nat.{ℕ, zero, suc, ◌+◌, ◌≤◌, ◌<◌}
use Rattle.std.proofs.Math.Option.{Option, none, some, some-injective, none-ne-some}
use mathlib.Core.List.Memᴰ
use mathlib.Core.List.{List, [], ◌∷◌, ◌++◌, Memᴰ}
use Rattle.std.proofs.Math.Pow.{are_bytes}
use Rattle.basis.specs.Choice.{maybe-ind}
use Rattle.basis.specs.Logic.{false_is}
use Rattle.basis.specs.ListLaws.{Each, each_nil, each_append}
use Rattle.basis.specs.Sizes.{positions, most_tuples}
use Rattle.model.specs.Statement.{Statement}
use Rattle.model.specs.Run.{Waiting, Run, with_last, with_up, with_monitors, next_monitor, has_room, owes_some, laid, Reply, Turn, wake, continued, settle_within, settle}
use Rattle.model.specs.Step.{Record, Request, recover, crash, monitor, open_space, close_space, guarded, request_of, replied, recovered, opened, closed, effect, settled, handled, step}
use Rattle.model.specs.Valid.{none_ready, owes_only_full}
use Rattle.model.proofs.ValidLaws.{valid_none_ready, valid_only_full}
use Rattle.model.proofs.Debts.{Owes, set_below, laid_still}
use Rattle.model.proofs.Sound.{Sound}
use Rattle.model.proofs.Settle.{wake_none, turn_shorter, settle_of_calm}
use Rattle.model.proofs.Fit.{Fit, sound_fit}
use Rattle.model.proofs.Requests.{request_possible}
use Rattle.model.proofs.ExecutionLaws.{Ready}
use Rattle.model.proofs.Laying.{OnlyFull, Lays, enough, lays, lays_owes, lays_were, only_iff, laid_lays}
use Rattle.model.proofs.Effects.{wake_fit, laid_fit}
use Rattle.model.proofs.Preserve.{effect_fit, later_fit, step_sound}
use Rattle.model.proofs.RunLaws.{WokenWords, woken_words, Calm, calm_iff}
use Rattle.model.proofs.RowLaws.{IsUp, rows, FirstRow, NoRow, no_row}
use Rattle.model.proofs.StepLaws.{Comes, runs, is_18, is_13, waits, statement_comes, Rests, step_malformed, step_asks, first_check, all_checks, check_cases}
use Rattle.model.proofs.CrashLaws.{Notices, Crashed, crashed_words}
use Rattle.model.proofs.RecordLaws.{crash_passes}

-- ---- the words

-- The pairs that a request adds: "A failure tuple without room is now owed". The notices of a crash go by rising monitor number, so that of number m has the tuples and m - 1 notices before it, and as there are at most 512 tuples m is not 0. No other request adds one.
abbrev pub Missed : Run → Request → (monitor host : ℕ) → Type 0
Missed s (recover h) m g = ⊥
Missed s (crash h) m g = (g ≡ h) × (m ≤ s.monitors) × (most_tuples < length s.tuples + m)
Missed s (monitor h p) m g = ⊥
Missed s (open_space h p isPrivate) m g = ⊥
Missed s (close_space h p n) m g = ⊥
Missed s (guarded st) m g = ⊥

-- the pairs that a record adds: it is the crash of a host that is up
abbrev pub MissedBy : Run → Record → (monitor host : ℕ) → Type 0
MissedBy s r m g = (request_of r.mark r.body ≡ some (crash g)) × IsUp s g × (m ≤ s.monitors) × (most_tuples < length s.tuples + m)

-- the turns of rule 7, their replies, and the pairs laid "again after each statement that ran", before the queue is searched again
pub data Pays : Run → Run → List Reply → List (ℕ × ℕ) → Type 0 where
  calm : {s : Run} → Calm s → Pays s s [] []
  turn : {s v u : Run} {rs : List Reply} {ps qs : List (ℕ × ℕ)} (t : Turn) → WokenWords s t → Lays t.run v ps → Pays v u rs qs → Pays s u (t.replies ++ rs) (ps ++ qs)

-- the pairs laid during a record: none where it is malformed or a check refuses it; else those laid after its effect, "before each search of the waiting queue", and then those of rule 7
pub data LaidBy (s : Run) (r : Record) : List (ℕ × ℕ) → Type 0 where
  is_malformed : request_of r.mark r.body ≡ none → LaidBy s r []
  is_refused : (q : Request) (n : ℕ) → request_of r.mark r.body ≡ some q → FirstRow (rows (with_last s r.position) q) n → LaidBy s r []
  is_done : {v : Run} {rs : List Reply} {ps qs : List (ℕ × ℕ)} (q : Request) → request_of r.mark r.body ≡ some q → NoRow (rows (with_last s r.position) q)
      → Lays (effect (with_last s r.position) q).run v ps → Pays v (step s r).run rs qs → (step s r).replies ≡ (effect (with_last s r.position) q).replies ++ rs → LaidBy s r (ps ++ qs)

-- no pair stands twice
abbrev pub Once : List (ℕ × ℕ) → Type 0
Once [] = Unit {0}
Once (p ∷ ps) = (¬ Memᴰ p ps) × Once ps

-- The pairs owed after a record are those owed before it, with those it adds, less those laid during it. Only such pairs are laid, and each once.
pub record DebtStep (s : Run) (r : Record) : Type 0 where
  pub pairs : List (ℕ × ℕ)
  pub lays : LaidBy s r pairs
  pub were : Each (λ (p : ℕ × ℕ). Owes s p.0 p.1 ⊎ MissedBy s r p.0 p.1) pairs
  pub once : Once pairs
  pub owes : (m g : ℕ) → Owes (step s r).run m g ↔ ((Owes s m g ⊎ MissedBy s r m g) × (¬ Memᴰ (m, g) pairs))

-- ---- after every record

-- "A state may owe something only while it holds 512 tuples"
pub step_owes_full : (s : Run) (r : Record) → Sound s → r.position ≡ suc s.last → r.position < positions → T (are_bytes r.body) → OnlyFull (step s r).run
step_owes_full s r f n four t = (only_iff (step s r).run).0 (valid_only_full (step s r).run (step_sound s r f n four t).valid)

-- ---- an effect

-- the masks tell what is owed
same_owes : (s u : Run) → u.owed ≡ s.owed → (m g : ℕ) → Owes u m g ↔ Owes s m g
same_owes s u e zero g = (λ o. o, λ o. o)
same_owes s u e (suc i) g = rw e (λ o. o, λ o. o)

-- a statement, whatever comes of it, leaves them
pub comes_owes : (s : Run) (st : Statement) (t : Turn) → Comes s st t → (m g : ℕ) → Owes t.run m g ↔ Owes s m g
comes_owes s st t (runs r) = same_owes s t.run (ap (λ (u : Turn). u.run.owed) r.turned)
comes_owes s st t (is_18 u w e) = same_owes s t.run (ap (λ (u : Turn). u.run.owed) e)
comes_owes s st t (is_13 u w k e) = same_owes s t.run (ap (λ (u : Turn). u.run.owed) e)
comes_owes s st t (waits u w k e) = same_owes s t.run (ap (λ (u : Turn). u.run.owed) e)

-- a turn of rule 7 leaves them
pub woken_owes : (s : Run) (t : Turn) → WokenWords s t → (m g : ℕ) → Owes t.run m g ↔ Owes s m g
woken_owes s t w = same_owes s t.run (ap (λ (u : Run). u.owed) w.run)

-- the notices that found no room: those past the ones told
pub crash_misses : (s : Run) (h : ℕ) (s' : Run) (c : Crashed s h s') (m g : ℕ) → ((g ≡ h) × (c.told < m) × (m ≤ s.monitors)) ↔ Missed s (crash h) m g
crash_misses s h s' c m g = (
  λ q. let l = q.1 in let k = q.2 in let e = c.full (omega arith) in (q.0, q.2, omega arith),
  λ q. let l = q.2 in let k = c.fits in (q.0, omega arith, q.1),
)

-- the one, where the other gives it too
or_left : {A B : Type 0} → (B → A) → A ⊎ B → A
or_left f (inl a) = a
or_left f (inr b) = f b

-- side by side
or_iff : {A B C D : Type 0} → A ↔ B → C ↔ D → (A ⊎ C) ↔ (B ⊎ D)
or_iff h k = (go h.0 k.0, go h.1 k.1)
  where
    go : {A B C D : Type 0} → (A → B) → (C → D) → A ⊎ C → B ⊎ D
    go f g (inl a) = inl (f a)
    go f g (inr c) = inr (g c)

-- and nothing more
none_more : {A B : Type 0} → A ↔ B → A ↔ (B ⊎ ⊥)
none_more h = (λ a. inl (h.0 a), λ q. h.1 (or_left (λ x. absurd x) q))

-- the pairs owed after an effect are those owed before it, with those that found no room
pub effect_owes : (s : Run) (q : Request) → Fit s → NoRow (rows s q) → (m g : ℕ) → Owes (effect s q).run m g ↔ (Owes s m g ⊎ Missed s q m g)
unfolding effect replied recovered opened closed
effect_owes s (recover h) f k m g = none_more (same_owes s (recovered s h) refl m g)
effect_owes s (crash h) f k m g =
    let c = crashed_words s h f (omega (arith, set_below s.up h ((crash_passes s h).0 k), f.hosts)) in
    Iff.trans (c.owes m g) (or_iff Iff.rfl (crash_misses s h _ c m g))
effect_owes s (monitor h p) f k m g = none_more (same_owes s (with_monitors s (next_monitor s)) refl m g)
effect_owes s (open_space h p isPrivate) f k m g = none_more (same_owes s (opened s p isPrivate) refl m g)
effect_owes s (close_space h p n) f k m g = none_more (same_owes s (closed s n) refl m g)
effect_owes s (guarded st) f k m g = none_more (comes_owes s st (effect s (guarded st)) (statement_comes s st) m g)

-- ---- rule 7

within_pays : (n : ℕ) (s : Run) → Fit s → length s.waiting ≤ n → (ps : List (ℕ × ℕ)) × Pays s (settle_within n s).run (settle_within n s).replies ps
unfolding settle_within continued
within_pays zero s f h = ([], calm (go s.waiting h))
  where
    go : (ws : List Waiting) → length ws ≤ 0 → Each (λ (w : Waiting). ¬ Ready s.tuples w.statement) ws
    go [] h = each_nil _
    go (w ∷ ws) h = absurd (omega arith)
within_pays (suc n) s f h =
    maybe-ind (λ (t : Turn). (ps : List (ℕ × ℕ)) × Pays s t.run t.replies ps) (wake s) _ _ (λ e. ([], calm ((calm_iff s).0 (wake_none s e))))
    (λ t e.
    let k = wake_fit s t e f in
    let l = laid_lays t.run k in
    let later = within_pays n (laid t.run) (laid_fit t.run k) (omega (arith, turn_shorter s t e)) in
    (l.0 ++ later.0, turn t (woken_words s t e) l.1 later.1))

-- "Owed tuples are laid down as room appears, .. before each search of the waiting queue, and again after each statement that ran"
pub settle_pays : (s : Run) → Fit s → (ps : List (ℕ × ℕ)) × Pays s (settle s).run (settle s).replies ps
unfolding settle
settle_pays s f = within_pays (length s.waiting) s f (le_refl (length s.waiting))

-- less those laid first, and then less those laid later
less_both : {A B C : Type 0} (p : ℕ × ℕ) (ps qs : List (ℕ × ℕ)) → B ↔ (A × (¬ Memᴰ p ps)) → C ↔ (B × (¬ Memᴰ p qs)) → C ↔ (A × (¬ Memᴰ p (ps ++ qs)))
less_both p ps qs h k = (
  λ c. let b = k.0 c in let a = h.0 b.0 in (a.0, λ i. apart a.1 b.1 (Memᴰ.append_cases ps i)),
  λ a. k.1 (h.1 (a.0, λ i. a.1 (Memᴰ.append_left qs i)), λ i. a.1 (Memᴰ.append_right ps i)),
)
  where
    apart : (¬ Memᴰ p ps) → (¬ Memᴰ p qs) → Memᴰ p ps ⊎ Memᴰ p qs → ⊥
    apart f g (inl i) = f i
    apart f g (inr i) = g i

-- the pairs owed after rule 7 are those owed before, less those laid
pub pays_owes : (s u : Run) (rs : List Reply) (ps : List (ℕ × ℕ)) → Pays s u rs ps → (m g : ℕ) → Owes u m g ↔ (Owes s m g × (¬ Memᴰ (m, g) ps))
pays_owes s _ _ _ (calm c) m g = (λ o. (o, λ i. Memᴰ.not-nil i), λ q. q.0)
pays_owes s u _ _ (turn {v = v} {rs = rs} {ps = ps} {qs = qs} t w l h) m g =
    less_both (m, g) ps qs (Iff.trans (lays_owes t.run v ps l m g) (Iff.and (woken_owes s t w m g) Iff.rfl)) (pays_owes v u rs qs h m g)

-- each of them was owed
pub pays_were : (s u : Run) (rs : List Reply) (ps : List (ℕ × ℕ)) → Pays s u rs ps → Each (λ (p : ℕ × ℕ). Owes s p.0 p.1) ps
pays_were s _ _ _ (calm c) = each_nil _
pays_were s u _ _ (turn {v = v} {rs = rs} {ps = ps} {qs = qs} t w l h) =
    each_append (λ (p : ℕ × ℕ). Owes s p.0 p.1) ps qs
    (λ p i. (woken_owes s t w p.0 p.1).0 (lays_were t.run v ps l p i))
    (λ p i. (woken_owes s t w p.0 p.1).0 ((lays_owes t.run v ps l p.0 p.1).0 (pays_were v u rs qs h p i)).0)

once_append : (ps qs : List (ℕ × ℕ)) → Once ps → Once qs → Each (λ (p : ℕ × ℕ). ¬ Memᴰ p ps) qs → Once (ps ++ qs)
once_append [] qs a b d = b
once_append (p ∷ ps) qs a b d = (λ i. apart (Memᴰ.append_cases ps i), once_append ps qs a.1 b (λ q i j. d q i (Memᴰ.tail j)))
  where
    apart : Memᴰ p ps ⊎ Memᴰ p qs → ⊥
    apart (inl i) = a.0 i
    apart (inr i) = d p i (Memᴰ.head refl)

-- a pair that was laid is owed no more, so it is not laid again
lays_once : (s u : Run) (ps : List (ℕ × ℕ)) → Lays s u ps → Once ps
lays_once s _ _ (enough f) = tt
lays_once s u _ (lays {v = v} {ps = ps} m h one l) = (λ i. ((one.left m h).0 (lays_were v u ps l (m, h) i)).1 refl refl, lays_once v u ps l)

-- what is laid later was still owed
later_once : (s v : Run) (ps qs : List (ℕ × ℕ)) → Lays s v ps → Each (λ (p : ℕ × ℕ). Owes v p.0 p.1) qs → Once qs → Once (ps ++ qs)
later_once s v ps qs l were o = once_append ps qs (lays_once s v ps l) o (λ p i. ((lays_owes s v ps l p.0 p.1).0 (were p i)).1)

pays_once : (s u : Run) (rs : List Reply) (ps : List (ℕ × ℕ)) → Pays s u rs ps → Once ps
pays_once s _ _ _ (calm c) = tt
pays_once s u _ _ (turn {v = v} {rs = rs} {ps = ps} {qs = qs} t w l h) = later_once t.run v ps qs l (pays_were v u rs qs h) (pays_once v u rs qs h)

-- ---- a record

-- a record that changes nothing but the last number
still_owes : (s : Run) (r : Record) → (step s r).run ≡ with_last s r.position → LaidBy s r [] → ((m g : ℕ) → ¬ MissedBy s r m g) → DebtStep s r
still_owes s r e l never =
    let same : (m g : ℕ) → Owes (step s r).run m g ↔ Owes s m g = same_owes s (step s r).run (ap (λ (u : Run). u.owed) e) in
    record { pairs = []; lays = l; were = each_nil _; once = tt; owes = λ m g. (λ o. (inl ((same m g).0 o), λ i. Memᴰ.not-nil i), λ q. (same m g).1 (or_left (λ x. absurd (never m g x)) q.0)) }

-- the pairs that a request past its checks adds are those of its record
missed_iff : (s : Run) (r : Record) (q : Request) → request_of r.mark r.body ≡ some q → NoRow (rows (with_last s r.position) q) → (m g : ℕ) → Missed (with_last s r.position) q m g ↔ MissedBy s r m g
missed_iff s r q e k m g = (to q e k, λ x. subst (λ (y : Request). Missed (with_last s r.position) y m g) (sym (some-injective q (crash g) (sym e ∙ x.0))) (refl, x.2, x.3))
  where
    to : (q : Request) → request_of r.mark r.body ≡ some q → NoRow (rows (with_last s r.position) q) → Missed (with_last s r.position) q m g → MissedBy s r m g
    to (recover h) e k x = absurd x
    to (crash h) e k x = (e ∙ ap (λ (y : ℕ). some (crash y)) (sym x.0), subst (IsUp s) (sym x.0) ((crash_passes (with_last s r.position) h).0 k), x.1, x.2)
    to (monitor h p) e k x = absurd x
    to (open_space h p isPrivate) e k x = absurd x
    to (close_space h p n) e k x = absurd x
    to (guarded st) e k x = absurd x

-- a record that is done
done_debts : (s : Run) (r : Record) (q : Request) → request_of r.mark r.body ≡ some q → NoRow (rows (with_last s r.position) q) → Fit (with_last s r.position) → Fit (effect (with_last s r.position) q).run → DebtStep s r
done_debts s r q e k f fits =
    let s' : Run = with_last s r.position in
    let t : Turn = effect s' q in
    let v : Run = laid t.run in
    let l = laid_lays t.run fits in
    let w = settle_pays v (laid_fit t.run fits) in
    let same : step s r ≡ record { run = (settle v).run; replies = t.replies ++ (settle v).replies } = step_asks s r q e ∙ all_checks s' q k ∙ (unfold settled continued in refl) in
    let pays : Pays v (step s r).run (settle v).replies w.0 = subst (λ (u : Turn). Pays v u.run (settle v).replies w.0) (sym same) w.1 in
    let were : Each (λ (p : ℕ × ℕ). Owes v p.0 p.1) w.0 = pays_were v _ _ w.0 pays in
    record {
      pairs = l.0 ++ w.0;
      lays = is_done q e k l.1 pays (ap (λ (u : Turn). u.replies) same);
      were = each_append (λ (p : ℕ × ℕ). Owes s p.0 p.1 ⊎ MissedBy s r p.0 p.1) l.0 w.0
          (λ p i. (added p.0 p.1).0 (lays_were t.run v l.0 l.1 p i))
          (λ p i. (added p.0 p.1).0 ((lays_owes t.run v l.0 l.1 p.0 p.1).0 (were p i)).0);
      once = later_once t.run v l.0 w.0 l.1 were (pays_once v _ _ w.0 pays);
      owes = λ m g. less_both (m, g) l.0 w.0 (Iff.trans (lays_owes t.run v l.0 l.1 m g) (Iff.and (added m g) Iff.rfl)) (pays_owes v _ _ w.0 pays m g);
    }
  where
    added : (m g : ℕ) → Owes (effect (with_last s r.position) q).run m g ↔ (Owes s m g ⊎ MissedBy s r m g)
    added m g = Iff.trans (effect_owes (with_last s r.position) q f k m g) (or_iff (same_owes s (with_last s r.position) refl m g) (missed_iff s r q e k m g))

-- "A failure tuple without room is now owed, per monitor number and host, each pair at most once": so it is after every record
pub step_debts : (s : Run) (r : Record) → Sound s → r.position ≡ suc s.last → r.position < positions → T (are_bytes r.body) → DebtStep s r
step_debts s r f n four t = go (request_of r.mark r.body) refl
  where
    s' : Run
    s' = with_last s r.position

    fits : Fit s'
    fits = later_fit s r.position (omega arith) four (sound_fit s f)

    asked : (q : Request) → request_of r.mark r.body ≡ some q → NoRow (rows s' q) ⊎ ((n : ℕ) × FirstRow (rows s' q) n) → DebtStep s r
    asked q e (inl k) = done_debts s r q e k fits (effect_fit s' fits (omega arith) (λ w i. omega (arith, ((sound_fit s f).waiting.each w i).late)) q (request_possible r.mark r.body q t e) ((no_row s' q).1 k))
    asked q e (inr k) =
        still_owes s r (ap (λ (u : Turn). u.run) (step_asks s r q e ∙ first_check s' q k.0 k.1)) (is_refused q k.0 e k.1)
        (λ m g x. down g k.0 x.1 (subst (λ (y : Request). FirstRow (rows s' y) k.0) (some-injective q (crash g) (sym e ∙ x.0)) k.1))
      where
        down : (g n : ℕ) → IsUp s g → FirstRow (rows s' (crash g)) n → ⊥
        down g n u (inl d) = d.0 u
        down g n u (inr x) = x.1

    go : (o : Option Request) → request_of r.mark r.body ≡ o → DebtStep s r
    go none e = still_owes s r (ap (λ (u : Turn). u.run) (step_malformed s r e)) (is_malformed e) (λ m g x. none-ne-some (crash g) (sym e ∙ x.0))
    go (some q) e = asked q e (check_cases s' q)

-- ---- recovery

-- at a run that rests nothing is laid and no turn is taken
recover_rests : (s : Run) (h : ℕ) → Rests s → (m g : ℕ) → Owes (handled s (recover h)).run m g ↔ Owes s m g
recover_rests s h c = go (check_cases s (recover h))
  where
    u : Run
    u = with_up s (set s.up h true)

    still : settle (laid u) ≡ record { run = u; replies = [] }
    still = ap settle (laid_still u (unfold owes_only_full owes_some has_room in c.1)) ∙ settle_of_calm u (unfold none_ready in c.0)

    go : NoRow (rows s (recover h)) ⊎ ((n : ℕ) × FirstRow (rows s (recover h)) n) → (m g : ℕ) → Owes (handled s (recover h)).run m g ↔ Owes s m g
    go (inl k) =
        let after : (settled (effect s (recover h))).run ≡ (settle (laid u)).run = unfold settled continued effect replied recovered in refl in
        same_owes s (handled s (recover h)).run (ap (λ (t : Turn). t.run.owed) (all_checks s (recover h) k) ∙ ap (λ (v : Run). v.owed) after ∙ ap (λ (t : Turn). t.run.owed) still)
    go (inr k) = same_owes s (handled s (recover h)).run (ap (λ (t : Turn). t.run.owed) (first_check s (recover h) k.0 k.1))

-- "Recovery of the host does not cancel the debt"
pub recover_owes : (s : Run) (h : ℕ) → Sound s → (m g : ℕ) → Owes (handled s (recover h)).run m g ↔ Owes s m g
recover_owes s h f = recover_rests s h (valid_none_ready s f.valid, valid_only_full s f.valid)

-- so it is of its record, done or refused
pub step_recover : (s : Run) (r : Record) (h : ℕ) → Sound s → request_of r.mark r.body ≡ some (recover h) → (m g : ℕ) → Owes (step s r).run m g ↔ Owes s m g
step_recover s r h f e m g =
    let s' : Run = with_last s r.position in
    let c : Rests s' = (unfold none_ready in valid_none_ready s f.valid, unfold owes_only_full owes_some has_room in valid_only_full s f.valid) in
    rw (step_asks s r (recover h) e) (Iff.trans (recover_rests s' h c m g) (same_owes s s' refl m g))

-- ---- crashes

-- with room for all, a crash leaves the notice of each monitor number, and owes nothing more
pub crash_room : (s : Run) (h : ℕ) (s' : Run) (c : Crashed s h s') → length s.tuples + s.monitors ≤ most_tuples → Notices s.monitors h c.notices × ((m g : ℕ) → Owes s' m g ↔ Owes s m g)
crash_room s h s' c room = (
  subst (λ (n : ℕ). Notices n h c.notices) (all_told (ltb c.told s.monitors) refl) c.notes,
  λ m g. (λ o. or_left (λ x. absurd (none_missed m ((crash_misses s h s' c m g).0 x))) ((c.owes m g).0 o), λ o. (c.owes m g).1 (inl o)),
)
  where
    all_told : (b : Bool) → ltb c.told s.monitors ≡ b → c.told ≡ s.monitors
    all_told true q = let l = ltb→lt c.told s.monitors (rw q tt) in let e = c.full l in absurd (omega arith)
    all_told false q = let l = nltb→le c.told s.monitors (false_is _ q) in let k = c.few in omega arith

    none_missed : {g : ℕ} (m : ℕ) → Missed s (crash h) m g → ⊥
    none_missed m x = let l = x.1 in let k = x.2 in omega arith

-- "each pair at most once": where the pairs that find no room are owed already, a crash adds none
pub crash_again : (s : Run) (h : ℕ) (s' : Run) → Crashed s h s' → ((m : ℕ) → Missed s (crash h) m h → Owes s m h) → (m g : ℕ) → Owes s' m g ↔ Owes s m g
crash_again s h s' c already m g = (
  λ o. or_left (λ x. subst (Owes s m) (sym x.0) (already m ((crash_misses s h s' c m h).0 (refl, x.1, x.2)))) ((c.owes m g).0 o),
  λ o. (c.owes m g).1 (inl o),
)
