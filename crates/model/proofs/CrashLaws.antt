-- Rule 6 in its words: whom a crash drops, which notices find room, and which are owed. Assumes nothing.
use Rattle.std.specs.Prelude.{◌≡◌, ◌↔◌, ◌≢◌, ◌⊎◌, ℕ, zero, suc, ◌+◌, ◌≤◌, ◌<◌, Bool, not, get_or, set, T, eqb}
use Rattle.std.proofs.Math.Path.{refl, ap}
use Rattle.std.proofs.Common.{sym, subst, ◌∙◌, inl, inr, arith, length-append, length-set, get_or-set_same, get_or-set_other, eqb→eq}
use Rattle.std.proofs.Math.Bool.{true, false}
use Rattle.std.proofs.Math.Option.{some, some-injective, none-ne-some}
use mathlib.Core.List.{List, [], ◌∷◌, ◌++◌, map, foldl, append-nil, append_assoc, Memᴰ}
use Rattle.std.proofs.Math.ListN.{length}
use Rattle.std.proofs.lemmas.List.{length-map}
use Rattle.std.proofs.Math.Dec.{eqb_refl, ltb→lt, nltb→le}
use Rattle.basis.specs.Logic.{not_eq, false_is}
use Rattle.basis.specs.Lists.{keep, count_from}
use Rattle.basis.specs.ListLaws.{count_from_length}
use Rattle.basis.specs.IndexLaws.{At, count_from_at, Decides, Parts, keep_parts, parts_others}
use Rattle.basis.specs.Sizes.{hosts, most_monitors, most_tuples}
use Rattle.model.specs.Value.{value, whole, name}
use Rattle.model.specs.Matching.{Tuple}
use Rattle.model.specs.Run.{Waiting, Run, with_up, with_tuples, with_waiting, with_owed, monitor_numbers, failure_tuple, has_room, noticed, set_owed}
use Rattle.model.specs.Step.{dropped, notified, crashed}
use Rattle.model.proofs.Debts.{Masks, Owes, set_masks, set_same, set_other, crashed_beside}
use Rattle.model.proofs.Fit.{Fit}

-- ---- the words

-- host h is up (b true) or not, the others as before
pub record HostSet (h : ℕ) (b : Bool) (up up' : List Bool) : Type 0 where
  pub same : h < length up → get_or up' h false ≡ b
  pub others : (g : ℕ) → g ≢ h → get_or up' g false ≡ get_or up g false
  pub as_many : length up' ≡ length up

pub host_set : (up : List Bool) (h : ℕ) (b : Bool) → HostSet h b up (set up h b)
host_set up h b = record { same = λ l. get_or-set_same up h b false l; others = λ g d. get_or-set_other up h g b false d; as_many = length-set up h b }

-- the first so many: "for each monitor number in rising order, the tuple (name 1, whole monitor number, whole host)"
pub record Notices (told h : ℕ) (ts : List Tuple) : Type 0 where
  pub as_many : length ts ≡ told
  pub each : (i : ℕ) → i < told → At ts i (record { space = 0; values = value name 1 ∷ value whole (1 + i) ∷ value whole h ∷ [] })

-- CR: the host is not up, its waiting statements are dropped and the others keep their order. The notices of the first monitor numbers stand after the tuples, as many as there is room for; those of the others are owed, beside what was owed before. Nothing else changes.
pub record Crashed (s : Run) (h : ℕ) (s' : Run) : Type 0 where
  pub up : List Bool
  pub dropped : List Waiting
  pub kept : List Waiting
  pub told : ℕ
  pub notices : List Tuple
  pub host : HostSet h false s.up up
  pub drops : Parts (λ (w : Waiting). w.statement.host ≡ h) s.waiting dropped kept
  pub notes : Notices told h notices
  pub few : told ≤ s.monitors
  pub fits : length s.tuples + told ≤ most_tuples
  pub full : told < s.monitors → length s.tuples + told ≡ most_tuples
  pub owes : (m g : ℕ) → Owes s' m g ↔ (Owes s m g ⊎ ((g ≡ h) × (told < m) × (m ≤ s.monitors)))
  pub turned : s' ≡ with_owed (with_tuples (with_waiting (with_up s up) kept) (s.tuples ++ notices)) s'.owed

-- ---- notice by notice

-- what n notices, from number k + 1 on, come to
record Told (s : Run) (h k n : ℕ) (u : Run) : Type 0 where
  pub told : ℕ
  pub few : told ≤ n
  pub fits : length s.tuples + told ≤ most_tuples
  pub full : told < n → length s.tuples + told ≡ most_tuples
  pub tuples : u.tuples ≡ s.tuples ++ map (failure_tuple h) (count_from told (suc k))
  pub owes : (m g : ℕ) → Owes u m g ↔ (Owes s m g ⊎ ((g ≡ h) × (k + told < m) × (m ≤ k + n)))

-- what they ask
record May (s : Run) (h k n : ℕ) : Type 0 where
  pub masks : Masks s.owed
  pub limit : length s.tuples ≤ most_tuples
  pub numbers : k + n ≤ most_monitors
  pub host : h < hosts

-- one that finds room
told_one : (s : Run) (h k n : ℕ) (u : Run) → T (has_room s) → Told (noticed s (suc k) h) h (suc k) n u → Told s h k (suc n) u
unfolding has_room noticed count_from
told_one s h k n u r t =
    let room : length s.tuples < most_tuples = ltb→lt (length s.tuples) most_tuples r in
    let more : length (s.tuples ++ (failure_tuple h (suc k) ∷ [])) ≡ suc (length s.tuples) = length-append s.tuples (failure_tuple h (suc k) ∷ []) ∙ omega arith in
    record {
      told = suc t.told;
      few = omega (arith, t.few);
      fits = omega (arith, more, t.fits);
      full = λ l. omega (arith, more, t.full (omega arith));
      tuples = t.tuples ∙ append_assoc s.tuples (failure_tuple h (suc k) ∷ []) (map (failure_tuple h) (count_from t.told (suc (suc k))));
      owes = λ m g. (λ o. to m g ((t.owes m g).0 o), λ q. (t.owes m g).1 (from m g q));
    }
  where
    said : (m g : ℕ) → Owes (noticed s (suc k) h) m g ↔ Owes s m g
    said zero g = (λ o. o, λ o. o)
    said (suc i) g = (λ o. o, λ o. o)

    to : (m g : ℕ) → Owes (noticed s (suc k) h) m g ⊎ ((g ≡ h) × (suc k + t.told < m) × (m ≤ suc k + n)) → Owes s m g ⊎ ((g ≡ h) × (k + suc t.told < m) × (m ≤ k + suc n))
    to m g (inl o) = inl ((said m g).0 o)
    to m g (inr q) = inr (q.0, omega (arith, q.1), omega (arith, q.2))

    from : (m g : ℕ) → Owes s m g ⊎ ((g ≡ h) × (k + suc t.told < m) × (m ≤ k + suc n)) → Owes (noticed s (suc k) h) m g ⊎ ((g ≡ h) × (suc k + t.told < m) × (m ≤ suc k + n))
    from m g (inl o) = inl ((said m g).1 o)
    from m g (inr q) = inr (q.0, omega (arith, q.1), omega (arith, q.2))

-- one that finds none: it is owed, and so are those after it
owed_one : (s : Run) (h k n : ℕ) (u : Run) → May s h k (suc n) → has_room s ≡ false → Told (set_owed s (suc k) h true) h (suc k) n u → Told s h k (suc n) u
unfolding has_room count_from
owed_one s h k n u a r t =
    let fits : length s.tuples + t.told ≤ most_tuples = unfold set_owed in t.fits in
    let tuples : u.tuples ≡ s.tuples ++ map (failure_tuple h) (count_from t.told (suc (suc k))) = unfold set_owed in t.tuples in
    record {
      told = 0;
      few = omega arith;
      fits = omega (arith, a.limit);
      full = λ l. omega (arith, a.limit, over);
      tuples = tuples ∙ ap (λ (n : ℕ). s.tuples ++ map (failure_tuple h) (count_from n (suc (suc k)))) (none fits);
      owes = λ m g. (λ o. to m g (none fits) ((t.owes m g).0 o), λ q. (t.owes m g).1 (from m g (none fits) q (eqb m (suc k)) refl (eqb g h) refl));
    }
  where
    over : most_tuples ≤ length s.tuples
    over = nltb→le (length s.tuples) most_tuples (false_is _ r)

    none : length s.tuples + t.told ≤ most_tuples → t.told ≡ 0
    none f = omega (arith, over)

    same : Owes (set_owed s (suc k) h true) (suc k) h ↔ T true
    same = set_same s a.masks (suc k) h true (omega arith) (omega (arith, a.numbers)) a.host

    other : (m g : ℕ) → (m ≡ suc k → g ≢ h) → Owes (set_owed s (suc k) h true) m g ↔ Owes s m g
    other m g d = set_other s a.masks (suc k) h true (omega arith) (omega (arith, a.numbers)) m g d

    set_cases : (m g : ℕ) → Owes (set_owed s (suc k) h true) m g → (b : Bool) → eqb m (suc k) ≡ b → (c : Bool) → eqb g h ≡ c → Owes s m g ⊎ ((m ≡ suc k) × (g ≡ h))
    set_cases m g o true q true p = inr (eqb→eq m (suc k) (rw q tt), eqb→eq g h (rw p tt))
    set_cases m g o true q false p = inl ((other m g (λ e. not_eq g h (rw p tt))).0 o)
    set_cases m g o false q c p = inl ((other m g (λ e. absurd (not_eq m (suc k) (rw q tt) e))).0 o)

    to : (m g : ℕ) → t.told ≡ 0 → Owes (set_owed s (suc k) h true) m g ⊎ ((g ≡ h) × (suc k + t.told < m) × (m ≤ suc k + n)) → Owes s m g ⊎ ((g ≡ h) × (k + 0 < m) × (m ≤ k + suc n))
    to m g z (inl o) = put (set_cases m g o (eqb m (suc k)) refl (eqb g h) refl)
      where
        put : Owes s m g ⊎ ((m ≡ suc k) × (g ≡ h)) → Owes s m g ⊎ ((g ≡ h) × (k + 0 < m) × (m ≤ k + suc n))
        put (inl o) = inl o
        put (inr e) = inr (e.1, omega (arith, e.0), omega (arith, e.0))
    to m g z (inr q) = inr (q.0, omega (arith, q.1), omega (arith, q.2))

    from : (m g : ℕ) → t.told ≡ 0 → Owes s m g ⊎ ((g ≡ h) × (k + 0 < m) × (m ≤ k + suc n)) → (b : Bool) → eqb m (suc k) ≡ b → (c : Bool) → eqb g h ≡ c → Owes (set_owed s (suc k) h true) m g ⊎ ((g ≡ h) × (suc k + t.told < m) × (m ≤ suc k + n))
    from m g z q true e true p = inl (subst (λ (x : ℕ). Owes (set_owed s (suc k) h true) x g) (sym (eqb→eq m (suc k) (rw e tt))) (subst (λ (x : ℕ). Owes (set_owed s (suc k) h true) (suc k) x) (sym (eqb→eq g h (rw p tt))) (same.1 tt)))
    from m g z (inl o) true e false p = inl ((other m g (λ x. not_eq g h (rw p tt))).1 o)
    from m g z (inr q) true e false p = absurd (not_eq g h (rw p tt) q.0)
    from m g z (inl o) false e c p = inl ((other m g (λ x. absurd (not_eq m (suc k) (rw e tt) x))).1 o)
    from m g z (inr q) false e c p = let d : m ≢ suc k = not_eq m (suc k) (rw e tt) in inr (q.0, later m q.1 d z, omega (arith, q.2))
      where
        later : (m : ℕ) → k + 0 < m → m ≢ suc k → t.told ≡ 0 → suc k + t.told < m
        later m l d z = omega arith

tells : (n k : ℕ) (s : Run) (h : ℕ) → May s h k n → Told s h k n (foldl (notified h) s (count_from n (suc k)))
unfolding count_from noticed set_owed
tells zero k s h a = record { told = 0; few = omega arith; fits = omega (arith, a.limit); full = λ l. absurd (omega arith); tuples = sym (append-nil s.tuples); owes = λ m g. (λ o. inl o, λ q. only m g q) }
  where
    only : (m g : ℕ) → Owes s m g ⊎ ((g ≡ h) × (k + 0 < m) × (m ≤ k + 0)) → Owes s m g
    only m g (inl o) = o
    only m g (inr q) = absurd (omega (arith, q.1, q.2))
tells (suc n) k s h a = go (has_room s) refl (λ u b. tells n (suc k) u h b)
  where
    more : length s.tuples < most_tuples → length (s.tuples ++ (failure_tuple h (suc k) ∷ [])) ≤ most_tuples
    more room = omega (arith, length-append s.tuples (failure_tuple h (suc k) ∷ []))

    go : (r : Bool) → has_room s ≡ r → ((u : Run) → May u h (suc k) n → Told u h (suc k) n (foldl (notified h) u (count_from n (suc (suc k))))) → Told s h k (suc n) (foldl (notified h) (notified h s (suc k)) (count_from n (suc (suc k))))
    go true r later =
        let v : Run = noticed s (suc k) h in
        let same : notified h s (suc k) ≡ v = unfold notified in rw r in
        let room : length s.tuples < most_tuples = unfold has_room in ltb→lt (length s.tuples) most_tuples (rw r tt) in
        let may : May v h (suc k) n = record { masks = a.masks; limit = more room; numbers = omega (arith, a.numbers); host = a.host } in
        told_one s h k n _ (rw r tt) (subst (λ (u : Run). Told v h (suc k) n (foldl (notified h) u (count_from n (suc (suc k))))) (sym same) (later v may))
    go false r later =
        let v : Run = set_owed s (suc k) h true in
        let same : notified h s (suc k) ≡ v = unfold notified in rw r in
        let may : May v h (suc k) n = record { masks = set_masks s a.masks (suc k) h true (omega arith) (omega (arith, a.numbers)); limit = a.limit; numbers = omega (arith, a.numbers); host = a.host } in
        owed_one s h k n _ a r (subst (λ (u : Run). Told v h (suc k) n (foldl (notified h) u (count_from n (suc (suc k))))) (sym same) (later v may))

-- ---- a crash

at_map : {A B : Type 0} (f : A → B) (l : List A) (i : ℕ) (a : A) → At l i a → At (map f l) i (f a)
at_map f [] i a e = absurd (none-ne-some a e)
at_map f (b ∷ l) zero a e = ap some (ap f (some-injective b a e))
at_map f (b ∷ l) (suc i) a e = at_map f l i a e

notices_words : (told h : ℕ) → Notices told h (map (failure_tuple h) (count_from told 1))
unfolding failure_tuple
notices_words told h = record { as_many = length-map (count_from told 1) (failure_tuple h) ∙ count_from_length told 1; each = λ i l. at_map (failure_tuple h) (count_from told 1) i (1 + i) (count_from_at told 1 i l) }

pub equal_iff : {A : Type 0} (f : A → ℕ) (n : ℕ) → Decides (λ a. eqb (f a) n) (λ a. f a ≡ n)
equal_iff f n a = (λ t. eqb→eq (f a) n t, λ e. rw e (eqb_refl n))

-- "A crash drops that host's waiting statements without reply. Then it appends to space 0" the notices; one "without room is now owed"
pub crashed_words : (s : Run) (h : ℕ) → Fit s → h < hosts → Crashed s h (crashed s h)
unfolding crashed monitor_numbers dropped
crashed_words s h f low =
    let t = tells s.monitors 0 (dropped s h) h (record { masks = f.owed.masks; limit = f.tuples.few; numbers = omega (arith, f.monitors); host = low }) in
    record {
      up = set s.up h false;
      dropped = keep (λ w. eqb w.statement.host h) s.waiting;
      kept = keep (λ w. not (eqb w.statement.host h)) s.waiting;
      told = t.told;
      notices = map (failure_tuple h) (count_from t.told 1);
      host = host_set s.up h false;
      drops = keep_parts (λ w. eqb w.statement.host h) (λ (w : Waiting). w.statement.host ≡ h) (equal_iff (λ (w : Waiting). w.statement.host) h) s.waiting;
      notes = notices_words t.told h;
      few = t.few;
      fits = t.fits;
      full = t.full;
      owes = λ m g. (λ o. (said t.told m g).0 ((t.owes m g).0 o), λ q. (t.owes m g).1 ((said t.told m g).1 q));
      turned = crashed_beside s h ∙ ap (λ (ts : List Tuple). with_owed (with_tuples (with_waiting (with_up s (set s.up h false)) (keep (λ w. not (eqb w.statement.host h)) s.waiting)) ts) (foldl (notified h) (dropped s h) (count_from s.monitors 1)).owed) t.tuples;
    }
  where
    said : (told m g : ℕ) → (Owes (dropped s h) m g ⊎ ((g ≡ h) × (0 + told < m) × (m ≤ 0 + s.monitors))) ↔ (Owes s m g ⊎ ((g ≡ h) × (told < m) × (m ≤ s.monitors)))
    said told zero g = let a : 0 + told ≡ told = omega arith in let b : 0 + s.monitors ≡ s.monitors = omega arith in rw (a, b) (λ q. q, λ q. q)
    said told (suc i) g = let a : 0 + told ≡ told = omega arith in let b : 0 + s.monitors ≡ s.monitors = omega arith in rw (a, b) (λ q. q, λ q. q)

-- who waits after a crash waited before it and is not of that host, and the other way round
pub crash_drops : (s : Run) (h : ℕ) (s' : Run) → Crashed s h s' → (w : Waiting) → Memᴰ w s'.waiting ↔ (Memᴰ w s.waiting × (w.statement.host ≢ h))
crash_drops s h s' c w = rw c.turned (parts_others (λ (w : Waiting). w.statement.host ≡ h) s.waiting c.dropped c.kept c.drops w)
