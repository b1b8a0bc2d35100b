-- Laying in its words: "Owed tuples are laid down as room appears, lowest monitor first, then lowest host". Assumes nothing.
use Rattle.std.specs.Prelude.{◌≡◌, refl, ◌↔◌, ◌≢◌, ◌⊎◌, Bool, length, T, ltb}
use Rattle.std.proofs.Common.{sym, ap, ◌∙◌, inl, inr, arith, ltb→lt, lt→ltb}
use Rattle.std.proofs.Math.Path.{subst}
use Prim.Native.Nat.{ℕ, zero, suc, ◌+◌, ◌≤◌, ◌<◌}
use Rattle.std.proofs.Math.Bool.{true, false}
use mathlib.Core.List.Memᴰ
use mathlib.Core.List.{List, [], ◌∷◌, ◌++◌, map, flat_map, foldl, foldl-append, append-nil, append_assoc, Memᴰ}
use Rattle.basis.specs.Lists.{count_from}
use Rattle.basis.specs.ListLaws.{Each, each_nil, each-cons, each_append, each_map, foldl_still, count_from_each}
use Rattle.basis.specs.Sizes.{hosts, most_monitors, most_tuples}
use Rattle.model.specs.Value.{value, whole, name}
use Rattle.model.specs.Matching.{Tuple}
use Rattle.model.specs.Run.{Run, monitor_numbers, failure_tuple, has_room, noticed, is_owed, set_owed, laid_one, laid_for, laid}
use Rattle.model.specs.Valid.{owed_to_given, owes_only_full}
use Rattle.model.proofs.Debts.{Masks, Owes, owed_iff, only_full, owes_below, set_masks, set_same, set_other, Beside, beside_trans, one_still}
use Rattle.model.proofs.Fit.{Fit}

-- ---- the words

-- "lowest monitor first, then lowest host"
abbrev pub Before : ℕ × ℕ → ℕ × ℕ → Type 0
Before p q = (p.0 < q.0) ⊎ ((p.0 ≡ q.0) × (p.1 < q.1))

-- something is owed "only while it holds 512 tuples"
abbrev pub OnlyFull : Run → Type 0
OnlyFull s = (m h : ℕ) → Owes s m h → most_tuples ≤ length s.tuples

-- One pair is laid: it is owed, each other that is comes after it, and there is room. One tuple more stands at the end, the pair is owed no more, and nothing else changes.
pub record LaysOne (s : Run) (m h : ℕ) (u : Run) : Type 0 where
  pub owed : Owes s m h
  pub least : (n g : ℕ) → Owes s n g → ((n ≡ m) × (g ≡ h)) ⊎ Before (m, h) (n, g)
  pub room : length s.tuples < most_tuples
  pub tuples : u.tuples ≡ s.tuples ++ (record { space = 0; values = value name 1 ∷ value whole m ∷ value whole h ∷ [] } ∷ [])
  pub left : (n g : ℕ) → Owes u n g ↔ (Owes s n g × (n ≡ m → g ≢ h))
  pub others : Beside s u

-- the pairs laid from one run to another, "as room appears": until nothing is owed, or nothing fits
pub data Lays : Run → Run → List (ℕ × ℕ) → Type 0 where
  enough : {s : Run} → OnlyFull s → Lays s s []
  lays : {s v u : Run} {ps : List (ℕ × ℕ)} (m h : ℕ) → LaysOne s m h v → Lays v u ps → Lays s u ((m, h) ∷ ps)

-- ---- what follows from them

-- afterwards it owes something only if it holds 512 tuples
pub lays_full : (s u : Run) (ps : List (ℕ × ℕ)) → Lays s u ps → OnlyFull u
lays_full s _ _ (enough f) = f
lays_full s u _ (lays {v = v} {ps = ps} m h one l) = lays_full v u ps l

-- laying changes tuples and masks alone
pub lays_beside : (s u : Run) (ps : List (ℕ × ℕ)) → Lays s u ps → Beside s u
lays_beside s _ _ (enough f) = refl
lays_beside s u _ (lays {v = v} {ps = ps} m h one l) = beside_trans s v u one.others (lays_beside v u ps l)

-- the failure tuple of a pair
abbrev pub notice_of : ℕ × ℕ → Tuple
notice_of p = record { space = 0; values = value name 1 ∷ value whole p.0 ∷ value whole p.1 ∷ [] }

-- each laid pair adds one tuple at the end
pub lays_tuples : (s u : Run) (ps : List (ℕ × ℕ)) → Lays s u ps → u.tuples ≡ s.tuples ++ map notice_of ps
lays_tuples s _ _ (enough f) = sym (append-nil s.tuples)
lays_tuples s u _ (lays {v = v} {ps = ps} m h one l) = lays_tuples v u ps l ∙ ap (λ (ts : List Tuple). ts ++ map notice_of ps) one.tuples ∙ append_assoc s.tuples (notice_of (m, h) ∷ []) (map notice_of ps)

-- the pairs owed afterwards are those owed before, less those laid
pub lays_owes : (s u : Run) (ps : List (ℕ × ℕ)) → Lays s u ps → (n g : ℕ) → Owes u n g ↔ (Owes s n g × (¬ Memᴰ (n, g) ps))
lays_owes s _ _ (enough f) n g = (λ o. (o, λ i. Memᴰ.not-nil i), λ q. q.0)
lays_owes s u _ (lays {v = v} {ps = ps} m h one l) n g = (
  λ o. let q = (lays_owes v u ps l n g).0 o in let r = (one.left n g).0 q.0 in (r.0, λ i. later q.1 r.1 (Memᴰ.cases_cons i)),
  λ q. (lays_owes v u ps l n g).1 ((one.left n g).1 (q.0, λ e z. q.1 (Memᴰ.head (same e z))), λ i. q.1 (Memᴰ.tail i)),
)
  where
    same : n ≡ m → g ≡ h → ◌≡◌ {A = ℕ × ℕ} (n, g) (m, h)
    same e z = λ i. (e i, z i)

    later : (¬ Memᴰ (n, g) ps) → (n ≡ m → g ≢ h) → (◌≡◌ {A = ℕ × ℕ} (n, g) (m, h)) ⊎ Memᴰ (n, g) ps → ⊥
    later free d (inl e) = d (ap (λ (p : ℕ × ℕ). p.0) e) (ap (λ (p : ℕ × ℕ). p.1) e)
    later free d (inr i) = free i

-- each of them was owed
pub lays_were : (s u : Run) (ps : List (ℕ × ℕ)) → Lays s u ps → Each (λ (p : ℕ × ℕ). Owes s p.0 p.1) ps
lays_were s _ _ (enough f) = each_nil _
lays_were s u _ (lays {v = v} {ps = ps} m h one l) = each-cons (λ (p : ℕ × ℕ). Owes s p.0 p.1) (m, h) ps one.owed (λ p i. ((one.left p.0 p.1).0 (lays_were v u ps l p i)).0)

-- ---- all pairs, in their order

abbrev laid_pair : Run → ℕ × ℕ → Run
laid_pair s p = laid_one s p.0 p.1

abbrev pairs_of : ℕ → List ℕ → List (ℕ × ℕ)
pairs_of m hs = map (λ h. (m, h)) hs

abbrev pairs : List ℕ → List (ℕ × ℕ)
pairs ms = flat_map (λ m. pairs_of m (count_from hosts 0)) ms

one_number : (m : ℕ) (s : Run) (hs : List ℕ) → foldl (λ u h. laid_one u m h) s hs ≡ foldl laid_pair s (pairs_of m hs)
one_number m s [] = refl
one_number m s (h ∷ hs) = one_number m (laid_one s m h) hs

all_numbers : (s : Run) (ms : List ℕ) → foldl laid_for s ms ≡ foldl laid_pair s (pairs ms)
unfolding laid_for flat_map
all_numbers s [] = refl
all_numbers s (m ∷ ms) =
    let hs : List ℕ = count_from hosts 0 in
    all_numbers (laid_for s m) ms ∙ ap (λ (u : Run). foldl laid_pair u (pairs ms)) (one_number m s hs) ∙ sym (foldl-append laid_pair s (pairs_of m hs) (pairs ms))

-- each comes before all later ones
abbrev Rises : List (ℕ × ℕ) → Type 0
Rises [] = Unit {0}
Rises (p ∷ ps) = Each (Before p) ps × Rises ps

rises_append : (ps qs : List (ℕ × ℕ)) → Rises ps → Rises qs → Each (λ p. Each (Before p) qs) ps → Rises (ps ++ qs)
rises_append [] qs r k d = k
rises_append (p ∷ ps) qs r k d = (each_append (Before p) ps qs r.0 (d p (Memᴰ.head refl)), rises_append ps qs r.1 k (λ q i. d q (Memᴰ.tail i)))

rises_hosts : (m n k : ℕ) → Rises (pairs_of m (count_from n k))
unfolding count_from
rises_hosts m zero k = tt
rises_hosts m (suc n) k = (each_map (Before (m, k)) (λ h. (m, h)) (count_from n (suc k)) (λ h i. inr (refl, omega (arith, (count_from_each n (suc k) h i).0))), rises_hosts m n (suc k))

pairs_from_lem : (n k : ℕ) → Each (λ (p : ℕ × ℕ). k ≤ p.0) (pairs (count_from n k))
unfolding count_from flat_map
pairs_from_lem zero k = each_nil _
pairs_from_lem (suc n) k =
    each_append (λ (p : ℕ × ℕ). k ≤ p.0) (pairs_of k (count_from hosts 0)) (pairs (count_from n (suc k)))
    (each_map (λ (p : ℕ × ℕ). k ≤ p.0) (λ h. (k, h)) (count_from hosts 0) (λ h i. omega arith))
    (λ p i. omega (arith, pairs_from_lem n (suc k) p i))

rises_pairs : (n k : ℕ) → Rises (pairs (count_from n k))
unfolding count_from flat_map
rises_pairs zero k = tt
rises_pairs (suc n) k =
    rises_append (pairs_of k (count_from hosts 0)) (pairs (count_from n (suc k))) (rises_hosts k hosts 0) (rises_pairs n (suc k))
    (each_map (λ p. Each (Before p) (pairs (count_from n (suc k)))) (λ h. (k, h)) (count_from hosts 0) (λ h i q j. inl (omega (arith, pairs_from_lem n (suc k) q j))))

count_in : (n k m : ℕ) → k ≤ m → m < k + n → Memᴰ m (count_from n k)
unfolding count_from
count_in zero k m low high = absurd (omega arith)
count_in (suc n) k m low high = go (ltb k m) refl (λ l. count_in n (suc k) m (omega arith) (omega arith))
  where
    above : (k m : ℕ) → k ≤ m → ¬ (k < m) → m ≡ k
    above k m a b = omega arith

    go : (b : Bool) → ltb k m ≡ b → (k < m → Memᴰ m (count_from n (suc k))) → Memᴰ m (k ∷ count_from n (suc k))
    go true q later = Memᴰ.tail (later (ltb→lt k m (rw q tt)))
    go false q later = Memᴰ.head (above k m low (λ l. rw q at (lt→ltb k m l)))

map_in : {A B : Type 0} (f : A → B) (l : List A) (a : A) → Memᴰ a l → Memᴰ (f a) (map f l)
map_in f [] a i = absurd (Memᴰ.not-nil i)
map_in f (b ∷ l) a i = go (Memᴰ.cases_cons i) (map_in f l a)
  where
    go : (a ≡ b) ⊎ Memᴰ a l → (Memᴰ a l → Memᴰ (f a) (map f l)) → Memᴰ (f a) (f b ∷ map f l)
    go (inl e) later = Memᴰ.head (ap f e)
    go (inr j) later = Memᴰ.tail (later j)

pair_in : (ms : List ℕ) (m h : ℕ) → Memᴰ m ms → h < hosts → Memᴰ (m, h) (pairs ms)
unfolding flat_map
pair_in [] m h i low = absurd (Memᴰ.not-nil i)
pair_in (n ∷ ms) m h i low = go (Memᴰ.cases_cons i) (λ j. pair_in ms m h j low)
  where
    go : (m ≡ n) ⊎ Memᴰ m ms → (Memᴰ m ms → Memᴰ (m, h) (pairs ms)) → Memᴰ (m, h) (pairs_of n (count_from hosts 0) ++ pairs ms)
    go (inl e) later = Memᴰ.append_left _ (subst (λ (k : ℕ). Memᴰ (m, h) (pairs_of k (count_from hosts 0))) e (map_in (λ h. (m, h)) (count_from hosts 0) h (count_in hosts 0 h (omega arith) (omega arith))))
    go (inr j) later = Memᴰ.append_right (pairs_of n (count_from hosts 0)) (later j)

in_range : (ms : List ℕ) → Each (λ (m : ℕ). (1 ≤ m) × (m ≤ most_monitors)) ms → Each (λ (p : ℕ × ℕ). (1 ≤ p.0) × (p.0 ≤ most_monitors) × (p.1 < hosts)) (pairs ms)
unfolding flat_map
in_range [] k = each_nil _
in_range (m ∷ ms) k =
    each_append (λ (p : ℕ × ℕ). (1 ≤ p.0) × (p.0 ≤ most_monitors) × (p.1 < hosts)) (pairs_of m (count_from hosts 0)) (pairs ms)
    (each_map (λ (p : ℕ × ℕ). (1 ≤ p.0) × (p.0 ≤ most_monitors) × (p.1 < hosts)) (λ h. (m, h)) (count_from hosts 0) (λ h i. ((k m (Memᴰ.head refl)).0, (k m (Memᴰ.head refl)).1, omega (arith, (count_from_each hosts 0 h i).1))))
    (in_range ms (λ n i. k n (Memᴰ.tail i)))

-- ---- laying is so

-- what a walk along the pairs is sure of: every pair that is owed is still to come
record Ahead (s : Run) (ps : List (ℕ × ℕ)) : Type 0 where
  pub masks : Masks s.owed
  pub each : Each (λ (p : ℕ × ℕ). (1 ≤ p.0) × (p.0 ≤ most_monitors) × (p.1 < hosts)) ps
  pub rise : Rises ps
  pub owed : (m h : ℕ) → Owes s m h → Memᴰ (m, h) ps

only_words : (s : Run) → T (owes_only_full s) → OnlyFull s
unfolding has_room
only_words s t m h o = below (length s.tuples) (λ l. (only_full s).0 t m h o (lt→ltb (length s.tuples) most_tuples l))
  where
    below : (n : ℕ) → ¬ (n < most_tuples) → most_tuples ≤ n
    below n f = omega arith

pub only_iff : (s : Run) → T (owes_only_full s) ↔ OnlyFull s
unfolding has_room
only_iff s = (only_words s, λ f. (only_full s).1 (λ m h o r. let a = f m h o in let b = ltb→lt (length s.tuples) most_tuples r in omega arith))

-- the pair at the front is owed and there is room
front_laid : (s : Run) (m h : ℕ) (ps : List (ℕ × ℕ)) → Ahead s ((m, h) ∷ ps) → Owes s m h → T (has_room s) → LaysOne s m h (noticed (set_owed s m h false) m h)
unfolding noticed failure_tuple has_room
front_laid s m h ps a o r =
    let in_range = a.each (m, h) (Memᴰ.head refl) in
    record {
      owed = o;
      least = λ n g q. first n g (Memᴰ.cases_cons (a.owed n g q));
      room = ltb→lt (length s.tuples) most_tuples r;
      tuples = unfold set_owed failure_tuple in refl;
      left = λ n g. (
        λ q. apart n g ((said n g).0 q) in_range.0 in_range.1 in_range.2,
        λ q. (said n g).1 ((set_other s a.masks m h false in_range.0 in_range.1 n g q.1).1 q.0),
      );
      others = unfold set_owed in refl;
    }
  where
    said : (n g : ℕ) → Owes (noticed (set_owed s m h false) m h) n g ↔ Owes (set_owed s m h false) n g
    said zero g = (λ o. o, λ o. o)
    said (suc i) g = (λ o. o, λ o. o)

    first : (n g : ℕ) → (◌≡◌ {A = ℕ × ℕ} (n, g) (m, h)) ⊎ Memᴰ (n, g) ps → ((n ≡ m) × (g ≡ h)) ⊎ Before (m, h) (n, g)
    first n g (inl e) = inl (ap (λ (p : ℕ × ℕ). p.0) e, ap (λ (p : ℕ × ℕ). p.1) e)
    first n g (inr i) = inr (a.rise.0 (n, g) i)

    apart : (n g : ℕ) → Owes (set_owed s m h false) n g → 1 ≤ m → m ≤ most_monitors → h < hosts → Owes s n g × (n ≡ m → g ≢ h)
    apart n g q low high below =
        let d : n ≡ m → g ≢ h = λ e z. (set_same s a.masks m h false low high below).0 (subst (λ (x : ℕ). Owes (set_owed s m h false) m x) z (subst (λ (x : ℕ). Owes (set_owed s m h false) x g) e q)) in
        ((set_other s a.masks m h false low high n g d).0 q, d)

walk : (ps : List (ℕ × ℕ)) (s : Run) → Ahead s ps → (qs : List (ℕ × ℕ)) × Lays s (foldl laid_pair s ps) qs
walk [] s a = ([], enough (λ m h o. absurd (Memᴰ.not-nil (a.owed m h o))))
walk ((m, h) ∷ ps) s a = go (is_owed s m h) refl (has_room s) refl (λ u. walk ps u)
  where
    below : (1 ≤ m) × (m ≤ most_monitors) × (h < hosts)
    below = a.each (m, h) (Memᴰ.head refl)

    -- no room: nothing is laid from here on
    none_left : has_room s ≡ false → OnlyFull s
    none_left e = (only_iff s).0 ((only_full s).1 (λ n g o r. rw e at r))

    -- not owed: all that is owed is still to come
    passed : is_owed s m h ≡ false → Ahead s ps
    passed e = record { masks = a.masks; each = λ p i. a.each p (Memᴰ.tail i); rise = a.rise.1; owed = λ n g o. other n g o (Memᴰ.cases_cons (a.owed n g o)) }
      where
        other : (n g : ℕ) → Owes s n g → (◌≡◌ {A = ℕ × ℕ} (n, g) (m, h)) ⊎ Memᴰ (n, g) ps → Memᴰ (n, g) ps
        other n g o (inl z) = absurd (rw e at ((owed_iff s m h below.0).1 (subst (λ (p : ℕ × ℕ). Owes s p.0 p.1) z o)))
        other n g o (inr i) = i

    -- laid
    struck : (u : Run) → LaysOne s m h u → Masks u.owed → Ahead u ps
    struck u one k = record { masks = k; each = λ p i. a.each p (Memᴰ.tail i); rise = a.rise.1; owed = λ n g o. let q = (one.left n g).0 o in other n g q.1 (Memᴰ.cases_cons (a.owed n g q.0)) }
      where
        other : (n g : ℕ) → (n ≡ m → g ≢ h) → (◌≡◌ {A = ℕ × ℕ} (n, g) (m, h)) ⊎ Memᴰ (n, g) ps → Memᴰ (n, g) ps
        other n g d (inl z) = absurd (d (ap (λ (p : ℕ × ℕ). p.0) z) (ap (λ (p : ℕ × ℕ). p.1) z))
        other n g d (inr i) = i

    go : (b : Bool) → is_owed s m h ≡ b → (r : Bool) → has_room s ≡ r → ((u : Run) → Ahead u ps → (qs : List (ℕ × ℕ)) × Lays u (foldl laid_pair u ps) qs) → (qs : List (ℕ × ℕ)) × Lays s (foldl laid_pair s ((m, h) ∷ ps)) qs
    go b q false r later =
        let still : foldl laid_pair s ((m, h) ∷ ps) ≡ s = foldl_still laid_pair s ((m, h) ∷ ps) (λ p. one_still s ((only_iff s).1 (none_left r)) p.0 p.1) in
        ([], subst (λ (u : Run). Lays s u []) (sym still) (enough (none_left r)))
    go false q true r later =
        let same : laid_one s m h ≡ s = unfold laid_one in rw q in
        let l = later s (passed q) in
        (l.0, subst (λ (u : Run). Lays s (foldl laid_pair u ps) l.0) (sym same) l.1)
    go true q true r later =
        let v : Run = noticed (set_owed s m h false) m h in
        let same : laid_one s m h ≡ v = unfold laid_one in rw (q, r) in
        let one : LaysOne s m h v = front_laid s m h ps a ((owed_iff s m h below.0).0 (rw q tt)) (rw r tt) in
        let l = later v (struck v one (unfold noticed in set_masks s a.masks m h false below.0 below.1)) in
        ((m, h) ∷ l.0, lays m h one (subst (λ (u : Run). Lays v (foldl laid_pair u ps) l.0) (sym same) l.1))

-- laying lays the least pair, and so on, as many as fit
pub laid_lays : (s : Run) → Fit s → (ps : List (ℕ × ℕ)) × Lays s (laid s) ps
unfolding laid monitor_numbers owed_to_given
laid_lays s f =
    let ms : List ℕ = count_from s.monitors 1 in
    let w = walk (pairs ms) s (record { masks = f.owed.masks; each = in_range ms (λ m i. let l = count_from_each s.monitors 1 m i in (l.0, omega (arith, l.1, f.monitors))); rise = rises_pairs s.monitors 1; owed = λ m h o. let l = owes_below s f.owed.masks f.owed.given m h o in pair_in ms m h (count_in s.monitors 1 m l.0 (omega (arith, l.1))) l.2 }) in
    (w.0, subst (λ (u : Run). Lays s u w.0) (sym (all_numbers s ms)) w.1)

-- "A state may owe something only while it holds 512 tuples": so it is once what is owed was laid
pub laid_full : (s : Run) → Fit s → T (owes_only_full (laid s))
laid_full s f = let l = laid_lays s f in (only_iff (laid s)).1 (lays_full s (laid s) l.0 l.1)
