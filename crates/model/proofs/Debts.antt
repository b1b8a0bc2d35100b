-- What is owed, by name, and what laying it down leaves as it was. Assumes nothing.
use Rattle.std.specs.Prelude.{◌≡◌, ◌↔◌, ◌≢◌, ◌⊎◌, Bool, true, false, not, ◌&&◌, cond, List, [], ◌∷◌, length, drop, get_or, set, eqb}
use Rattle.std.proofs.Math.Path.{refl}
use Rattle.std.proofs.Common.{ap, ◌∙◌, inl, inr, length-set, get_or-set_same, get_or-set_other, T_not, eqb→eq}
use Prim.Native.Nat.{ℕ, zero, suc, ◌-◌, ◌≤◌, ◌<◌}
use native.Mathlib.Omega.{arith}
use Rattle.std.proofs.Math.Dec.{T, not_T}
use Rattle.basis.specs.Choice.{cond_ind}
use Rattle.basis.specs.Logic.{is_true, or_l, or_r, or_cases, not_eq}
use Rattle.basis.specs.Lists.{all, any, count_from}
use Rattle.basis.specs.ListLaws.{Each, each_at, each_set, all_at, foldl-keeps, foldl_still}
use Rattle.basis.specs.Sizes.{hosts, most_monitors}
use Rattle.model.specs.Run.{Run, with_tuples, with_owed, monitor_numbers, has_room, noticed, owed_mask, is_owed, set_owed, none_owed, owes_some, laid_one, laid_for, laid}
use Rattle.model.specs.Step.{dropped, notified, crashed}
use Rattle.model.specs.Valid.{owed_to_given, owes_only_full}

-- ---- a mask

-- no bit is set where there is none
pub unset_at : (us : List Bool) → T (not (any (λ b. b) us)) → (h : ℕ) → ¬ T (get_or us h false)
unfolding any
unset_at [] t h q = q
unset_at (true ∷ us) t h q = t
unset_at (false ∷ us) t zero q = q
unset_at (false ∷ us) t (suc h) q = unset_at us t h q

pub set_at : (us : List Bool) (h : ℕ) → T (get_or us h false) → T (any (λ b. b) us)
unfolding any
set_at [] h t = t
set_at (true ∷ us) h t = tt
set_at (false ∷ us) zero t = absurd t
set_at (false ∷ us) (suc h) t = set_at us h t

-- a bit that is set is one of its places
pub set_below : (us : List Bool) (h : ℕ) → T (get_or us h false) → h < length us
set_below [] h t = absurd t
set_below (b ∷ us) zero t = omega arith
set_below (b ∷ us) (suc h) t = omega (arith, set_below us h t)

-- ---- eight masks

-- "a two-byte mask for each of the eight monitor numbers"
pub record Masks (os : List (List Bool)) : Type 0 where
  pub places : length os ≡ most_monitors
  pub wide : Each (λ (us : List Bool). length us ≡ hosts) os

pub mask_wide : (os : List (List Bool)) → Masks os → (i : ℕ) → i < most_monitors → length (get_or os i []) ≡ hosts
mask_wide os k i low = each_at (λ (us : List Bool). length us ≡ hosts) os k.wide i [] (omega (arith, k.places))

pub masks_set : (os : List (List Bool)) → Masks os → (i h : ℕ) (b : Bool) → i < most_monitors → Masks (set os i (set (get_or os i []) h b))
masks_set os k i h b low = record {
  places = length-set os i (set (get_or os i []) h b) ∙ k.places;
  wide = each_set (λ (us : List Bool). length us ≡ hosts) os k.wide i (set (get_or os i []) h b) (length-set (get_or os i []) h b ∙ mask_wide os k i low);
}

module _ (os : List (List Bool)) (k : Masks os) (i h : ℕ) (b : Bool) (low : i < most_monitors) where
  -- the bit that is set
  pub bit_same : h < hosts → get_or (get_or (set os i (set (get_or os i []) h b)) i []) h false ≡ b
  bit_same below = rw (get_or-set_same os i (set (get_or os i []) h b) [] (omega (arith, k.places))) (get_or-set_same (get_or os i []) h b false (omega (arith, mask_wide os k i low)))

  -- all others
  pub bit_other : (j g : ℕ) → (j ≡ i → g ≢ h) → get_or (get_or (set os i (set (get_or os i []) h b)) j []) g false ≡ get_or (get_or os j []) g false
  bit_other j g d = go (eqb j i) refl
    where
      go : (x : Bool) → eqb j i ≡ x → get_or (get_or (set os i (set (get_or os i []) h b)) j []) g false ≡ get_or (get_or os j []) g false
      go true q =
          let e : j ≡ i = eqb→eq j i (rw q tt) in
          rw (e, get_or-set_same os i (set (get_or os i []) h b) [] (omega (arith, k.places))) (get_or-set_other (get_or os i []) h g b false (d e))
      go false q = rw (get_or-set_other os i j (set (get_or os i []) h b) [] (not_eq j i (rw q tt)))

-- ---- the pairs owed

-- the pair of a monitor number and a host is owed
abbrev pub Owes : Run → (monitor host : ℕ) → Type 0
Owes s zero h = ⊥
Owes s (suc i) h = T (get_or (get_or s.owed i []) h false)

-- the test is the words
pub owed_iff : (s : Run) (m h : ℕ) → 1 ≤ m → T (is_owed s m h) ↔ Owes s m h
unfolding is_owed owed_mask
owed_iff s zero h l = absurd (omega arith)
owed_iff s (suc i) h l = let e : suc i - 1 ≡ i = omega arith in rw e (λ t. t, λ t. t)

some_mask : (os : List (List Bool)) → T (any (λ us. any (λ b. b) us) os) → (i : ℕ) × (h : ℕ) × T (get_or (get_or os i []) h false)
unfolding any
some_mask [] t = absurd t
some_mask (us ∷ os) t = go (or_cases (any (λ b. b) us) (any (λ us. any (λ b. b) us) os) t) (some_mask os)
  where
    bit : (us : List Bool) → T (any (λ b. b) us) → (h : ℕ) × T (get_or us h false)
    bit [] t = absurd t
    bit (true ∷ us) t = (0, tt)
    bit (false ∷ us) t = let r = bit us t in (suc r.0, r.1)

    go : T (any (λ b. b) us) ⊎ T (any (λ us. any (λ b. b) us) os) → (T (any (λ us. any (λ b. b) us) os) → (i : ℕ) × (h : ℕ) × T (get_or (get_or os i []) h false)) → (i : ℕ) × (h : ℕ) × T (get_or (get_or (us ∷ os) i []) h false)
    go (inl q) later = let r = bit us q in (0, r.0, r.1)
    go (inr q) later = let r = later q in (suc r.0, r.1, r.2)

mask_some : (os : List (List Bool)) (i h : ℕ) → T (get_or (get_or os i []) h false) → T (any (λ us. any (λ b. b) us) os)
unfolding any
mask_some [] i h t = absurd t
mask_some (us ∷ os) zero h t = or_l (any (λ b. b) us) (any (λ us. any (λ b. b) us) os) (set_at us h t)
mask_some (us ∷ os) (suc i) h t = or_r (any (λ b. b) us) (any (λ us. any (λ b. b) us) os) (mask_some os i h t)

-- it owes something: some pair
pub owes_iff : (s : Run) → T (owes_some s) ↔ ((m : ℕ) × (h : ℕ) × Owes s m h)
unfolding owes_some
owes_iff s = (λ t. let r = some_mask s.owed t in (suc r.0, r.1, r.2), λ q. go q.0 q.1 q.2)
  where
    go : (m h : ℕ) → Owes s m h → T (any (λ us. any (λ b. b) us) s.owed)
    go zero h o = absurd o
    go (suc i) h o = mask_some s.owed i h o

-- "A state may owe something only while it holds 512 tuples"
pub only_full : (s : Run) → T (owes_only_full s) ↔ ((m h : ℕ) → Owes s m h → ¬ T (has_room s))
unfolding owes_only_full
only_full s = (
  λ t m h o r. T_not (owes_some s && has_room s) t (rw (is_true (owes_some s) ((owes_iff s).1 (m, h, o)), is_true (has_room s) r) tt),
  λ f. not_T (owes_some s && has_room s) (λ t. go (owes_some s) refl (has_room s) refl t f),
)
  where
    go : (a : Bool) → owes_some s ≡ a → (r : Bool) → has_room s ≡ r → T (a && r) → ((m h : ℕ) → Owes s m h → ¬ T (has_room s)) → ⊥
    go true q true e t f = let o = (owes_iff s).0 (rw q tt) in f o.0 o.1 o.2 (rw e tt)
    go true q false e t f = t
    go false q r e t f = t

-- only numbers that were given are owed something, and hosts
pub owes_below : (s : Run) → Masks s.owed → T (owed_to_given s) → (m h : ℕ) → Owes s m h → (1 ≤ m) × (m ≤ s.monitors) × (h < hosts)
unfolding owed_to_given all
owes_below s k t zero h o = absurd o
owes_below s k t (suc i) h o =
    let low : i < most_monitors = omega (arith, placed s.owed i h o, k.places) in
    (omega arith, given s.owed s.monitors i h t o, omega (arith, set_below (get_or s.owed i []) h o, mask_wide s.owed k i low))
  where
    placed : (os : List (List Bool)) (i h : ℕ) → T (get_or (get_or os i []) h false) → i < length os
    placed [] i h t = absurd t
    placed (us ∷ os) zero h t = omega arith
    placed (us ∷ os) (suc i) h t = omega (arith, placed os i h t)

    given : (os : List (List Bool)) (n i h : ℕ) → T (none_owed (drop n os)) → T (get_or (get_or os i []) h false) → suc i ≤ n
    given [] n i h t o = absurd o
    given (us ∷ os) zero i h t o = absurd (unset_at (get_or (us ∷ os) i []) (each_at (λ (us : List Bool). T (not (any (λ b. b) us))) (us ∷ os) (all_at (λ us. not (any (λ b. b) us)) (us ∷ os) t) i [] (placed (us ∷ os) i h o)) h o)
    given (us ∷ os) (suc n) zero h t o = omega arith
    given (us ∷ os) (suc n) (suc i) h t o = omega (arith, given os n i h t o)

-- ---- a pair set

module _ (s : Run) (k : Masks s.owed) (m h : ℕ) (b : Bool) (low : 1 ≤ m) (high : m ≤ most_monitors) where
  pub set_masks : Masks (set_owed s m h b).owed
  unfolding set_owed owed_mask
  set_masks = masks_set s.owed k (m - 1) h b (omega arith)

  -- the pair itself
  pub set_same : h < hosts → Owes (set_owed s m h b) m h ↔ T b
  unfolding set_owed owed_mask
  set_same below = go m refl
    where
      go : (n : ℕ) → m ≡ n → Owes (set_owed s m h b) n h ↔ T b
      go zero e = absurd (omega arith)
      go (suc i) e = let z : m - 1 ≡ i = omega arith in rw (z, bit_same s.owed k i h b (omega arith) below) (λ t. t, λ t. t)

  -- all others
  pub set_other : (n g : ℕ) → (n ≡ m → g ≢ h) → Owes (set_owed s m h b) n g ↔ Owes s n g
  unfolding set_owed owed_mask
  set_other zero g d = (λ o. o, λ o. o)
  set_other (suc j) g d = rw (bit_other s.owed k (m - 1) h b (omega arith) j g (λ e. d (omega arith))) (λ t. t, λ t. t)

-- ---- laying

-- nothing but tuples and masks differs
abbrev pub Beside : Run → Run → Type 0
Beside s u = u ≡ with_owed (with_tuples s u.tuples) u.owed

pub beside_trans : (s u v : Run) → Beside s u → Beside u v → Beside s v
beside_trans s u v d e = e ∙ ap (λ (w : Run). with_owed (with_tuples w v.tuples) v.owed) d

one_beside : (s : Run) (m h : ℕ) → Beside s (laid_one s m h)
unfolding laid_one noticed set_owed
one_beside s m h = cond_ind (Beside s) (is_owed s m h && has_room s) _ _ (λ e. refl) (λ e. refl)

-- laying changes tuples and masks alone
pub laid_beside : (s : Run) → Beside s (laid s)
unfolding laid laid_for
laid_beside s =
    foldl-keeps (Beside s) laid_for (monitor_numbers s) (λ u m i d. foldl-keeps (Beside s) (λ v h. laid_one v m h) (count_from hosts 0) (λ v h j e. beside_trans s v (laid_one v m h) e (one_beside v m h)) u d) s refl

pub laid_last : (s : Run) → (laid s).last ≡ s.last
laid_last s = ap (λ (u : Run). u.last) (laid_beside s)

pub laid_up : (s : Run) → (laid s).up ≡ s.up
laid_up s = ap (λ (u : Run). u.up) (laid_beside s)

pub laid_waiting : (s : Run) → (laid s).waiting ≡ s.waiting
laid_waiting s = ap (λ (u : Run). u.waiting) (laid_beside s)

pub one_still : (s : Run) → T (owes_only_full s) → (m h : ℕ) → laid_one s m h ≡ s
unfolding laid_one is_owed owed_mask owes_only_full owes_some
one_still s t m h = go (get_or (get_or s.owed (m - 1) []) h false) refl (has_room s) refl
  where
    go : (a : Bool) → get_or (get_or s.owed (m - 1) []) h false ≡ a → (r : Bool) → has_room s ≡ r → cond (a && r) (noticed (set_owed s m h false) m h) s ≡ s
    go false q r e = refl
    go true q false e = refl
    go true q true e = absurd (T_not (owes_some s && has_room s) t (rw (is_true (any (λ us. any (λ b. b) us) s.owed) (mask_some s.owed (m - 1) h (rw q tt)), e) tt))

-- where nothing is owed, or there is no room, laying changes nothing
pub laid_still : (s : Run) → T (owes_only_full s) → laid s ≡ s
unfolding laid laid_for
laid_still s t = foldl_still laid_for s (monitor_numbers s) (λ m. foldl_still (λ v h. laid_one v m h) s (count_from hosts 0) (λ h. one_still s t m h))

-- ---- a crash

-- its notices, appended or owed, change tuples and masks alone
pub crashed_beside : (s : Run) (h : ℕ) → Beside (dropped s h) (crashed s h)
unfolding crashed
crashed_beside s h = foldl-keeps (Beside (dropped s h)) (notified h) (monitor_numbers s) (λ u m i d. beside_trans (dropped s h) u (notified h u m) d (told u m)) (dropped s h) refl
  where
    told : (u : Run) (m : ℕ) → Beside u (notified h u m)
    told u m = unfold notified noticed set_owed in cond_ind (Beside u) (has_room u) (noticed u m h) (set_owed u m h true) (λ q. refl) (λ q. refl)
