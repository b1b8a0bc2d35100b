-- What MS and DS do to the list of open spaces. Assumes nothing.
use Rattle.std.specs.Prelude.{◌≡◌, refl, ℕ, suc, ◌+◌, ◌<◌, Bool, true, not, ◌||◌, List, [], ◌∷◌, ◌++◌, length, set, T, eqb, leb}
use Rattle.std.proofs.Common.{ap, subst, arith}
use Rattle.std.proofs.Math.Dec.{nleb→lt}
use Rattle.basis.specs.Logic.{or_no, is_true, and_l, and_r}
use Rattle.basis.specs.Lists.{all, keep}
use Rattle.basis.specs.Numbers.{big_endian}
use Rattle.basis.specs.NumberLaws.{one_byte}
use Rattle.basis.specs.Sizes.{count_width, next_width, processes, most_spaces, space_numbers, space_size, spaces_size}
use Rattle.model.specs.Matching.{Tuple}
use Rattle.model.specs.Run.{Space, Run, with_spaces, with_tuples}
use Rattle.model.specs.Step.{some_waiting_names, opened, closed}
use Rattle.model.proofs.Fit.{Fit}
use Rattle.model.proofs.Effects.{opened_fit, closed_fit}
use Rattle.layout.specs.States.{space_bytes, area, decode}
use Rattle.layout.specs.Stored.{Stored, IsStored}
use Rattle.header.specs.Rows.{parts_of, next_part, space_count_part, spaces_part, Cut, with_row, with_part, spaces_lent}
use Rattle.header.specs.RowLaws.{stored_parts, parts_stored, row_written, section_written}
use Rattle.spaces.specs.Spaces.{space_shape, spaces_of, Listed, other_than, opening}
use Rattle.lent.specs.Sections.{spaces_read}
use Rattle.tuples.specs.Section.{outside}
use Rattle.state.specs.Changes.{spaces_changed}

-- ---- MS

-- room for a space, and for its number
pub record Room (s : Run) : Type 0 where
  pub few : length s.spaces < most_spaces
  pub number : s.next < space_numbers

pub room : (s : Run) → T (not (leb most_spaces (length s.spaces) || leb space_numbers s.next)) → Room s
room s t =
    let k = or_no (leb most_spaces (length s.spaces)) (leb space_numbers s.next) t in
    record { few = nleb→lt most_spaces (length s.spaces) k.0; number = nleb→lt space_numbers s.next k.1 }

pub opens : {b x b₁ b₂ : List ℕ} {n m : ℕ} (p : ℕ) (owned : Bool) → IsStored b → T (not (leb most_spaces (length (decode b).spaces) || leb space_numbers (decode b).next)) → p < processes
    → n ≡ length (decode b).spaces → m ≡ (decode b).next → Listed x (n + 1) (spaces_of (spaces_lent b) n ++ (opening m p owned ∷ []))
    → b₁ ≡ with_row space_count_part (n + 1) (with_part spaces_part b x) → b₂ ≡ with_row next_part (m + 1) b₁ → Stored b₂ (opened (decode b) p owned)
unfolding parts_of opened
opens {b} {x} {b₁} {b₂} {n} {m} p owned h t small en em q one two =
    let s : Run = decode b in
    let ss : List Space = s.spaces ++ (opening s.next p owned ∷ []) in
    let f : Fit (with_spaces s (suc s.next) ss) = opened_fit s h.fit p owned small t in
    let k : Listed x (n + 1) ss = rw (spaces_read b n h en, em) at q in
    let step : m + 1 ≡ suc s.next = omega arith in
    let counted : Cut b₁ (set (set (parts_of s) spaces_part (area spaces_size space_size space_bytes ss)) space_count_part (big_endian count_width (length ss))) =
    rw one (section_written space_shape b x (parts_of s) (stored_parts b s h) spaces_part space_count_part (omega arith) (omega arith) refl (n + 1) ss k) in
    let all : Cut b₂ (set (set (set (parts_of s) spaces_part (area spaces_size space_size space_bytes ss)) space_count_part (big_endian count_width (length ss))) next_part (big_endian next_width (m + 1))) =
    rw two (row_written b₁ _ counted next_part (omega arith) (m + 1)) in
    parts_stored b₂ (with_spaces s (suc s.next) ss) (rw (one_byte (length ss) (omega (arith, f.spaces.few)), step) at all) f

-- ---- DS

keep_all : (p : Tuple → Bool) (l : List Tuple) → T (all p l) → keep p l ≡ l
unfolding keep all
keep_all p [] t = refl
keep_all p (a ∷ l) t =
    let e : p a ≡ true = is_true (p a) (and_l (p a) (all p l) t) in
    rw e (ap (λ (r : List Tuple). a ∷ r) (keep_all p l (and_r (p a) (all p l) t)))

-- a space that no tuple lies in and no waiting statement names
empty_fit : (s : Run) (n : ℕ) → Fit s → T (all (outside n) s.tuples) → T (not (eqb n 0 || some_waiting_names s n)) → Fit (with_spaces s s.next (keep (other_than n) s.spaces))
unfolding closed
empty_fit s n f e t = subst (λ (ts : List Tuple). Fit (with_tuples (with_spaces s s.next (keep (other_than n) s.spaces)) ts)) (keep_all (outside n) s.tuples e) (closed_fit s f n t)

pub unlists : {b x b' : List ℕ} {n left : ℕ} (m : ℕ) → IsStored b → T (all (outside m) (decode b).tuples) → T (not (eqb m 0 || some_waiting_names (decode b) m)) → n ≡ length (decode b).spaces
    → Listed x left (keep (other_than m) (spaces_of (spaces_lent b) n)) → b' ≡ with_row space_count_part left (with_part spaces_part b x)
    → Stored b' (with_spaces (decode b) (decode b).next (keep (other_than m) (decode b).spaces))
unlists {b} {n = n} m h empty t e q put = spaces_changed h (rw (spaces_read b n h e) at q) (empty_fit (decode b) m h.fit empty t) put
