-- A failure tuple as an entry, and its laying down at the end of a stored run's tuples. Assumes nothing.
use Rattle.std.specs.Prelude.{◌≡◌, refl, ℕ, ◌+◌, ◌<◌, true, length, T, ltb}
use Rattle.std.proofs.Common.{◌∙◌, ltb→lt, lt→ltb, lit≤}
use native.Mathlib.Omega.{arith}
use mathlib.Core.List.{List, [], ◌∷◌, ◌++◌}
use Rattle.basis.specs.Logic.{both, true_is}
use Rattle.basis.specs.ListLaws.{each_nil, each-cons}
use Rattle.basis.specs.Sizes.{positions, most_tuples, failure_fields}
use Rattle.model.specs.Value.{value, whole, name, legal_value}
use Rattle.model.proofs.BoundKinds as Kinds
use Rattle.model.proofs.Keeps.{legal_tuple_lem}
use Rattle.model.specs.Run.{Run, failure_tuple, has_room, noticed}
use Rattle.model.proofs.Effects.{noticed_fit}
use Rattle.layout.specs.States.{tuple_read, decode}
use Rattle.layout.specs.Stored.{Stored, IsStored}
use Rattle.header.specs.Rows.{tuple_count_part, tuples_part, with_row, with_part, tuples_lent}
use Rattle.tuples.specs.Section.{Legal, entry_bytes, tuples_of, Holds}
use Rattle.tuples.specs.Entry.{Entry, begun, with_value}
use Rattle.tuples.specs.EntryLaws.{entry_of, entry_read, begun_more, begun_all}
use Rattle.state.specs.Lent.{tuples_read}
use Rattle.state.specs.Changes.{tuples_changed}
use Rattle.notices.specs.Pairs.{IsPair}

-- ---- the tuple

whole_legal : (n : ℕ) → n < positions → T (legal_value (value whole n))
unfolding legal_value
whole_legal n h = both (ltb n positions) true (lt→ltb n positions h) tt

failure_lawful : (h m : ℕ) → h < positions → m < positions → Legal (failure_tuple h m)
unfolding failure_tuple
failure_lawful h m a b = (
  legal_tuple_lem 0 (value name 1 ∷ value whole m ∷ value whole h ∷ []) (lit≤ tt) (lit≤ tt)
      (each-cons Kinds.Legal (value name 1) _ (unfold legal_value in tt) (each-cons Kinds.Legal (value whole m) _ (whole_legal m b) (each-cons Kinds.Legal (value whole h) [] (whole_legal h a) (each_nil Kinds.Legal)))),
  omega arith,
)

-- its three values, one after the other
pub failure_written : (h m : ℕ) (d₀ d₁ d₂ d₃ : List ℕ) → d₀ ≡ begun 0 failure_fields [] → d₁ ≡ with_value 0 (value name 1) d₀ → d₂ ≡ with_value 1 (value whole m) d₁ → d₃ ≡ with_value 2 (value whole h) d₂ → d₃ ≡ entry_bytes (failure_tuple h m)
unfolding failure_tuple
failure_written h m d₀ d₁ d₂ d₃ none one two three =
    let first : d₁ ≡ begun 0 failure_fields (value name 1 ∷ []) = begun_more 0 failure_fields [] d₀ d₁ 0 (value name 1) none refl (omega arith) one in
    let second : d₂ ≡ begun 0 failure_fields (value name 1 ∷ value whole m ∷ []) = begun_more 0 failure_fields (value name 1 ∷ []) d₁ d₂ 1 (value whole m) first refl (omega arith) two in
    begun_more 0 failure_fields (value name 1 ∷ value whole m ∷ []) d₂ d₃ 2 (value whole h) second refl (omega arith) three ∙ begun_all 0 (value name 1 ∷ value whole m ∷ value whole h ∷ [])

pub failure_entry : (h m : ℕ) (d : List ℕ) → h < positions → m < positions → d ≡ entry_bytes (failure_tuple h m) → Entry d
failure_entry h m d a b e = entry_of d (failure_tuple h m) (failure_lawful h m a b) e

-- ---- laid down

-- there is room exactly where the count is below 512
pub room_count : (s : Run) (n : ℕ) → n ≡ length s.tuples → ltb n most_tuples ≡ has_room s
unfolding has_room
room_count s n e = rw e

pub room_left : (s : Run) (n : ℕ) → n ≡ length s.tuples → has_room s ≡ true → n < most_tuples
unfolding has_room
room_left s n e r = rw e (ltb→lt (length s.tuples) most_tuples (true_is _ r))

-- x is the section that comes back
pub lays : {b x b' d : List ℕ} {n : ℕ} (h : IsStored b) → n ≡ length (decode b).tuples → has_room (decode b) ≡ true → (m host : ℕ) → IsPair (decode b) m host → d ≡ entry_bytes (failure_tuple host m)
    → Holds x (n + 1) (tuples_of (tuples_lent b) n ++ (tuple_read d ∷ [])) → b' ≡ with_row tuple_count_part (n + 1) (with_part tuples_part b x) → Stored b' (noticed (decode b) m host)
unfolding noticed
lays {b} {x} {b'} {d} {n} h e r m host p made k put =
    let small : m < positions = omega (arith, p.given, h.fit.monitors) in
    let low : host < positions = omega (arith, p.low) in
    tuples_changed h (rw (tuples_read b n h e, entry_read d (failure_tuple host m) (failure_lawful host m low small) made) at k)
    (unfold noticed in noticed_fit (decode b) h.fit m host (true_is _ r) (omega (arith, p.given, h.fit.monitors)) p.low) put
