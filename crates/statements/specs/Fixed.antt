-- Readers of a fixed number of bytes, at a position. Assumes nothing.
use Rattle.std.specs.Prelude.{◌≡◌, ℕ, ◌+◌, ◌≤◌, ◌<◌, ◌⊎◌, List, length, drop, get_or}
use Rattle.std.proofs.Common.{arith, add-one, inl, inr, length-drop, drop_of_length-le, drop-drop, drop-cons, le-leb}
use Rattle.std.proofs.Math.Option.{none, some}
use Rattle.std.proofs.lemmas.Bool.{lt-leb}
use Rattle.basis.specs.Choice.{maybe, provided}
use Rattle.basis.specs.Numbers.{number_at}
use Rattle.basis.specs.Sizes.{kind_width, bits_width, value_bits_at, value_size}
use Rattle.model.specs.Value.{value}
use Rattle.model.specs.Reading.{Reader, ◌>>=◌, give, byte, natural, field_value}
use Rattle.statements.specs.At.{which}

-- p takes w bytes, of which it makes `get`; it reads nothing where there are fewer
pub record Fixed {A : Type 0} (p : Reader A) (w : ℕ) (get : List ℕ → ℕ → A) : Type 0 where
  pub enough : (b : List ℕ) (at : ℕ) → at + w ≤ length b → p (drop at b) ≡ some (get b at, drop (at + w) b)
  pub short : (b : List ℕ) (at : ℕ) → length b < at + w → p (drop at b) ≡ none

pub fixed_byte : Fixed byte 1 (λ b at. get_or b at 0)
unfolding byte
fixed_byte = record {
  enough = λ b at h. let l : at < length b = omega arith in rw (drop-cons b at 0 l, add-one at);
  short = λ b at h. let e = drop_of_length-le b {i = at} (omega arith) in rw e;
}

pub fixed_natural : (w : ℕ) → 0 < w → Fixed (natural w) w (λ b at. number_at at w b)
unfolding natural provided number_at
fixed_natural w pos = record {
  enough = λ b at h. let l : w ≤ length (drop at b) = omega (arith, length-drop at b) in rw (le-leb w (length (drop at b)) l, drop-drop w at b);
  short = λ b at h. let l : length (drop at b) < w = omega (arith, length-drop at b) in rw (lt-leb w (length (drop at b)) l);
}

pub fixed_last : {A B : Type 0} (p : Reader A) (made : A → B) (w : ℕ) (get : List ℕ → ℕ → A) → Fixed p w get → Fixed (p >>= λ x. give (made x)) w (λ b at. made (get b at))
unfolding ◌>>=◌ give
fixed_last p made w get h = record {
  enough = λ b at l. rw (h.enough b at l);
  short = λ b at l. rw (h.short b at l);
}

pub fixed_then : {A B : Type 0} (p : Reader A) (f : A → Reader B) (w v : ℕ) (get : List ℕ → ℕ → A) (more : A → List ℕ → ℕ → B)
    → Fixed p w get → ((a : A) → Fixed (f a) v (more a)) → Fixed (p >>= f) (w + v) (λ b at. more (get b at) b (at + w))
unfolding ◌>>=◌
fixed_then {A} {B} p f w v get more h k = record {
  enough = λ b at l. let e : at + w + v ≡ at + (w + v) = omega arith in
      rw (h.enough b at (omega arith)) (rw e at ((k (get b at)).enough b (at + w) (omega arith)));
  short = λ b at l. go b at l (which (at + w) (length b));
}
  where
    go : (b : List ℕ) (at : ℕ) → length b < at + (w + v) → (at + w ≤ length b) ⊎ (length b < at + w) → maybe (p (drop at b)) none (λ r. f r.0 r.1) ≡ none
    go b at l (inl m) = rw (h.enough b at m) ((k (get b at)).short b (at + w) (omega arith))
    go b at l (inr m) = rw (h.short b at m)

pub fixed_as : {A : Type 0} (p : Reader A) (w : ℕ) (get same : List ℕ → ℕ → A) → Fixed p w get → ((b : List ℕ) (at : ℕ) → get b at ≡ same b at) → Fixed p w same
fixed_as p w get same h e = record { enough = λ b at l. rw (← e b at) (h.enough b at l); short = h.short }

-- kind and four bytes
pub fixed_value : Fixed field_value value_size (λ b at. value (get_or b at 0) (number_at (at + value_bits_at) bits_width b))
unfolding field_value
fixed_value =
    fixed_then byte _ kind_width bits_width (λ b at. get_or b at 0) (λ k b at. value k (number_at at bits_width b)) fixed_byte
    (λ k. fixed_last (natural bits_width) (value k) bits_width (λ b at. number_at at bits_width b) (fixed_natural bits_width (omega arith)))
