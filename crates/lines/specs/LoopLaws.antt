-- The laws of the loop over the replies. Assumes nothing.
use Rattle.std.specs.Prelude.{◌≡◌, refl, ℕ, ◌+◌, ◌-◌, ◌≤◌, Bool, true, false, cond, leb}
use Rattle.std.proofs.Math.Path.{sym, ap}
use Rattle.std.proofs.Common.{◌∙◌, length-append, take-append-drop, take_at, drop-drop}
use native.Mathlib.Omega.{arith}
use mathlib.Core.List.Memᴰ
use mathlib.Core.List.{List, [], ◌∷◌, ◌++◌, flat_map, append_assoc, append-nil}
use Rattle.std.proofs.Math.ListN.{length, take, drop, length-drop}
use Rattle.std.proofs.Math.Seq.{length-take-le, drop_at}
use Rattle.std.proofs.lemmas.List.{drop-append-le}
use Rattle.std.proofs.Math.Option.{some, none, some-injective, none-ne-some}
use borrow.Author.Tests.{leb-true}
use Rattle.basis.specs.Choice.{provided}
use Rattle.basis.specs.ListLaws.{Each}
use Rattle.basis.specs.Sizes.{reply_header_size}
use Rattle.words.specs.OverLaws.{over_parts, drop_over}
use Rattle.model.specs.Run.{Reply}
use Rattle.layout.specs.Replies.{reply_bytes, replies_bytes}
use Rattle.text.specs.Lines.{line_of, lines_of}
use Rattle.text.specs.Written.{line_in, span_at, size_at, Fits, Given}
use Rattle.digits.specs.Put.{Put}
use Rattle.text.specs.ReadLaws.{line_back, size_back}

-- ---- a front of text

module _ (t d e : List ℕ) (at r : ℕ) (room : r ≤ length d) (p : Put t d e at r) where
  -- grows by the text put
  pub put_take : take r e ≡ take at d ++ t
  put_take =
      let l : length (take at d) ≡ at = length-take-le at d (omega (arith, p.index)) in
      let n : length (take at d ++ t) ≡ r = simp length-append (omega (arith, p.index)) in
      ap (take r) (p.bytes ∙ over_parts d at t (length t) refl ∙ sym (append_assoc (take at d) t (drop (at + length t) d))) ∙ take_at (take at d ++ t) (drop (at + length t) d) r n

  -- and what stands past it stays
  pub put_rest : drop r e ≡ drop r d
  put_rest = ap (drop r) p.bytes ∙ drop_over d at t (length t) (omega (arith, p.index)) (omega arith) r (omega (arith, p.index))

-- text put further on leaves what stands past it as it was at first
pub rest_more : (d out e : List ℕ) (at r : ℕ) → at ≤ r → drop at out ≡ drop at d → drop r e ≡ drop r out → drop r e ≡ drop r d
rest_more d out e at r h p q =
    let k : at + (r - at) ≡ r = omega arith in
    let same : drop (at + (r - at)) out ≡ drop (at + (r - at)) d = sym (drop-drop (r - at) at out) ∙ ap (drop (r - at)) p ∙ drop-drop (r - at) at d in
    q ∙ rw k at same

-- ---- the loop

-- a reply that stands whole has the size that its value count says
pub size_span : (l : List ℕ) (from n size : ℕ) → some size ≡ size_at l from n → (size ≡ span_at l from) × (size ≤ n)
unfolding size_at provided
size_span l from n size e = go (leb reply_header_size n) (leb (span_at l from) n) refl e
  where
    go : (a b : Bool) → leb (span_at l from) n ≡ b → some size ≡ cond a (provided b (span_at l from)) none → (size ≡ span_at l from) × (size ≤ n)
    go true true q e = let k = some-injective size (span_at l from) e in (k, rw k (leb-true (span_at l from) n q))
    go true false q e = absurd (none-ne-some size (sym e))
    go false b q e = absurd (none-ne-some size (sym e))

module _ (rs : List Reply) (l : List ℕ) (n : ℕ) where
  -- the replies from index from on are `rest`, and the lines up to index at are those of the replies before
  pub record Passed (from at : ℕ) (out : List ℕ) : Type 0 where
    pub rest : List Reply
    pub fits : Each Fits rest
    pub bytes : drop from (take n l) ≡ replies_bytes rest
    pub text : lines_of rs ≡ take at out ++ lines_of rest

  pub passed_none : (out : List ℕ) → Given rs l n → Passed 0 0 out
  passed_none out g = record { rest = rs; fits = g.fits; bytes = g.replies; text = refl }

  -- the reply that stands at index from, where one does
  module _ (enough : n ≤ length l) (from : ℕ) (x : Reply) (rest : List Reply) (p : drop from (take n l) ≡ reply_bytes x ++ replies_bytes rest) (h : from ≤ n) where
    whole : drop from l ≡ reply_bytes x ++ (replies_bytes rest ++ drop n l)
    whole =
        let k : length (take n l) ≡ n = length-take-le n l enough in
        ap (drop from) (sym (take-append-drop n l)) ∙ drop-append-le from (take n l) (drop n l) (omega arith) ∙ ap (λ (r : List ℕ). r ++ drop n l) p ∙ append_assoc (reply_bytes x) (replies_bytes rest) (drop n l)

    size : size_at l from (n - from) ≡ some (length (reply_bytes x))
    size =
        let k : length (take n l) ≡ n = length-take-le n l enough in
        let m : n - from ≡ length (reply_bytes x) + length (replies_bytes rest) = sym (ap (λ (q : ℕ). q - from) k) ∙ sym (length-drop from (take n l)) ∙ ap length p ∙ length-append (reply_bytes x) (replies_bytes rest) in
        size_back l from (n - from) x (replies_bytes rest ++ drop n l) whole (omega arith)

    line : Fits x → line_in (drop from l) ≡ line_of x
    line f = ap line_in whole ∙ line_back x (replies_bytes rest ++ drop n l) f

  -- one reply more
  pub passed_more : (from size at r : ℕ) (out e : List ℕ) → n ≤ length l → from ≤ n → some size ≡ size_at l from (n - from) → r ≤ length out
      → Put (line_in (drop from l)) out e at r → Passed from at out → Passed (from + size) r e
  unfolding replies_bytes lines_of flat_map
  passed_more from w at r out e enough h q room p s = go s.rest s.fits s.bytes s.text
    where
      span : (w ≡ span_at l from) × (w ≤ n - from)
      span = size_span l from (n - from) w q

      go : (rest : List Reply) → Each Fits rest → drop from (take n l) ≡ replies_bytes rest → lines_of rs ≡ take at out ++ lines_of rest → Passed (from + w) r e
      go [] f b t =
          let k : length (take n l) ≡ n = length-take-le n l enough in
          absurd (omega (arith, span.0, span.1, length-drop from (take n l), ap length b))
      go (x ∷ rest) f b t =
          let z : w ≡ length (reply_bytes x) = some-injective w (length (reply_bytes x)) (q ∙ size enough from x rest b h) in
          let here : line_in (drop from l) ≡ line_of x = line enough from x rest b h (f x (Memᴰ.head refl)) in
          let past : drop (from + w) (take n l) ≡ replies_bytes rest = sym (drop-drop w from (take n l)) ∙ ap (drop w) b ∙ drop_at (reply_bytes x) (replies_bytes rest) w (sym z) in
          let front : take r e ≡ take at out ++ line_of x = put_take (line_in (drop from l)) out e at r room p ∙ ap (λ (k : List ℕ). take at out ++ k) here in
          record {
            rest = rest;
            fits = λ y i. f y (Memᴰ.tail i);
            bytes = past;
            text = t ∙ sym (append_assoc (take at out) (line_of x) (lines_of rest)) ∙ ap (λ (k : List ℕ). k ++ lines_of rest) (sym front);
          }

  -- no reply more
  pub passed_all : (from at : ℕ) (out : List ℕ) → n ≤ length l → from ≤ n → none ≡ size_at l from (n - from) → Passed from at out → take at out ≡ lines_of rs
  unfolding replies_bytes lines_of flat_map
  passed_all from at out enough h q s = go s.rest s.bytes s.text
    where
      go : (rest : List Reply) → drop from (take n l) ≡ replies_bytes rest → lines_of rs ≡ take at out ++ lines_of rest → take at out ≡ lines_of rs
      go [] b t = sym (t ∙ append-nil (take at out))
      go (x ∷ rest) b t = absurd (none-ne-some (length (reply_bytes x)) (q ∙ size enough from x rest b h))
