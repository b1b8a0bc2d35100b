-- The bytes of an operation, put part by part. Assumes nothing.
use Rattle.std.specs.Prelude.{◌≡◌, refl, length, take, set}
use Rattle.std.proofs.Math.Path.{sym}
use Rattle.std.proofs.Common.{◌∙◌}
use mathlib.Core.List.{List, [], ◌∷◌, ◌++◌, flat_map, append_assoc}
use Prim.Native.Nat.{ℕ, zero, suc, ◌+◌, ◌≤◌, ◌<◌}
use native.Mathlib.Omega.{arith}
use Rattle.std.proofs.Math.ListN.{length-append}
use Rattle.std.proofs.lemmas.List.{length-map}
use Rattle.std.proofs.Math.Seq.{length-take-le}
use Rattle.basis.specs.ListLaws.{Each, each_nil, all_at}
use Rattle.basis.specs.Numbers.{big_endian}
use Rattle.basis.specs.NumberLaws.{big_endian_length}
use Rattle.basis.specs.Sizes.{space_width, most_fields, code_width, count_width, from_at, to_at, past_to, fields_size, operation_size}
use Rattle.words.specs.Over.{over}
use Rattle.model.specs.Statement as model
use Rattle.model.specs.Statement.{spaces_of}
use Rattle.model.specs.Legal.{is_space, fields_of}
use Rattle.model.specs.Writing.{counted_bytes, field_bytes, lookup_code, transfer_code, operation_bytes}
use Rattle.model.proofs.RoundTrip.{FitsField, FitsOperation, legal_space}
use Rattle.statements.specs.declared.Field.{Field}
use Rattle.statements.specs.declared.Operation.{Operation}
use Rattle.statements.specs.Flat.{codes, field_is, fields_are, operation_of, operation_is}
use Rattle.statements.specs.Operations.{fields_of_lem}
use Rattle.writer.specs.Writer.{true_code, two_spaces}
use Rattle.parts.specs.Puts.{Puts, puts_byte, puts_over, puts_then, puts_as}
use Rattle.parts.specs.Fields.{PutFields, fields_most}
use Rattle.writer.specs.HasParts.{HasParts}

-- a field count and fields
pub record PutCounted (fs : List Field) (before : List ℕ) (at : ℕ) (after : List ℕ) (end : ℕ) : Type 0 where
  pub puts : Puts before at (counted_bytes field_bytes (fields_are fs)) after end
  pub fits : Each FitsField (fields_are fs)

pub counted_put : (fields : List Field) (count : ℕ) (d : List ℕ) (at : ℕ) (e : List ℕ) (end : ℕ) → count ≤ length fields → at < length d
    → PutFields (take count fields) (set d at count) (at + count_width) e end → PutCounted (take count fields) d at e end
unfolding counted_bytes fields_are
counted_put fields count d at e end h k p =
    let fs : List model.Field = fields_are (take count fields) in
    let n : length fs ≡ count = length-map (take count fields) field_is ∙ length-take-le count fields h in
    record {
      puts = rw n (puts_then d at (count ∷ []) (set d at count) (at + count_width) (flat_map field_bytes fs) e end (puts_byte d at count k) p.puts (omega arith));
      fits = p.fits;
    }

bytes_one : (code from to : ℕ) (fs : List model.Field) → 0 < code → code < two_spaces → operation_bytes (operation_of code from to fs) ≡ code ∷ big_endian space_width from ++ counted_bytes field_bytes fs
unfolding operation_of operation_bytes lookup_code
bytes_one zero from to fs l h = absurd (omega arith)
bytes_one (suc zero) from to fs l h = refl
bytes_one (suc (suc zero)) from to fs l h = refl
bytes_one (suc (suc (suc zero))) from to fs l h = refl
bytes_one (suc (suc (suc (suc zero)))) from to fs l h = refl
bytes_one (suc (suc (suc (suc (suc zero))))) from to fs l h = refl
bytes_one (suc (suc (suc (suc (suc (suc n)))))) from to fs l h = absurd (omega arith)

bytes_two : (code from to : ℕ) (fs : List model.Field) → two_spaces ≤ code → code < codes
    → operation_bytes (operation_of code from to fs) ≡ code ∷ big_endian space_width from ++ (big_endian space_width to ++ counted_bytes field_bytes fs)
unfolding operation_of operation_bytes transfer_code
bytes_two zero from to fs l h = absurd (omega arith)
bytes_two (suc zero) from to fs l h = absurd (omega arith)
bytes_two (suc (suc zero)) from to fs l h = absurd (omega arith)
bytes_two (suc (suc (suc zero))) from to fs l h = absurd (omega arith)
bytes_two (suc (suc (suc (suc zero)))) from to fs l h = absurd (omega arith)
bytes_two (suc (suc (suc (suc (suc zero))))) from to fs l h = absurd (omega arith)
bytes_two (suc (suc (suc (suc (suc (suc zero)))))) from to fs l h = refl
bytes_two (suc (suc (suc (suc (suc (suc (suc zero))))))) from to fs l h = refl
bytes_two (suc (suc (suc (suc (suc (suc (suc (suc n)))))))) from to fs l h = absurd (omega arith)

-- an operation is put, and has room
pub record PutOperation (o : Operation) (before : List ℕ) (at : ℕ) (after : List ℕ) (end : ℕ) : Type 0 where
  pub puts : Puts before at (operation_bytes (operation_is o)) after end
  pub fits : FitsOperation (operation_is o)
  pub most : end ≤ at + operation_size

-- true has its code alone
pub operation_true : (o : Operation) (d : List ℕ) (at : ℕ) → o.code ≡ true_code → at < length d → PutOperation o d at (set d at o.code) (at + code_width)
unfolding operation_is operation_of operation_bytes spaces_of fields_of
operation_true o d at z h =
    rw z (record { puts = puts_byte d at true_code h; fits = record { spaces = each_nil _; fields = each_nil _ }; most = omega arith })

module _ (o : Operation) (p : HasParts o) (n : o.code ≡ true_code → ⊥) (six : length o.fields ≡ most_fields) where
  abbrev fs : List model.Field
  fs = fields_are (take o.count o.fields)

  -- its spaces and its fields have room
  operation_fits : Each FitsField fs → FitsOperation (operation_is o)
  unfolding operation_is
  operation_fits h = record {
    spaces = λ s i. legal_space s (all_at is_space (spaces_of (operation_is o)) p.spaces s i);
    fields = rw (fields_of_lem o.code o.from o.to fs (omega (arith, n))) h;
  }

  counted_most : length (counted_bytes field_bytes fs) ≤ count_width + fields_size
  unfolding counted_bytes
  counted_most = omega (arith, fields_most (take o.count o.fields), length-take-le o.count o.fields (omega (arith, p.count)), p.count)

  -- its bytes, as they were put
  operation_put : (front d : List ℕ) (at : ℕ) (e₀ : List ℕ) (m : ℕ) (e : List ℕ) (end : ℕ) → Puts d at front e₀ m → length front ≤ past_to → at + past_to ≤ length d
      → operation_bytes (operation_is o) ≡ front ++ counted_bytes field_bytes fs → PutCounted (take o.count o.fields) e₀ m e end → PutOperation o d at e end
  operation_put front d at e₀ m e end r few h same q =
      let all = puts_then d at front e₀ m (counted_bytes field_bytes fs) e end r q.puts (omega (arith, r.stops)) in
      record {
        puts = puts_as d at (front ++ counted_bytes field_bytes fs) (operation_bytes (operation_is o)) e end all (sym same);
        fits = operation_fits q.fits;
        most = omega (arith, all.stops, length-append front (counted_bytes field_bytes fs), counted_most);
      }

  -- the code, then a space
  space_put : (d : List ℕ) (at : ℕ) (e : List ℕ) → at + operation_size ≤ length d → e ≡ over (set d at o.code) (at + from_at) (big_endian space_width o.from) space_width
      → Puts d at (o.code ∷ big_endian space_width o.from) e (at + from_at + space_width)
  space_put d at e h s =
      puts_then d at (o.code ∷ []) (set d at o.code) (at + from_at) (big_endian space_width o.from) e (at + from_at + space_width) (puts_byte d at o.code (omega arith))
      (puts_over (set d at o.code) (at + from_at) (big_endian space_width o.from) space_width e (big_endian_length space_width o.from) s) (omega arith)

  -- code, space, field count, fields
  pub operation_one : (d : List ℕ) (at : ℕ) (e₁ e : List ℕ) (end : ℕ) → o.code < two_spaces → at + operation_size ≤ length d
      → e₁ ≡ over (set d at o.code) (at + from_at) (big_endian space_width o.from) space_width
      → PutCounted (take o.count o.fields) e₁ (at + to_at) e end → PutOperation o d at e end
  unfolding operation_is
  operation_one d at e₁ e end l h s q =
      let n₁ : at + from_at + space_width ≡ at + to_at = omega arith in
      let r = rw n₁ at (space_put d at e₁ h s) in
      operation_put (o.code ∷ big_endian space_width o.from) d at e₁ (at + to_at) e end r (omega (arith, big_endian_length space_width o.from)) (omega arith)
      (bytes_one o.code o.from o.to fs (omega (arith, n)) l) q

  -- code, from, to, field count, fields
  pub operation_two : (d : List ℕ) (at : ℕ) (e₁ e₂ e : List ℕ) (end : ℕ) → two_spaces ≤ o.code → at + operation_size ≤ length d
      → e₁ ≡ over (set d at o.code) (at + from_at) (big_endian space_width o.from) space_width
      → e₂ ≡ over e₁ (at + to_at) (big_endian space_width o.to) space_width
      → PutCounted (take o.count o.fields) e₂ (at + past_to) e end → PutOperation o d at e end
  unfolding operation_is
  operation_two d at e₁ e₂ e end l h s u q =
      let from : List ℕ = big_endian space_width o.from in
      let to : List ℕ = big_endian space_width o.to in
      let n₁ : at + from_at + space_width ≡ at + to_at = omega arith in
      let n₂ : at + to_at + space_width ≡ at + past_to = omega arith in
      let r₁ = rw n₁ at (space_put d at e₁ h s) in
      let r₂ = rw n₂ at (puts_then d at (o.code ∷ from) e₁ (at + to_at) to e₂ (at + to_at + space_width) r₁ (puts_over e₁ (at + to_at) to space_width e₂ (big_endian_length space_width o.to) u) (omega arith)) in
      operation_put ((o.code ∷ from) ++ to) d at e₂ (at + past_to) e end r₂ (omega (arith, length-append (o.code ∷ from) to, big_endian_length space_width o.from, big_endian_length space_width o.to)) (omega arith)
      (bytes_two o.code o.from o.to fs l p.code ∙ sym (append_assoc (o.code ∷ from) to (counted_bytes field_bytes fs))) q
