-- Which bytes `lookup_in` takes: those of one operation of codes 1 to 4 and no more, legal by itself. All others are answered 6. Assumes nothing.
use Rattle.std.specs.Prelude.{◌≡◌, refl, ◌↔◌, ◌≢◌, ℕ, zero, suc, ◌≤◌, ◌<◌, Bool, ◌&&◌, List, [], length, replicate, T}
use Rattle.std.proofs.Common.{sym, arith}
use Rattle.std.proofs.Math.Option.{Option, none, some, none-ne-some}
use Rattle.std.proofs.Math.Pow.{are_bytes}
use Rattle.basis.specs.Choice.{maybe, is_some, provided}
use Rattle.basis.specs.Logic.{and_l, and_r, is_true}
use Rattle.basis.specs.Lists.{any, is_in}
use Rattle.basis.specs.ListLaws.{each_nil, each-cons}
use Rattle.basis.specs.Sizes.{variables, most_fields, space_numbers}
use Rattle.model.specs.Value.{value, whole, name, legal_value, at_most}
use Rattle.model.specs.Statement.{Field, actual, formal, reference, sum, difference, anonymous, ranged, Operation, always, lookup, deposit, transfer, spaces_of}
use Rattle.model.specs.Reading.{whole_of, operation}
use Rattle.model.specs.Legal.{no_kinds, kind_in, form_of, legal_parts, legal_fields, fields_of, is_space, field_count, template_forms, legal_lookup}
use Rattle.model.specs.Writing.{operation_bytes}
use Rattle.model.specs.Meeting.{every_kind, lookup_alone, lookup_in}
use Rattle.model.proofs.RoundTrip.{FitsSpace, FitsOperation, reads_whole, reads_operation, legal_space, legal_fields_lem}
use Rattle.model.proofs.ReadBack.{provided_some, writes_whole, writes_operation}
use Rattle.model.proofs.CheckLaws.{in_iff}
use Rattle.model.proofs.LegalWords.{FormIn, Throughout, RangeOk}
use Rattle.model.proofs.LegalFields.{BindersOk, kind_iff, range_iff, and_iff, each_iff}
use Rattle.model.proofs.LegalLaws.{space_iff, count_iff, tell_nothing}

-- ---- the fields

-- Of the parts of a field that are not bound: values are legal, kinds 0 to 2; a range is of whole numbers or metres, its lowest at most its highest; of a form 2 "only that its variable is 0 to 15". Forms 3 and 4 stand in no template.
abbrev pub AloneParts : Field → Type 0
AloneParts (actual v) = T (legal_value v)
AloneParts (formal k x) = Unit {0}
AloneParts (reference x) = x < variables
AloneParts (sum x v) = ⊥
AloneParts (difference x v) = ⊥
AloneParts (anonymous k) = k ≤ 2
AloneParts (ranged k r x) = RangeOk k r

-- a field, where `left` are those before it: what it binds is of kind 0 to 2, its variable 0 to 15 and bound by none of them
abbrev pub AloneOk : (left : List Field) → Field → Type 0
AloneOk left f = BindersOk left f × AloneParts f

every_iff : (x : ℕ) → T (is_some (kind_in every_kind x)) ↔ (x < variables)
unfolding is_some
every_iff x = go variables x
  where
    go : (n x : ℕ) → T (is_some (kind_in (replicate n (some whole)) x)) ↔ (x < n)
    go zero x = (λ t. absurd t, λ h. absurd (omega arith))
    go (suc n) zero = (λ t. omega arith, λ h. tt)
    go (suc n) (suc x) = let r = go n x in (λ t. let h = r.0 t in omega arith, λ h. r.1 (omega arith))

parts_alone : (f : Field) → FormIn template_forms f → T (legal_parts every_kind f) ↔ AloneParts f
unfolding legal_parts form_of is_in any
parts_alone (actual v) i = (λ t. t, λ t. t)
parts_alone (formal k x) i = (λ t. tt, λ t. tt)
parts_alone (reference x) i = every_iff x
parts_alone (sum x v) i = absurd ((in_iff 3 template_forms).1 i)
parts_alone (difference x v) i = absurd ((in_iff 4 template_forms).1 i)
parts_alone (anonymous k) i = kind_iff k
parts_alone (ranged k r x) i = range_iff k r

-- the fields of an operation by itself are legal exactly if each is of forms 0, 1, 2, 5 and 6 and so in words, after those to its left
pub alone_iff : (fs : List Field) → T (legal_fields template_forms every_kind no_kinds fs) ↔ Throughout (λ left f. FormIn template_forms f × AloneOk left f) fs
alone_iff fs = each_iff template_forms every_kind AloneParts parts_alone [] no_kinds tell_nothing fs

-- ---- the operation

-- what is taken was read whole, and is legal
pub record Taken (b : List ℕ) (x : ℕ × List Field) : Type 0 where
  pub withdraws : Bool
  pub blocks : Bool
  pub whole : whole_of operation b ≡ some (lookup withdraws blocks x.0 x.1)
  pub legal : T (legal_lookup every_kind no_kinds x.0 x.1)

-- so are all bytes that are taken
pub taken : (b : List ℕ) (x : ℕ × List Field) → lookup_in b ≡ some x → Taken b x
unfolding lookup_in lookup_alone
taken b x e = go (whole_of operation b) refl e
  where
    go : (o : Option Operation) → whole_of operation b ≡ o → maybe o none lookup_alone ≡ some x → Taken b x
    go none q e = absurd (none-ne-some x e)
    go (some always) q e = absurd (none-ne-some x e)
    go (some (lookup w l s fs)) q e =
        let k = provided_some (legal_lookup every_kind no_kinds s fs) (s, fs) x e in
        rw (← k.1) (record { withdraws = w; blocks = l; whole = q; legal = k.0 })
    go (some (deposit s fs)) q e = absurd (none-ne-some x e)
    go (some (transfer w from to fs)) q e = absurd (none-ne-some x e)

-- "the bytes of one operation, codes 1 to 4": its space, 0 to 65,535, field count, 1 to 6, and fields, and no byte more
pub record Alone (b : List ℕ) (s : ℕ) (fs : List Field) : Type 0 where
  pub withdraws : Bool
  pub blocks : Bool
  pub bytes : b ≡ operation_bytes (lookup withdraws blocks s fs)
  pub space : s < space_numbers
  pub some_field : 1 ≤ length fs
  pub few : length fs ≤ most_fields
  pub each : Throughout (λ left f. FormIn template_forms f × AloneOk left f) fs

-- an operation by itself is legal exactly if it is so in words
pub legal_alone : (s : ℕ) (fs : List Field) → T (legal_lookup every_kind no_kinds s fs) ↔ (((s < space_numbers) × ((1 ≤ length fs) × (length fs ≤ most_fields))) × Throughout (λ left f. FormIn template_forms f × AloneOk left f) fs)
legal_alone s fs = and_iff (is_space s && field_count 1 fs) (legal_fields template_forms every_kind no_kinds fs) _ _ (and_iff (is_space s) (field_count 1 fs) _ _ (space_iff s) (count_iff 1 fs)) (alone_iff fs)

alone_fits : (w l : Bool) (s : ℕ) (fs : List Field) → T (legal_lookup every_kind no_kinds s fs) → FitsOperation (lookup w l s fs)
unfolding spaces_of fields_of
alone_fits w l s fs t =
    let a = is_space s in
    let b = field_count 1 fs in
    let c = legal_fields template_forms every_kind no_kinds fs in
    record {
      spaces = each-cons FitsSpace s [] (legal_space s (and_l a b (and_l (a && b) c t))) (each_nil _);
      fields = legal_fields_lem template_forms every_kind no_kinds fs (and_r (a && b) c t);
    }

-- a legal operation of codes 1 to 4 is taken, whatever its code
taken_of : (w l : Bool) (s : ℕ) (fs : List Field) → T (legal_lookup every_kind no_kinds s fs) → lookup_in (operation_bytes (lookup w l s fs)) ≡ some (s, fs)
unfolding lookup_in lookup_alone provided
taken_of w l s fs t =
    let o = lookup w l s fs in
    rw (reads_whole operation (operation_bytes o) o (reads_operation o (alone_fits w l s fs t)), is_true (legal_lookup every_kind no_kinds s fs) t)

-- Bytes are taken, with this space and these fields, exactly if they are such an operation; which of the four codes it has plays no part.
pub taken_iff : (b : List ℕ) (s : ℕ) (fs : List Field) → T (are_bytes b) → (lookup_in b ≡ some (s, fs)) ↔ Alone b s fs
taken_iff b s fs t = (
  λ e.
      let k = taken b (s, fs) e in
      let q = (legal_alone s fs).0 k.legal in
      record {
        withdraws = k.withdraws;
        blocks = k.blocks;
        bytes = sym (writes_whole operation operation_bytes writes_operation b (lookup k.withdraws k.blocks s fs) t k.whole);
        space = q.0.0;
        some_field = q.0.1.0;
        few = q.0.1.1;
        each = q.1;
      },
  λ k. rw k.bytes (taken_of k.withdraws k.blocks s fs ((legal_alone s fs).1 ((k.space, (k.some_field, k.few)), k.each))),
)
