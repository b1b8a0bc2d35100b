-- Rule 3 in its words, an operation at a time: what it did where it is done, and why it failed where it did not. Assumes nothing.
use Rattle.std.specs.Prelude.{◌≡◌, refl, ◌↔◌, ◌⊎◌, ℕ, zero, suc, ◌+◌, ◌≤◌, ◌<◌, Bool, true, false, not, length, leb}
use Rattle.std.proofs.Common.{sym, subst, ◌∙◌, inl, inr, arith, length-append, leb→le, le→leb}
use Rattle.std.proofs.Math.Path.{ap}
use Rattle.std.proofs.Math.Bool.{cond}
use Rattle.std.proofs.Math.Option.{Option, none, some, some-injective, none-ne-some}
use mathlib.Core.List.Memᴰ
use mathlib.Core.List.{List, [], ◌∷◌, ◌++◌, map, append-nil, Memᴰ}
use Rattle.std.proofs.lemmas.List.{length-map}
use Rattle.std.proofs.Math.Dec.{nleb→lt}
use Rattle.basis.specs.Choice.{maybe}
use Rattle.basis.specs.Logic.{is_true}
use Rattle.basis.specs.Lists.{keep, Found, remove_at}
use Rattle.basis.specs.ListLaws.{Each, each_append}
use Rattle.basis.specs.IndexLaws.{At, Least, least_removed, Parts, keep_parts, parts_length, parts_none}
use Rattle.basis.specs.Sizes.{most_tuples}
use Rattle.model.specs.Value.{Value, plus, minus}
use Rattle.model.specs.Statement.{Field, actual, formal, reference, sum, difference, anonymous, ranged, Operation, always, lookup, deposit, transfer}
use Rattle.model.specs.Matching.{Tuple, Bindings, value_of, selects, oldest, bind}
use Rattle.model.proofs.MatchingLaws.{Matches, Selects, selects_iff, oldest_least, oldest_none}
use Rattle.model.specs.Execution.{done, failed, looked_up, made, made_all, appended, in_space, moved, perform}

-- ---- rule 3: one operation that is done

-- two results that are done are equal part by part
pub done_bindings : (bs bs' : Bindings) (ts ts' : List Tuple) → done bs ts ≡ done bs' ts' → bs' ≡ bs
done_bindings bs bs' ts ts' e = cc

done_tuples : (bs bs' : Bindings) (ts ts' : List Tuple) → done bs ts ≡ done bs' ts' → ts' ≡ ts
done_tuples bs bs' ts ts' e = cc

never : {A : Type 0} (n : ℕ) (bs : Bindings) (ts : List Tuple) → failed n ≡ done bs ts → A
never n bs ts e = let z : ◌≡◌ {A = ℕ} 0 1 = cc in absurd (omega arith)

-- true does nothing
pub always_done : (bs : Bindings) (ts : List Tuple) → perform always bs ts ≡ done bs ts
unfolding perform
always_done bs ts = refl

-- "inp and rdp differ from in and rd only in not waiting"
pub only_in_waiting : (withdraws b c : Bool) (s : ℕ) (fs : List Field) (bs : Bindings) (ts : List Tuple) → perform (lookup withdraws b s fs) bs ts ≡ perform (lookup withdraws c s fs) bs ts
unfolding perform
only_in_waiting withdraws b c s fs bs ts = refl

-- the oldest match, the tuples left without it, and the variables that it binds
pub record Taken (s : ℕ) (fs : List Field) (bs : Bindings) (ts : List Tuple) (bs' : Bindings) : Type 0 where
  pub index : ℕ
  pub tuple : Tuple
  pub oldest : Least (Matches bs s fs) ts index tuple
  pub bound : bs' ≡ bind bs fs tuple.values

-- what is left without the least
abbrev pub without : {A : Type 0} {P : A → Type 0} {l : List A} {i : ℕ} {a : A} → Least P l i a → List A
without h = h.front ++ h.back

-- the least is a member
pub least_in : {A : Type 0} {P : A → Type 0} {l : List A} {i : ℕ} {a : A} → Least P l i a → Memᴰ a l
least_in {A} {a = a} h = subst (λ (k : List A). Memᴰ a k) (sym h.split) (Memᴰ.append_right h.front (Memᴰ.head refl))

-- and so are those that are left without it
pub without_in : {A : Type 0} {P : A → Type 0} {l : List A} {i : ℕ} {a : A} (h : Least P l i a) → Each (λ b. Memᴰ b l) (without h)
without_in {A} {a = a} h =
    let whole : List A = h.front ++ (a ∷ h.back) in
    subst (λ (k : List A). Each (λ b. Memᴰ b k) (without h)) (sym h.split)
    (each_append (λ b. Memᴰ b whole) h.front h.back (λ b m. Memᴰ.append_left (a ∷ h.back) m) (λ b m. Memᴰ.append_right h.front (Memᴰ.tail m)))

looked : (withdraws blocks : Bool) (s : ℕ) (fs : List Field) (bs : Bindings) (ts : List Tuple) (bs' : Bindings) (ts' : List Tuple) → perform (lookup withdraws blocks s fs) bs ts ≡ done bs' ts'
    → (h : Taken s fs bs ts bs') × (ts' ≡ cond withdraws (without h.oldest) ts)
unfolding perform looked_up
looked withdraws blocks s fs bs ts bs' ts' e = go (oldest bs s fs ts) refl e
  where
    go : (o : Option (Found Tuple)) → oldest bs s fs ts ≡ o → maybe o (failed 16) (looked_up withdraws fs bs ts) ≡ done bs' ts' → (h : Taken s fs bs ts bs') × (ts' ≡ cond withdraws (without h.oldest) ts)
    go none q e = never 16 bs' ts' e
    go (some f) q e =
        let h = oldest_least bs s fs ts f q in
        let w : done (bind bs fs f.item.values) (cond withdraws (remove_at f.index ts) ts) ≡ done bs' ts' = unfold looked_up in e in (
          record { index = f.index; tuple = f.item; oldest = h; bound = done_bindings _ bs' _ ts' w },
          done_tuples _ bs' _ ts' w ∙ ap (λ (r : List Tuple). cond withdraws r ts) (least_removed (Matches bs s fs) ts f.index f.item h),
        )

-- "in and inp remove the oldest match"
pub in_removes : (blocks : Bool) (s : ℕ) (fs : List Field) (bs : Bindings) (ts : List Tuple) (bs' : Bindings) (ts' : List Tuple) → perform (lookup true blocks s fs) bs ts ≡ done bs' ts'
    → (h : Taken s fs bs ts bs') × (ts' ≡ without h.oldest)
in_removes blocks s fs bs ts bs' ts' e = looked true blocks s fs bs ts bs' ts' e

-- "rd and rdp read it"
pub rd_reads : (blocks : Bool) (s : ℕ) (fs : List Field) (bs : Bindings) (ts : List Tuple) (bs' : Bindings) (ts' : List Tuple) → perform (lookup false blocks s fs) bs ts ≡ done bs' ts'
    → Taken s fs bs ts bs' × (ts' ≡ ts)
rd_reads blocks s fs bs ts bs' ts' e = looked false blocks s fs bs ts bs' ts' e

-- ---- out

-- the value that a field of an out gives: form 0 its own, form 2 the variable's, forms 3 and 4 the variable plus, or minus, the value
abbrev pub Makes : Bindings → Field → Value → Type 0
Makes bs (actual u) v = u ≡ v
Makes bs (formal k x) v = ⊥
Makes bs (reference x) v = value_of bs x ≡ v
Makes bs (sum x u) v = plus u.kind (value_of bs x).bits u.bits ≡ some v
Makes bs (difference x u) v = minus u.kind (value_of bs x).bits u.bits ≡ some v
Makes bs (anonymous k) v = ⊥
Makes bs (ranged k r x) v = ⊥

made_iff : (bs : Bindings) (f : Field) (v : Value) → (made bs f ≡ some v) ↔ Makes bs f v
unfolding made
made_iff bs (actual u) v = (λ e. some-injective u v e, λ e. ap some e)
made_iff bs (formal k x) v = (λ e. none-ne-some v e, λ e. absurd e)
made_iff bs (reference x) v = (λ e. some-injective (value_of bs x) v e, λ e. ap some e)
made_iff bs (sum x u) v = (λ e. e, λ e. e)
made_iff bs (difference x u) v = (λ e. e, λ e. e)
made_iff bs (anonymous k) v = (λ e. none-ne-some v e, λ e. absurd e)
made_iff bs (ranged k r x) v = (λ e. none-ne-some v e, λ e. absurd e)

-- as many values as fields, each what its field gives
pub record Made (bs : Bindings) (fs : List Field) (vs : List Value) : Type 0 where
  pub count : length vs ≡ length fs
  pub each : (i : ℕ) (f : Field) (v : Value) → At fs i f → At vs i v → Makes bs f v

-- a field that gives no value
abbrev pub GivesNone : Bindings → List Field → Type 0
GivesNone bs fs = (f : Field) × Memᴰ f fs × ((v : Value) → ¬ Makes bs f v)

abbrev MadeAs : Bindings → List Field → Option (List Value) → Type 0
MadeAs bs fs none = GivesNone bs fs
MadeAs bs fs (some vs) = Made bs fs vs

made_all_as : (bs : Bindings) (fs : List Field) → MadeAs bs fs (made_all bs fs)
unfolding made_all
made_all_as bs [] = record { count = refl; each = λ i f v a b. absurd (none-ne-some f a) }
made_all_as bs (f ∷ fs) = go (made bs f) refl (made_all bs fs) (made_all_as bs fs)
  where
    more : (v : Value) (vs : List Value) → made bs f ≡ some v → Made bs fs vs → (i : ℕ) (g : Field) (w : Value) → At (f ∷ fs) i g → At (v ∷ vs) i w → Makes bs g w
    more v vs q h zero g w a b = rw (← some-injective f g a, ← some-injective v w b) ((made_iff bs f v).0 q)
    more v vs q h (suc i) g w a b = h.each i g w a b

    go : (o : Option Value) → made bs f ≡ o → (r : Option (List Value)) → MadeAs bs fs r → MadeAs bs (f ∷ fs) (maybe o none (λ v. maybe r none (λ vs. some (v ∷ vs))))
    go none q r h = (f, Memᴰ.head refl, λ v m. none-ne-some v (sym q ∙ (made_iff bs f v).1 m))
    go (some v) q none h = (h.0, Memᴰ.tail h.1, h.2)
    go (some v) q (some vs) h = record { count = ap suc h.count; each = more v vs q h }

fits : (bs : Bindings) (ts new : List Tuple) (bs' : Bindings) (ts' : List Tuple) → appended bs ts new ≡ done bs' ts' → (length ts + length new ≤ most_tuples) × (bs' ≡ bs) × (ts' ≡ ts ++ new)
unfolding appended
fits bs ts new bs' ts' e = go (leb (length ts + length new) most_tuples) refl e
  where
    go : (b : Bool) → leb (length ts + length new) most_tuples ≡ b → cond b (done bs (ts ++ new)) (failed 12) ≡ done bs' ts' → (length ts + length new ≤ most_tuples) × (bs' ≡ bs) × (ts' ≡ ts ++ new)
    go true q e = (leb→le (length ts + length new) most_tuples (rw q tt), done_bindings bs bs' (ts ++ new) ts' e, done_tuples bs bs' (ts ++ new) ts' e)
    go false q e = never 12 bs' ts' e

-- "out appends": one tuple at the end, with the values that the fields give; no more than 512 then
pub out_appends : (s : ℕ) (fs : List Field) (bs : Bindings) (ts : List Tuple) (bs' : Bindings) (ts' : List Tuple) → perform (deposit s fs) bs ts ≡ done bs' ts'
    → (vs : List Value) × Made bs fs vs × (ts' ≡ ts ++ (record { space = s; values = vs } ∷ [])) × (bs' ≡ bs) × (length ts < most_tuples)
unfolding perform
out_appends s fs bs ts bs' ts' e = go (made_all bs fs) (made_all_as bs fs) e
  where
    go : (o : Option (List Value)) → MadeAs bs fs o → maybe o (failed 17) (λ vs. appended bs ts (record { space = s; values = vs } ∷ [])) ≡ done bs' ts'
        → (vs : List Value) × Made bs fs vs × (ts' ≡ ts ++ (record { space = s; values = vs } ∷ [])) × (bs' ≡ bs) × (length ts < most_tuples)
    go none h e = never 17 bs' ts' e
    go (some vs) h e =
        let new : List Tuple = record { space = s; values = vs } ∷ [] in
        let r = fits bs ts new bs' ts' e in
        let few : length ts + 1 ≤ most_tuples = r.0 in
        (vs, h, r.2, r.1, omega arith)

-- ---- move and copy

-- tuples with their space changed
abbrev pub all_in_space : ℕ → List Tuple → List Tuple
all_in_space to ts = map (λ (t : Tuple). record { space = to; values = t.values }) ts

-- "move removes all matches and appends them to the new space in their old order"
pub move_moves : (from to : ℕ) (fs : List Field) (bs : Bindings) (ts : List Tuple)
    → (those others : List Tuple) × Parts (Selects bs from fs) ts those others × (perform (transfer true from to fs) bs ts ≡ done bs (others ++ all_in_space to those))
unfolding perform moved in_space
move_moves from to fs bs ts = (keep (selects bs from fs) ts, keep (λ t. not (selects bs from fs t)) ts, keep_parts (selects bs from fs) (Selects bs from fs) (selects_iff bs from fs) ts, refl)

-- "copy appends copies of the matches present before it"
pub copy_copies : (from to : ℕ) (fs : List Field) (bs : Bindings) (ts : List Tuple) (bs' : Bindings) (ts' : List Tuple) → perform (transfer false from to fs) bs ts ≡ done bs' ts'
    → (those others : List Tuple) × Parts (Selects bs from fs) ts those others × (ts' ≡ ts ++ all_in_space to those) × (bs' ≡ bs) × (length ts + length those ≤ most_tuples)
unfolding perform in_space
copy_copies from to fs bs ts bs' ts' e =
    let those = keep (selects bs from fs) ts in
    let r = fits bs ts (all_in_space to those) bs' ts' e in
    let few = r.0 in (
      those,
      keep (λ t. not (selects bs from fs t)) ts,
      keep_parts (selects bs from fs) (Selects bs from fs) (selects_iff bs from fs) ts,
      r.2,
      r.1,
      omega (arith, length-map {B = Tuple} those (λ (t : Tuple). record { space = to; values = t.values })),
    )

-- a move leaves as many tuples as there were
pub move_count : (from to : ℕ) (fs : List Field) (bs : Bindings) (ts : List Tuple) (bs' : Bindings) (ts' : List Tuple) → perform (transfer true from to fs) bs ts ≡ done bs' ts' → length ts' ≡ length ts
move_count from to fs bs ts bs' ts' e =
    let m = move_moves from to fs bs ts in
    let those = m.0 in
    let others = m.1 in
    let w : ts' ≡ others ++ all_in_space to those = done_tuples bs bs' (others ++ all_in_space to those) ts' (sym m.3 ∙ e) in
    ap length w ∙ omega (arith, length-append others (all_in_space to those), length-map {B = Tuple} those (λ (t : Tuple). record { space = to; values = t.values }), parts_length (Selects bs from fs) ts those others m.2)

-- with no match a move changes nothing
pub move_nothing : (from to : ℕ) (fs : List Field) (bs : Bindings) (ts : List Tuple) → Each (λ t. ¬ Selects bs from fs t) ts → perform (transfer true from to fs) bs ts ≡ done bs ts
move_nothing from to fs bs ts n =
    let m = move_moves from to fs bs ts in
    let r = parts_none (Selects bs from fs) ts m.0 m.1 m.2 n in
    m.3 ∙ rw (r.0, r.1, append-nil ts)

-- and so does a copy
pub copy_nothing : (from to : ℕ) (fs : List Field) (bs : Bindings) (ts : List Tuple) → Each (λ t. ¬ Selects bs from fs t) ts → length ts ≤ most_tuples → perform (transfer false from to fs) bs ts ≡ done bs ts
unfolding perform appended
copy_nothing from to fs bs ts n few =
    let parts = keep_parts (selects bs from fs) (Selects bs from fs) (selects_iff bs from fs) ts in
    let r = parts_none (Selects bs from fs) ts _ _ parts n in
    let fit : length ts + 0 ≤ most_tuples = omega arith in
    rw (r.0, is_true (leb (length ts + 0) most_tuples) (le→leb (length ts + 0) most_tuples fit), append-nil ts)

-- ---- why an operation fails

-- 16 "body in or rd has no match"; 17 "result off the range or not finite"; 12 "tuples would pass 512"
abbrev pub Fails : Bindings → List Tuple → Operation → ℕ → Type 0
Fails bs ts always n = ⊥
Fails bs ts (lookup withdraws blocks s fs) n = (n ≡ 16) × Each (λ t. ¬ Matches bs s fs t) ts
Fails bs ts (deposit s fs) n = ((n ≡ 17) × GivesNone bs fs) ⊎ ((n ≡ 12) × (most_tuples < length ts + 1) × ((vs : List Value) × Made bs fs vs))
Fails bs ts (transfer true from to fs) n = ⊥
Fails bs ts (transfer false from to fs) n = (n ≡ 12) × ((those others : List Tuple) × Parts (Selects bs from fs) ts those others × (most_tuples < length ts + length those))

failed_number : (m n : ℕ) → failed m ≡ failed n → n ≡ m
failed_number m n e = cc

over : (n : ℕ) (bs : Bindings) (ts new : List Tuple) → appended bs ts new ≡ failed n → (n ≡ 12) × (most_tuples < length ts + length new)
unfolding appended
over n bs ts new e = go (leb (length ts + length new) most_tuples) refl e
  where
    go : (b : Bool) → leb (length ts + length new) most_tuples ≡ b → cond b (done bs (ts ++ new)) (failed 12) ≡ failed n → (n ≡ 12) × (most_tuples < length ts + length new)
    go true q e = never n bs (ts ++ new) (sym e)
    go false q e = (failed_number 12 n e, nleb→lt (length ts + length new) most_tuples (rw q tt))

-- an operation that fails, fails for that reason
pub perform_fails : (o : Operation) (bs : Bindings) (ts : List Tuple) (n : ℕ) → perform o bs ts ≡ failed n → Fails bs ts o n
unfolding perform
perform_fails always bs ts n e = never n bs ts (sym e)
perform_fails (lookup withdraws blocks s fs) bs ts n e = go (oldest bs s fs ts) refl e
  where
    go : (o : Option (Found Tuple)) → oldest bs s fs ts ≡ o → maybe o (failed 16) (looked_up withdraws fs bs ts) ≡ failed n → (n ≡ 16) × Each (λ t. ¬ Matches bs s fs t) ts
    go none q e = (failed_number 16 n e, oldest_none bs s fs ts q)
    go (some f) q e = unfold looked_up in never n (bind bs fs f.item.values) (cond withdraws (remove_at f.index ts) ts) (sym e)
perform_fails (deposit s fs) bs ts n e = go (made_all bs fs) (made_all_as bs fs) e
  where
    go : (o : Option (List Value)) → MadeAs bs fs o → maybe o (failed 17) (λ vs. appended bs ts (record { space = s; values = vs } ∷ [])) ≡ failed n
        → ((n ≡ 17) × GivesNone bs fs) ⊎ ((n ≡ 12) × (most_tuples < length ts + 1) × ((vs : List Value) × Made bs fs vs))
    go none h e = inl (failed_number 17 n e, h)
    go (some vs) h e = let r = over n bs ts (record { space = s; values = vs } ∷ []) e in inr (r.0, r.1, (vs, h))
perform_fails (transfer true from to fs) bs ts n e = never n bs (moved (selects bs from fs) to ts) (sym e)
perform_fails (transfer false from to fs) bs ts n e =
    let those = keep (selects bs from fs) ts in
    let r = over n bs ts (map (in_space to) those) e in
    let big = r.1 in
    (r.0, (those, keep (λ t. not (selects bs from fs t)) ts, keep_parts (selects bs from fs) (Selects bs from fs) (selects_iff bs from fs) ts, omega (arith, length-map those (in_space to))))
