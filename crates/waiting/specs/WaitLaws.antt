-- What the tests of a waiting statement show. Assumes nothing.
use Rattle.std.specs.Prelude.{◌≡◌, refl, Bool, true, false, ◌&&◌, ◌||◌, take, drop, leb}
use Rattle.std.proofs.Math.Path.{sym}
use Rattle.std.proofs.Common.{ap, ◌∙◌, arith}
use Prim.Native.Nat.{ℕ, ◌+◌, ◌-◌, ◌≤◌, ◌<◌}
use Rattle.std.proofs.Math.Bool.{not, and_assoc}
use mathlib.Core.List.Memᴰ
use mathlib.Core.List.{List, [], ◌∷◌}
use Rattle.std.proofs.Math.ListN.{get_or}
use Rattle.std.proofs.Math.Dec.{T, leb→le}
use Rattle.basis.specs.Logic.{and_l, true_is}
use Rattle.words.specs.Over.{zeros_at}
use Rattle.sections.specs.RowLaws.{number_of_row}
use Rattle.basis.specs.Lists.{all, any, pieces}
use Rattle.basis.specs.ListLaws.{Each}
use Rattle.basis.specs.Numbers.{bits}
use Rattle.basis.specs.Sizes.{length_width, hosts, most_body, waiting_length_at, waiting_body_at, waiting_size}
use Rattle.model.specs.Statement.{Statement, spaces_named}
use Rattle.model.specs.Legal.{legal_body}
use Rattle.model.specs.Matching.{Tuple}
use Rattle.model.specs.Execution.{ready, can_wait}
use Rattle.model.specs.Run.{Space, Waiting, is_open, is_denied}
use Rattle.queue.specs.PlaceLaws.{body_size, body_place}
use Rattle.queue.specs.Legal.{size_in, body_fits, row_legal}
use Rattle.queue.specs.LegalLaws.{part_body}
use Rattle.names.specs.Asks.{asks}
use Rattle.names.specs.declared.SpaceTest.TheVariants.{Shut}
use Rattle.waiting.specs.Waits.{open_to_it, may_wait, keeps_waiting, waits}

-- ---- a row

pub no_fit : (p : List ℕ) (n i : ℕ) (r : Bool) → r ≡ body_fits (get_or (pieces n waiting_size p) i []) → r ≡ false → false ≡ row_legal (get_or (pieces n waiting_size p) i [])
unfolding row_legal
no_fit p n i r er z = rw (sym er ∙ z)

module _ (p : List ℕ) (n i len : ℕ) (h : i < n) (el : len ≡ body_size p i) (r : Bool) (er : r ≡ body_fits (get_or (pieces n waiting_size p) i [])) where
  pub fit_small : r ≡ true → len ≤ most_body
  unfolding body_fits
  fit_small y =
      let row : List ℕ = get_or (pieces n waiting_size p) i [] in
      let t : T (body_fits row) = true_is (body_fits row) (sym er ∙ y) in
      let small : size_in row ≤ most_body = leb→le (size_in row) most_body (and_l (leb (size_in row) most_body) (zeros_at row (waiting_body_at + size_in row) (most_body - size_in row)) t) in
      omega (arith, el ∙ number_of_row n waiting_size p i waiting_length_at length_width h (omega arith))

  -- then its body decides
  pub then_body : r ≡ true → (at : ℕ) → at ≡ body_place i → len ≤ most_body → legal_body (take (at + len - at) (drop at p)) ≡ row_legal (get_or (pieces n waiting_size p) i [])
  unfolding row_legal
  then_body y at ea small = rw (sym er ∙ y) (ap legal_body (part_body p n i len h el at ea small))

-- ---- whether it may wait

not_any : {A : Type 0} (p q : A → Bool) (l : List A) → Each (λ (a : A). p a ≡ not (q a)) l → not (any p l) ≡ all q l
unfolding any all
not_any p q [] h = refl
not_any p q (a ∷ l) h = rw (h a (Memᴰ.head refl)) (go (q a) (not_any p q l (λ c m. h c (Memᴰ.tail m))))
  where
    go : (t : Bool) → not (any p l) ≡ all q l → not (not t || any p l) ≡ (t && all q l)
    go true e = e
    go false e = refl

module _ (up host : ℕ) (ss : List Space) (ts : List Tuple) (w : Waiting) (r : Bool) (eh : host ≡ w.statement.host) (er : r ≡ get_or (bits hosts up) host false) where
  host_is : get_or (bits hosts up) w.statement.host false ≡ r
  host_is = sym (er ∙ ap (λ (k : ℕ). get_or (bits hosts up) k false) eh)

  pub no_host : r ≡ false → false ≡ keeps_waiting (bits hosts up) ss ts w
  unfolding may_wait
  no_host z = rw (host_is ∙ z)

  module _ (yes : r ≡ true) (process : ℕ) (st : Statement) (ep : process ≡ w.statement.process) (es : st ≡ w.statement) where
    named_is : open_to_it ss w ≡ not (any (asks ss (Shut process)) (spaces_named st))
    unfolding asks
    named_is = sym (rw (es, ep) (not_any (λ n. not (is_open ss n && not (is_denied ss w.statement.process n))) (λ n. is_open ss n && not (is_denied ss w.statement.process n)) (spaces_named w.statement) (λ n m. refl)))

    -- then the walk of its body decides
    pub then_waits : waits ss ts process st ≡ keeps_waiting (bits hosts up) ss ts w
    unfolding may_wait waits
    then_waits = rw (host_is ∙ yes, named_is, ← es) (sym (and_assoc (not (any (asks ss (Shut process)) (spaces_named st))) (can_wait st) (not (ready ts st))))
