-- The spaces that bodies name: what the answers of the code come to. Assumes nothing.
use Rattle.std.specs.Prelude.{◌≡◌, refl, ℕ, Bool, ◌||◌, List, get_or, T, eqb, IsErrAnd}
use Rattle.std.specs.Prelude as code
use Rattle.std.proofs.Common.{sym, ◌∙◌}
use Rattle.std.proofs.Math.Path.{ap}
use Rattle.std.proofs.Math.Bool.{true, false}
use Rattle.basis.specs.Lists.{any, is_in}
use Rattle.basis.specs.Numbers.{number_at}
use Rattle.basis.specs.Sizes.{host_at, process_at, process_width}
use Rattle.model.specs.Statement.{Statement, spaces_named}
use Rattle.model.specs.Legal.{legal_body}
use Rattle.model.specs.Run.{Space, Waiting, Run, is_open, is_denied}
use Rattle.model.specs.Step.{checks, standing, access, some_waiting_names, guarded}
use Rattle.layout.specs.Stored.{statement_of}
use Rattle.walk.specs.Walk.{body_is}
use Rattle.order.specs.Refusal.{refusal, closing}
use Rattle.order.specs.declared.Refusal.{Refusal}
use Rattle.order.specs.Told.{number_of, told}
use Rattle.order.specs.RefusalLaws.{number_positive, handed_on, stops, goes, all_open, some_closed_lem, some_denied_lem, close_closed, close_denied, close_used, close_unused}
use Rattle.names.specs.Asks.{asks}
use Rattle.names.specs.declared.SpaceTest.{SpaceTest}
use Rattle.names.specs.declared.SpaceTest.TheVariants.{Closed, Shut, Same}

-- ---- 10 and 11 of the spaces that are named, as the code asks for them in the section's spaces

module _ (s : Run) (p : ℕ) (ns : List ℕ) (ss : List Space) (same : ss ≡ s.spaces) where
  asked : (what : SpaceTest) (t u : Bool) → t ≡ any (asks ss what) ns → t ≡ u → any (asks s.spaces what) ns ≡ u
  asked what t u e f = ap (λ (l : List Space). any (asks l what) ns) (sym same) ∙ sym e ∙ f

  pub let_in : (t : Bool) → t ≡ any (asks ss (Shut p)) ns → t ≡ false → 0 ≡ refusal (access s p ns)
  unfolding asks
  let_in t e f = all_open s p ns (asked (Shut p) t false e f)

  pub found_closed : (t : Bool) → t ≡ any (asks ss Closed) ns → t ≡ true → 10 ≡ refusal (access s p ns)
  unfolding asks
  found_closed t e f = some_closed_lem s p ns (asked Closed t true e f)

  pub found_denied : (t u : Bool) → t ≡ any (asks ss (Shut p)) ns → t ≡ true → u ≡ any (asks ss Closed) ns → u ≡ false → 11 ≡ refusal (access s p ns)
  unfolding asks
  found_denied t u e f d g = some_denied_lem s p ns (asked (Shut p) t true e f) (asked Closed u false d g)

-- ---- DS: 10, 11 and 15 of the one space, as the code asks for them

module _ (s : Run) (p n : ℕ) (ss : List Space) (same : ss ≡ s.spaces) (t : Bool) (et : t ≡ is_open ss n) where
  pub one_closed : t ≡ false → 10 ≡ refusal (closing s p n)
  one_closed f = close_closed s p n (sym (rw same at et) ∙ f)

  module _ (opened : t ≡ true) (d : Bool) (ed : d ≡ is_denied ss p n) where
    pub one_denied : d ≡ true → 11 ≡ refusal (closing s p n)
    one_denied f = close_denied s p n (sym (rw same at et) ∙ opened) (sym (rw same at ed) ∙ f)

    module _ (allowed : d ≡ false) (u : Bool) (eu : u ≡ (eqb n 0 || some_waiting_names s n)) where
      pub one_used : u ≡ true → 15 ≡ refusal (closing s p n)
      one_used f = close_used s p n (sym (rw same at et) ∙ opened) (sym (rw same at ed) ∙ allowed) (sym eu ∙ f)

      pub one_free : u ≡ false → 0 ≡ refusal (closing s p n)
      one_free f = close_unused s p n (sym (rw same at et) ∙ opened) (sym (rw same at ed) ∙ allowed) (sym eu ∙ f)

-- ---- AG: 7 and 9 of its host and process, then 10 and 11 of its spaces

module _ (s : Run) (b : List ℕ) (process r : ℕ) (t : T (legal_body b)) (e : process ≡ number_at process_at process_width b) (f : r ≡ refusal (standing s (get_or b host_at 0) process)) where
  stood : r ≡ refusal (standing s (statement_of b).host (statement_of b).process)
  stood = f ∙ (λ i. refusal (standing s ((body_is b t).host i) ((e ∙ (body_is b t).process) i)))

  pub statement_stops : (r ≡ 0 → ⊥) → r ≡ refusal (checks s (guarded (statement_of b)))
  unfolding checks
  statement_stops n = stops s (statement_of b).host (statement_of b).process r stood (access s (statement_of b).process (spaces_named (statement_of b))) n

  -- the same of what a `?` hands on
  pub statement_stops_on : (x : Refusal) → r ≡ number_of x → (q : code.Result Unit Refusal) → IsErrAnd q (λ y. y ≡ x) → told q ≡ refusal (checks s (guarded (statement_of b)))
  statement_stops_on x is q k = handed_on q x k ∙ sym is ∙ statement_stops (λ z. number_positive x (sym is ∙ z))

  pub statement_goes : (q : ℕ) → r ≡ 0 → q ≡ refusal (access s process (spaces_named (statement_of b))) → q ≡ refusal (checks s (guarded (statement_of b)))
  unfolding checks
  statement_goes q z g =
      g ∙ ap (λ (p : ℕ). refusal (access s p (spaces_named (statement_of b)))) (e ∙ (body_is b t).process)
      ∙ goes s (statement_of b).host (statement_of b).process r stood (access s (statement_of b).process (spaces_named (statement_of b))) z

-- ---- 15

-- a waiting statement that names a space
abbrev pub naming : ℕ → Waiting → Bool
naming n w = is_in n (spaces_named w.statement)

same_is : (ss : List Space) (n : ℕ) (ns : List ℕ) → any (asks ss (Same n)) ns ≡ is_in n ns
unfolding asks is_in
same_is ss n ns = refl

pub naming_is : (ss : List Space) (n : ℕ) (w : Waiting) (st : Statement) (t : Bool) → st ≡ w.statement → t ≡ any (asks ss (Same n)) (spaces_named st) → t ≡ naming n w
naming_is ss n w st t same e = e ∙ same_is ss n (spaces_named st) ∙ ap (λ (x : Statement). is_in n (spaces_named x)) same
