-- A body in its parts: host, process, branch count, and its branches to the end. Assumes nothing.
use Rattle.std.specs.Prelude.{◌≡◌, refl, ℕ, ◌≤◌, ◌<◌, Bool, true, false, cond, ◌⊎◌, List, [], ◌∷◌, length, drop, get_or, T}
use Rattle.std.proofs.Common.{sym, ap, ◌∙◌, arith, inl, inr}
use Rattle.std.proofs.Math.Option.{Option, none, some, some-injective, none-ne-some}
use Rattle.basis.specs.Choice.{maybe, provided}
use Rattle.basis.specs.Logic.{true_is}
use Rattle.basis.specs.Lists.{is_empty}
use Rattle.basis.specs.Numbers.{number_at}
use Rattle.words.specs.WordLaws.{number_at_1}
use Rattle.basis.specs.Sizes.{host_at, most_body, host_width, process_width, process_at, branch_count_at, branches_at}
use Rattle.model.specs.Statement.{Branch, Statement}
use Rattle.model.specs.Legal.{legal_statement, parse}
use Rattle.model.specs.Reading.{◌>>=◌, give, byte, several, counted, whole_of, branch, statement}
use Rattle.model.proofs.ReadBack.{Parsed, parse_some}
use Rattle.statements.specs.At.{which}
use Rattle.statements.specs.Fixed.{fixed_byte, fixed_natural}

-- host, process, branches and the bytes left
unfoldable pub statement_of : (h p : ℕ) → Option (List Branch × List ℕ) → Option (Statement × List ℕ)
statement_of h p none = none
statement_of h p (some r) = some (record { host = h; process = p; branches = r.0 }, r.1)

pub statement_one : (b : List ℕ) → branches_at ≤ length b → statement b ≡ statement_of (number_at host_at host_width b) (number_at process_at process_width b) (several branch (get_or b branch_count_at 0) (drop branches_at b))
unfolding statement ◌>>=◌ counted give statement_of
statement_one b h =
    rw ((fixed_natural host_width (omega arith)).enough b host_at (omega arith), (fixed_natural process_width (omega arith)).enough b process_at (omega arith), fixed_byte.enough b branch_count_at (omega arith))
    (go (several branch (get_or b branch_count_at 0) (drop branches_at b)))
  where
    go : (o : Option (List Branch × List ℕ)) → maybe o none (λ r. some (record { host = number_at host_at host_width b; process = number_at process_at process_width b; branches = r.0 }, r.1)) ≡ statement_of (number_at host_at host_width b) (number_at process_at process_width b) o
    go none = refl
    go (some r) = refl

pub statement_short : (b : List ℕ) → length b < branches_at → statement b ≡ none
unfolding statement ◌>>=◌ counted
statement_short b h = host (which host_width (length b))
  where
    byte_none : length b < branches_at → byte (drop branch_count_at b) ≡ none
    byte_none l = fixed_byte.short b branch_count_at l

    process : host_width ≤ length b → (branch_count_at ≤ length b) ⊎ (length b < branch_count_at) → statement b ≡ none
    process l (inl m) =
        rw ((fixed_natural host_width (omega arith)).enough b host_at (omega arith), (fixed_natural process_width (omega arith)).enough b process_at (omega arith), byte_none (omega arith))
    process l (inr m) = rw ((fixed_natural host_width (omega arith)).enough b host_at (omega arith), (fixed_natural process_width (omega arith)).short b process_at (omega arith))

    host : (host_width ≤ length b) ⊎ (length b < host_width) → statement b ≡ none
    host (inl l) = process l (which branch_count_at (length b))
    host (inr l) = rw ((fixed_natural host_width (omega arith)).short b host_at (omega arith))

-- a legal body: host, process, branch count, and its branches to the end
pub record BodyParts (b : List ℕ) (st : Statement) : Type 0 where
  pub long : branches_at ≤ length b
  pub size : length b ≤ most_body
  pub legal : T (legal_statement st)
  pub host : get_or b host_at 0 ≡ st.host
  pub process : number_at process_at process_width b ≡ st.process
  pub branches : several branch (get_or b branch_count_at 0) (drop branches_at b) ≡ some (st.branches, [])

pub body_parts : (b : List ℕ) (st : Statement) → parse b ≡ some st → BodyParts b st
unfolding whole_of statement_of provided is_empty
body_parts b st e = let k = parse_some b st e in from k (which branches_at (length b))
  where
    empty : (l : List ℕ) → T (is_empty l) → l ≡ []
    empty [] t = refl
    empty (x ∷ l) t = absurd t

    left : (t : Bool) (x : Statement) → cond t (some x) none ≡ some st → (t ≡ true) × (x ≡ st)
    left true x q = (refl, some-injective x st q)
    left false x q = absurd (none-ne-some st q)

    here : branches_at ≤ length b → Parsed b st → (o : Option (List Branch × List ℕ)) → several branch (get_or b branch_count_at 0) (drop branches_at b) ≡ o
        → maybe {B = Option Statement} (statement_of (number_at host_at host_width b) (number_at process_at process_width b) o) none (λ r. provided (is_empty r.1) r.0) ≡ some st → BodyParts b st
    here l k none q w = absurd (none-ne-some st w)
    here l k (some r) q w =
        let z = left (is_empty r.1) (record { host = number_at host_at host_width b; process = number_at process_at process_width b; branches = r.0 }) w in
        let none : r.1 ≡ [] = empty r.1 (true_is (is_empty r.1) z.0) in
        let bs : r.0 ≡ st.branches = ap (λ (x : Statement). x.branches) z.1 in
        record {
          long = l;
          size = k.size;
          legal = k.legal;
          host = sym (number_at_1 host_at b (omega arith)) ∙ ap (λ (x : Statement). x.host) z.1;
          process = ap (λ (x : Statement). x.process) z.1;
          branches = q ∙ (λ i. some (bs i, none i));
        }

    from : Parsed b st → (branches_at ≤ length b) ⊎ (length b < branches_at) → BodyParts b st
    from k (inl l) = here l k (several branch (get_or b branch_count_at 0) (drop branches_at b)) refl (rw (statement_one b l) at k.whole)
    from k (inr l) = absurd (none-ne-some st (rw (statement_short b l) at k.whole))
