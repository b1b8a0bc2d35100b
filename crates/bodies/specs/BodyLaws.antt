-- A legal body: host, process, a branch count, and legal branches that take up the rest. Assumes nothing.
use Rattle.std.specs.Prelude as rust
use Rattle.std.specs.Option.{option_eq}
use Rattle.std.specs.Ordering.{is_le, nat_cmp}
use Rattle.std.proofs.lemmas.Bool.Decides.{nat_tests}
use Rattle.std.specs.Prelude.{None, Some, ◌≡◌, refl, ℕ, suc, ◌-◌, ◌≤◌, ◌<◌, Bool, true, false, ◌&&◌, cond, List, [], ◌∷◌, length, drop, get_or, leb, ltb, eqb}
use Rattle.std.proofs.Common.{sym, leb-true, leb-false, true≢false, ap, ◌∙◌, arith, lt-ltb, le-leb, eq-eqb, ne_eqb}
use Rattle.std.proofs.Math.Option.{Option, none, some}
use Rattle.std.proofs.lemmas.Bool.{lt-leb}
use Rattle.basis.specs.Choice.{maybe, is_some, given, provided}
use Rattle.basis.specs.Lists.{all, is_empty}
use Rattle.basis.specs.Numbers.{number_at}
use Rattle.basis.specs.NumberLaws.{bytes_of_lem, number_at_lt}
use Rattle.words.specs.WordLaws.{number_at_1}
use Rattle.words.specs.ZeroLaws.{and-false}
use Rattle.basis.specs.Sizes.{most_branches, most_body, hosts, processes, process_width, process_at, branch_count_at, branches_at, host_at}
use Rattle.model.specs.Statement.{Branch, Statement}
use Rattle.model.specs.Legal.{legal_branch, legal_statement, parse, legal_body}
use Rattle.model.specs.Reading.{several, whole_of, branch}
use Rattle.model.proofs.ReadBack.{several_length}
use Rattle.statements.specs.Ends.{end_at, end_of, end_of_lem}
use Rattle.walk.specs.BodyParts.{statement_of, statement_one, statement_short}

-- a position is the end
unfoldable pub ends_at : Option ℕ → ℕ → Bool
ends_at none n = false
ends_at (some end) n = eqb end n

-- the position that the code found is the end
pub end_told : (r : rust.Option ℕ) (o : Option ℕ) (n : ℕ) → given r ≡ o → option_eq eqb r (Some n) ≡ ends_at o n
unfolding ends_at
end_told None o n e = ap (λ (x : Option ℕ). ends_at x n) e
end_told (Some end) o n e = ap (λ (x : Option ℕ). ends_at x n) e

-- more than 250 bytes
body_long : (b : List ℕ) → most_body < length b → false ≡ legal_body b
unfolding legal_body parse is_some
body_long b h = rw (lt-leb (length b) most_body h)

-- fewer than host, process and branch count take
body_short : (b : List ℕ) → length b < branches_at → false ≡ legal_body b
unfolding legal_body parse is_some whole_of
body_short b h = rw (statement_short b h) (go (leb (length b) most_body))
  where
    go : (t : Bool) → false ≡ is_some {A = Statement} (cond t none none)
    go true = refl
    go false = refl

nat_le : (a b : ℕ) → is_le (nat_cmp a b) ≡ leb a b
nat_le a b = grind (arith, nat_tests)

-- what the code tells of a number in a range
pub range_told : (a n b : ℕ) → (is_le (nat_cmp a n) && is_le (nat_cmp n b)) ≡ (leb a n && leb n b)
range_told a n b = rw (nat_le a n, nat_le n b)

-- a body is as long as host, process and branch count take, and has at most 250 bytes
abbrev pub sized : ℕ → Bool
sized n = leb branches_at n && leb n most_body

pub sized_parts : (n : ℕ) → true ≡ sized n → (n ≤ most_body) × (branches_at ≤ n)
sized_parts n e = go (leb branches_at n) (leb n most_body) refl refl e
  where
    go : (p q : Bool) → leb branches_at n ≡ p → leb n most_body ≡ q → true ≡ (p && q) → (n ≤ most_body) × (branches_at ≤ n)
    go true true l h e = (leb-true n most_body h, leb-true branches_at n l)
    go true false l h e = absurd (true≢false e)
    go false q l h e = absurd (true≢false e)

pub body_unsized : (b : List ℕ) → false ≡ sized (length b) → false ≡ legal_body b
body_unsized b e = go (leb branches_at (length b)) (leb (length b) most_body) refl refl e
  where
    go : (p q : Bool) → leb branches_at (length b) ≡ p → leb (length b) most_body ≡ q → false ≡ (p && q) → false ≡ legal_body b
    go false q l h e = body_short b (leb-false branches_at (length b) l)
    go true false l h e = body_long b (leb-false (length b) most_body h)
    go true true l h e = absurd (true≢false (sym e))

-- the head of a body: host, branch count
unfoldable pub head_ok : (host count : ℕ) → Bool
head_ok h n = ltb h hosts && leb 1 n && leb n most_branches

-- nothing is left exactly at the end
at_end : (b rest : List ℕ) → branches_at ≤ length b → eqb (length b - length rest) (length b) ≡ is_empty rest
unfolding is_empty
at_end b [] h = eq-eqb (length b - 0) (length b) (omega arith)
at_end b (x ∷ rest) h = ne_eqb (length b - suc (length rest)) (length b) (λ e. omega arith)

-- what is read is legal, and nothing is left
tests : (a c d e z : Bool) (st : Statement) (end n : ℕ) → eqb end n ≡ z → legal_statement st ≡ (a && true && c && d && e)
    → ((a && c && d) && ends_at (provided e end) n) ≡ is_some (maybe {B = Option Statement} (provided z st) none (λ x. provided (legal_statement x) x))
unfolding provided ends_at is_some
tests a c d e z st end n q k = go z e q k
  where
    taken : (a c d t : Bool) → ((a && c && d) && t) ≡ is_some {A = Statement} (cond (a && true && c && d && t) (some st) none)
    taken true true true true = refl
    taken true true true false = refl
    taken true true false t = refl
    taken true false d t = refl
    taken false c d t = refl

    go : (z e : Bool) → eqb end n ≡ z → legal_statement st ≡ (a && true && c && d && e)
        → ((a && c && d) && ends_at (cond e (some end) none) n) ≡ is_some (maybe {B = Option Statement} (cond z (some st) none) none (λ x. cond (legal_statement x) (some x) none))
    go true true q k = rw (q, k) (taken a c d true)
    go true false q k = rw k (taken a c d false)
    go false true q k = rw q (and-false (a && c && d))
    go false false q k = and-false (a && c && d)

pub body_legal_lem : (b : List ℕ) → length b ≤ most_body → branches_at ≤ length b → ((k : ℕ) → get_or b k 0 < 256)
    → (head_ok (get_or b host_at 0) (get_or b branch_count_at 0) && ends_at (end_at (several branch (get_or b branch_count_at 0)) (all legal_branch) b branches_at) (length b)) ≡ legal_body b
unfolding legal_body parse whole_of ends_at is_some statement_of head_ok legal_statement
body_legal_lem b h l bytes =
    let p : number_at process_at process_width b < processes = number_at_lt process_at process_width b (bytes_of_lem b bytes) in
    rw (le-leb (length b) most_body h, statement_one b l, number_at_1 host_at b (omega arith), end_of_lem (several branch (get_or b branch_count_at 0)) (all legal_branch) b branches_at)
    (go (several branch (get_or b branch_count_at 0) (drop branches_at b)) refl p)
  where
    go : (o : Option (List Branch × List ℕ)) → several branch (get_or b branch_count_at 0) (drop branches_at b) ≡ o → number_at process_at process_width b < processes
        → (head_ok (get_or b host_at 0) (get_or b branch_count_at 0) && ends_at (end_of (all legal_branch) b o) (length b))
        ≡ is_some (maybe {B = Option Statement} (maybe {B = Option Statement} (statement_of (get_or b host_at 0) (number_at process_at process_width b) o) none (λ r. provided (is_empty r.1) r.0)) none (λ st. provided (legal_statement st) st))
    go none q p = and-false (head_ok (get_or b host_at 0) (get_or b branch_count_at 0))
    go (some r) q p =
        let st : Statement = record { host = get_or b host_at 0; process = number_at process_at process_width b; branches = r.0 } in
        let n : length r.0 ≡ get_or b branch_count_at 0 = several_length branch (get_or b branch_count_at 0) (drop branches_at b) r.1 r.0 q in
        tests (ltb (get_or b host_at 0) hosts) (leb 1 (get_or b branch_count_at 0)) (leb (get_or b branch_count_at 0) most_branches) (all legal_branch r.0) (is_empty r.1) st (length b - length r.1) (length b) (at_end b r.1 l)
        (rw (n, lt-ltb (number_at process_at process_width b) processes p))

pub body_no_head : (b : List ℕ) → length b ≤ most_body → branches_at ≤ length b → ((k : ℕ) → get_or b k 0 < 256) → head_ok (get_or b host_at 0) (get_or b branch_count_at 0) ≡ false → false ≡ legal_body b
body_no_head b h l bytes e = ap (λ (t : Bool). t && ends_at (end_at (several branch (get_or b branch_count_at 0)) (all legal_branch) b branches_at) (length b)) (sym e) ∙ body_legal_lem b h l bytes

pub body_branches : (b : List ℕ) → length b ≤ most_body → branches_at ≤ length b → ((k : ℕ) → get_or b k 0 < 256) → head_ok (get_or b host_at 0) (get_or b branch_count_at 0) ≡ true
    → (r : Bool) (count : ℕ) → count ≡ get_or b branch_count_at 0 → r ≡ ends_at (end_at (several branch count) (all legal_branch) b branches_at) (length b) → r ≡ legal_body b
body_branches b h l bytes e r count c k =
    k ∙ ap (λ (n : ℕ). ends_at (end_at (several branch n) (all legal_branch) b branches_at) (length b)) c
    ∙ ap (λ (t : Bool). t && ends_at (end_at (several branch (get_or b branch_count_at 0)) (all legal_branch) b branches_at) (length b)) (sym e) ∙ body_legal_lem b h l bytes
