-- A front part of a statement, with fewer operations in its last branch or fewer branches: it is legal where the whole is, and no longer. Assumes nothing.
use Rattle.std.specs.Prelude.{◌≡◌, ℕ, ◌≤◌, Bool, true, length, T, leb, ltb}
use Rattle.std.proofs.Math.Path.{refl, ap}
use Rattle.std.proofs.Common.{sym, ◌∙◌, arith, length-append, length-set, leb→le, le→leb}
use mathlib.Core.List.Memᴰ
use mathlib.Core.List.{List, [], ◌∷◌, ◌++◌, map, append_assoc, append-nil}
use Rattle.basis.specs.Logic.{and_l, and_r, both}
use Rattle.basis.specs.Lists.{all}
use Rattle.basis.specs.ListLaws.{all_at, all_of}
use Rattle.basis.specs.Sizes.{hosts, processes, most_branches, most_operations, most_body, branch_count_at}
use Rattle.model.specs.Statement.{Operation, Branch, operations, Statement}
use Rattle.model.specs.Legal.{Kinds, no_kinds, bind_kinds, fields_of, legal_operation, legal_operations, is_guard, is_body_operation, legal_branch, legal_statement}
use Rattle.model.specs.Writing.{operation_bytes, statement_bytes}
use Rattle.writer.specs.Writer.{begun, in_last, with_operation, with_branch, is_writable}
use Rattle.writer.specs.WriterLaws.{in_last_length}
use Rattle.composer.specs.Grown.{raised, operation_bytes_lem, branch_bytes_lem}
use Rattle.walk.specs.Counts.{count_at}
use Rattle.rewriter.specs.Additions.{Addition, operation, branch, additions, grow, grow_all}

-- ---- legal

all_front : {A : Type 0} (p : A → Bool) (l k : List A) → T (all p (l ++ k)) → T (all p l)
all_front p l k t = all_of p l (λ a i. all_at p (l ++ k) t a (Memᴰ.append_left k i))

-- "used only in a later operation": an operation asks nothing of those after it
operations_front : (ks : Kinds) (os : List Operation) (o : Operation) → T (legal_operations ks (os ++ (o ∷ []))) → T (legal_operations ks os)
unfolding legal_operations
operations_front ks [] o t = tt
operations_front ks (a ∷ os) o t =
    let later : Kinds = bind_kinds ks (fields_of a) in
    both (legal_operation ks a) (legal_operations later os) (and_l (legal_operation ks a) (legal_operations later (os ++ (o ∷ []))) t)
    (operations_front later os o (and_r (legal_operation ks a) (legal_operations later (os ++ (o ∷ []))) t))

branch_front : (b : Branch) (o : Operation) → T (legal_branch (record { guard = b.guard; body = b.body ++ (o ∷ []) })) → T (legal_branch b)
unfolding legal_branch operations
branch_front b o t =
    let g : T (is_guard b.guard) = search (and_l, and_r, t) depth 16 in
    let n : T (leb (length (b.body ++ (o ∷ []))) most_operations) = search (and_l, and_r, t) depth 16 in
    let p : T (all is_body_operation (b.body ++ (o ∷ []))) = search (and_l, and_r, t) depth 16 in
    let l : T (legal_operations no_kinds (b.guard ∷ (b.body ++ (o ∷ [])))) = search (and_l, and_r, t) depth 16 in
    let few : T (leb (length b.body) most_operations) = le→leb (length b.body) most_operations (omega (arith, leb→le (length (b.body ++ (o ∷ []))) most_operations n, length-append b.body (o ∷ []))) in
    let q : T (all is_body_operation b.body) = all_front is_body_operation b.body (o ∷ []) p in
    let m : T (legal_operations no_kinds (b.guard ∷ b.body)) = operations_front no_kinds (b.guard ∷ b.body) o l in
    search (both, g, few, q, m) depth 18

in_last_front : (bs : List Branch) (o : Operation) → T (all legal_branch (in_last bs o)) → T (all legal_branch bs)
unfolding in_last all
in_last_front [] o t = tt
in_last_front (b ∷ []) o t = both (legal_branch b) true (branch_front b o (and_l (legal_branch (record { guard = b.guard; body = b.body ++ (o ∷ []) })) true t)) tt
in_last_front (b ∷ c ∷ bs) o t =
    both (legal_branch b) (all legal_branch (c ∷ bs)) (and_l (legal_branch b) (all legal_branch (in_last (c ∷ bs) o)) t) (in_last_front (c ∷ bs) o (and_r (legal_branch b) (all legal_branch (in_last (c ∷ bs) o)) t))

-- a statement with fewer branches, or fewer operations in them
fewer : (st whole : Statement) → st.host ≡ whole.host → st.process ≡ whole.process → 1 ≤ length st.branches → length st.branches ≤ length whole.branches
    → (T (all legal_branch whole.branches) → T (all legal_branch st.branches)) → T (legal_statement whole) → T (legal_statement st)
unfolding legal_statement
fewer st whole h p one less each t =
    let a : T (ltb st.host hosts) = rw h (search (and_l, and_r, t) depth 16) in
    let b : T (ltb st.process processes) = rw p (search (and_l, and_r, t) depth 16) in
    let n : T (leb (length whole.branches) most_branches) = search (and_l, and_r, t) depth 16 in
    let c : T (leb 1 (length st.branches)) = le→leb 1 (length st.branches) one in
    let d : T (leb (length st.branches) most_branches) = le→leb (length st.branches) most_branches (omega (arith, leb→le (length whole.branches) most_branches n)) in
    let e : T (all legal_branch st.branches) = each (search (and_l, and_r, t) depth 16) in
    search (both, a, b, c, d, e) depth 18

legal_front : (st : Statement) (y : Addition Operation) → 1 ≤ length st.branches → T (legal_statement (grow st y)) → T (legal_statement st)
unfolding grow with_operation with_branch
legal_front st (operation o) one t = fewer st (with_operation st o) refl refl one (omega (arith, in_last_length st.branches o)) (in_last_front st.branches o) t
legal_front st (branch g) one t =
    fewer st (with_branch st g) refl refl one (omega (arith, length-append st.branches (record { guard = g; body = [] } ∷ []))) (all_front legal_branch st.branches (record { guard = g; body = [] } ∷ [])) t

-- ---- no longer

raised_length : (l : List ℕ) (at : ℕ) → length (raised l at) ≡ length l
unfolding raised
raised_length l at = simp length-set

pub shorter : (st : Statement) (y : Addition Operation) → 1 ≤ length st.branches → length (statement_bytes st) ≤ length (statement_bytes (grow st y))
unfolding grow
shorter st (operation o) one =
    omega (arith, ap length (operation_bytes_lem st o one), length-append (raised (statement_bytes st) (count_at st)) (operation_bytes o), raised_length (statement_bytes st) (count_at st))
shorter st (branch g) one =
    omega (arith, ap length (branch_bytes_lem st g), length-append (raised (statement_bytes st) branch_count_at) (operation_bytes g ++ (0 ∷ [])), raised_length (statement_bytes st) branch_count_at)

-- ---- both

-- a statement can be written, and is no longer than a whole
pub record Front (st whole : Statement) : Type 0 where
  pub writable : T (is_writable st)
  pub least : length (statement_bytes st) ≤ length (statement_bytes whole)

front_grow : (st : Statement) (y : Addition Operation) → 1 ≤ length st.branches → T (is_writable (grow st y)) → Front st (grow st y)
unfolding is_writable
front_grow st y one t =
    let l : T (legal_statement (grow st y)) = and_l (legal_statement (grow st y)) (leb (length (statement_bytes (grow st y))) most_body) t in
    let n : length (statement_bytes (grow st y)) ≤ most_body = leb→le (length (statement_bytes (grow st y))) most_body (and_r (legal_statement (grow st y)) (leb (length (statement_bytes (grow st y))) most_body) t) in
    let s : length (statement_bytes st) ≤ length (statement_bytes (grow st y)) = shorter st y one in
    record { writable = both (legal_statement st) (leb (length (statement_bytes st)) most_body) (legal_front st y one l) (le→leb (length (statement_bytes st)) most_body (omega arith)); least = s }

-- a statement that grows keeps a branch
pub some_grow : (st : Statement) (y : Addition Operation) → 1 ≤ length st.branches → 1 ≤ length (grow st y).branches
unfolding grow with_operation with_branch
some_grow st (operation o) one = omega (arith, in_last_length st.branches o)
some_grow st (branch g) one = omega (arith, length-append st.branches (record { guard = g; body = [] } ∷ []))

pub front : (st : Statement) (ys : List (Addition Operation)) → 1 ≤ length st.branches → T (is_writable (grow_all st ys)) → Front st (grow_all st ys)
unfolding grow_all
front st [] one t = record { writable = t; least = omega arith }
front st (y ∷ ys) one t =
    let f = front (grow st y) ys (some_grow st y one) t in
    let g = front_grow st y one f.writable in
    record { writable = g.writable; least = omega (arith, f.least, g.least) }

-- ---- a statement grown by its additions

in_last_end : (fs : List Branch) (b : Branch) (o : Operation) → in_last (fs ++ (b ∷ [])) o ≡ fs ++ (record { guard = b.guard; body = b.body ++ (o ∷ []) } ∷ [])
unfolding in_last
in_last_end [] b o = refl
in_last_end (f ∷ []) b o = refl
in_last_end (f ∷ g ∷ fs) b o = ap (λ (l : List Branch). f ∷ l) (in_last_end (g ∷ fs) b o)

module _ (h p : ℕ) where
  -- host, process and branches
  abbrev of : List Branch → Statement
  of bs = record { host = h; process = p; branches = bs }

  grown_operations : (fs : List Branch) (g : Operation) (done os : List Operation) (ys : List (Addition Operation))
      → grow_all (of (fs ++ (record { guard = g; body = done } ∷ []))) (map operation os ++ ys) ≡ grow_all (of (fs ++ (record { guard = g; body = done ++ os } ∷ []))) ys
  unfolding grow_all grow with_operation
  grown_operations fs g done [] ys = rw (append-nil done)
  grown_operations fs g done (o ∷ os) ys =
      ap (λ (l : List Branch). grow_all (of l) (map operation os ++ ys)) (in_last_end fs (record { guard = g; body = done }) o)
      ∙ grown_operations fs g (done ++ (o ∷ [])) os ys
      ∙ ap (λ (l : List Operation). grow_all (of (fs ++ (record { guard = g; body = l } ∷ []))) ys) (append_assoc done (o ∷ []) os)

  grown_branches : (fs bs : List Branch) → grow_all (of fs) (additions bs) ≡ of (fs ++ bs)
  unfolding grow_all grow with_branch additions
  grown_branches fs [] = ap of (sym (append-nil fs))
  grown_branches fs (b ∷ bs) =
      grown_operations fs b.guard [] b.body (additions bs) ∙ grown_branches (fs ++ (b ∷ [])) bs ∙ ap of (append_assoc fs (b ∷ []) bs)

-- a statement is begun with its first guard and grows by the other additions
pub grown_all : (st : Statement) (b : Branch) (bs : List Branch) → st.branches ≡ b ∷ bs → grow_all (begun st.host st.process b.guard) (map operation b.body ++ additions bs) ≡ st
unfolding begun
grown_all st b bs e =
    grown_operations st.host st.process [] b.guard [] b.body (additions bs) ∙ grown_branches st.host st.process (b ∷ []) bs
    ∙ ap (λ (l : List Branch). record { host = st.host; process = st.process; branches = l }) (sym e)

-- ---- the additions of a grown statement

additions_append : (fs bs : List Branch) → additions (fs ++ bs) ≡ additions fs ++ additions bs
unfolding additions
additions_append [] bs = refl
additions_append (f ∷ fs) bs = rw (additions_append fs bs, append_assoc (map operation f.body) (additions fs) (additions bs))

map_snoc : (os : List Operation) (o : Operation) → map operation (os ++ (o ∷ [])) ≡ map operation os ++ (operation o ∷ [])
map_snoc [] o = refl
map_snoc (a ∷ os) o = ap (λ (l : List (Addition Operation)). operation a ∷ l) (map_snoc os o)

additions_last : (b : Branch) (bs : List Branch) (o : Operation) → additions (in_last (b ∷ bs) o) ≡ additions (b ∷ bs) ++ (operation o ∷ [])
unfolding additions in_last
additions_last b [] o = rw (map_snoc b.body o, append-nil (map operation b.body), append-nil (map operation b.body ++ (operation o ∷ [])))
additions_last b (c ∷ bs) o =
    ap (λ (l : List (Addition Operation)). branch b.guard ∷ (map operation b.body ++ l)) (additions_last c bs o)
    ∙ ap (λ (l : List (Addition Operation)). branch b.guard ∷ l) (sym (append_assoc (map operation b.body) (additions (c ∷ bs)) (operation o ∷ [])))

additions_grow : (st : Statement) (y : Addition Operation) → 1 ≤ length st.branches → additions (grow st y).branches ≡ additions st.branches ++ (y ∷ [])
unfolding grow with_operation with_branch
additions_grow st (operation o) one = go st.branches one
  where
    go : (bs : List Branch) → 1 ≤ length bs → additions (in_last bs o) ≡ additions bs ++ (operation o ∷ [])
    go [] one = absurd (omega arith)
    go (b ∷ bs) one = additions_last b bs o
additions_grow st (branch g) one = additions_append st.branches (record { guard = g; body = [] } ∷ []) ∙ single
  where
    single : additions st.branches ++ additions (record { guard = g; body = [] } ∷ []) ≡ additions st.branches ++ (branch g ∷ [])
    single = unfold additions in refl

pub additions_all : (st : Statement) (ys : List (Addition Operation)) → 1 ≤ length st.branches → additions (grow_all st ys).branches ≡ additions st.branches ++ ys
unfolding grow_all
additions_all st [] one = sym (append-nil (additions st.branches))
additions_all st (y ∷ ys) one =
    additions_all (grow st y) ys (some_grow st y one) ∙ ap (λ (l : List (Addition Operation)). l ++ ys) (additions_grow st y one) ∙ append_assoc (additions st.branches) (y ∷ []) ys

-- host and process stay
pub host_all : (st : Statement) (ys : List (Addition Operation)) → (grow_all st ys).host ≡ st.host
unfolding grow_all grow with_operation with_branch
host_all st [] = refl
host_all st (operation o ∷ ys) = host_all (with_operation st o) ys
host_all st (branch g ∷ ys) = host_all (with_branch st g) ys

pub process_all : (st : Statement) (ys : List (Addition Operation)) → (grow_all st ys).process ≡ st.process
unfolding grow_all grow with_operation with_branch
process_all st [] = refl
process_all st (operation o ∷ ys) = process_all (with_operation st o) ys
process_all st (branch g ∷ ys) = process_all (with_branch st g) ys
