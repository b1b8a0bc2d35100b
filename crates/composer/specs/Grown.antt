-- The bytes of a statement with one addition more: those it had, with one count raised, and those of the addition. Assumes nothing.
use Rattle.std.specs.Prelude.{◌≡◌, refl, ℕ, ◌+◌, ◌≤◌, ◌<◌, length, take, set, get_or}
use Rattle.std.proofs.Common.{sym, ap, ◌∙◌, suc-add, arith, length-append, get_or-take, get_or-append-add}
use mathlib.Core.List.Memᴰ
use mathlib.Core.List.{List, [], ◌∷◌, ◌++◌, flat_map, append_assoc, append-nil}
use Rattle.std.proofs.Math.Seq.{take-set-lt, set-append_seam, get_or-append_seam}
use Rattle.basis.specs.ListLaws.{Each, each_nil, each-cons, each_append}
use Rattle.basis.specs.Numbers.{big_endian}
use Rattle.basis.specs.NumberLaws.{big_endian_length, one_byte}
use Rattle.basis.specs.PadLaws.{flat_map_append}
use Rattle.basis.specs.Sizes.{host_width, process_width, processes, branch_count_at, branches_at}
use Rattle.model.specs.Statement.{Operation, Branch, operations, Statement}
use Rattle.model.specs.Writing.{counted_bytes, operation_bytes, branch_bytes, statement_bytes}
use Rattle.model.proofs.RoundTrip.{FitsOperation, FitsBranch, FitsStatement}
use Rattle.writer.specs.Writer.{begun, in_last, with_operation, with_branch}
use Rattle.writer.specs.WriterLaws.{in_last_length}
use Rattle.parts.specs.Fields.{flat_map_one}
use Rattle.walk.specs.Counts.{before_count, before_more, count_at}

-- ---- a byte raised by one

unfoldable pub raised : List ℕ → ℕ → List ℕ
raised l k = set l k (get_or l k 0 + 1)

pub raised_take : (n : ℕ) (l : List ℕ) (k : ℕ) → k < n → take n (raised l k) ≡ raised (take n l) k
unfolding raised
raised_take n l k h = take-set-lt n l k (get_or l k 0 + 1) h ∙ ap (λ (b : ℕ). set (take n l) k (b + 1)) (sym (get_or-take n l k 0 h))

raised_at : (x : List ℕ) (n : ℕ) (y : List ℕ) → raised (x ++ (n ∷ y)) (length x) ≡ x ++ ((n + 1) ∷ y)
unfolding raised
raised_at x n y = rw (get_or-append_seam x n y 0) (set-append_seam x n y (n + 1))

set_right : (x y : List ℕ) (k b : ℕ) → set (x ++ y) (length x + k) b ≡ x ++ set y k b
set_right [] y k b = let e : 0 + k ≡ k = omega arith in rw e
set_right (a ∷ x) y k b = ap (λ (n : ℕ). set (a ∷ (x ++ y)) n b) (suc-add (length x) k) ∙ ap (λ (l : List ℕ). a ∷ l) (set_right x y k b)

raised_right : (x y : List ℕ) (k : ℕ) → raised (x ++ y) (length x + k) ≡ x ++ raised y k
unfolding raised
raised_right x y k = rw (get_or-append-add x y k 0) (set_right x y k (get_or y k 0 + 1))

in_last_more : (b c : Branch) (bs : List Branch) (o : Operation) → in_last (b ∷ c ∷ bs) o ≡ b ∷ in_last (c ∷ bs) o
unfolding in_last
in_last_more b c bs o = refl

branches_more : (b : Branch) (bs : List Branch) → flat_map branch_bytes (b ∷ bs) ≡ branch_bytes b ++ flat_map branch_bytes bs
unfolding flat_map
branches_more b bs = refl

-- an operation more: the count raised, then its bytes
body_bytes : (b : Branch) (o : Operation) → branch_bytes (record { guard = b.guard; body = b.body ++ (o ∷ []) }) ≡ raised (branch_bytes b) (length (operation_bytes b.guard)) ++ operation_bytes o
unfolding branch_bytes counted_bytes
body_bytes b o =
    let g : List ℕ = operation_bytes b.guard in
    let os : List ℕ = flat_map operation_bytes b.body in
    rw (raised_at g (length b.body) os, length-append b.body (o ∷ []), flat_map_append operation_bytes b.body (o ∷ []), flat_map_one operation_bytes o) (sym (append_assoc g ((length b.body + 1) ∷ os) (operation_bytes o)))

last_bytes : (b : Branch) (o : Operation) → flat_map branch_bytes (in_last (b ∷ []) o) ≡ raised (flat_map branch_bytes (b ∷ [])) (before_count (b ∷ [])) ++ operation_bytes o
unfolding in_last before_count
last_bytes b o = rw (flat_map_one branch_bytes (record { guard = b.guard; body = b.body ++ (o ∷ []) }), flat_map_one branch_bytes b) (body_bytes b o)

in_last_bytes : (b : Branch) (bs : List Branch) (o : Operation) → flat_map branch_bytes (in_last (b ∷ bs) o) ≡ raised (flat_map branch_bytes (b ∷ bs)) (before_count (b ∷ bs)) ++ operation_bytes o
in_last_bytes b [] o = last_bytes b o
in_last_bytes b (c ∷ bs) o =
    rw (in_last_more b c bs o, before_more b c bs, branches_more b (in_last (c ∷ bs) o), branches_more b (c ∷ bs), raised_right (branch_bytes b) (flat_map branch_bytes (c ∷ bs)) (before_count (c ∷ bs)))
    (ap (λ (l : List ℕ). branch_bytes b ++ l) (in_last_bytes c bs o) ∙ sym (append_assoc (branch_bytes b) (raised (flat_map branch_bytes (c ∷ bs)) (before_count (c ∷ bs))) (operation_bytes o)))

-- ---- the whole

-- host, process and a branch count
head_of : (h p n : ℕ) → List ℕ
head_of h p n = big_endian host_width h ++ (big_endian process_width p ++ (n ∷ []))

head_length : (h p n : ℕ) → length (head_of h p n) ≡ branches_at
unfolding head_of
head_length h p n = simp (length-append, big_endian_length)

head_split : (st : Statement) → statement_bytes st ≡ head_of st.host st.process (length st.branches) ++ flat_map branch_bytes st.branches
unfolding statement_bytes counted_bytes head_of
head_split st = simp append_assoc

-- an operation more: that count raised
pub operation_bytes_lem : (st : Statement) (o : Operation) → 1 ≤ length st.branches → statement_bytes (with_operation st o) ≡ raised (statement_bytes st) (count_at st) ++ operation_bytes o
unfolding with_operation count_at
operation_bytes_lem st o h = head_split (with_operation st o) ∙ rw (in_last_length st.branches o) (go st.branches (head_of st.host st.process (length st.branches)) (head_length st.host st.process (length st.branches)) h ∙ ap (λ (l : List ℕ). raised l (count_at st) ++ operation_bytes o) (sym (head_split st)))
  where
    go : (bs : List Branch) (head : List ℕ) → length head ≡ branches_at → 1 ≤ length bs
        → head ++ flat_map branch_bytes (in_last bs o) ≡ raised (head ++ flat_map branch_bytes bs) (branches_at + before_count bs) ++ operation_bytes o
    go [] head e h = absurd (omega arith)
    go (b ∷ bs) head e h =
        rw (← e, raised_right head (flat_map branch_bytes (b ∷ bs)) (before_count (b ∷ bs)))
        (ap (λ (l : List ℕ). head ++ l) (in_last_bytes b bs o) ∙ sym (append_assoc head (raised (flat_map branch_bytes (b ∷ bs)) (before_count (b ∷ bs))) (operation_bytes o)))

counted_more : (front : List ℕ) (bs : List Branch) (b : Branch) → length front ≡ branch_count_at
    → front ++ (length (bs ++ (b ∷ [])) ∷ flat_map branch_bytes (bs ++ (b ∷ []))) ≡ raised (front ++ (length bs ∷ flat_map branch_bytes bs)) branch_count_at ++ branch_bytes b
counted_more front bs b e =
    rw (← e, raised_at front (length bs) (flat_map branch_bytes bs), length-append bs (b ∷ []), flat_map_append branch_bytes bs (b ∷ []), flat_map_one branch_bytes b)
    (sym (append_assoc front ((length bs + 1) ∷ flat_map branch_bytes bs) (branch_bytes b)))

front_split : (st : Statement) → statement_bytes st ≡ (big_endian host_width st.host ++ big_endian process_width st.process) ++ (length st.branches ∷ flat_map branch_bytes st.branches)
unfolding statement_bytes counted_bytes
front_split st = simp append_assoc

guard_bytes : (g : Operation) → branch_bytes (record { guard = g; body = [] }) ≡ operation_bytes g ++ (0 ∷ [])
unfolding branch_bytes counted_bytes flat_map
guard_bytes g = refl

-- a branch more: the branch count raised
pub branch_bytes_lem : (st : Statement) (g : Operation) → statement_bytes (with_branch st g) ≡ raised (statement_bytes st) branch_count_at ++ (operation_bytes g ++ (0 ∷ []))
unfolding with_branch
branch_bytes_lem st g =
    front_split (with_branch st g)
    ∙ counted_more (big_endian host_width st.host ++ big_endian process_width st.process) st.branches (record { guard = g; body = [] }) (simp (length-append, big_endian_length))
    ∙ rw (← front_split st, guard_bytes g)

-- the first branch: no operation yet
pub begun_bytes : (h p : ℕ) (g : Operation) → h < 256 → statement_bytes (begun h p g) ≡ (h ∷ []) ++ (big_endian process_width p ++ ((1 ∷ []) ++ (operation_bytes g ++ (0 ∷ []))))
unfolding begun statement_bytes counted_bytes branch_bytes flat_map
begun_bytes h p g l = rw (one_byte h l) (simp (append-nil))

-- ---- what an addition has to fulfil

-- a grown statement has room where its parts have
abbrev pub Grows : (Statement → Operation → Statement) → Type 0
Grows grown = (st : Statement) (o : Operation) → FitsStatement st → FitsOperation o → FitsStatement (grown st o)

fits_guard : (g : Operation) → FitsOperation g → FitsBranch (record { guard = g; body = [] })
unfolding operations
fits_guard g h = each-cons FitsOperation g [] h (each_nil _)

fits_more : (b : Branch) (o : Operation) → FitsBranch b → FitsOperation o → FitsBranch (record { guard = b.guard; body = b.body ++ (o ∷ []) })
unfolding operations
fits_more b o f h =
    each-cons FitsOperation b.guard (b.body ++ (o ∷ [])) (f b.guard (Memᴰ.head refl))
    (each_append FitsOperation b.body (o ∷ []) (λ x i. f x (Memᴰ.tail i)) (each-cons FitsOperation o [] h (each_nil _)))

in_last_fits : (bs : List Branch) (o : Operation) → Each FitsBranch bs → FitsOperation o → Each FitsBranch (in_last bs o)
unfolding in_last
in_last_fits [] o f h = each_nil _
in_last_fits (b ∷ []) o f h = each-cons FitsBranch _ [] (fits_more b o (f b (Memᴰ.head refl)) h) (each_nil _)
in_last_fits (b ∷ c ∷ bs) o f h = each-cons FitsBranch b (in_last (c ∷ bs) o) (f b (Memᴰ.head refl)) (in_last_fits (c ∷ bs) o (λ x i. f x (Memᴰ.tail i)) h)

pub grows_operation : Grows with_operation
unfolding with_operation
grows_operation st o f h = record { host = f.host; process = f.process; branches = in_last_fits st.branches o f.branches h }

pub grows_branch : Grows with_branch
unfolding with_branch
grows_branch st g f h =
    record { host = f.host; process = f.process; branches = each_append FitsBranch st.branches _ f.branches (each-cons FitsBranch _ [] (fits_guard g h) (each_nil _)) }

pub fits_begun : (h p : ℕ) (g : Operation) → h < 256 → p < processes → FitsOperation g → FitsStatement (begun h p g)
unfolding begun
fits_begun h p g a b f = record { host = a; process = b; branches = each-cons FitsBranch _ [] (fits_guard g f) (each_nil _) }
