-- A body part by part: what was read and handed in so far, and what stands ahead. Assumes nothing.
use Rattle.std.specs.Prelude.{◌≡◌, refl, true, Result, Ok, Err, ℕ, suc, ◌+◌, ◌-◌, ◌≤◌, ◌<◌, length, drop, get_or, T, leb, Some}
use Rattle.std.proofs.Common.{sym, ◌∙◌, arith, length-drop, le→leb}
use Rattle.std.proofs.Math.Path.{ap, subst}
use Rattle.std.specs.Result.{is_ok}
use Rattle.basis.specs.Choice.{is_some}
use Rattle.std.proofs.Math.Option.{Option, some}
use mathlib.Core.List.{List, [], ◌∷◌, ◌++◌, map}
use Rattle.std.proofs.Math.Seq.{drop-append_seam}
use Rattle.basis.specs.Logic.{both}
use Rattle.basis.specs.Numbers.{number_at}
use Rattle.basis.specs.NumberLaws.{bytes_of_lem}
use Rattle.basis.specs.Sizes.{host_at, process_width, most_body, process_at, branch_count_at, branches_at, count_width}
use Rattle.model.specs.Statement as model
use Rattle.model.specs.Statement.{Statement}
use Rattle.model.specs.Reading.{operation, branch}
use Rattle.model.specs.Legal.{legal_branch, legal_statement, legal_body}
use Rattle.model.specs.Writing.{statement_bytes}
use Rattle.model.proofs.ReadBack.{BodyOf, parse_parts}
use Rattle.layout.specs.Stored.{statement_of, legal_parse}
use Rattle.statements.specs.declared.Operation as flat
use Rattle.statements.specs.Flat.{operation_is, Reads, operation_at}
use Rattle.walk.specs.BodyParts.{BodyParts}
use Rattle.walk.specs.Standing.{StandAs, none_left, no_items}
use Rattle.walk.specs.Walk.{Operations, operations_at, after_operations, Branches, branches_from, NextBranch, ReadBranch, read_next, read_branch, branch_there, body_is, body_branches, body_count}
use Rattle.writer.specs.declared.WriteError.{WriteError}
use Rattle.writer.specs.Writer.{handed, begun, Written, added, written_is, is_writable, filled_with, begin_on, add_operation, add_branch}
use Rattle.writer.specs.WriterLaws.{number_some}
use Rattle.writer.specs.Tests.{parts_handed}
use Rattle.rewriter.specs.Additions as addition
use Rattle.rewriter.specs.Additions.{Addition, additions, hand_in, grow, grow_all}
use Rattle.rewriter.specs.Fronts.{front, some_grow, grown_all}
use Rattle.rewriter.specs.RoundTrips.{holding, drop_front, begin_front, operation_front, branch_front}

-- what was read can be handed in as it is
read_handed : (r : flat.Operation × ℕ) (o : Option (model.Operation × ℕ)) → Reads (Some r) o → handed r.0 ≡ some (operation_is r.0)
read_handed r o s = parts_handed r.0 s.parts.code s.parts.count s.parts.formed

-- ---- what stands ahead

-- from a position of the body on: so many operations of a branch, and after them so many branches
pub record Ahead (body : List ℕ) (at count later : ℕ) : Type 0 where
  pub within : at ≤ length body
  pub operations : Operations body at count
  pub next : ℕ
  pub next_within : next ≤ length body
  pub after : after_operations body at count ≡ drop next body
  pub branches : Branches body next later

-- the additions that they are
abbrev pub to_come : (body : List ℕ) (at count next later : ℕ) → List (Addition model.Operation)
to_come body at count next later = map addition.operation (operations_at body at count) ++ additions (branches_from body next later)

-- a guard was read: the operations of its branch stand ahead, and the other branches
module _ (body : List ℕ) (at m end : ℕ) (h : NextBranch body at m end) where
  abbrev branch_ahead : Ahead body (end + count_width) (get_or body end 0) m
  branch_ahead = record { within = omega (arith, h.long); operations = h.body; next = h.stop; next_within = h.within; after = h.after; branches = h.later }

  to_come_lem : to_come body (end + count_width) (get_or body end 0) h.stop m ≡ map addition.operation h.first.body ++ additions (branches_from body h.stop m)
  to_come_lem = ap (λ (os : List model.Operation). map addition.operation os ++ additions (branches_from body h.stop m)) h.is_body

-- no operation is ahead: the branches stand here
next_here : (body : List ℕ) (at later : ℕ) (a : Ahead body at 0 later) → a.next ≡ at
next_here body at later a = omega (arith, a.within, a.next_within, ap length (sym (none_left operation body at) ∙ a.after), length-drop at body, length-drop a.next body)

branches_alone : (body : List ℕ) (at next later : ℕ) → next ≡ at → to_come body at 0 next later ≡ additions (branches_from body at later)
branches_alone body at next later e = ap (λ (os : List model.Operation). map addition.operation os ++ additions (branches_from body next later)) (no_items operation body at) ∙ ap (λ (n : ℕ). additions (branches_from body n later)) e

-- ---- what was handed in

-- a call was done, and its fill is so
pub record Fills (a : Result ℕ WriteError) (P : ℕ → Type 0) : Type 0 where
  pub fill : ℕ
  pub is : a ≡ Ok fill
  pub so : P fill

pub fills_at : {a : Result ℕ WriteError} {P : ℕ → Type 0} → Fills a P → (n : ℕ) → a ≡ Ok n → P n
fills_at {P = P} d n e = let same : d.fill ≡ n = cc in subst P same d.so

pub fills_ok : {a : Result ℕ WriteError} {P : ℕ → Type 0} → Fills a P → is_ok a ≡ true
fills_ok d = rw d.is

-- The filled bytes of `out` are those of a front part of the body's statement, bytes past them are those of the buffer that the writer was begun on, and the additions to come make it the whole.
pub record Filled (body buffer : List ℕ) (fill : ℕ) (out : List ℕ) (ys : List (Addition model.Operation)) : Type 0 where
  pub whole : Statement
  pub is : BodyOf body whole
  pub room : length body ≤ length buffer
  pub part : Statement
  pub one : 1 ≤ length part.branches
  pub filled : fill ≡ length (statement_bytes part)
  pub bytes : out ≡ statement_bytes part ++ drop (length (statement_bytes part)) buffer
  pub grows : grow_all part ys ≡ whole

-- what a call left, where it left the bytes of a statement
left_by : (buffer : List ℕ) (st : Statement) (a : Result ℕ WriteError) (next : List ℕ) → written_is (added a) next ≡ holding buffer st
    → (a ≡ Ok (length (statement_bytes st))) × (next ≡ statement_bytes st ++ drop (length (statement_bytes st)) buffer)
unfolding written_is filled_with
left_by buffer st (Ok n) next e = (ap Ok (ap (λ (w : Written). w.fill) e), ap (λ (w : Written). w.bytes) e)
left_by buffer st (Err x) next e = absurd (number_some x.reason (ap (λ (w : Written). w.answer) e))

-- a call on the filled bytes is one on the statement's
called_on : (buffer : List ℕ) (st : Statement) (fill : ℕ) (out : List ℕ) (call : List ℕ → ℕ → Written) → fill ≡ length (statement_bytes st) → out ≡ statement_bytes st ++ drop (length (statement_bytes st)) buffer
    → call out fill ≡ call (holding buffer st).bytes (holding buffer st).fill
unfolding filled_with
called_on buffer st fill out call e f = λ i. call (f i) (e i)

body_writable : (b : List ℕ) (st : Statement) → BodyOf b st → T (is_writable st)
unfolding is_writable
body_writable b st k = both (legal_statement st) (leb (length (statement_bytes st)) most_body) k.legal (rw k.bytes (le→leb (length b) most_body k.size))

-- a part of the body's statement can be written, and is no longer than the body
part_of : (body : List ℕ) (part whole : Statement) (ys : List (Addition model.Operation)) → BodyOf body whole → 1 ≤ length part.branches → grow_all part ys ≡ whole
    → T (is_writable part) × (length (statement_bytes part) ≤ length body)
part_of body part whole ys k one e =
    let f = front part ys one (rw e (body_writable body whole k)) in
    let n : length (statement_bytes (grow_all part ys)) ≡ length body = ap (λ (x : Statement). length (statement_bytes x)) e ∙ ap length k.bytes in
    (f.writable, omega (arith, f.least))

after_one : (st whole : Statement) (y : Addition model.Operation) (ys : List (Addition model.Operation)) → grow_all st (y ∷ ys) ≡ whole → grow_all (grow st y) ys ≡ whole
unfolding grow_all
after_one st whole y ys e = e

-- one addition more was handed in
more : (body buffer : List ℕ) (fill : ℕ) (out : List ℕ) (y : Addition model.Operation) (ys : List (Addition model.Operation)) (u : Filled body buffer fill out (y ∷ ys)) (a : Result ℕ WriteError) (next : List ℕ)
    → (T (is_writable u.part) → T (is_writable (grow u.part y)) → length (statement_bytes (grow u.part y)) ≤ length buffer → written_is (added a) next ≡ holding buffer (grow u.part y))
    → Fills a (λ n. Filled body buffer n next ys)
more body buffer fill out y ys u a next w =
    let on : grow_all (grow u.part y) ys ≡ u.whole = after_one u.part u.whole y ys u.grows in
    let one : 1 ≤ length (grow u.part y).branches = some_grow u.part y u.one in
    let p = part_of body u.part u.whole (y ∷ ys) u.is u.one u.grows in
    let q = part_of body (grow u.part y) u.whole ys u.is one on in
    let l = left_by buffer (grow u.part y) a next (w p.0 q.0 (omega (arith, u.room, q.1))) in
    record { fill = length (statement_bytes (grow u.part y)); is = l.0; so = record { whole = u.whole; is = u.is; room = u.room; part = grow u.part y; one = one; filled = refl; bytes = l.1; grows = on } }

-- ---- underway

pub record Underway (body buffer : List ℕ) (at count later fill : ℕ) (out : List ℕ) : Type 0 where
  pub ahead : Ahead body at count later
  pub so_far : Filled body buffer fill out (to_come body at count ahead.next later)

-- one operation more
pub operation_turn : (body buffer : List ℕ) (at m later fill : ℕ) (out : List ℕ) (u : Underway body buffer at (suc m) later fill out) (r : flat.Operation × ℕ) → Reads (Some r) (operation_at body at)
    → (a : Result ℕ WriteError) (next : List ℕ) → written_is (added a) next ≡ add_operation out fill r.0 → Fills a (λ n. Underway body buffer r.1 m later n next)
unfolding hand_in
operation_turn body buffer at m later fill out u r s a next w =
    let h = u.ahead in
    let n = read_next body at m h.operations r s in
    let o : model.Operation = operation_is r.0 in
    let ys : List (Addition model.Operation) = to_come body r.1 m h.next later in
    let split : to_come body at (suc m) h.next later ≡ addition.operation o ∷ ys = ap (λ (os : List model.Operation). map addition.operation os ++ additions (branches_from body h.next later)) n.items in
    let f : Filled body buffer fill out (addition.operation o ∷ ys) = subst (λ (l : List (Addition model.Operation)). Filled body buffer fill out l) split u.so_far in
    let called : add_operation out fill r.0 ≡ hand_in (holding buffer f.part) (addition.operation r.0) = called_on buffer f.part fill out (λ l n. add_operation l n r.0) f.filled f.bytes in
    let filled = more body buffer fill out (addition.operation o) ys f a next (λ x y z. w ∙ called ∙ operation_front buffer f.part f.one r.0 o (read_handed r (operation_at body at) s) x y z) in
    record {
      fill = filled.fill;
      is = filled.is;
      so = record {
        ahead = record { within = n.within; operations = n.later; next = h.next; next_within = h.next_within; after = sym n.left ∙ h.after; branches = h.branches };
        so_far = filled.so;
      };
    }

-- the guard of the next branch is there
pub guard_there : (body buffer : List ℕ) (at m fill : ℕ) (out : List ℕ) → Underway body buffer at 0 (suc m) fill out → T (is_some (operation_at body at))
guard_there body buffer at m fill out u = branch_there body at m (subst (λ (n : ℕ). Branches body n (suc m)) (next_here body at (suc m) u.ahead) u.ahead.branches)

-- the next branch, of which the guard is read
module _ (body buffer : List ℕ) (at m fill : ℕ) (out : List ℕ) (u : Underway body buffer at 0 (suc m) fill out) (r : flat.Operation × ℕ) (s : Reads (Some r) (operation_at body at)) where
  next_branch : ReadBranch body at m r
  next_branch = read_branch body at m (subst (λ (n : ℕ). Branches body n (suc m)) (next_here body at (suc m) u.ahead) u.ahead.branches) r s

  -- its operation count stands after its guard
  pub guard_within : r.1 < length body
  guard_within = next_branch.0.long

  -- one branch more: its operations are ahead
  pub branch_turn : (a : Result ℕ WriteError) (next : List ℕ) → written_is (added a) next ≡ add_branch out fill r.0
      → Fills a (λ n. Underway body buffer (r.1 + count_width) (get_or body r.1 0) m n next)
  unfolding additions hand_in
  branch_turn a next w =
      let h : NextBranch body at m r.1 = next_branch.0 in
      let g : model.Operation = h.first.guard in
      let ys : List (Addition model.Operation) = to_come body (r.1 + count_width) (get_or body r.1 0) h.stop m in
      let split : to_come body at 0 u.ahead.next (suc m) ≡ addition.branch g ∷ ys = branches_alone body at u.ahead.next (suc m) (next_here body at (suc m) u.ahead) ∙ ap additions h.items ∙ ap (λ (l : List (Addition model.Operation)). addition.branch g ∷ l) (sym (to_come_lem body at m r.1 h)) in
      let f : Filled body buffer fill out (addition.branch g ∷ ys) = subst (λ (l : List (Addition model.Operation)). Filled body buffer fill out l) split u.so_far in
      let called : add_branch out fill r.0 ≡ hand_in (holding buffer f.part) (addition.branch r.0) = called_on buffer f.part fill out (λ l n. add_branch l n r.0) f.filled f.bytes in
      let filled = more body buffer fill out (addition.branch g) ys f a next (λ x y z. w ∙ called ∙ branch_front buffer f.part f.one r.0 g (read_handed r (operation_at body at) s ∙ ap some next_branch.1) x y z) in
      record { fill = filled.fill; is = filled.is; so = record { ahead = branch_ahead body at m r.1 h; so_far = filled.so } }

-- nothing is ahead: all was handed in
pub all_in : (body buffer : List ℕ) (at fill : ℕ) (out : List ℕ) → Underway body buffer at 0 0 fill out → (fill ≡ length body) × (out ≡ body ++ drop (length body) buffer)
unfolding additions grow_all
all_in body buffer at fill out u =
    let f = u.so_far in
    let none : to_come body at 0 u.ahead.next 0 ≡ [] = branches_alone body at u.ahead.next 0 (next_here body at 0 u.ahead) ∙ ap additions (no_items branch body at) in
    let done : f.part ≡ f.whole = sym (ap (grow_all f.part) none) ∙ f.grows in
    let e : statement_bytes f.part ≡ body = ap statement_bytes done ∙ f.is.bytes in
    (f.filled ∙ ap length e, f.bytes ∙ ap (λ (b : List ℕ). b ++ drop (length b) buffer) e)

-- bytes past the body are unchanged
pub past_body : (body buffer : List ℕ) (at count later fill : ℕ) (out : List ℕ) → Underway body buffer at count later fill out → drop (length body) out ≡ drop (length body) buffer
past_body body buffer at count later fill out u =
    let f = u.so_far in
    let p = part_of body f.part f.whole (to_come body at count u.ahead.next later) f.is f.one f.grows in
    ap (drop (length body)) f.bytes ∙ drop_front (statement_bytes f.part) buffer (length body) p.1

-- the same, as if begun on the bytes that are there now
pub on_its_own : (body buffer : List ℕ) (at count later fill : ℕ) (out : List ℕ) → Underway body buffer at count later fill out → length out ≡ length buffer → Underway body out at count later fill out
on_its_own body buffer at count later fill out u same =
    let f = u.so_far in
    let b : List ℕ = statement_bytes f.part in
    let d : drop (length b) out ≡ drop (length b) buffer = ap (drop (length b)) f.bytes ∙ drop-append_seam b (drop (length b) buffer) in
    record {
      ahead = u.ahead;
      so_far = record { whole = f.whole; is = f.is; room = omega (arith, f.room); part = f.part; one = f.one; filled = f.filled; bytes = f.bytes ∙ ap (λ (l : List ℕ). b ++ l) (sym d); grows = f.grows };
    }

-- ---- the beginning

one_begun : (h p : ℕ) (g : model.Operation) → 1 ≤ length (begun h p g).branches
unfolding begun
one_begun h p g = omega arith

-- a legal body, whose first guard stands after host, process and branch count
module _ (body : List ℕ) (is-legal : T (legal_body body)) where
  abbrev whole : Statement
  whole = statement_of body

  abbrev others : ℕ
  others = get_or body branch_count_at 0 - 1

  count_is : get_or body branch_count_at 0 ≡ suc others
  count_is = omega (arith, body_count body is-legal)

  abbrev parts : BodyParts body whole
  parts = body_is body is-legal

  abbrev stand : StandAs branch legal_branch body branches_at (get_or body branch_count_at 0) whole.branches []
  stand = body_branches body whole parts

  ahead : Branches body branches_at (suc others)
  ahead = subst (λ (n : ℕ). Branches body branches_at n) count_is stand.stands

  pub first_there : T (is_some (operation_at body branches_at))
  first_there = branch_there body branches_at others ahead

  -- it is read
  module _ (r : flat.Operation × ℕ) (s : Reads (Some r) (operation_at body branches_at)) where
    first_branch : ReadBranch body branches_at others r
    first_branch = read_branch body branches_at others ahead r s

    pub first_within : r.1 < length body
    first_within = first_branch.0.long

    -- begun: the operations of the first branch are ahead
    pub begin_turn : (buffer : List ℕ) → ((k : ℕ) → get_or body k 0 < 256) → length body ≤ length buffer → (host process : ℕ) → host ≡ get_or body host_at 0 → process ≡ number_at process_at process_width body → (a : Result ℕ WriteError) (next : List ℕ)
        → written_is (added a) next ≡ begin_on buffer host process r.0 → Fills a (λ n. Underway body buffer (r.1 + count_width) (get_or body r.1 0) others n next)
    begin_turn buffer byte room host process eh ep a next w =
        let h : NextBranch body branches_at others r.1 = first_branch.0 in
        let g : model.Operation = h.first.guard in
        let is : BodyOf body whole = parse_parts body whole (bytes_of_lem body byte) (legal_parse body is-legal) in
        let part : Statement = begun whole.host whole.process g in
        let one : 1 ≤ length part.branches = one_begun whole.host whole.process g in
        let split : whole.branches ≡ h.first ∷ branches_from body h.stop others = sym stand.items ∙ ap (branches_from body branches_at) count_is ∙ h.items in
        let ys : List (Addition model.Operation) = to_come body (r.1 + count_width) (get_or body r.1 0) h.stop others in
        let grows : grow_all part ys ≡ whole = ap (grow_all part) (to_come_lem body branches_at others r.1 h) ∙ grown_all whole h.first (branches_from body h.stop others) split in
        let q = part_of body part whole ys is one grows in
        let called : begin_on buffer host process r.0 ≡ begin_on buffer whole.host whole.process r.0 = λ i. begin_on buffer ((eh ∙ parts.host) i) ((ep ∙ parts.process) i) r.0 in
        let l = left_by buffer part a next (w ∙ called ∙ begin_front buffer whole.host whole.process r.0 g (read_handed r (operation_at body branches_at) s ∙ ap some first_branch.1) q.0 (omega (arith, q.1))) in
        record {
          fill = length (statement_bytes part);
          is = l.0;
          so = record { ahead = branch_ahead body branches_at others r.1 h; so_far = record { whole = whole; is = is; room = room; part = part; one = one; filled = refl; bytes = l.1; grows = grows } };
        }
