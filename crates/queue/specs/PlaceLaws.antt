-- What stands in the row of a waiting statement: its position, and its body with its length. Assumes nothing.
use Rattle.std.specs.Prelude.{◌≡◌, refl, ℕ, ◌+◌, ◌-◌, ◌*◌, ◌≤◌, ◌<◌, take, drop, get_or, length}
use Rattle.std.proofs.Common.{sym, ap, ◌∙◌, arith, take_at, drop-drop}
use Rattle.std.proofs.Math.Option.{some}
use mathlib.Core.List.{List, [], ◌++◌, Memᴰ}
use Rattle.basis.specs.Lists.{zeros, pad}
use Rattle.basis.specs.Numbers.{big_endian, number_at}
use Rattle.basis.specs.NumberLaws.{big_endian_length, number_big_endian}
use Rattle.basis.specs.PadLaws.{take_past, number_at_pad}
use Rattle.basis.specs.Sizes.{position_width, length_width, host_width, process_width, process_at, hosts, processes, most_body, waiting_length_at, waiting_body_at, waiting_size}
use Rattle.model.specs.Legal.{parse}
use Rattle.model.specs.Writing.{statement_bytes}
use Rattle.model.proofs.ReadBack.{parse_some}
use Rattle.model.specs.Run.{Waiting}
use Rattle.layout.specs.States.{waiting_bytes, no_statement}
use Rattle.sections.specs.RowLaws.{number_in_lem, take_drop_take}
use Rattle.sections.specs.Shapes.{entry, items_length, get_d_member, holds_row, holds_lawful}
use Rattle.queue.specs.Queue.{Written, waiting_shape, waiting_of, IsQueued, waits}
use Rattle.queue.specs.QueueLaws.{host_of, host_small, process_of, process_small}

-- stands where no statement waits
abbrev pub no_waiting : Waiting
no_waiting = waits 0 no_statement

-- the waiting statement at an index
abbrev pub waiting_nth : List ℕ → (n i : ℕ) → Waiting
waiting_nth p n i = get_or (waiting_of p n) i no_waiting

-- where its body begins
abbrev pub body_place : ℕ → ℕ
body_place i = i * waiting_size + waiting_body_at

-- its position, the length of its body, and the body, as bytes
abbrev pub row_position : List ℕ → ℕ → ℕ
row_position p i = number_at (i * waiting_size) position_width p

abbrev pub body_size : List ℕ → ℕ → ℕ
body_size p i = number_at (i * waiting_size + waiting_length_at) length_width p

abbrev pub body_of : List ℕ → ℕ → List ℕ
body_of p i = take (body_size p i) (drop (body_place i) p)

-- ---- a row

row_size : (w : Waiting) → length (statement_bytes w.statement) ≤ most_body → number_at waiting_length_at length_width (entry waiting_shape w) ≡ length (statement_bytes w.statement)
unfolding waiting_bytes
row_size w h =
    let body = statement_bytes w.statement in
    number_at_pad waiting_size waiting_length_at length_width (big_endian position_width w.position) (big_endian length_width (length body)) body (big_endian_length position_width w.position) (big_endian_length length_width (length body)) (omega arith)
    ∙ number_big_endian length_width (length body) (omega arith)

row_body : (w : Waiting) → length (statement_bytes w.statement) ≤ most_body → take (length (statement_bytes w.statement)) (drop waiting_body_at (entry waiting_shape w)) ≡ statement_bytes w.statement
unfolding pad waiting_bytes big_endian
row_body w h =
    let body = statement_bytes w.statement in
    rw (take_past most_body body (zeros waiting_size) h) (take_at body (take (most_body - length body) (zeros waiting_size)) (length body) refl)

row_position_lem : (w : Waiting) → Written w → number_at 0 position_width (entry waiting_shape w) ≡ w.position
unfolding waiting_bytes
row_position_lem w l =
    let body = statement_bytes w.statement in
    number_at_pad waiting_size 0 position_width [] (big_endian position_width w.position) (big_endian length_width (length body) ++ body) refl (big_endian_length position_width w.position) (omega arith)
    ∙ number_big_endian position_width w.position l.position

-- ---- the row of an index

-- what stands in it
pub record Stands (p : List ℕ) (i : ℕ) (w : Waiting) : Type 0 where
  pub position : row_position p i ≡ w.position
  pub size : body_size p i ≤ most_body
  pub body : body_of p i ≡ statement_bytes w.statement
  pub parsed : parse (body_of p i) ≡ some w.statement

module _ (p : List ℕ) (n i : ℕ) (h : IsQueued p n) (below : i < n) where
  pub stands : Stands p i (waiting_nth p n i)
  stands =
      let w : Waiting = waiting_nth p n i in
      let k = waiting_of p n in
      let at : ℕ = i * waiting_size in
      let lawful : Written w = holds_lawful waiting_shape p n k h no_waiting i below in
      let few : length (statement_bytes w.statement) ≤ most_body = (parse_some (statement_bytes w.statement) w.statement lawful.body).size in
      let row : take waiting_size (drop at p) ≡ entry waiting_shape w = holds_row waiting_shape p n k h no_waiting i below in
      let first : at + 0 ≡ at = omega arith in
      let size : body_size p i ≡ length (statement_bytes w.statement) = sym (number_in_lem at waiting_size waiting_length_at length_width p (omega arith)) ∙ (ap (number_at waiting_length_at length_width) row ∙ row_size w few) in
      let all : take (length (statement_bytes w.statement)) (drop (at + waiting_body_at) p) ≡ statement_bytes w.statement =
      ap (take (length (statement_bytes w.statement))) (sym (drop-drop waiting_body_at at p)) ∙ (sym (take_drop_take waiting_body_at (length (statement_bytes w.statement)) waiting_size (drop at p) (omega arith))
      ∙ (ap (λ (x : List ℕ). take (length (statement_bytes w.statement)) (drop waiting_body_at x)) row ∙ row_body w few)) in
      let body : body_of p i ≡ statement_bytes w.statement = ap (λ (m : ℕ). take m (drop (at + waiting_body_at) p)) size ∙ all in
      record {
        position = ap (λ (m : ℕ). number_at m position_width p) (sym first) ∙ (sym (number_in_lem at waiting_size 0 position_width p (omega arith)) ∙ (ap (number_at 0 position_width) row ∙ row_position_lem w lawful));
        size = omega (arith, size, few);
        body = body;
        parsed = ap parse body ∙ lawful.body;
      }

  pub waiting_member : Memᴰ (waiting_nth p n i) (waiting_of p n)
  waiting_member = get_d_member (waiting_of p n) no_waiting i (omega (arith, items_length waiting_shape p n))

  -- what is read of its host and process
  pub host_at_lem : (x : ℕ) → x ≡ number_at (i * waiting_size + waiting_body_at) host_width p → (x ≡ (waiting_nth p n i).statement.host) × (x < hosts)
  host_at_lem x e =
      let w : Waiting = waiting_nth p n i in
      let lawful : Written w = holds_lawful waiting_shape p n (waiting_of p n) h no_waiting i below in
      let is : x ≡ w.statement.host =
      e ∙ (sym (number_in_lem (i * waiting_size) waiting_size waiting_body_at host_width p (omega arith)) ∙ (ap (number_at waiting_body_at host_width) (holds_row waiting_shape p n (waiting_of p n) h no_waiting i below) ∙ host_of w lawful)) in
      (is, omega (arith, is, host_small w lawful))

  pub process_at_lem : (x : ℕ) → x ≡ number_at (i * waiting_size + (waiting_body_at + process_at)) process_width p → (x ≡ (waiting_nth p n i).statement.process) × (x < processes)
  process_at_lem x e =
      let w : Waiting = waiting_nth p n i in
      let lawful : Written w = holds_lawful waiting_shape p n (waiting_of p n) h no_waiting i below in
      let is : x ≡ w.statement.process =
      e ∙ (sym (number_in_lem (i * waiting_size) waiting_size (waiting_body_at + process_at) process_width p (omega arith))
      ∙ (ap (number_at (waiting_body_at + process_at) process_width) (holds_row waiting_shape p n (waiting_of p n) h no_waiting i below) ∙ process_of w lawful)) in
      (is, omega (arith, is, process_small w lawful))
