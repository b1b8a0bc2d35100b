-- The waiting statement at an index of a stored run, and a copy of its body. Assumes nothing.
use Rattle.std.specs.Prelude.{◌≡◌, refl, ℕ, ◌+◌, ◌≤◌, ◌<◌, length, take, drop, T}
use Rattle.std.proofs.Common.{sym, subst, ◌∙◌, arith, length-drop, length-take-le, take_at}
use Rattle.std.proofs.Math.Path.{ap}
use mathlib.Core.List.{List}
use Rattle.std.proofs.Math.ListN.{get_or}
use Rattle.basis.specs.ListLaws.{Each}
use Rattle.basis.specs.Sizes.{most_body, most_waiting, waiting_size}
use Rattle.model.specs.Legal.{legal_body}
use Rattle.model.specs.Run.{Waiting, is_open}
use Rattle.model.specs.Statement.{spaces_named}
use Rattle.layout.specs.States.{decode}
use Rattle.layout.specs.Stored.{Stored, IsStored, statement_of}
use Rattle.words.specs.Over.{over}
use Rattle.words.specs.OverLaws.{over_take, over_front}
use Rattle.sections.specs.Shapes.{get_d_member}
use Rattle.queue.specs.Queue.{IsQueued}
use Rattle.queue.specs.PlaceLaws.{no_waiting, waiting_nth, body_place, body_size, body_of, Stands, stands, row_position}
use Rattle.header.specs.Rows.{queue_lent}
use Rattle.lent.specs.Sections.{queue_read, is_queued}
use Rattle.queue.specs.Bodies.{row_within, bytes_legal, bytes_statement}
use Rattle.sections.specs.Rows.{HasRows}
use Rattle.leaving.specs.Leaving.{place, without, Gone}

-- ---- a body copied

pub copied : (p d l : List ℕ) (i n from : ℕ) → HasRows waiting_size p (i + 1) → n ≤ most_body → most_body ≤ length d → n ≡ body_size p i → from ≡ body_place i
    → l ≡ over d 0 (drop from p) n → take n l ≡ body_of p i
copied p d l i n from row small room e f o =
    let back : List ℕ = drop from p in
    let long : length (take n back) ≡ n = length-take-le n back (rw length-drop (omega arith)) in
    let front : take n l ≡ take n back = ap (take n) (o ∙ sym (over_take d 0 back n) ∙ over_front d (take n back) n long) ∙ take_at (take n back) (drop n d) n long in
    front ∙ (λ k. take (e k) (drop (f k) p))

-- ---- the waiting statement at an index

module _ (b : List ℕ) (i : ℕ) (h : IsStored b) (below : i < length (decode b).waiting) where
  abbrev count : ℕ
  count = length (decode b).waiting

  queued : IsQueued (queue_lent b) count
  queued = is_queued b count h refl

  pub row : HasRows waiting_size (queue_lent b) (i + 1)
  row = row_within (queue_lent b) count i queued below

  pub few : i < most_waiting
  few = omega (arith, h.fit.waiting.few)

  pub in_row : Stands (queue_lent b) i (waiting_nth (queue_lent b) count i)
  in_row = stands (queue_lent b) count i queued below

  -- it is the run's
  place_is : waiting_nth (queue_lent b) count i ≡ place (decode b) i
  unfolding place
  place_is = ap (λ (ws : List Waiting). get_or ws i no_waiting) (queue_read b count h refl)

  -- the spaces that it names are open
  pub place_opened : Each (λ (n : ℕ). T (is_open (decode b).spaces n)) (spaces_named (place (decode b) i).statement)
  unfolding place
  place_opened k m = ((h.fit.waiting.each (get_or (decode b).waiting i no_waiting) (get_d_member (decode b).waiting no_waiting i below)).named k m).0

  -- its row is read, its body copied, and it leaves
  pub gone : (state buffer : List ℕ) (p n : ℕ) → Stored state (without (decode b) i) → p ≡ row_position (queue_lent b) i → n ≤ most_body → take n buffer ≡ body_of (queue_lent b) i
      → Gone b i state buffer p n
  gone state buffer p n s ep small copy = record {
    stored = s;
    position = ep ∙ in_row.position ∙ ap (λ (w : Waiting). w.position) place_is;
    size = small;
    body = copy;
    legal = subst (λ (y : List ℕ). T (legal_body y)) (sym copy) (bytes_legal (queue_lent b) count i queued below);
    statement = ap statement_of copy ∙ bytes_statement (queue_lent b) count i queued below ∙ ap (λ (w : Waiting). w.statement) place_is;
  }
