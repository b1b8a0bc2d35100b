-- `header::limits_ok` meets its contract. Assumes nothing.
use Rattle.std.proofs.Common.{◌≡◌, ℕ, ◌&&◌, ◌∙◌, length, ap, refl, leb, le-leb}
use Rattle.std.proofs.lemmas.Bool.{lt-leb}
use Rattle.basis.specs.Sizes.{most_monitors, space_numbers, most_spaces, most_tuples, most_waiting}
use Rattle.model.specs.Valid.{counts_fit}
use Rattle.layout.specs.States.{decode}
use Rattle.header.specs.WholeLaws.{and_then, and_else}
use Rattle.header.proofs.limits_ok.Goals as goal
use Rattle.header.proofs.limits_ok.Goals.{Joined-space_count-le-MOST_SPACES, then-monitors-le-MOST_MONITORS, else-monitors-le-MOST_MONITORS, then-next-le-SPACE_NUMBERS, else-next-le-SPACE_NUMBERS, then-space_count-le-MOST_SPACES, else-space_count-le-MOST_SPACES}

-- two tests, three and four
module _ (c : Joined-space_count-le-MOST_SPACES) where
  two : c.if-monitors-le-MOST_MONITORS.value ≡ (leb (decode c.args.state.now).monitors most_monitors && leb (decode c.args.state.now).next space_numbers)
  two =
      let first = ap (λ (k : ℕ). leb k most_monitors) c.monitors.ensures.0 in
      elim c.if-monitors-le-MOST_MONITORS.branch [
        | then-monitors-le-MOST_MONITORS w ↦ and_then _ _ _ _ first (le-leb _ _ w.if-monitors-le-MOST_MONITORS.true) (w.value-is ∙ ap (λ (k : ℕ). leb k space_numbers) w.next.ensures.0)
        | else-monitors-le-MOST_MONITORS w ↦ and_else _ _ _ _ first (lt-leb _ _ w.if-monitors-le-MOST_MONITORS.false) w.value-is
      ]

  three : c.if-next-le-SPACE_NUMBERS.value ≡ (leb (decode c.args.state.now).monitors most_monitors && leb (decode c.args.state.now).next space_numbers && leb (length (decode c.args.state.now).spaces) most_spaces)
  three = elim c.if-next-le-SPACE_NUMBERS.branch [
    | then-next-le-SPACE_NUMBERS w ↦ and_then _ _ _ _ two w.if-next-le-SPACE_NUMBERS.true (w.value-is ∙ ap (λ (k : ℕ). leb k most_spaces) w.space_count.ensures.0)
    | else-next-le-SPACE_NUMBERS w ↦ and_else _ _ _ _ two w.if-next-le-SPACE_NUMBERS.false w.value-is
  ]

  four : c.if-space_count-le-MOST_SPACES.value ≡ (leb (decode c.args.state.now).monitors most_monitors && leb (decode c.args.state.now).next space_numbers && leb (length (decode c.args.state.now).spaces) most_spaces && leb (length (decode c.args.state.now).tuples) most_tuples)
  four = elim c.if-space_count-le-MOST_SPACES.branch [
    | then-space_count-le-MOST_SPACES w ↦ and_then _ _ _ _ three w.if-space_count-le-MOST_SPACES.true (w.value-is ∙ ap (λ (k : ℕ). leb k most_tuples) w.tuple_count.ensures.0)
    | else-space_count-le-MOST_SPACES w ↦ and_else _ _ _ _ three w.if-space_count-le-MOST_SPACES.false w.value-is
  ]

pub returns-then-tuple_count-le-MOST_TUPLES : goal.returns-then-tuple_count-le-MOST_TUPLES
unfolding counts_fit
returns-then-tuple_count-le-MOST_TUPLES c =
    and_then _ _ _ _ (four (goal.at.returns-then-tuple_count-le-MOST_TUPLES c).Joined-space_count-le-MOST_SPACES) c.if-tuple_count-le-MOST_TUPLES.true (ap (λ (k : ℕ). leb k most_waiting) c.waiting_count.ensures.0)

pub returns-else-tuple_count-le-MOST_TUPLES : goal.returns-else-tuple_count-le-MOST_TUPLES
unfolding counts_fit
returns-else-tuple_count-le-MOST_TUPLES c =
    and_else _ _ _ (leb (length (decode c.args.state.now).waiting) most_waiting) (four (goal.at.returns-else-tuple_count-le-MOST_TUPLES c).Joined-space_count-le-MOST_SPACES) c.if-tuple_count-le-MOST_TUPLES.false refl
