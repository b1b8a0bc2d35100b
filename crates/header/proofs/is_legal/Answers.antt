-- `header::is_legal` meets its contract. Assumes nothing.
use Rattle.std.proofs.Common.{◌≡◌, ℕ, ◌-◌, Bool, List, ◌&&◌, ◌∙◌, take, sym, refl, arith}
use Rattle.basis.specs.Lists.{same_bytes}
use Rattle.basis.specs.Logic.{and_r, true_is}
use Rattle.basis.specs.Sizes.{mark_width, header_used, header_size}
use Rattle.model.specs.Valid.{counts_fit}
use Rattle.layout.specs.States.{state_mark, decode}
use Rattle.words.specs.Over.{zeros_at}
use Rattle.words.specs.ZeroLaws.{and_assoc}
use Rattle.header.specs.Whole.{debts_fit, header_legal}
use Rattle.header.specs.WholeLaws.{and_then, and_else}
use Rattle.header.proofs.is_legal.Goals as goal
use Rattle.header.proofs.is_legal.Goals.{Joined-has_mark, then-has_mark, else-has_mark}

-- the last test
abbrev rest : List ℕ → Bool
rest b = debts_fit (decode b) && zeros_at b header_used (header_size - header_used)

-- the first two
module _ (c : Joined-has_mark) where
  first : c.if-has_mark.value ≡ (same_bytes state_mark (take mark_width c.args.state.now) && counts_fit (decode c.args.state.now))
  first = elim c.if-has_mark.branch [
    | then-has_mark w ↦ and_then _ _ _ _ c.has_mark.ensures w.if-has_mark.true (w.value-is ∙ w.limits_ok.ensures)
    | else-has_mark w ↦ and_else _ _ _ _ c.has_mark.ensures w.if-has_mark.false w.value-is
  ]

pub rest_ok-requires : goal.rest_ok-requires
rest_ok-requires c = (omega (arith, c.requires), and_r _ _ (true_is _ (sym (first (goal.at.rest_ok-requires c).Joined-has_mark) ∙ c.if-limits_ok.true)))

pub returns-then-limits_ok : goal.returns-then-limits_ok
unfolding header_legal
returns-then-limits_ok c =
    let b = c.args.state.now in
    and_then _ _ _ _ (first (goal.at.returns-then-limits_ok c).Joined-has_mark) c.if-limits_ok.true c.rest_ok.ensures ∙ and_assoc (same_bytes state_mark (take mark_width b)) (counts_fit (decode b)) (rest b)

pub returns-else-limits_ok : goal.returns-else-limits_ok
unfolding header_legal
returns-else-limits_ok c =
    let b = c.args.state.now in
    and_else _ _ _ (rest b) (first (goal.at.returns-else-limits_ok c).Joined-has_mark) c.if-limits_ok.false refl ∙ and_assoc (same_bytes state_mark (take mark_width b)) (counts_fit (decode b)) (rest b)
