-- `spans::copy_at` meets its contract. Assumes nothing.
use Rattle.std.proofs.Common.{◌∙◌, sym, ◌≤◌, arith, length, take_all}
use Rattle.words.specs.OverLaws.{over_slice}
use Rattle.spans.proofs.copy_at.Goals as goal

pub returns : goal.returns
returns c =
    let a = c.args in
    let all : length a.s.now ≤ length a.s.now = omega arith in
    over_slice a.d.now a.at _ _ a.s.now (length a.s.now) (omega arith) all (c.copy_from_slice.ensures.after ∙ sym (take_all (length a.s.now) a.s.now all))
