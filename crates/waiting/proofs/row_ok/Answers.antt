-- `waiting::row_ok` meets its contract. Assumes nothing.
use mathlib.Core.Path.{◌∙◌}
use native.Mathlib.Omega.{arith}
use Rattle.waiting.specs.WaitLaws.{no_fit, fit_small, then_body}
use Rattle.waiting.proofs.row_ok.Goals as goal

pub returns-then-not-body_fits : goal.returns-then-not-body_fits
returns-then-not-body_fits c = no_fit _ _ _ _ c.body_fits.ensures c.if-not-body_fits.true

pub slice_bounds-body_ok-end : goal.slice_bounds-body_ok-end
slice_bounds-body_ok-end c =
    omega (arith, c.requires.0, c.requires.1, c.requires.2, c.body_at-at.ensures, fit_small _ _ _ _ c.requires.1 c.body_length-len.ensures.0 _ c.body_fits.ensures c.if-not-body_fits.false)

pub returns : goal.returns
returns c =
    c.body_ok.ensures
    ∙ then_body _ _ _ _ c.requires.1 c.body_length-len.ensures.0 _ c.body_fits.ensures c.if-not-body_fits.false _ c.body_at-at.ensures
    (fit_small _ _ _ _ c.requires.1 c.body_length-len.ensures.0 _ c.body_fits.ensures c.if-not-body_fits.false)
