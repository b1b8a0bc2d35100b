-- `metres::rounded` meets its contract: `Steps` has what holds of each step. Assumes nothing.
use Prim.Native.Nat.{ℕ, ◌^◌}
use mathlib.Core.Path.{ap, ◌∙◌}
use native.Mathlib.Omega.{arith}
use lib.Ieee.Nearest.{closest}
use Rattle.metres.proofs.Steps.{some_zeros, step}
use Rattle.metres.proofs.rounded.Goals as goal

pub overflow_sub-up : goal.overflow_sub-up
overflow_sub-up c = some_zeros c.args.n c.requires.n_bound

pub overflow_add-bits : goal.overflow_add-bits
overflow_add-bits c =
    omega (arith, step c.args.n c.args.place c.saturating_sub.result c.max-drop.result c.requires.n_bound c.requires.place_bound c.requires.fact c.saturating_sub.ensures c.max-drop.ensures)

pub overflow_sub-bits : goal.overflow_sub-bits
overflow_sub-bits c =
    omega (arith, step c.args.n c.args.place c.saturating_sub.result c.max-drop.result c.requires.n_bound c.requires.place_bound c.requires.fact c.saturating_sub.ensures c.max-drop.ensures)

pub overflow_mul-bits : goal.overflow_mul-bits
overflow_mul-bits c =
    omega (arith, step c.args.n c.args.place c.saturating_sub.result c.max-drop.result c.requires.n_bound c.requires.place_bound c.requires.fact c.saturating_sub.ensures c.max-drop.ensures)

pub overflow_shl-n : goal.overflow_shl-n
overflow_shl-n c =
    omega (arith, step c.args.n c.args.place c.saturating_sub.result c.max-drop.result c.requires.n_bound c.requires.place_bound c.requires.fact c.saturating_sub.ensures c.max-drop.ensures)

pub nearest-requires : goal.nearest-requires
nearest-requires c =
    let s = step c.args.n c.args.place c.saturating_sub.result c.max-drop.result c.requires.n_bound c.requires.place_bound c.requires.fact c.saturating_sub.ensures c.max-drop.ensures in
    record { drop_nonzero = s.some; drop_bound = s.few; n_bound = rw s.exact s.most }

pub overflow_cast-bits : goal.overflow_cast-bits
overflow_cast-bits c =
    let s = step c.args.n c.args.place c.saturating_sub.result c.max-drop.result c.requires.n_bound c.requires.place_bound c.requires.fact c.saturating_sub.ensures c.max-drop.ensures in
    let r = c.nearest.ensures ∙ ap (λ (x : ℕ). closest x (2 ^ c.max-drop.result)) s.exact in
    omega (arith, s, r)

pub overflow_add-bits-2 : goal.overflow_add-bits-2
overflow_add-bits-2 c =
    let s = step c.args.n c.args.place c.saturating_sub.result c.max-drop.result c.requires.n_bound c.requires.place_bound c.requires.fact c.saturating_sub.ensures c.max-drop.ensures in
    let r = c.nearest.ensures ∙ ap (λ (x : ℕ). closest x (2 ^ c.max-drop.result)) s.exact in
    omega (arith, s, r)

pub returns : goal.returns
returns c =
    let s = step c.args.n c.args.place c.saturating_sub.result c.max-drop.result c.requires.n_bound c.requires.place_bound c.requires.fact c.saturating_sub.ensures c.max-drop.ensures in
    let r = c.nearest.ensures ∙ ap (λ (x : ℕ). closest x (2 ^ c.max-drop.result)) s.exact in
    omega (arith, s, r, c.capped.ensures)
