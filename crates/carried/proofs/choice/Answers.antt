-- `carried::choice` meets its contract. Assumes nothing.
use Rattle.std.proofs.Common.{◌≡◌, sym, ap, ◌∙◌}
use Rattle.std.proofs.lemmas.Result.{err_from_is_err_and}
use Rattle.writer.specs.Writer.{Written, begin_on, add_operation, add_branch}
use Rattle.chains.specs.Chains.{operation_more, branch_more}
use Rattle.carried.specs.Held.{shown}
use Rattle.carried.specs.HeldLaws.{told_last, told_before}
use Rattle.std.specs.Prelude.{Err}
use borrow.Author.Rules.{rules}
use Rattle.carried.proofs.choice.Goals as goal

pub returns-in_err-operation : goal.returns-in_err-operation
returns-in_err-operation c =
    let a = c.args in
    let e = c.in_err-operation.ensures in
    let p = err_from_is_err_and c.from_residual.result c.from_residual.ensures.1 in
    let w = c.operation.new.self in
    let r : w.filled ≡ Err c.in_err-operation.field-0.0 = sym e.told in
    let o : Written = operation_more (begin_on a.buffer.now a.host a.process a.guard1) a.operation1 in
    let s : shown w ≡ o = e.held.left ∙ ap (λ (v : Written). operation_more v a.operation1) c.begin-w.ensures.left in
    let k : shown w ≡ operation_more (branch_more o a.guard2) a.operation2 =
    (told_before add_operation w c.in_err-operation.field-0.0 r (branch_more o a.guard2) a.operation2 (told_before add_branch w c.in_err-operation.field-0.0 r o a.guard2 s)) in
    rw (p.1, p.2) (told_last add_operation w c.in_err-operation.field-0.0 r _ _ (search rules) k)

pub returns-in_err-branch : goal.returns-in_err-branch
returns-in_err-branch c =
    let a = c.args in
    let e = c.in_err-branch.ensures in
    let p = err_from_is_err_and c.from_residual-in_err-branch.result c.from_residual-in_err-branch.ensures.1 in
    let w = c.branch-w.new.self in
    let r : w.filled ≡ Err c.in_err-branch.field-0.0 = sym e.told in
    let o : Written = branch_more (operation_more (begin_on a.buffer.now a.host a.process a.guard1) a.operation1) a.guard2 in
    let s : shown w ≡ o = e.held.left ∙ ap (λ (v : Written). branch_more v a.guard2) (c.operation.ensures.held.left ∙ ap (λ (v : Written). operation_more v a.operation1) c.begin-w.ensures.left) in
    let k : shown w ≡ operation_more o a.operation2 =
    (told_before add_operation w c.in_err-branch.field-0.0 r o a.operation2 s) in
    rw (p.1, p.2) (told_last add_operation w c.in_err-branch.field-0.0 r _ _ (search rules) k)
