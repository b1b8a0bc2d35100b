-- `lines::refused` meets its contract. Assumes nothing.
use Rattle.std.specs.Prelude.{◌+◌, ◌≤◌, ◌<◌, length, set}
use Rattle.std.proofs.Common.{sym, ◌∙◌, arith, length-set, length-take-le}
use Rattle.text.specs.Lines.{codes, newline, refused_line}
use Rattle.text.specs.Written.{refused_at}
use Rattle.digits.specs.Put.{Put}
use Rattle.digits.specs.PutLaws.{number_few}
use Rattle.lines.specs.WrittenLaws.{refused_put}
use Rattle.lines.specs.LoopLaws.{put_take, put_rest}
use Rattle.lines.proofs.refused.Goals as goal

pub bounds-out-end : goal.bounds-out-end
bounds-out-end c =
    let p = c.put_number-end in
    omega (arith, p.auto.out, c.copy_at.auto.d, number_few c.args.n c.copy_at.new.d p.new.out refused_at p.result (omega arith) p.ensures)

pub overflow_add-result : goal.overflow_add-result
overflow_add-result c =
    let p = c.put_number-end in
    omega (arith, number_few c.args.n c.copy_at.new.d p.new.out refused_at p.result (omega arith) p.ensures)

pub returns-clause-prefix_len : goal.returns-clause-prefix_len
returns-clause-prefix_len c =
    let p = c.put_number-end in
    let end = set p.new.out p.result newline in
    let room : p.result < length p.new.out = omega (arith, p.auto.out, c.copy_at.auto.d, number_few c.args.n c.copy_at.new.d p.new.out refused_at p.result (omega arith) p.ensures) in
    let most : p.result + 1 ≤ length end = simp length-set (omega arith) in
    (most, sym (length-take-le (p.result + 1) end most))

pub returns-clause-out_after : goal.returns-clause-out_after
unfolding codes
returns-clause-out_after c =
    let p = c.put_number-end in
    let end = set p.new.out p.result newline in
    let few = number_few c.args.n c.copy_at.new.d p.new.out refused_at p.result (omega arith) p.ensures in
    let text : Put (refused_line c.args.n) c.args.out.now end 0 (p.result + 1) =
    refused_put c.args.out.now c.copy_at.new.d p.new.out c.args.n p.result c.if-out-lt-REFUSED.false (p.auto.out ∙ c.copy_at.auto.d) (omega arith) c.copy_at.ensures p.ensures in
    λ h. put_take (refused_line c.args.n) c.args.out.now end 0 (p.result + 1) (omega (arith, few)) text

pub returns-clause-out_unchanged : goal.returns-clause-out_unchanged
unfolding codes
returns-clause-out_unchanged c =
    let p = c.put_number-end in
    let end = set p.new.out p.result newline in
    let few = number_few c.args.n c.copy_at.new.d p.new.out refused_at p.result (omega arith) p.ensures in
    let text : Put (refused_line c.args.n) c.args.out.now end 0 (p.result + 1) =
    refused_put c.args.out.now c.copy_at.new.d p.new.out c.args.n p.result c.if-out-lt-REFUSED.false (p.auto.out ∙ c.copy_at.auto.d) (omega arith) c.copy_at.ensures p.ensures in
    put_rest (refused_line c.args.n) c.args.out.now end 0 (p.result + 1) (omega (arith, few)) text
