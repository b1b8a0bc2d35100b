-- `lines::put_lines` meets its contract. Assumes nothing.
use Rattle.std.specs.Prelude.{◌≡◌, refl, ◌-◌, ◌≤◌, length, drop}
use Rattle.std.proofs.Common.{arith}
use Rattle.text.specs.Written.{span_at, line_in}
use Rattle.lines.specs.LoopLaws.{size_span, put_rest, rest_more, passed_none, passed_more, passed_all}
use Rattle.lines.proofs.put_lines.Goals as goal
use Rattle.lines.proofs.put_lines.Goals.{In-Some}

pub loop-size-init : goal.loop-size-init
loop-size-init c = record {
  within = omega arith;
  room = omega arith;
  rest = refl;
  passed = λ rs g. passed_none rs c.args.replies.now c.args.n c.args.out.now g;
}

-- a turn: the reply that stands at index from
module _ (c : In-Some) where
  span : (c.in-Some.size ≡ span_at c.args.replies.now c.loop-size.from) × (c.in-Some.size ≤ c.args.n - c.loop-size.from)
  span = size_span c.args.replies.now c.loop-size.from (c.args.n - c.loop-size.from) c.in-Some.size c.in-Some.ensures

pub put_line-at-requires : goal.put_line-at-requires
put_line-at-requires c =
    let s = span (goal.at.put_line-at-requires c).In-Some in
    (omega arith, omega arith)

pub overflow_add-from : goal.overflow_add-from
overflow_add-from c = let s = span (goal.at.overflow_add-from c).In-Some in omega arith

pub loop-size-smaller : goal.loop-size-smaller
loop-size-smaller c = let s = span (goal.at.loop-size-smaller c).In-Some in omega arith

pub loop-size-preserved : goal.loop-size-preserved
loop-size-preserved c =
    let s = span (goal.at.loop-size-preserved c).In-Some in
    let p = c.put_line-at in
    let l = c.loop-size in
    let i = l.invariant in
    let room : p.result ≤ length l.out = omega arith in
    record {
      within = omega arith;
      room = omega arith;
      rest = rest_more c.args.out.now l.out p.new.out l.at p.result (omega arith) i.rest (put_rest (line_in (drop l.from c.args.replies.now)) l.out p.new.out l.at p.result room p.ensures.put);
      passed = λ rs g. passed_more rs c.args.replies.now c.args.n l.from c.in-Some.size l.at p.result l.out p.new.out c.requires.0 i.within c.in-Some.ensures room p.ensures.put (i.passed rs g);
    }

pub returns-clause-out_after : goal.returns-clause-out_after
returns-clause-out_after c =
    let l = c.loop-size in
    λ rs g. passed_all rs c.args.replies.now c.args.n l.from l.at l.out c.requires.0 l.invariant.within c.in_default.ensures (l.invariant.passed rs g)
