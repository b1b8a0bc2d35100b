-- `bodies::body_ok` meets its contract. Assumes nothing.
use Rattle.std.proofs.Common.{sym, ap, ◌∙◌, ℕ, length, true≢false}
use Rattle.std.proofs.Math.Option.{Option}
use Rattle.basis.specs.Sizes.{branches_at, most_body}
use Rattle.bodies.specs.BodyLaws.{range_told, sized_parts, body_unsized, body_no_head, body_branches, ends_at}
use Rattle.bodies.proofs.body_ok.Goals as goal
use Rattle.bodies.proofs.body_ok.Goals.{then-contains, else-contains}

pub returns-then-head_legal : goal.returns-then-head_legal
returns-then-head_legal c = elim c.if-contains.branch [
  | then-contains w ↦
      let told = rw (c.new.ensures.start, c.new.ensures.end, c.new.ensures.exhausted) at c.contains.ensures.value ∙ range_told branches_at (length c.args.b.now) most_body in
      let s = sized_parts (length c.args.b.now) (sym w.if-contains.true ∙ told) in
      body_branches c.args.b.now s.0 s.1 (λ x. (c.type_inv.b x).fits) (sym w.head_legal.ensures ∙ sym w.value-is ∙ c.if-head_legal.true) _ c.size.result c.size.ensures.0
      (c.takes_up.ensures ∙ ap (λ (o : Option ℕ). ends_at o (length c.args.b.now)) c.branches_ok.ensures)
  | else-contains w ↦ absurd (true≢false (sym c.if-head_legal.true ∙ w.value-is ∙ w.if-contains.false))
]

pub returns-else-head_legal : goal.returns-else-head_legal
returns-else-head_legal c = elim c.if-contains.branch [
  | then-contains w ↦
      let told = rw (c.new.ensures.start, c.new.ensures.end, c.new.ensures.exhausted) at c.contains.ensures.value ∙ range_told branches_at (length c.args.b.now) most_body in
      let s = sized_parts (length c.args.b.now) (sym w.if-contains.true ∙ told) in
      rw c.if-head_legal.false (body_no_head c.args.b.now s.0 s.1 (λ x. (c.type_inv.b x).fits) (sym w.head_legal.ensures ∙ sym w.value-is ∙ c.if-head_legal.false))
  | else-contains w ↦
      let told = rw (c.new.ensures.start, c.new.ensures.end, c.new.ensures.exhausted) at c.contains.ensures.value ∙ range_told branches_at (length c.args.b.now) most_body in
      rw c.if-head_legal.false (body_unsized c.args.b.now (sym w.if-contains.false ∙ told))
]
