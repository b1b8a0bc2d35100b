-- `alone::lookup_ok` meets its contract. Assumes nothing.
use Rattle.std.proofs.Common.{sym, ◌∙◌, arith, true≢false}
use Rattle.alone.specs.Tests.{code_in, code_out, other_code, legal_head, legal_fields_lem}
use Rattle.alone.proofs.lookup_ok.Goals as goal
use Rattle.alone.proofs.lookup_ok.Goals.{then-contains, else-contains}

pub returns-then-head_ok : goal.returns-then-head_ok
returns-then-head_ok c = elim c.if-contains.branch [
  | then-contains w ↦ let s = code_in c.args.op.code _ c.contains.ensures.value w.if-contains.true in
      c.is_some.ensures ∙ legal_fields_lem c.args.op s.0 s.1 (omega arith) c.fields_ok.result (sym w.head_ok.ensures ∙ sym w.value-is ∙ c.if-head_ok.true) c.fields_ok.ensures
  | else-contains w ↦ absurd (true≢false (sym c.if-head_ok.true ∙ w.value-is ∙ w.if-contains.false))
]

pub returns-else-head_ok : goal.returns-else-head_ok
returns-else-head_ok c = elim c.if-contains.branch [
  | then-contains w ↦ let s = code_in c.args.op.code _ c.contains.ensures.value w.if-contains.true in
      rw c.if-head_ok.false (legal_head c.args.op s.0 s.1 (omega arith) (sym w.head_ok.ensures ∙ sym w.value-is ∙ c.if-head_ok.false))
  | else-contains w ↦ rw c.if-head_ok.false (other_code c.args.op (code_out c.args.op.code _ c.contains.ensures.value w.if-contains.false))
]
