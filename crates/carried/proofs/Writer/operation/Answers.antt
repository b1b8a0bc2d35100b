-- `carried::Writer::operation` meets its contract. Assumes nothing.
use borrow.Author.Rules.{rules}
use Rattle.writer.specs.Writer.{add_operation}
use Rattle.carried.specs.HeldLaws.{held_refused, held_onward}
use Rattle.carried.proofs.Writer.operation.Goals as goal

pub returns-in_err-self-clause-held : goal.returns-in_err-self-clause-held
returns-in_err-self-clause-held c = held_refused add_operation c.args.self.now c.args.operation c.in_err-self.field-0.0 c.in_err-self.was

pub returns-clause-held : goal.returns-clause-held
returns-clause-held c = held_onward add_operation c.args.self.now c.args.operation c.in_ok-self.field-0 _ _ _ c.in_ok-self.was c.kept-self.ensures (search rules)
