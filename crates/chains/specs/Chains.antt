-- "carries it along from addition to addition": what the calls so far have left, and one addition more. Assumes nothing.
use Rattle.std.specs.Prelude.{cond, List, ℕ, eqb}
use Rattle.statements.specs.declared.Operation.{Operation}
use Rattle.writer.specs.Writer.{Written, add_operation, add_branch}

-- an addition to what the calls before it left, if each of them was done; after a refusal it changes nothing, and that answer stays
unfoldable pub onward : ((buffer : List ℕ) (fill : ℕ) → Operation → Written) → Written → Operation → Written
onward add o x = cond (eqb o.answer 0) (add o.bytes o.fill x) o

-- "one operation .. more each time"
abbrev pub operation_more : Written → Operation → Written
operation_more o x = onward add_operation o x

-- "or branch more each time"
abbrev pub branch_more : Written → Operation → Written
branch_more o g = onward add_branch o g
