-- "The writer": an AG body that grows by one addition each time, and what a call answers and leaves in the lent buffer. Assumes nothing.
use Rattle.std.specs.Prelude.{ℕ, Bool, ◌&&◌, ◌||◌, cond, List, [], ◌∷◌, ◌++◌, length, take, drop, leb, ltb, eqb, Result, Ok, Err}
use Rattle.std.proofs.Math.Option.{Option, none, some}
use Rattle.basis.specs.Choice.{maybe, provided}
use Rattle.basis.specs.Lists.{all}
use Rattle.basis.specs.Sizes.{most_fields, most_body}
use Rattle.model.specs.Statement as model
use Rattle.model.specs.Statement.{Branch, Statement}
use Rattle.model.specs.Legal.{legal_statement, parse}
use Rattle.model.specs.Writing.{statement_bytes}
use Rattle.statements.specs.declared.Operation.{Operation}
use Rattle.statements.specs.Flat.{codes, has_form, operation_is}
use Rattle.writer.specs.declared.Reason.{Reason}
use Rattle.writer.specs.declared.Reason.TheVariants.{Malformed, Short}
use Rattle.writer.specs.declared.WriteError.{WriteError}

-- ---- an addition

-- "0 true (guard only, no more bytes)"
abbrev pub true_code : ℕ
true_code = 0

-- "1 to 5: space", "6 and 7: from, to"
abbrev pub two_spaces : ℕ
two_spaces = 6

-- parts are an operation: one of the eight codes and, but for true, which has no more parts, at most six fields of the seven forms
unfoldable pub is_handed : Operation → Bool
is_handed o = eqb o.code true_code || (ltb o.code codes && leb o.count most_fields && all has_form (take o.count o.fields))

-- "An addition is handed in as its code, spaces and fields with their parts": parts that its code or a form does not have are not looked at
unfoldable pub handed : Operation → Option model.Operation
handed o = provided (is_handed o) (operation_is o)

-- ---- statements that grow

-- "host, process and first guard"
unfoldable pub begun : (host process : ℕ) → model.Operation → Statement
begun h p g = record { host = h; process = p; branches = record { guard = g; body = [] } ∷ [] }

-- branches with an operation more, at the end of the last one's body
unfoldable pub in_last : List Branch → model.Operation → List Branch
in_last [] o = []
in_last (b ∷ []) o = record { guard = b.guard; body = b.body ++ (o ∷ []) } ∷ []
in_last (b ∷ c ∷ bs) o = b ∷ in_last (c ∷ bs) o

-- one operation more, in the last branch
unfoldable pub with_operation : Statement → model.Operation → Statement
with_operation st o = record { host = st.host; process = st.process; branches = in_last st.branches o }

-- one branch more: its guard, and no operation yet
unfoldable pub with_branch : Statement → model.Operation → Statement
with_branch st g = record { host = st.host; process = st.process; branches = st.branches ++ (record { guard = g; body = [] } ∷ []) }

-- ---- what a call answers, and leaves

-- the answer (0: done), the count of filled bytes, and the buffer's bytes
pub record Written : Type 0 where
  pub answer : ℕ
  pub fill : ℕ
  pub bytes : List ℕ

-- the number that a call answers (0: done), and the count of filled bytes
pub record Added : Type 0 where
  pub answer : ℕ
  pub fill : ℕ

-- "refused 6", "a short buffer 2"
abbrev pub number : Reason → ℕ
number Malformed = 6
number Short = 2

-- what a function gives back, as a number and a count
abbrev pub added : Result ℕ WriteError → Added
added (Ok n) = record { answer = 0; fill = n }
added (Err e) = record { answer = number e.reason; fill = e.fill }

-- what was answered, and the buffer's bytes at the exit
unfoldable pub written_is : Added → List ℕ → Written
written_is r bytes = record { answer = r.answer; fill = r.fill; bytes = bytes }

-- a statement whose bytes are "a legal body", by the rules of check 6
unfoldable pub is_writable : Statement → Bool
is_writable st = legal_statement st && leb (length (statement_bytes st)) most_body

-- "refused .., bytes unchanged"
unfoldable pub refused_by : ℕ → List ℕ → ℕ → Written
refused_by n buffer fill = record { answer = n; fill = fill; bytes = buffer }

-- "Otherwise the writer comes back with its new count of filled bytes ..; bytes past them are unchanged"
unfoldable pub filled_with : List ℕ → List ℕ → Written
filled_with buffer body = record { answer = 0; fill = length body; bytes = body ++ drop (length body) buffer }

-- "One that would not leave a legal body is refused 6, then a short buffer 2"
unfoldable pub written : (buffer : List ℕ) (fill : ℕ) → Option Statement → Written
written buffer fill none = refused_by 6 buffer fill
written buffer fill (some st) =
    cond (is_writable st) (cond (leb (length (statement_bytes st)) (length buffer)) (filled_with buffer (statement_bytes st)) (refused_by 2 buffer fill)) (refused_by 6 buffer fill)

-- the statement that the filled bytes are; none where they are more than the buffer has, or malformed
unfoldable pub held : (buffer : List ℕ) (fill : ℕ) → Option Statement
held buffer fill = cond (leb fill (length buffer)) (parse (take fill buffer)) none

-- ---- the three calls

-- "The writer is begun on a lent buffer": no byte is filled yet
unfoldable pub begin_on : (buffer : List ℕ) (host process : ℕ) → Operation → Written
begin_on buffer h p g = written buffer 0 (maybe (handed g) none (λ o. some (begun h p o)))

-- an addition to the statement that the filled bytes are
unfoldable pub add_to : (Statement → model.Operation → Statement) → (buffer : List ℕ) (fill : ℕ) → Operation → Written
add_to grown buffer fill o = written buffer fill (maybe (held buffer fill) none (λ st. maybe (handed o) none (λ x. some (grown st x))))

-- "one operation .. more each time"
unfoldable pub add_operation : (buffer : List ℕ) (fill : ℕ) → Operation → Written
add_operation buffer fill o = add_to with_operation buffer fill o

-- "or branch more each time"
unfoldable pub add_branch : (buffer : List ℕ) (fill : ℕ) → Operation → Written
add_branch buffer fill g = add_to with_branch buffer fill g
