-- "host, process and first guard, then one operation or branch more each time": the additions of a statement, and handing them in one after the other. Assumes nothing.
use Rattle.std.specs.Prelude.{◌≡◌, List, [], ◌∷◌, ◌++◌, map}
use Rattle.std.proofs.Math.Option.{some}
use Rattle.model.specs.Statement as model
use Rattle.model.specs.Statement.{Branch, Statement}
use Rattle.statements.specs.declared.Operation.{Operation}
use Rattle.writer.specs.Writer.{handed, with_operation, with_branch, Written, add_operation, add_branch}

-- ---- the additions of a statement

-- one operation more, or one branch more, by its guard
pub data Addition (A : Type 0) : Type 0 where
  operation : A → Addition A
  branch : A → Addition A

-- each branch: its guard, then its operations; the first is that with which a body is begun
unfoldable pub additions : List Branch → List (Addition model.Operation)
additions [] = []
additions (b ∷ bs) = branch b.guard ∷ (map operation b.body ++ additions bs)

-- parts that are handed in, and the additions that they are, one for one
pub data Parts : List (Addition Operation) → List (Addition model.Operation) → Type 0 where
  no_part : Parts [] []
  operation_part : {p : Operation} {o : model.Operation} {xs : List (Addition Operation)} {ys : List (Addition model.Operation)} → handed p ≡ some o → Parts xs ys → Parts (operation p ∷ xs) (operation o ∷ ys)
  branch_part : {p : Operation} {o : model.Operation} {xs : List (Addition Operation)} {ys : List (Addition model.Operation)} → handed p ≡ some o → Parts xs ys → Parts (branch p ∷ xs) (branch o ∷ ys)

-- ---- handing them in

unfoldable pub hand_in : Written → Addition Operation → Written
hand_in w (operation p) = add_operation w.bytes w.fill p
hand_in w (branch p) = add_branch w.bytes w.fill p

-- "carries it along from addition to addition"
unfoldable pub hand_all : Written → List (Addition Operation) → Written
hand_all w [] = w
hand_all w (x ∷ xs) = hand_all (hand_in w x) xs

-- every answer is 0
pub data Done : Written → List (Addition Operation) → Type 0 where
  last_done : {w : Written} → w.answer ≡ 0 → Done w []
  next_done : {w : Written} {x : Addition Operation} {xs : List (Addition Operation)} → w.answer ≡ 0 → Done (hand_in w x) xs → Done w (x ∷ xs)

-- ---- statements that grow

unfoldable pub grow : Statement → Addition model.Operation → Statement
grow st (operation o) = with_operation st o
grow st (branch g) = with_branch st g

unfoldable pub grow_all : Statement → List (Addition model.Operation) → Statement
grow_all st [] = st
grow_all st (y ∷ ys) = grow_all (grow st y) ys
