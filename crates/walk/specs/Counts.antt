-- Where the operation count of a statement's last branch stands in its bytes. Assumes nothing.
use Rattle.std.specs.Prelude.{◌≡◌, refl, List, [], ◌∷◌, ℕ, ◌+◌, length}
use Rattle.basis.specs.Sizes.{branches_at}
use Rattle.model.specs.Statement.{Branch, Statement}
use Rattle.model.specs.Writing.{operation_bytes, branch_bytes}

-- the bytes of branches before the operation count of the last one
unfoldable pub before_count : List Branch → ℕ
before_count [] = 0
before_count (b ∷ []) = length (operation_bytes b.guard)
before_count (b ∷ c ∷ bs) = length (branch_bytes b) + before_count (c ∷ bs)

pub before_more : (b c : Branch) (bs : List Branch) → before_count (b ∷ c ∷ bs) ≡ length (branch_bytes b) + before_count (c ∷ bs)
unfolding before_count
before_more b c bs = refl

-- the index of the operation count of the last branch
unfoldable pub count_at : Statement → ℕ
count_at st = branches_at + before_count st.branches
