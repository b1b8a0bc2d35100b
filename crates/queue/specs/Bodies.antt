-- The body of a waiting statement, as it is lent out of the section. Assumes nothing.
use Rattle.std.specs.Prelude.{◌≡◌, ℕ, ◌+◌, ◌-◌, ◌≤◌, ◌<◌, List, length, take, drop, T}
use Rattle.std.proofs.Common.{arith}
use Rattle.std.proofs.Math.Option.{some}
use Rattle.basis.specs.Choice.{is_some}
use Rattle.basis.specs.Sizes.{most_body, waiting_size}
use Rattle.model.specs.Statement.{Statement}
use Rattle.model.specs.Legal.{parse, legal_body}
use Rattle.layout.specs.Stored.{statement_of, statement_of_lem}
use Rattle.sections.specs.Shapes.{holds_length}
use Rattle.sections.specs.Rows.{HasRows}
use Rattle.queue.specs.Queue.{waiting_shape, waiting_of, IsQueued}
use Rattle.queue.specs.PlaceLaws.{waiting_nth, body_place, body_size, body_of, stands}

legal_of : (b : List ℕ) (st : Statement) → parse b ≡ some st → T (legal_body b)
unfolding legal_body is_some
legal_of b st e = rw e tt

module _ (p : List ℕ) (n i : ℕ) (h : IsQueued p n) (below : i < n) where
  -- its row stands within the section
  pub row_within : HasRows waiting_size p (i + 1)
  row_within = omega (arith, holds_length waiting_shape p n (waiting_of p n) h, h.few)

  pub bytes_legal : T (legal_body (body_of p i))
  bytes_legal = legal_of (body_of p i) (waiting_nth p n i).statement (stands p n i h below).parsed

  pub bytes_statement : statement_of (body_of p i) ≡ (waiting_nth p n i).statement
  bytes_statement = statement_of_lem (body_of p i) (waiting_nth p n i).statement (stands p n i h below).parsed

  -- the part that is lent
  module _ (size from : ℕ) (e : size ≡ body_size p i) (f : from ≡ body_place i) where
    pub body_small : size ≤ most_body
    body_small = omega (arith, e, (stands p n i h below).size)

    -- stands within the section
    pub body_within : from + size ≤ length p
    body_within = omega (arith, body_small, row_within)

    pub body_lent : take (from + size - from) (drop from p) ≡ body_of p i
    body_lent =
        let k : from + size - from ≡ body_size p i = omega (arith, e) in
        rw (k, f)

    pub body_legal_lem : T (legal_body (take (from + size - from) (drop from p)))
    body_legal_lem = rw body_lent bytes_legal

    pub body_statement : statement_of (take (from + size - from) (drop from p)) ≡ (waiting_nth p n i).statement
    body_statement = rw body_lent bytes_statement
