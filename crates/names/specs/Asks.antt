-- Whether a space passes a test. Assumes nothing.
use Rattle.std.specs.Prelude.{◌≡◌, ℕ, Bool, not, ◌&&◌, List, eqb}
use Rattle.model.specs.Run.{Space, is_open, is_denied}
use Rattle.names.specs.declared.SpaceTest.{SpaceTest}
use Rattle.names.specs.declared.SpaceTest.TheVariants.{Closed, Shut, Same}

-- Closed: "a named space not open"; Shut: one that is not open to a process; Same: the space of a number
unfoldable pub asks : List Space → SpaceTest → ℕ → Bool
asks ss Closed n = not (is_open ss n)
asks ss (Shut p) n = not (is_open ss n && not (is_denied ss p n))
asks ss (Same k) n = eqb k n

-- ---- what the answers of the code come to

module _ (ss : List Space) (what : SpaceTest) (n : ℕ) where
  pub asks_closed : (t : Bool) → t ≡ is_open ss n → what ≡ Closed → not t ≡ asks ss what n
  unfolding asks
  asks_closed t e q = rw (e, q)

  pub asks_shut : (p : ℕ) (t : Bool) → t ≡ (is_open ss n && not (is_denied ss p n)) → what ≡ Shut p → not t ≡ asks ss what n
  unfolding asks
  asks_shut p t e q = rw (e, q)

  pub asks_same : (k : ℕ) → what ≡ Same k → eqb k n ≡ asks ss what n
  unfolding asks
  asks_same k q = rw q
