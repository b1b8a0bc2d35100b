-- Text put into a buffer. Assumes nothing.
use Rattle.std.specs.Prelude.{◌≡◌, ℕ, ◌+◌, List, length}
use Rattle.words.specs.Over.{over}

-- the text over a buffer from index at on, and the index past it
pub record Put (text entry exit : List ℕ) (at past : ℕ) : Type 0 where
  pub index : past ≡ at + length text
  pub bytes : exit ≡ over entry at text (length text)
