-- Move and copy: the tuples that a template selects, and the others. Assumes nothing.
use Rattle.std.specs.Prelude as code
use Rattle.std.specs.Prelude.{None, Some, ◌≡◌, ℕ, ◌+◌, ◌-◌, ◌≤◌, ◌<◌, not, List, [], ◌∷◌, ◌++◌, map, length, take, drop}
use Rattle.basis.specs.Lists.{keep}
use Rattle.basis.specs.Sizes.{most_tuples, tuple_size}
use Rattle.model.specs.Matching.{Tuple, selected}
use Rattle.model.specs.Execution.{in_space}
use Rattle.sections.specs.Rows.{rows_from}
use Rattle.sections.specs.FirstRows.{FirstRows}
use Rattle.tuples.specs.Section.{tuple_shape, entry_bytes, entry_at, tuples_of, Holds}
use Rattle.matching.specs.declared.Template.{Template}
use Rattle.matching.specs.Meaning.{template_is}

-- the tuples that the template does not select
unfoldable pub others : Template → List Tuple → List Tuple
others t ts = keep (λ u. not (selected (template_is t) u)) ts

-- those that it selects, in another space
unfoldable pub relocated : Template → (to : ℕ) → List Tuple → List Tuple
relocated t to ts = map (in_space to) (keep (selected (template_is t)) ts)

-- what an answer of copy says of the section p of n tuples, which q is after it, and of the copies: they are appended, and the count is
-- the new one; or they "would pass 512", and nothing changed
abbrev pub Copies : code.Option ℕ → (p q : List ℕ) (n : ℕ) (new : List Tuple) → Type 0
Copies (Some m) p q n new = (m ≡ n + length new) × Holds q m (tuples_of p n ++ new)
Copies None p q n new = (most_tuples < n + length new) × (q ≡ p)

-- ---- a move under way

-- how many of the others are held at once
abbrev pub most_held : ℕ
most_held = 61

-- the section p is a by now, and its first i tuples are the others os and the moved ones rs: m others stand in place, behind them the k moved ones,
-- and the rest of the others is held in b. From index i on nothing has changed; nor before it, where none was moved
pub record Parted (p a b : List ℕ) (m k i : ℕ) (os rs : List Tuple) : Type 0 where
  pub room : m + k ≤ i
  pub few : m ≤ length os
  pub early : k ≡ 0 → m ≡ i
  pub front : FirstRows tuple_shape a (m + k) (take m os ++ rs)
  pub kept : FirstRows tuple_shape b (i - (m + k)) (drop m os)
  pub back : rows_from tuple_size a i ≡ rows_from tuple_size p i

-- from a and b to c and d the tuple at index i becomes one more of the others, of which r are in place then
abbrev pub Keeps : (a b c d : List ℕ) (m k i r : ℕ) → Type 0
Keeps a b c d m k i r = (p : List ℕ) (os rs : List Tuple) (u : Tuple) → Parted p a b m k i os rs → entry_at p i ≡ entry_bytes u → Parted p c d r k (i + 1) (os ++ (u ∷ [])) rs
