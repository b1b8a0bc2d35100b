-- What a row of the table of cases shows: a stream of record bytes, run from the fresh state. Assumes nothing.
use Rattle.std.specs.Prelude.{ℕ, suc, ◌-◌, Bool, length, take, drop}
use mathlib.Core.List.{List, [], ◌∷◌, ◌++◌, map, flat_map}
use Rattle.basis.specs.Choice.{maybe}
use Rattle.basis.specs.Lists.{zeros, keep, count_from}
use Rattle.basis.specs.Sizes.{hosts, most_monitors, reply_size}
use Rattle.model.specs.Matching.{Tuple}
use Rattle.model.specs.Run.{Space, Waiting, Run, fresh, is_owed, Turn}
use Rattle.layout.specs.Replies.{replies_bytes}
use Rattle.calls.specs.Calls.{Bytes, refusal_at, step_bytes}

-- the answer to a record: its reply bytes, own and woken; or the number, 3 to 5, that it is turned back with
pub data Answered : Type 0 where
  replies : Bytes → Answered
  turned_back : ℕ → Answered

-- `tuples`: the oldest eight; `newest`: of the others the newest eight; `waiting`: the positions; `owed`: the pairs, each a monitor number and a host
pub record Shown : Type 0 where
  pub answers : List Answered
  pub tuple_count : ℕ
  pub tuples : List Tuple
  pub newest : List Tuple
  pub waiting : List ℕ
  pub spaces : List Space
  pub owed : List (ℕ × ℕ)

-- the last eight, or all where there are fewer
unfoldable pub newest_of : List Tuple → List Tuple
newest_of ts = drop (length ts - 8) ts

-- all pairs owed, lowest monitor first, then lowest host
unfoldable pub owed_pairs : Run → List (ℕ × ℕ)
owed_pairs s = flat_map (λ m. map (λ h. (m, h)) (keep (is_owed s m) (count_from hosts 0))) (count_from most_monitors 1)

unfoldable pub left : Run → List Answered → Shown
left s as' = record { answers = as'; tuple_count = length s.tuples; tuples = take 8 s.tuples; newest = newest_of (drop 8 s.tuples); waiting = map (λ w. w.position) s.waiting; spaces = s.spaces; owed = owed_pairs s }

-- the records one after the other, with a reply buffer of the least size
unfoldable pub shown_from : Run → List Answered → List Bytes → Shown
shown_from s as' [] = left s as'
shown_from s as' (x ∷ xs) =
    maybe (refusal_at s.last x (zeros reply_size))
    (let t = step_bytes s x in shown_from t.run (as' ++ (replies (replies_bytes t.replies) ∷ [])) xs)
    (λ n. shown_from s (as' ++ (turned_back n ∷ [])) xs)

unfoldable pub shown : List Bytes → Shown
shown xs = shown_from fresh [] xs

pub record Case : Type 0 where
  pub stream : List Bytes
  pub shows : Shown
