-- A run within its limits, condition by condition: what a step keeps before rule 7 has run. With "no guard that holds" it is a sound run. Assumes nothing.
use Rattle.std.specs.Prelude.{◌≡◌, ℕ, ◌≤◌, ◌<◌, Bool, false, not, ◌&&◌, List, length, drop, get_or, T, leb, ltb, eqb}
use Rattle.std.proofs.Math.Option.{Option, none, some, none-ne-some}
use Rattle.std.proofs.Common.{le→leb, ltb→lt, lt→ltb}
use Rattle.basis.specs.Choice.{is_some}
use Rattle.basis.specs.Logic.{and_l, and_r, both}
use Rattle.basis.specs.Lists.{all, any, pairwise}
use Rattle.basis.specs.ListLaws.{Each, all_at, all_of}
use Rattle.basis.specs.Sizes.{hosts, positions, most_monitors, most_spaces, space_numbers, most_tuples, most_waiting}
use Rattle.model.specs.Statement.{spaces_named}
use Rattle.model.specs.Legal.{parse, legal_body}
use Rattle.model.specs.Writing.{statement_bytes}
use Rattle.model.specs.Execution.{can_wait}
use Rattle.model.specs.Run.{Space, Waiting, Run, host_up, is_open, is_denied, none_owed}
use Rattle.model.specs.Valid.{counts_fit, legal_tuple, is_shared, spaces_rise, waiting_rise, zero_shared, spaces_below_next, tuples_in_open, positions_fit, bodies_legal, waiting_hosts_up, processes_differ, open_to_process, named_spaces_open, waiting_can_wait, none_ready, owed_to_given, owes_only_full, valid_run}
use Rattle.model.proofs.ValidLaws.{valid_tuple, valid_spaces_rise, valid_waiting_rise, valid_zero, valid_below_next, valid_in_open, valid_position, valid_hosts_up, valid_processes, valid_named_open, valid_can_wait, valid_of, valid_monitors_count, valid_next, valid_spaces_count, valid_tuples_count, valid_waiting_count, valid_given}
use Rattle.model.proofs.Sound.{OwnerFits, Sound}
use Rattle.model.proofs.Debts.{Masks}
use Rattle.model.proofs.Keeps.{Kept}

some_is : {A : Type 0} (o : Option A) (a : A) → o ≡ some a → T (is_some o)
unfolding is_some
some_is none a e = none-ne-some a e
some_is (some b) a e = tt

-- ---- the conditions

-- a waiting statement, in a run with this last number, these hosts and these spaces
pub record Waits (last : ℕ) (up : List Bool) (ss : List Space) (w : Waiting) : Type 0 where
  pub early : 1 ≤ w.position
  pub late : w.position ≤ last
  pub written : parse (statement_bytes w.statement) ≡ some w.statement
  pub host : T (get_or up w.statement.host false)
  pub named : Each (λ (n : ℕ). T (is_open ss n) × T (not (is_denied ss w.statement.process n))) (spaces_named w.statement)
  pub waits : T (can_wait w.statement)

-- each place of the queue so, in order of position and of different processes
pub record Queue (last : ℕ) (up : List Bool) (ss : List Space) (ws : List Waiting) : Type 0 where
  pub few : length ws ≤ most_waiting
  pub each : Each (Waits last up ss) ws
  pub rise : T (pairwise (λ v w. ltb v.position w.position) ws)
  pub differ : T (pairwise (λ v w. not (eqb v.statement.process w.statement.process)) ws)

-- spaces, below the next number
pub record Spaces (next : ℕ) (ss : List Space) : Type 0 where
  pub limit : next ≤ space_numbers
  pub few : length ss ≤ most_spaces
  pub owners : Each (λ (a : Space). OwnerFits a.access) ss
  pub below : Each (λ (a : Space). a.number < next) ss
  pub rise : T (pairwise (λ a b. ltb a.number b.number) ss)
  pub zero : T (any (λ a. eqb a.number 0 && is_shared a.access) ss)

-- what is owed, where n monitor numbers were given
pub record Owing (n : ℕ) (os : List (List Bool)) : Type 0 where
  pub masks : Masks os
  pub given : T (none_owed (drop n os))

-- a run within its limits
pub record Fit (s : Run) : Type 0 where
  pub last : s.last < positions
  pub hosts : length s.up ≡ hosts
  pub monitors : s.monitors ≤ most_monitors
  pub spaces : Spaces s.next s.spaces
  pub tuples : Kept s.spaces s.tuples
  pub waiting : Queue s.last s.up s.spaces s.waiting
  pub owed : Owing s.monitors s.owed

-- ---- out of a sound run, and back

sound_waits : (s : Run) → Sound s → Each (Waits s.last s.up s.spaces) s.waiting
unfolding waiting_hosts_up host_up named_spaces_open open_to_process waiting_can_wait
sound_waits s f w i =
    let v = f.valid in
    let t = all_at (λ n. is_open s.spaces n && not (is_denied s.spaces w.statement.process n)) (spaces_named w.statement) (all_at (open_to_process s) s.waiting (valid_named_open s v) w i) in
    record {
      early = (valid_position s v w i).0;
      late = (valid_position s v w i).1;
      written = f.written w i;
      host = all_at (λ w. host_up s w.statement.host) s.waiting (valid_hosts_up s v) w i;
      named = λ n j. (and_l (is_open s.spaces n) (not (is_denied s.spaces w.statement.process n)) (t n j), and_r (is_open s.spaces n) (not (is_denied s.spaces w.statement.process n)) (t n j));
      waits = all_at (λ w. can_wait w.statement) s.waiting (valid_can_wait s v) w i;
    }

-- a sound run is within its limits
pub sound_fit : (s : Run) → Sound s → Fit s
unfolding spaces_below_next spaces_rise zero_shared tuples_in_open waiting_rise processes_differ owed_to_given
sound_fit s f =
    let v = f.valid in
    record {
      last = f.last;
      hosts = f.hosts;
      monitors = valid_monitors_count s v;
      spaces = record {
        limit = (valid_next s v).1;
        few = valid_spaces_count s v;
        owners = f.owners;
        below = λ a i. ltb→lt a.number s.next (all_at (λ a. ltb a.number s.next) s.spaces (valid_below_next s v) a i);
        rise = valid_spaces_rise s v;
        zero = valid_zero s v;
      };
      tuples = record {
        few = valid_tuples_count s v;
        each = λ t i. (valid_tuple s v t i, all_at (λ t. is_open s.spaces t.space) s.tuples (valid_in_open s v) t i);
      };
      waiting = record {
        few = valid_waiting_count s v;
        each = sound_waits s f;
        rise = valid_waiting_rise s v;
        differ = valid_processes s v;
      };
      owed = record { masks = f.owed; given = valid_given s v };
    }

fit_counts : (s : Run) → Fit s → T (counts_fit s)
unfolding counts_fit
fit_counts s f =
    search (
      both,
      le→leb s.monitors most_monitors f.monitors,
      le→leb s.next space_numbers f.spaces.limit,
      le→leb (length s.spaces) most_spaces f.spaces.few,
      le→leb (length s.tuples) most_tuples f.tuples.few,
      le→leb (length s.waiting) most_waiting f.waiting.few,
    ) depth 10

fit_valid : (s : Run) → Fit s → T (none_ready s) → T (owes_only_full s) → T (valid_run s)
unfolding spaces_below_next spaces_rise zero_shared tuples_in_open waiting_rise processes_differ positions_fit bodies_legal legal_body waiting_hosts_up host_up named_spaces_open open_to_process waiting_can_wait owed_to_given
fit_valid s f calm full =
    valid_of s
    (fit_counts s f)
    (all_of legal_tuple s.tuples (λ t i. (f.tuples.each t i).0))
    f.spaces.rise
    f.waiting.rise
    f.spaces.zero
    (all_of (λ a. ltb a.number s.next) s.spaces (λ a i. lt→ltb a.number s.next (f.spaces.below a i)))
    (all_of (λ t. is_open s.spaces t.space) s.tuples (λ t i. (f.tuples.each t i).1))
    (all_of (λ w. leb 1 w.position && leb w.position s.last) s.waiting (λ w i. let q = f.waiting.each w i in both (leb 1 w.position) (leb w.position s.last) (le→leb 1 w.position q.early) (le→leb w.position s.last q.late)))
    (all_of (λ w. legal_body (statement_bytes w.statement)) s.waiting (λ w i. some_is (parse (statement_bytes w.statement)) w.statement (f.waiting.each w i).written))
    (all_of (λ w. host_up s w.statement.host) s.waiting (λ w i. (f.waiting.each w i).host))
    f.waiting.differ
    (all_of (open_to_process s) s.waiting (λ w i. all_of (λ n. is_open s.spaces n && not (is_denied s.spaces w.statement.process n)) (spaces_named w.statement)
    (λ n j. let q = (f.waiting.each w i).named n j in both (is_open s.spaces n) (not (is_denied s.spaces w.statement.process n)) q.0 q.1)))
    (all_of (λ w. can_wait w.statement) s.waiting (λ w i. (f.waiting.each w i).waits))
    calm
    f.owed.given
    full

-- a run within its limits is sound where no waiting statement has a guard that holds and something is owed only beside 512 tuples
pub fit_sound : (s : Run) → Fit s → T (none_ready s) → T (owes_only_full s) → Sound s
fit_sound s f calm full = record { last = f.last; hosts = f.hosts; owners = f.spaces.owners; written = λ w i. (f.waiting.each w i).written; owed = f.owed.masks; valid = fit_valid s f calm full }
