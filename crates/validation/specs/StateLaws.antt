-- The tests of header and sections, all together, are `is_state`. Assumes nothing.
use Rattle.std.specs.Prelude.{◌≡◌, ℕ, ◌≤◌, Bool, true, false, ◌&&◌, length, leb, eqb}
use Rattle.std.proofs.Math.Path.{sym}
use Rattle.std.proofs.Common.{subst, ◌∙◌, arith, leb→le, eqb→eq, eq-eqb}
use mathlib.Core.List.{List, Memᴰ}
use Rattle.std.proofs.Math.ListN.{get_or}
use Rattle.std.proofs.Math.Dec.{T}
use Rattle.std.proofs.Math.Pow.{are_bytes}
use Rattle.basis.specs.Logic.{and_l, and_r, both, true_is, same_test}
use Rattle.basis.specs.Lists.{all, pairwise, same_bytes}
use Rattle.basis.specs.ListLaws.{all_at, all_of, all_both, same_refl, same→eq}
use Rattle.basis.specs.Sizes.{most_spaces, most_tuples, most_waiting, space_size, tuple_size, waiting_size, spaces_size, tuples_size, waiting_all_size, state_size}
use Rattle.model.specs.Matching.{Tuple}
use Rattle.model.specs.Execution.{can_wait}
use Rattle.model.specs.Run.{Space, Waiting, host_up}
use Rattle.model.specs.Valid.{counts_fit, legal_tuple, spaces_rise, waiting_rise, zero_shared, spaces_below_next, tuples_in_open, positions_fit, bodies_legal, waiting_hosts_up, processes_differ, open_to_process, named_spaces_open, waiting_can_wait, none_ready, valid_run}
use Rattle.model.proofs.ValidLaws.{valid_counts, valid_tuples, valid_spaces_rise, valid_waiting_rise, valid_zero, valid_below_next, valid_in_open, valid_positions, valid_bodies, valid_hosts_up, valid_processes, valid_named_open, valid_can_wait, valid_none_ready, valid_given, valid_only_full, valid_of}
use Rattle.layout.specs.States.{space_bytes, tuple_bytes, waiting_bytes, area, encode, decode}
use Rattle.layout.specs.IsState.{is_state}
use Rattle.layout.specs.StateLaws.{state_encode, state_valid}
use Rattle.scans.specs.Tests.{refused}
use Rattle.header.specs.Rows.{spaces_part, waiting_part, spaces_lent, tuples_lent, queue_lent}
use Rattle.header.specs.Whole.{header_legal}
use Rattle.header.specs.WholeLaws.{spaces_said, tuples_said, waiting_said, part_long, part_bytes, Says, says_same, same_says, debts_fit_lem, Header, legal_header, header_legal_lem}
use Rattle.tuples.specs.Section.{tuples_of}
use Rattle.spaces.specs.Spaces.{spaces_of, IsListed, Rising}
use Rattle.spaces.specs.Legal.{spaces_legal}
use Rattle.spaces.specs.LegalLaws.{legal_listed, legal_rising}
use Rattle.queue.specs.Queue.{waiting_of, IsQueued}
use Rattle.queue.specs.Legal.{other_process, queue_legal, in_order}
use Rattle.queue.specs.LegalLaws.{legal_queued}
use Rattle.waiting.specs.Waits.{open_to_it, may_wait, unready, keeps_waiting}
use Rattle.validation.specs.Validation.{tuples_legal, waits_legal, contents_legal}

-- ---- the counts

pub record Counts (b : List ℕ) : Type 0 where
  pub spaces : length (decode b).spaces ≤ most_spaces
  pub tuples : length (decode b).tuples ≤ most_tuples
  pub waiting : length (decode b).waiting ≤ most_waiting

pub counts_of : (b : List ℕ) → T (counts_fit (decode b)) → Counts b
unfolding counts_fit
counts_of b t = record {
  spaces = leb→le (length (decode b).spaces) most_spaces (search (and_l, and_r, t) depth 8);
  tuples = leb→le (length (decode b).tuples) most_tuples (search (and_l, and_r, t) depth 8);
  waiting = leb→le (length (decode b).waiting) most_waiting (search (and_l, and_r, t) depth 8);
}

-- ---- the sections say what the state says

module _ (b : List ℕ) (k : Counts b) where
  spaces_are : spaces_of (spaces_lent b) (length (decode b).spaces) ≡ (decode b).spaces
  spaces_are = spaces_said b k.spaces

  tuples_are : tuples_of (tuples_lent b) (length (decode b).tuples) ≡ (decode b).tuples
  tuples_are = tuples_said b k.tuples

  waiting_are : waiting_of (queue_lent b) (length (decode b).waiting) ≡ (decode b).waiting
  waiting_are = waiting_said b k.waiting

  -- the sections' tests on the run's lists
  contents_are : contents_legal b ≡ ((same_bytes (area spaces_size space_size space_bytes (decode b).spaces) (spaces_lent b) && (spaces_rise (decode b) && (zero_shared (decode b) && spaces_below_next (decode b))))
      && ((same_bytes (area tuples_size tuple_size tuple_bytes (decode b).tuples) (tuples_lent b) && (all legal_tuple (decode b).tuples && tuples_in_open (decode b)))
      && ((same_bytes (area waiting_all_size waiting_size waiting_bytes (decode b).waiting) (queue_lent b) && bodies_legal (decode b))
      && ((waiting_rise (decode b) && positions_fit (decode b)) && (processes_differ (decode b) && (all (may_wait (decode b).up (decode b).spaces) (decode b).waiting && none_ready (decode b)))))))
  unfolding contents_legal spaces_legal tuples_legal queue_legal waits_legal in_order spaces_rise zero_shared spaces_below_next tuples_in_open bodies_legal waiting_rise positions_fit processes_differ none_ready
  contents_are = rw (spaces_are, tuples_are, waiting_are)

module _ (b : List ℕ) (bytes : T (are_bytes b)) (long : length b ≡ state_size) where
  -- they make a state
  state_of : T (header_legal b) → T (contents_legal b) → T (is_state b)
  unfolding is_state waiting_hosts_up host_up named_spaces_open open_to_process waiting_can_wait may_wait
  state_of h t =
      let header : Header b = legal_header b (omega arith) h in
      let k : Counts b = counts_of b header.limits in
      let debts = (debts_fit_lem (decode b)).0 header.debts in
      let u = rw (contents_are b k) at t in
      let s = decode b in
      let says : Says b = record {
        mark = header.mark;
        unused = header.unused;
        spaces = same→eq (area spaces_size space_size space_bytes s.spaces) (spaces_lent b) (search (and_l, and_r, u) depth 10);
        tuples = same→eq (area tuples_size tuple_size tuple_bytes s.tuples) (tuples_lent b) (search (and_l, and_r, u) depth 10);
        waiting = same→eq (area waiting_all_size waiting_size waiting_bytes s.waiting) (queue_lent b) (search (and_l, and_r, u) depth 10);
      } in
      let each = all_at (may_wait s.up s.spaces) s.waiting (search (and_l, and_r, u) depth 10) in
      let up : T (waiting_hosts_up s) = all_of (λ w. get_or s.up w.statement.host false) s.waiting (λ w m. and_l (get_or s.up w.statement.host false) (open_to_it s.spaces w && can_wait w.statement) (each w m)) in
      let rest : (w : Waiting) → Memᴰ w s.waiting → T (open_to_it s.spaces w && can_wait w.statement) = λ w m. and_r (get_or s.up w.statement.host false) (open_to_it s.spaces w && can_wait w.statement) (each w m) in
      let named : T (named_spaces_open s) = all_of (open_to_it s.spaces) s.waiting (λ w m. and_l (open_to_it s.spaces w) (can_wait w.statement) (rest w m)) in
      let wait : T (waiting_can_wait s) = all_of (λ w. can_wait w.statement) s.waiting (λ w m. and_r (open_to_it s.spaces w) (can_wait w.statement) (rest w m)) in
      let valid : T (valid_run s) = valid_of s header.limits (search (and_l, and_r, u) depth 10) (search (and_l, and_r, u) depth 10) (search (and_l, and_r, u) depth 10) (search (and_l, and_r, u) depth 10) (search (and_l, and_r, u) depth 10)
      (search (and_l, and_r, u) depth 10) (search (and_l, and_r, u) depth 10) (search (and_l, and_r, u) depth 10) up (search (and_l, and_r, u) depth 10) named wait (search (and_l, and_r, u) depth 10) debts.0 debts.1 in
      let size : T (eqb (length b) state_size) = true_is (eqb (length b) state_size) (eq-eqb (length b) state_size long) in
      let same : T (same_bytes (encode s) b) = rw (says_same b long bytes says) (true_is (same_bytes b b) (same_refl b)) in
      search (both, size, same, valid) depth 4

  -- and a state passes them
  module _ (i : T (is_state b)) where
    pub state_header : T (header_legal b)
    state_header =
        let says : Says b = same_says b long (state_encode b i) in
        header_legal_lem b (omega arith) (record { mark = says.mark; unused = says.unused; limits = valid_counts (decode b) (state_valid b i); debts = (debts_fit_lem (decode b)).1 (valid_given (decode b) (state_valid b i), valid_only_full (decode b) (state_valid b i)) })

    pub state_contents : T (contents_legal b)
    unfolding waiting_hosts_up host_up named_spaces_open open_to_process waiting_can_wait may_wait
    state_contents =
        let s = decode b in
        let v : T (valid_run s) = state_valid b i in
        let says : Says b = same_says b long (state_encode b i) in
        let k : Counts b = counts_of b (valid_counts s v) in
        let spaces : T (same_bytes (area spaces_size space_size space_bytes s.spaces) (spaces_lent b)) = rw says.spaces (true_is (same_bytes (spaces_lent b) (spaces_lent b)) (same_refl (spaces_lent b))) in
        let tuples : T (same_bytes (area tuples_size tuple_size tuple_bytes s.tuples) (tuples_lent b)) = rw says.tuples (true_is (same_bytes (tuples_lent b) (tuples_lent b)) (same_refl (tuples_lent b))) in
        let waiting : T (same_bytes (area waiting_all_size waiting_size waiting_bytes s.waiting) (queue_lent b)) = rw says.waiting (true_is (same_bytes (queue_lent b) (queue_lent b)) (same_refl (queue_lent b))) in
        let up = all_at (λ w. get_or s.up w.statement.host false) s.waiting (valid_hosts_up s v) in
        let named = all_at (open_to_it s.spaces) s.waiting (valid_named_open s v) in
        let wait = all_at (λ w. can_wait w.statement) s.waiting (valid_can_wait s v) in
        let may : T (all (may_wait s.up s.spaces) s.waiting) = all_of (may_wait s.up s.spaces) s.waiting (λ w m.
        both (get_or s.up w.statement.host false) (open_to_it s.spaces w && can_wait w.statement) (up w m) (both (open_to_it s.spaces w) (can_wait w.statement) (named w m) (wait w m))) in
        rw (contents_are b k)
        (search (both, spaces, tuples, waiting, may, valid_spaces_rise s v, valid_zero s v, valid_below_next s v, valid_tuples s v, valid_in_open s v, valid_bodies s v, valid_waiting_rise s v, valid_positions s v, valid_processes s v, valid_none_ready s v) depth 12)

-- ---- what the tests of the check show

pub no_length : (b : List ℕ) → (length b ≡ state_size → ⊥) → false ≡ is_state b
unfolding is_state
no_length b h = refused (eqb (length b) state_size && same_bytes (encode (decode b)) b && valid_run (decode b)) (λ t. let e : T (eqb (length b) state_size) = search (and_l, and_r, t) depth 4 in h (eqb→eq (length b) state_size e))

module _ (b : List ℕ) (bytes : T (are_bytes b)) (long : length b ≡ state_size) where
  pub no_header : (r : Bool) → r ≡ header_legal b → r ≡ false → false ≡ is_state b
  no_header r e f = refused (is_state b) (λ i. rw (sym e ∙ f) at (state_header b bytes long i))

  pub then_contents : T (header_legal b) → contents_legal b ≡ is_state b
  then_contents h = same_test (contents_legal b) (is_state b) (state_of b bytes long h) (state_contents b bytes long)

-- ---- what the tests of the sections show

-- what ends within a state ends within its bytes
pub within : (b : List ℕ) (n : ℕ) → length b ≡ state_size → T (leb n state_size) → n ≤ length b
within b n e t = subst (λ (k : ℕ). n ≤ k) (sym e) (leb→le n state_size t)

module _ (last : ℕ) (up : List Bool) (ss : List Space) (ts : List Tuple) (ws : List Waiting) (o : Bool) (eo : o ≡ in_order last ws) where
  pub no_order : o ≡ false → false ≡ waits_legal last up ss ts ws
  unfolding waits_legal
  no_order z = rw (sym eo ∙ z)

  module _ (yo : o ≡ true) (d : Bool) (ed : d ≡ pairwise other_process ws) where
    pub no_process : d ≡ false → false ≡ waits_legal last up ss ts ws
    unfolding waits_legal
    no_process z = rw (sym eo ∙ yo, sym ed ∙ z)

    -- the two tests of each are made in one walk
    pub then_wait : d ≡ true → (r : Bool) → r ≡ all (keeps_waiting up ss ts) ws → r ≡ waits_legal last up ss ts ws
    unfolding waits_legal
    then_wait z r e = rw (sym eo ∙ yo, sym ed ∙ z) (e ∙ all_both (may_wait up ss) (unready ts) ws)

-- the sections one after the other
module _ (b : List ℕ) (n next m k : ℕ) (en : n ≡ length (decode b).spaces) (ex : next ≡ (decode b).next) (r : Bool) (er : r ≡ spaces_legal (spaces_lent b) n next) where
  spaces_test : spaces_legal (spaces_lent b) (length (decode b).spaces) (decode b).next ≡ r
  spaces_test = sym (er ∙ rw (en, ex))

  pub no_spaces : r ≡ false → false ≡ contents_legal b
  unfolding contents_legal
  no_spaces z = rw (spaces_test ∙ z)

  module _ (yr : r ≡ true) (em : m ≡ length (decode b).tuples) (t : Bool) (et : t ≡ tuples_legal (spaces_of (spaces_lent b) n) (tuples_lent b) m) where
    tuples_test : tuples_legal (spaces_of (spaces_lent b) (length (decode b).spaces)) (tuples_lent b) (length (decode b).tuples) ≡ t
    tuples_test = sym (et ∙ rw (en, em))

    pub no_tuples : t ≡ false → false ≡ contents_legal b
    unfolding contents_legal
    no_tuples z = rw (spaces_test ∙ yr, tuples_test ∙ z)

    module _ (yt : t ≡ true) (ek : k ≡ length (decode b).waiting) (q : Bool) (eq : q ≡ queue_legal (queue_lent b) k) where
      queue_test : queue_legal (queue_lent b) (length (decode b).waiting) ≡ q
      queue_test = sym (eq ∙ rw ek)

      pub no_queue : q ≡ false → false ≡ contents_legal b
      unfolding contents_legal
      no_queue z = rw (spaces_test ∙ yr, tuples_test ∙ yt, queue_test ∙ z)

      pub then_waits : q ≡ true → (last : ℕ) → last ≡ (decode b).last → (up : List Bool) → up ≡ (decode b).up
          → (w : Bool) → w ≡ waits_legal last up (spaces_of (spaces_lent b) n) (tuples_of (tuples_lent b) m) (waiting_of (queue_lent b) k) → w ≡ contents_legal b
      unfolding contents_legal
      then_waits z last el up eu w e = e ∙ rw (spaces_test ∙ yr, tuples_test ∙ yt, queue_test ∙ z, en, em, ek, el, eu)

-- the sections that passed
module _ (b : List ℕ) (bytes : T (are_bytes b)) (long : length b ≡ state_size) where
  pub listed : (n next : ℕ) → T (spaces_legal (spaces_lent b) n next) → n ≡ length (decode b).spaces → Counts b → IsListed (spaces_lent b) n × Rising (spaces_of (spaces_lent b) n)
  listed n next t e k =
      let few : n ≤ most_spaces = omega (arith, k.spaces) in
      let l : length (spaces_lent b) ≡ spaces_size = part_long b spaces_part (omega arith) in
      let are : T (are_bytes (spaces_lent b)) = part_bytes b spaces_part bytes in
      (legal_listed (spaces_lent b) n next are l few t, legal_rising (spaces_lent b) n next are l few t)

  pub queued : (k : ℕ) → k ≤ most_waiting → T (queue_legal (queue_lent b) k) → IsQueued (queue_lent b) k
  queued k few t = legal_queued (queue_lent b) k (part_bytes b waiting_part bytes) (part_long b waiting_part (omega arith)) few t
