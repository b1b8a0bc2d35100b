-- What the composed bytes are: those of a statement that was begun, or of the filled one with an addition more. Assumes nothing.
use Rattle.std.specs.Prelude.{◌≡◌, true, List, [], ◌∷◌, ◌++◌, ℕ, ◌+◌, ◌≤◌, ◌<◌, take, drop, set, get_or, T}
use Rattle.std.proofs.Common.{sym, ◌∙◌, append_assoc, arith, length-take-le, take_at, get_or-take, leb→le}
use Rattle.std.proofs.Math.Path.{ap}
use Rattle.std.proofs.Math.Option.{some}
use Rattle.std.proofs.Math.ListN.{length, length-set}
use Rattle.std.proofs.Math.Pow.{are_bytes}
use Rattle.basis.specs.Choice.{is_some}
use Rattle.basis.specs.Logic.{and_l, and_r}
use Rattle.basis.specs.Numbers.{big_endian}
use Rattle.basis.specs.NumberLaws.{bytes_take, big_endian_length}
use Rattle.basis.specs.Sizes.{process_width, most_body, most_branches, processes, writer_room, host_at, process_at, branch_count_at, branches_at, count_width}
use Rattle.words.specs.Over.{over}
use Rattle.words.specs.OverLaws.{over_split, over_length}
use Rattle.model.specs.Statement as model
use Rattle.model.specs.Statement.{Statement}
use Rattle.model.specs.Reading.{branch}
use Rattle.model.specs.Legal.{legal_statement}
use Rattle.model.specs.Writing.{operation_bytes, statement_bytes}
use Rattle.model.proofs.RoundTrip.{FitsOperation, FitsStatement}
use Rattle.model.proofs.ReadBack.{several_length, parse_parts}
use Rattle.statements.specs.declared.Operation.{Operation}
use Rattle.statements.specs.Flat.{operation_is}
use Rattle.walk.specs.BodyParts.{body_parts}
use Rattle.writer.specs.Writer.{begun, with_operation, with_branch, held}
use Rattle.parts.specs.Puts.{Puts, puts_byte, puts_over, puts_then, puts_snoc, puts_length, puts_take}
use Rattle.parts.specs.Operations.{PutOperation}
use Rattle.composer.specs.Grown.{raised, raised_take, operation_bytes_lem, branch_bytes_lem, begun_bytes, fits_begun}
use Rattle.walk.specs.LegalEnds.{legal_some}
use Rattle.walk.specs.LastCount.{LastCount}
use Rattle.writer.specs.HeldLaws.{Held, held_some, held_is}

-- bytes are those of a statement that has room
pub record Begun (h p : ℕ) (g : Operation) (bytes : List ℕ) : Type 0 where
  pub is : bytes ≡ statement_bytes (begun h p (operation_is g))
  pub fits : FitsStatement (begun h p (operation_is g))

-- bytes are those of the filled statement with an addition that has room
pub record Composed (grown : Statement → model.Operation → Statement) (buffer : List ℕ) (fill : ℕ) (o : Operation) (bytes : List ℕ) : Type 0 where
  pub is : (st : Statement) → held buffer fill ≡ some st → bytes ≡ statement_bytes (grown st (operation_is o))
  pub fits : FitsOperation (operation_is o)

-- how long the filled bytes are, and how far the branch count can be raised
pub record HeldBytes (buffer : List ℕ) (fill : ℕ) : Type 0 where
  pub within : fill ≤ length buffer
  pub long : branches_at ≤ fill
  pub most : fill ≤ most_body
  pub few : get_or (take fill buffer) branch_count_at 0 ≤ most_branches

few_branches : (st : Statement) → T (legal_statement st) → length st.branches ≤ most_branches
unfolding legal_statement
few_branches st t = leb→le (length st.branches) most_branches (search (and_l, and_r, t) depth 16)

pub held_bytes : (buffer : List ℕ) (fill : ℕ) → is_some (held buffer fill) ≡ true → HeldBytes buffer fill
held_bytes buffer fill e =
    let st = held_is buffer fill e in
    let k = held_some buffer fill st.0 st.1 in
    let b : List ℕ = take fill buffer in
    let p = body_parts b st.0 k.parses in
    record {
      within = k.within;
      long = omega (arith, p.long, length-take-le fill buffer k.within);
      most = k.size;
      few = omega (arith, several_length branch (get_or b branch_count_at 0) (drop branches_at b) [] st.0.branches p.branches, few_branches st.0 k.legal);
    }

-- ---- the composed bytes

-- the filled bytes, copied
copied : (t e buffer : List ℕ) (fill : ℕ) → fill ≤ length buffer → e ≡ over t 0 buffer fill → take fill e ≡ take fill buffer
copied t e buffer fill h s =
    s₁ ∙ take_at (take fill buffer) (drop (0 + fill) t) fill (length-take-le fill buffer h)
  where
    s₁ : take fill e ≡ take fill (take fill buffer ++ drop (0 + fill) t)
    s₁ = ap (take fill) (s ∙ over_split t 0 buffer fill)

pub copied_at : (t e buffer : List ℕ) (fill at : ℕ) → fill ≤ length buffer → e ≡ over t 0 buffer fill → at < fill → get_or e at 0 ≡ get_or (take fill buffer) at 0
copied_at t e buffer fill at h s l = sym (get_or-take fill e at 0 l) ∙ ap (λ (b : List ℕ). get_or b at 0) (copied t e buffer fill h s)

module _ (t e buffer : List ℕ) (fill : ℕ) (o : Operation) (st : Statement) (room-is : length t ≡ writer_room) (copy : e ≡ over t 0 buffer fill) (k : Held buffer fill st) where
  raised_length : (at : ℕ) → length (raised e at) ≡ writer_room
  unfolding raised
  raised_length at = length-set e at (get_or e at 0 + 1) ∙ ap length copy ∙ over_length t 0 buffer fill (omega (arith, k.size)) k.within ∙ room-is

  -- bytes put after the filled ones, of which a count was raised
  after_raised : (at : ℕ) (s f : List ℕ) (end : ℕ) → at < fill → Puts (raised e at) fill s f end → end ≤ writer_room → take end f ≡ raised (take fill buffer) at ++ s
  after_raised at s f end h p m =
      puts_take (raised e at) fill s f end p (omega (arith, raised_length at))
      ∙ ap (λ (l : List ℕ). l ++ s) (raised_take fill e at h ∙ ap (λ (l : List ℕ). raised l at) (copied t e buffer fill k.within copy))

  -- an operation more, and the last branch's count raised
  operation_whole : (at : ℕ) (f : List ℕ) (end : ℕ) → T (are_bytes buffer) → LastCount (take fill buffer) at → PutOperation o (raised e at) fill f end
      → take end f ≡ statement_bytes (with_operation st (operation_is o))
  operation_whole at f end t c p =
      let same : statement_bytes st ≡ take fill buffer = (parse_parts (take fill buffer) st (bytes_take fill buffer t) k.parses).bytes in
      let l : length (take fill buffer) ≡ fill = length-take-le fill buffer k.within in
      after_raised at (operation_bytes (operation_is o)) f end (omega (arith, c.within)) p.puts (omega (arith, p.most, k.size))
      ∙ rw (← same, c.is st k.parses) (sym (operation_bytes_lem st (operation_is o) (legal_some st k.legal)))

  -- a branch more, and the branch count raised
  branch_whole : (f : List ℕ) (end : ℕ) → T (are_bytes buffer) → PutOperation o (raised e branch_count_at) fill f end → take (end + count_width) (set f end 0) ≡ statement_bytes (with_branch st (operation_is o))
  branch_whole f end t p =
      let same : statement_bytes st ≡ take fill buffer = (parse_parts (take fill buffer) st (bytes_take fill buffer t) k.parses).bytes in
      let l : length (take fill buffer) ≡ fill = length-take-le fill buffer k.within in
      let long : branches_at ≤ length (take fill buffer) = (body_parts (take fill buffer) st k.parses).long in
      let few : end ≤ length (raised e branch_count_at) = omega (arith, p.most, k.size, raised_length branch_count_at) in
      let more = puts_snoc (raised e branch_count_at) fill (operation_bytes (operation_is o)) f end 0 p.puts (omega (arith, p.most, k.size, raised_length branch_count_at)) (puts_length (raised e branch_count_at) fill (operation_bytes (operation_is o)) f end p.puts few) in
      after_raised branch_count_at (operation_bytes (operation_is o) ++ (0 ∷ [])) (set f end 0) (end + count_width) (omega arith) more (omega (arith, p.most, k.size))
      ∙ rw (← same) (sym (branch_bytes_lem st (operation_is o)))

module _ (t e buffer : List ℕ) (fill : ℕ) (o : Operation) (room-is : length t ≡ writer_room) (copy : e ≡ over t 0 buffer fill) (bytes : T (are_bytes buffer)) (some-held : is_some (held buffer fill) ≡ true) where
  fill_most : fill ≤ most_body
  fill_most = let st = held_is buffer fill some-held in (held_some buffer fill st.0 st.1).size

  pub composed_operation : (at : ℕ) (f : List ℕ) (end : ℕ) → LastCount (take fill buffer) at → PutOperation o (raised e at) fill f end → (end ≤ writer_room) × Composed with_operation buffer fill o (take end f)
  composed_operation at f end c p = (
    omega (arith, p.most, fill_most),
    record { is = λ st q. operation_whole t e buffer fill o st room-is copy (held_some buffer fill st q) at f end bytes c p; fits = p.fits },
  )

  pub composed_branch : (f : List ℕ) (end : ℕ) → PutOperation o (raised e branch_count_at) fill f end → (end + count_width ≤ writer_room) × Composed with_branch buffer fill o (take (end + count_width) (set f end 0))
  composed_branch f end p = (
    omega (arith, p.most, fill_most),
    record { is = λ st q. branch_whole t e buffer fill o st room-is copy (held_some buffer fill st q) f end bytes p; fits = p.fits },
  )

-- host, process, one branch with a guard and no operation
pub composed_begun : (t t₂ f : List ℕ) (h p : ℕ) (g : Operation) (end : ℕ) → length t ≡ writer_room → h < 256 → p < processes → t₂ ≡ over (set t host_at h) process_at (big_endian process_width p) process_width
    → PutOperation g (set t₂ branch_count_at 1) branches_at f end → (end + count_width ≤ writer_room) × Begun h p g (take (end + count_width) (set f end 0))
composed_begun t t₂ f h p g end l a b s q =
    let two : List ℕ = big_endian process_width p in
    let ops : List ℕ = operation_bytes (operation_is g) in
    let p₂ = puts_then t host_at (h ∷ []) (set t host_at h) process_at two t₂ branch_count_at (puts_byte t host_at h (omega arith)) (puts_over (set t host_at h) process_at two process_width t₂ (big_endian_length process_width p) s) (omega arith) in
    let p₃ = puts_snoc t 0 ((h ∷ []) ++ two) t₂ branch_count_at 1 p₂ (omega arith) (puts_length t 0 ((h ∷ []) ++ two) t₂ branch_count_at p₂ (omega arith)) in
    let p₄ = puts_then t 0 (((h ∷ []) ++ two) ++ (1 ∷ [])) (set t₂ branch_count_at 1) branches_at ops f end p₃ q.puts (omega arith) in
    let few : end ≤ length t = omega (arith, q.most) in
    let p₅ = puts_snoc t 0 ((((h ∷ []) ++ two) ++ (1 ∷ [])) ++ ops) f end 0 p₄ (omega (arith, q.most)) (puts_length t 0 _ f end p₄ few) in (
      omega (arith, q.most),
      record {
        is = puts_take t 0 _ (set f end 0) (end + count_width) p₅ (omega (arith, q.most)) ∙ (simp append_assoc) ∙ sym (begun_bytes h p (operation_is g) a);
        fits = fits_begun h p (operation_is g) a b q.fits;
      },
    )
