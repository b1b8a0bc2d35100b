-- What is written is read back: the bytes of a legal statement are read as that statement. Assumes nothing.
use Rattle.std.specs.Prelude.{◌≡◌, refl, ℕ, ◌^◌, ◌≤◌, ◌<◌, Bool, true, false, not, length, get_or, T, leb, ltb, eqb}
use Rattle.std.proofs.Common.{arith, length-append, take_at, drop_at, ltb→lt, le→leb}
use Rattle.std.proofs.Math.Option.{Option, none, some}
use mathlib.Core.List.Memᴰ
use mathlib.Core.List.{List, [], ◌∷◌, ◌++◌, flat_map, append_assoc, append-nil}
use Rattle.basis.specs.Choice.{provided}
use Rattle.basis.specs.Logic.{and_l, and_r, is_true}
use Rattle.basis.specs.Lists.{all, is_empty}
use Rattle.basis.specs.ListLaws.{Each, each_nil, each-cons, all_at}
use Rattle.basis.specs.Numbers.{big_endian}
use Rattle.basis.specs.NumberLaws.{big_endian_length, number_big_endian}
use Rattle.basis.specs.Sizes.{host_width, process_width, space_width, bits_width, hosts, processes, space_numbers, most_body}
use Rattle.model.specs.Value.{Value, value, name, legal_value, Range, at_most}
use Rattle.model.specs.Statement.{Field, actual, formal, reference, sum, difference, anonymous, ranged, Operation, always, lookup, deposit, transfer, Branch, operations, Statement, spaces_of}
use Rattle.model.specs.Reading.{Reader, ◌>>=◌, give, refuse, byte, natural, several, counted, chosen_by, whole_of, field_value, actual_field, formal_field, reference_field, sum_field, anonymous_field, ranged_field, field, on_space, on_spaces, operation, branch, statement}
use Rattle.model.specs.Writing.{counted_bytes, value_bytes, field_bytes, lookup_code, transfer_code, operation_bytes, branch_bytes, statement_bytes}
use Rattle.model.specs.Legal.{Kinds, no_kinds, kind_in, summable, legal_range, legal_parts, template_forms, bind_kind, bind_kinds, legal_fields, fields_of, is_space, legal_operation, legal_operations, legal_branch, legal_statement, parse}
use Rattle.model.proofs.BinderLaws.{legal_parts_lem}

-- ---- ways of reading

-- p reads these bytes as a, whatever bytes follow
abbrev pub Reads : {A : Type 0} → Reader A → List ℕ → A → Type 0
Reads p bytes a = (rest : List ℕ) → p (bytes ++ rest) ≡ some (a, rest)

-- no bytes are read as what is there already
pub reads_give : {A : Type 0} (a : A) → Reads (give a) [] a
unfolding give
reads_give a rest = refl

-- one after the other
pub reads_then : {A B : Type 0} (p : Reader A) (f : A → Reader B) (s t : List ℕ) (a : A) (b : B) → Reads p s a → Reads (f a) t b → Reads (p >>= f) (s ++ t) b
unfolding ◌>>=◌
reads_then p f s t a b h k rest = rw (append_assoc s t rest, h (t ++ rest)) (k rest)

-- the last part, made into the whole
pub reads_last : {A B : Type 0} (p : Reader A) (made : A → B) (s : List ℕ) (a : A) → Reads p s a → Reads (p >>= λ x. give (made x)) s (made a)
unfolding ◌>>=◌ give
reads_last p made s a h rest = rw (h rest)

-- a byte is read as itself
pub reads_byte : (b : ℕ) → Reads byte (b ∷ []) b
unfolding byte
reads_byte b rest = refl

-- a number that has room in w bytes
pub reads_natural : (w n : ℕ) → n < 256 ^ w → Reads (natural w) (big_endian w n) n
unfolding natural provided
reads_natural w n h rest =
    let size = big_endian_length w n in
    let long : w ≤ length (big_endian w n ++ rest) = omega (arith, length-append (big_endian w n) rest) in
    rw (is_true (leb w (length (big_endian w n ++ rest))) (le→leb w (length (big_endian w n ++ rest)) long), take_at (big_endian w n) rest w size, drop_at (big_endian w n) rest w size, number_big_endian w n h)

-- things that are each read back are read back one after the other
pub reads_several : {A : Type 0} (p : Reader A) (write : A → List ℕ) (l : List A) → Each (λ a. Reads p (write a) a) l → Reads (several p (length l)) (flat_map write l) l
unfolding several flat_map
reads_several p write [] h = reads_give []
reads_several p write (a ∷ l) h =
    reads_then p _ (write a) (flat_map write l) a (a ∷ l) (h a (Memᴰ.head refl))
    (reads_last (several p (length l)) (λ k. a ∷ k) (flat_map write l) l (reads_several p write l (λ b i. h b (Memᴰ.tail i))))

-- and so with their count before them
pub reads_counted : {A : Type 0} (p : Reader A) (write : A → List ℕ) (l : List A) → Each (λ a. Reads p (write a) a) l → Reads (counted p) (counted_bytes write l) l
unfolding counted counted_bytes
reads_counted p write l h = reads_then byte (several p) (length l ∷ []) (flat_map write l) (length l) l (reads_byte (length l)) (reads_several p write l h)

-- a code and what it chooses from the table
pub reads_chosen : {A : Type 0} (table : List (Reader A)) (code : ℕ) (s : List ℕ) (a : A) → Reads (get_or table code refuse) s a → Reads (chosen_by table) (code ∷ s) a
unfolding chosen_by
reads_chosen table code s a h = reads_then byte (λ b. get_or table b refuse) (code ∷ []) s code a (reads_byte code) h

-- all of the bytes
pub reads_whole : {A : Type 0} (p : Reader A) (s : List ℕ) (a : A) → Reads p s a → whole_of p s ≡ some a
unfolding whole_of provided is_empty
reads_whole p s a h = let e : p s ≡ some (a, []) = rw append-nil at (h []) in rw e

-- ---- what has room in its bytes

-- a value's bits are four bytes
abbrev pub FitsValue : Value → Type 0
FitsValue v = v.bits < 256 ^ bits_width

-- a field's value, if it has one
abbrev pub FitsField : Field → Type 0
FitsField (actual v) = FitsValue v
FitsField (formal k x) = Unit {0}
FitsField (reference x) = Unit {0}
FitsField (sum x v) = FitsValue v
FitsField (difference x v) = FitsValue v
FitsField (anonymous k) = Unit {0}
FitsField (ranged k r x) = (r.lowest < 256 ^ bits_width) × (r.highest < 256 ^ bits_width)

abbrev pub FitsSpace : ℕ → Type 0
FitsSpace s = s < 256 ^ space_width

pub record FitsOperation (o : Operation) : Type 0 where
  pub spaces : Each FitsSpace (spaces_of o)
  pub fields : Each FitsField (fields_of o)

abbrev pub FitsBranch : Branch → Type 0
FitsBranch b = Each FitsOperation (operations b)

pub record FitsStatement (st : Statement) : Type 0 where
  pub host : st.host < 256 ^ host_width
  pub process : st.process < 256 ^ process_width
  pub branches : Each FitsBranch st.branches

-- ---- the parts of a statement

-- kind and four bytes
pub reads_value : (v : Value) → FitsValue v → Reads field_value (value_bytes v) v
unfolding field_value value_bytes
reads_value v h =
    reads_then byte _ (v.kind ∷ []) (big_endian bits_width v.bits) v.kind v (reads_byte v.kind)
    (reads_last (natural bits_width) (value v.kind) (big_endian bits_width v.bits) v.bits (reads_natural bits_width v.bits h))

reads_sum : (made : ℕ → Value → Field) (x : ℕ) (v : Value) → FitsValue v → Reads (sum_field made) (x ∷ value_bytes v) (made x v)
unfolding sum_field
reads_sum made x v h =
    reads_then byte _ (x ∷ []) (value_bytes v) x (made x v) (reads_byte x) (reads_last field_value (made x) (value_bytes v) v (reads_value v h))

-- the bytes of a field
pub reads_field : (f : Field) → FitsField f → Reads field (field_bytes f) f
unfolding field field_bytes actual_field formal_field reference_field anonymous_field ranged_field
reads_field (actual v) h = reads_chosen _ 0 (value_bytes v) (actual v) (reads_last field_value actual (value_bytes v) v (reads_value v h))
reads_field (formal k x) h =
    reads_chosen _ 1 (k ∷ x ∷ []) (formal k x)
    (reads_then byte _ (k ∷ []) (x ∷ []) k (formal k x) (reads_byte k) (reads_last byte (formal k) (x ∷ []) x (reads_byte x)))
reads_field (reference x) h = reads_chosen _ 2 (x ∷ []) (reference x) (reads_last byte reference (x ∷ []) x (reads_byte x))
reads_field (sum x v) h = reads_chosen _ 3 (x ∷ value_bytes v) (sum x v) (reads_sum sum x v h)
reads_field (difference x v) h = reads_chosen _ 4 (x ∷ value_bytes v) (difference x v) (reads_sum difference x v h)
reads_field (anonymous k) h = reads_chosen _ 5 (k ∷ []) (anonymous k) (reads_last byte anonymous (k ∷ []) k (reads_byte k))
reads_field (ranged k r x) h =
    reads_chosen _ 6 (k ∷ big_endian bits_width r.lowest ++ (big_endian bits_width r.highest ++ (x ∷ []))) (ranged k r x)
    (reads_then byte _ (k ∷ []) (big_endian bits_width r.lowest ++ (big_endian bits_width r.highest ++ (x ∷ []))) k (ranged k r x) (reads_byte k)
    (reads_then (natural bits_width) _ (big_endian bits_width r.lowest) (big_endian bits_width r.highest ++ (x ∷ [])) r.lowest (ranged k r x) (reads_natural bits_width r.lowest h.0)
    (reads_then (natural bits_width) _ (big_endian bits_width r.highest) (x ∷ []) r.highest (ranged k r x) (reads_natural bits_width r.highest h.1)
    (reads_last byte (ranged k r) (x ∷ []) x (reads_byte x)))))

reads_fields : (fs : List Field) → Each FitsField fs → Reads (counted field) (counted_bytes field_bytes fs) fs
reads_fields fs h = reads_counted field field_bytes fs (λ f i. reads_field f (h f i))

abbrev space_bytes : ℕ → List Field → List ℕ
space_bytes s fs = big_endian space_width s ++ counted_bytes field_bytes fs

reads_on_space : (made : ℕ → List Field → Operation) (s : ℕ) (fs : List Field) → FitsSpace s → Each FitsField fs → Reads (on_space made) (space_bytes s fs) (made s fs)
unfolding on_space
reads_on_space made s fs h k =
    reads_then (natural space_width) _ (big_endian space_width s) (counted_bytes field_bytes fs) s (made s fs) (reads_natural space_width s h)
    (reads_last (counted field) (made s) (counted_bytes field_bytes fs) fs (reads_fields fs k))

reads_on_spaces : (made : ℕ → ℕ → List Field → Operation) (from to : ℕ) (fs : List Field) → FitsSpace from → FitsSpace to → Each FitsField fs
    → Reads (on_spaces made) (big_endian space_width from ++ space_bytes to fs) (made from to fs)
unfolding on_spaces
reads_on_spaces made from to fs h j k =
    reads_then (natural space_width) _ (big_endian space_width from) (space_bytes to fs) from (made from to fs) (reads_natural space_width from h)
    (reads_then (natural space_width) _ (big_endian space_width to) (counted_bytes field_bytes fs) to (made from to fs) (reads_natural space_width to j)
    (reads_last (counted field) (made from to) (counted_bytes field_bytes fs) fs (reads_fields fs k)))

reads_lookup : (withdraws blocks : Bool) (s : ℕ) (fs : List Field) → FitsSpace s → Each FitsField fs
    → Reads operation (lookup_code withdraws blocks ∷ space_bytes s fs) (lookup withdraws blocks s fs)
unfolding operation lookup_code
reads_lookup true true s fs h k = reads_chosen _ 1 (space_bytes s fs) (lookup true true s fs) (reads_on_space (lookup true true) s fs h k)
reads_lookup true false s fs h k = reads_chosen _ 2 (space_bytes s fs) (lookup true false s fs) (reads_on_space (lookup true false) s fs h k)
reads_lookup false true s fs h k = reads_chosen _ 3 (space_bytes s fs) (lookup false true s fs) (reads_on_space (lookup false true) s fs h k)
reads_lookup false false s fs h k = reads_chosen _ 4 (space_bytes s fs) (lookup false false s fs) (reads_on_space (lookup false false) s fs h k)

reads_transfer : (withdraws : Bool) (from to : ℕ) (fs : List Field) → FitsSpace from → FitsSpace to → Each FitsField fs
    → Reads operation (transfer_code withdraws ∷ big_endian space_width from ++ space_bytes to fs) (transfer withdraws from to fs)
unfolding operation transfer_code
reads_transfer true from to fs h j k = reads_chosen _ 6 (big_endian space_width from ++ space_bytes to fs) (transfer true from to fs) (reads_on_spaces (transfer true) from to fs h j k)
reads_transfer false from to fs h j k = reads_chosen _ 7 (big_endian space_width from ++ space_bytes to fs) (transfer false from to fs) (reads_on_spaces (transfer false) from to fs h j k)

-- the bytes of an operation
pub reads_operation : (o : Operation) → FitsOperation o → Reads operation (operation_bytes o) o
unfolding operation operation_bytes spaces_of fields_of
reads_operation always h = reads_chosen _ 0 [] always (reads_give always)
reads_operation (lookup withdraws blocks s fs) h = reads_lookup withdraws blocks s fs (h.spaces s (Memᴰ.head refl)) h.fields
reads_operation (deposit s fs) h = reads_chosen _ 5 (space_bytes s fs) (deposit s fs) (reads_on_space deposit s fs (h.spaces s (Memᴰ.head refl)) h.fields)
reads_operation (transfer withdraws from to fs) h =
    reads_transfer withdraws from to fs (h.spaces from (Memᴰ.head refl)) (h.spaces to (Memᴰ.tail (Memᴰ.head refl))) h.fields

-- the bytes of a branch
pub reads_branch : (b : Branch) → FitsBranch b → Reads branch (branch_bytes b) b
unfolding branch branch_bytes operations
reads_branch b h =
    reads_then operation _ (operation_bytes b.guard) (counted_bytes operation_bytes b.body) b.guard b (reads_operation b.guard (h b.guard (Memᴰ.head refl)))
    (reads_last (counted operation) (λ os. record { guard = b.guard; body = os }) (counted_bytes operation_bytes b.body) b.body
    (reads_counted operation operation_bytes b.body (λ o i. reads_operation o (h o (Memᴰ.tail i)))))

-- the bytes of a statement
pub reads_statement : (st : Statement) → FitsStatement st → Reads statement (statement_bytes st) st
unfolding statement statement_bytes
reads_statement st h =
    let bs = st.branches in
    reads_then (natural host_width) _ (big_endian host_width st.host) (big_endian process_width st.process ++ counted_bytes branch_bytes bs) st.host st (reads_natural host_width st.host h.host)
    (reads_then (natural process_width) _ (big_endian process_width st.process) (counted_bytes branch_bytes bs) st.process st (reads_natural process_width st.process h.process)
    (reads_last (counted branch) (λ bs. record { host = st.host; process = st.process; branches = bs }) (counted_bytes branch_bytes bs) bs
    (reads_counted branch branch_bytes bs (λ b i. reads_branch b (h.branches b i)))))

-- ---- what is legal has room

-- a legal value has 32 bits
pub legal_value_lem : (v : Value) → T (legal_value v) → FitsValue v
unfolding legal_value
legal_value_lem v t = ltb→lt v.bits (2 ^ 32) (and_l (ltb v.bits (2 ^ 32)) _ t)

legal_summed : (o : Option ℕ) (v : Value) → T (summable o v) → FitsValue v
unfolding summable
legal_summed none v t = absurd t
legal_summed (some k) v t = legal_value_lem v (search (and_l, and_r, t) depth 16)

-- a legal range: not of names, two legal ends, in order
pub legal_range_lem : (k : ℕ) (r : Range) → T (legal_range k r) → T (not (eqb k name)) × T (legal_value (value k r.lowest)) × T (legal_value (value k r.highest)) × T (at_most k r.lowest r.highest)
unfolding legal_range
legal_range_lem k r t = (search (and_l, and_r, t) depth 16, search (and_l, and_r, t) depth 16, search (and_l, and_r, t) depth 16, search (and_l, and_r, t) depth 16)

-- the values in a legal field have room
parts_fit : (earlier : Kinds) (f : Field) → T (legal_parts earlier f) → FitsField f
unfolding legal_parts
parts_fit earlier (actual v) t = legal_value_lem v t
parts_fit earlier (formal k x) t = tt
parts_fit earlier (reference x) t = tt
parts_fit earlier (sum x v) t = legal_summed (kind_in earlier x) v t
parts_fit earlier (difference x v) t = legal_summed (kind_in earlier x) v t
parts_fit earlier (anonymous k) t = tt
parts_fit earlier (ranged k r x) t = let l = legal_range_lem k r t in (legal_value_lem (value k r.lowest) l.1, legal_value_lem (value k r.highest) l.2)

-- and in the fields of one operation
pub legal_fields_lem : (allowed : List ℕ) (earlier now : Kinds) (fs : List Field) → T (legal_fields allowed earlier now fs) → Each FitsField fs
unfolding legal_fields
legal_fields_lem allowed earlier now [] t = each_nil _
legal_fields_lem allowed earlier now (f ∷ fs) t =
    each-cons FitsField f fs (parts_fit earlier f (legal_parts_lem earlier now f (search (and_l, and_r, t) depth 16))) (legal_fields_lem allowed earlier (bind_kind now f) fs (search (and_l, and_r, t) depth 16))

-- a space number fits its two bytes
pub legal_space : (s : ℕ) → T (is_space s) → FitsSpace s
unfolding is_space
legal_space s t = ltb→lt s space_numbers t

-- the spaces and the fields of a legal operation have room
pub legal_operation_lem : (ks : Kinds) (o : Operation) → T (legal_operation ks o) → FitsOperation o
unfolding legal_operation spaces_of fields_of
legal_operation_lem ks always t = record { spaces = each_nil _; fields = each_nil _ }
legal_operation_lem ks (lookup withdraws blocks s fs) t =
    record {
      spaces = each-cons FitsSpace s [] (legal_space s (search (and_l, and_r, t) depth 16)) (each_nil _);
      fields = legal_fields_lem template_forms ks ks fs (search (and_l, and_r, t) depth 16);
    }
legal_operation_lem ks (deposit s fs) t =
    record {
      spaces = each-cons FitsSpace s [] (legal_space s (search (and_l, and_r, t) depth 16)) (each_nil _);
      fields = legal_fields_lem (0 ∷ 2 ∷ 3 ∷ 4 ∷ []) ks ks fs (search (and_l, and_r, t) depth 16);
    }
legal_operation_lem ks (transfer withdraws from to fs) t =
    record {
      spaces =
          each-cons FitsSpace from (to ∷ []) (legal_space from (search (and_l, and_r, t) depth 16))
          (each-cons FitsSpace to [] (legal_space to (search (and_l, and_r, t) depth 16)) (each_nil _));
      fields = legal_fields_lem (0 ∷ 2 ∷ 5 ∷ []) ks ks fs (search (and_l, and_r, t) depth 16);
    }

-- and of the operations of a branch
pub legal_operations_lem : (ks : Kinds) (os : List Operation) → T (legal_operations ks os) → Each FitsOperation os
unfolding legal_operations
legal_operations_lem ks [] t = each_nil _
legal_operations_lem ks (o ∷ os) t =
    each-cons FitsOperation o os (legal_operation_lem ks o (search (and_l, t) depth 16)) (legal_operations_lem (bind_kinds ks (fields_of o)) os (search (and_l, and_r, t) depth 16))

-- the operations of a legal branch have room
pub legal_branch_lem : (b : Branch) → T (legal_branch b) → FitsBranch b
unfolding legal_branch
legal_branch_lem b t = legal_operations_lem no_kinds (operations b) (search (and_l, and_r, t) depth 16)

-- a legal statement has room: host below 16, process below 65,536, spaces below 65,536, values of 32 bits
pub legal_fits : (st : Statement) → T (legal_statement st) → FitsStatement st
unfolding legal_statement
legal_fits st t =
    let h : T (ltb st.host hosts) = search (and_l, and_r, t) depth 16 in
    let p : T (ltb st.process processes) = search (and_l, and_r, t) depth 16 in
    let small : st.host < hosts = ltb→lt st.host hosts h in
    let bs : T (all legal_branch st.branches) = search (and_l, and_r, t) depth 16 in
    record {
      host = omega arith;
      process = ltb→lt st.process processes p;
      branches = λ b i. legal_branch_lem b (all_at legal_branch st.branches bs b i);
    }

-- ---- whole statements

-- the bytes of a legal statement are read as it
pub read_written : (st : Statement) → T (legal_statement st) → whole_of statement (statement_bytes st) ≡ some st
read_written st t = reads_whole statement (statement_bytes st) st (reads_statement st (legal_fits st t))

-- and are its legal body, if they are at most 250
pub parse_written : (st : Statement) → T (legal_statement st) → length (statement_bytes st) ≤ most_body → parse (statement_bytes st) ≡ some st
unfolding parse provided
parse_written st t h =
    rw (is_true (leb (length (statement_bytes st)) most_body) (le→leb (length (statement_bytes st)) most_body h), read_written st t, is_true (legal_statement st) t)
