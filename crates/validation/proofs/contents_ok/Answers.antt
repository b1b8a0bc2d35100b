-- `validation::contents_ok` meets its contract. Assumes nothing.
use mathlib.Core.Path.{sym, ◌∙◌}
use native.Mathlib.Omega.{arith}
use lib.Dec.{lit≤}
use Rattle.basis.specs.Logic.{true_is}
use Rattle.basis.specs.Sizes.{header_size, spaces_end, tuples_end, waiting_end}
use Rattle.sections.specs.RowLaws.{bytes_of_lem}
use Rattle.spaces.specs.Spaces.{spaces_of, IsListed, Rising}
use Rattle.header.specs.Rows.{spaces_part, tuples_part, waiting_part, spaces_lent}
use Rattle.header.specs.WholeLaws.{part_long}
use Rattle.validation.specs.StateLaws.{counts_of, within, no_spaces, no_tuples, no_queue, then_waits, listed, queued}
use Rattle.validation.proofs.contents_ok.Goals as goal
use Rattle.validation.proofs.contents_ok.Goals.{Else-not-are_legal}

-- the spaces are legal
module _ (c : Else-not-are_legal) where
  are-listed : IsListed (spaces_lent c.args.b.now) c.space_count-n.result × Rising (spaces_of (spaces_lent c.args.b.now) c.space_count-n.result)
  are-listed = listed c.args.b.now (bytes_of_lem c.args.b.now (λ k. (c.type_inv.b k).fits)) c.requires.0 _ _ (true_is _ (sym c.are_legal.ensures ∙ c.if-not-are_legal.false)) c.space_count-n.ensures.0 (counts_of c.args.b.now c.requires.1)

pub space_count-n-requires : goal.space_count-n-requires
space_count-n-requires c = within c.args.b.now header_size c.requires.0 tt

pub slice_bounds-spaces-count : goal.slice_bounds-spaces-count
slice_bounds-spaces-count c = lit≤ tt

pub next-requires : goal.next-requires
next-requires c = within c.args.b.now header_size c.requires.0 tt

pub are_legal-requires : goal.are_legal-requires
are_legal-requires c =
    (part_long c.args.b.now spaces_part (within c.args.b.now spaces_end c.requires.0 tt), omega (arith, c.space_count-n.ensures.0, (counts_of c.args.b.now c.requires.1).spaces))

pub returns-then-not-are_legal : goal.returns-then-not-are_legal
returns-then-not-are_legal c =
    no_spaces _ _ _ 0 0 c.space_count-n.ensures.0 c.next.ensures.0 _ c.are_legal.ensures c.if-not-are_legal.true

pub tuple_count-m-requires : goal.tuple_count-m-requires
tuple_count-m-requires c = within c.args.b.now header_size c.requires.0 tt

pub slice_bounds-tuples-count : goal.slice_bounds-tuples-count
slice_bounds-tuples-count c = lit≤ tt

pub tuples_ok-requires : goal.tuples_ok-requires
tuples_ok-requires c =
    (part_long c.args.b.now tuples_part (within c.args.b.now tuples_end c.requires.0 tt), omega (arith, c.tuple_count-m.ensures.0, (counts_of c.args.b.now c.requires.1).tuples), (are-listed (goal.at.tuples_ok-requires c).Else-not-are_legal).0, (are-listed (goal.at.tuples_ok-requires c).Else-not-are_legal).1)

pub returns-then-not-tuples_ok : goal.returns-then-not-tuples_ok
returns-then-not-tuples_ok c =
    no_tuples _ _ _ _ 0 c.space_count-n.ensures.0 c.next.ensures.0 _ c.are_legal.ensures c.if-not-are_legal.false c.tuple_count-m.ensures.0 _ c.tuples_ok.ensures c.if-not-tuples_ok.true

pub waiting_count-k-requires : goal.waiting_count-k-requires
waiting_count-k-requires c = within c.args.b.now header_size c.requires.0 tt

pub slice_bounds-waiting-count : goal.slice_bounds-waiting-count
slice_bounds-waiting-count c = lit≤ tt

pub is_queue-requires : goal.is_queue-requires
is_queue-requires c =
    (part_long c.args.b.now waiting_part (within c.args.b.now waiting_end c.requires.0 tt), omega (arith, c.waiting_count-k.ensures.0, (counts_of c.args.b.now c.requires.1).waiting))

pub returns-then-not-is_queue : goal.returns-then-not-is_queue
returns-then-not-is_queue c =
    no_queue _ _ _ _ _ c.space_count-n.ensures.0 c.next.ensures.0 _ c.are_legal.ensures c.if-not-are_legal.false c.tuple_count-m.ensures.0 _ c.tuples_ok.ensures c.if-not-tuples_ok.false c.waiting_count-k.ensures.0 _ c.is_queue.ensures c.if-not-is_queue.true

pub last-requires : goal.last-requires
last-requires c = within c.args.b.now header_size c.requires.0 tt

pub hosts-requires : goal.hosts-requires
hosts-requires c = within c.args.b.now header_size c.requires.0 tt

pub waits_ok-requires : goal.waits_ok-requires
waits_ok-requires c = (
  queued c.args.b.now (bytes_of_lem c.args.b.now (λ k. (c.type_inv.b k).fits)) c.requires.0 _ (omega (arith, c.waiting_count-k.ensures.0, (counts_of c.args.b.now c.requires.1).waiting)) (true_is _ (sym c.is_queue.ensures ∙ c.if-not-is_queue.false)),
  (are-listed (goal.at.waits_ok-requires c).Else-not-are_legal).0,
  (are-listed (goal.at.waits_ok-requires c).Else-not-are_legal).1,
  part_long c.args.b.now tuples_part (within c.args.b.now tuples_end c.requires.0 tt),
  omega (arith, c.tuple_count-m.ensures.0, (counts_of c.args.b.now c.requires.1).tuples),
)

pub returns : goal.returns
returns c =
    then_waits _ _ _ _ _ c.space_count-n.ensures.0 c.next.ensures.0 _ c.are_legal.ensures c.if-not-are_legal.false c.tuple_count-m.ensures.0 _ c.tuples_ok.ensures c.if-not-tuples_ok.false c.waiting_count-k.ensures.0 _ c.is_queue.ensures
    c.if-not-is_queue.false _ c.last.ensures.0 _ c.hosts.ensures.0 _ c.waits_ok.ensures
