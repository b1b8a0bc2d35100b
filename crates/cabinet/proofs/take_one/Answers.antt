-- `cabinet::take_one` meets its contract. Assumes nothing.
use Rattle.std.specs.Prelude.{◌≡◌, take, T, ℕ, get_or}
use Rattle.std.proofs.Common.{sym, ◌∙◌, rules, Fits, w8}
use Rattle.std.proofs.Math.Pow.{are_bytes}
use Rattle.basis.specs.NumberLaws.{bytes_of_lem, bytes_take}
use Rattle.calls.specs.Calls.{lent}
use Rattle.cabinet.specs.PrintedLaws.{turn_leaves}
use Rattle.cabinet.proofs.take_one.Goals as goal

pub print-requires : goal.print-requires
print-requires c = record {
  before = c.args.state.now;
  reply = c.args.reply.now;
  is_state_lem = c.requires.from_state;
  room = c.requires.room.1;
  is = c.answer-response.ensures.is_answered;
}

pub returns-clause-to_state : goal.returns-clause-to_state
returns-clause-to_state c =
    let buffer = c.read_record-size.new.«record» in
    let size = c.read_record-size.result in
    let a = c.answer-response in
    let fits : (i : ℕ) → Fits w8 (get_or buffer i 0) = search rules in
    let bytes : T (are_bytes buffer) = bytes_of_lem buffer (λ i. (fits i).fits) in
    (turn_leaves (lent c.args.state.now (take size buffer) c.args.reply.now) a.new.state (take a.result.end a.new.text) a.result.more c.requires.from_state c.requires.room.1 (bytes_take size buffer bytes) a.ensures.is_answered).0

pub returns-clause-while_records : goal.returns-clause-while_records
returns-clause-while_records c =
    let buffer = c.read_record-size.new.«record» in
    let size = c.read_record-size.result in
    let a = c.answer-response in
    let fits : (i : ℕ) → Fits w8 (get_or buffer i 0) = search rules in
    let bytes : T (are_bytes buffer) = bytes_of_lem buffer (λ i. (fits i).fits) in
    let left = turn_leaves (lent c.args.state.now (take size buffer) c.args.reply.now) a.new.state (take a.result.end a.new.text) a.result.more c.requires.from_state c.requires.room.1 (bytes_take size buffer bytes) a.ensures.is_answered in
    let size_is : c.print.result.size ≡ size = c.print.ensures.sizes.0 ∙ sym c.read_record-size.ensures.in_bounds.1 in
    rw (size_is, c.print.ensures.turn.1) left.1
