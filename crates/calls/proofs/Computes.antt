-- Made by tools/computes: names the definitions that compute, so that a theorem proved by computing says `unfolding computes` and no more. Assumes nothing.
use Rattle.basis.specs.Computes.{computes as computes-basis}
use Rattle.model.proofs.Computes.{computes as computes-model}
use Rattle.layout.specs.Computes.{computes as computes-layout}
use Rattle.calls.specs.Calls.{fresh_call, number_of, in_turn, refusal_at, refusal, step_bytes, laid_over, turned_back, taken, take_call}
use Rattle.calls.specs.TwoReplicas.{replace, holding, stop, took, position_of, call_of, input_of, inputs, is_numbered, record_numbered, run_at, position_after, called, after, end, begin, calls}

unfoldable pub computes : Unit {0}
unfolding computes-basis computes-model computes-layout fresh_call number_of in_turn refusal_at refusal step_bytes laid_over turned_back taken take_call replace holding stop took position_of call_of input_of inputs is_numbered record_numbered run_at position_after called after end begin calls
computes = tt
