-- What a caller learns of the answer of `add` on the bits of two legal values of kind k: a sum that is given is a legal value of the kind. Assumes nothing.
use Rattle.std.specs.Prelude as code
use Rattle.std.specs.Prelude.{ℕ, ◌≡◌, Bool, true, false, T, None, Some}
use Rattle.std.proofs.Common.{sym, ap, ◌∙◌}
use Rattle.std.proofs.Math.Option.{none, some}
use Rattle.model.specs.Value.{value, legal_value}
use Rattle.model.proofs.SumLaws.{plus_legal, minus_legal}
use Rattle.values.specs.declared.Value.{Value}
use Rattle.values.specs.Meaning.{value_is, answered}
use Rattle.values.specs.Answers.{answered_given}
use Rattle.sums.specs.Meaning.{off_range, sum_is, sum_of}

module _ (k a b : ℕ) (subtract : Bool) (r : code.Option Value) (e : sum_is r ≡ answered off_range (sum_of subtract k a b)) where
  was_added : (x : code.Option Value) → r ≡ x → sum_of subtract k a b ≡ (sum_is x).given
  was_added x q = sym (answered_given off_range (sum_of subtract k a b) (sum_is x) (sym (ap sum_is q) ∙ e))

  -- a sum that is given
  pub sum_is_lem : (v : Value) → r ≡ Some v → sum_of subtract k a b ≡ some (value_is v)
  sum_is_lem v = was_added (Some v)

  pub sum_refused : r ≡ None → sum_of subtract k a b ≡ none
  sum_refused = was_added None

  -- it is a legal value of the kind
  pub sum_legal : (v : Value) → r ≡ Some v → T (legal_value (value k a)) → T (legal_value (value k b)) → T (legal_value (value_is v)) × ((value_is v).kind ≡ k)
  sum_legal v q h l = go subtract (sum_is_lem v q)
    where
      go : (t : Bool) → sum_of t k a b ≡ some (value_is v) → T (legal_value (value_is v)) × ((value_is v).kind ≡ k)
      go true = minus_legal k a b (value_is v) h l
      go false = plus_legal k a b (value_is v) h l
