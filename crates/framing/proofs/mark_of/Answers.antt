-- `framing::mark_of` meets its contract. Assumes nothing.
use mathlib.Core.Path.{sym, ◌∙◌}
use Rattle.framing.specs.MarkLaws.{mark_cases}
use Rattle.framing.proofs.mark_of.Goals as goal

pub returns-then-has_mark : goal.returns-then-has_mark
returns-then-has_mark c = sym (mark_cases _ ∙ rw (sym c.has_mark.ensures ∙ c.if-has_mark.true))

pub returns-then-has_mark-2 : goal.returns-then-has_mark-2
returns-then-has_mark-2 c = sym (mark_cases _ ∙ rw (sym c.has_mark.ensures ∙ c.if-has_mark.false, sym c.has_mark-2.ensures ∙ c.if-has_mark-2.true))

pub returns-then-has_mark-3 : goal.returns-then-has_mark-3
returns-then-has_mark-3 c = sym (mark_cases _ ∙ rw (sym c.has_mark.ensures ∙ c.if-has_mark.false, sym c.has_mark-2.ensures ∙ c.if-has_mark-2.false, sym c.has_mark-3.ensures ∙ c.if-has_mark-3.true))

pub returns-then-has_mark-4 : goal.returns-then-has_mark-4
returns-then-has_mark-4 c = sym (mark_cases _ ∙ rw (sym c.has_mark.ensures ∙ c.if-has_mark.false, sym c.has_mark-2.ensures ∙ c.if-has_mark-2.false, sym c.has_mark-3.ensures ∙ c.if-has_mark-3.false, sym c.has_mark-4.ensures ∙ c.if-has_mark-4.true))

pub returns-then-has_mark-5 : goal.returns-then-has_mark-5
returns-then-has_mark-5 c = sym (mark_cases _ ∙ rw (sym c.has_mark.ensures ∙ c.if-has_mark.false, sym c.has_mark-2.ensures ∙ c.if-has_mark-2.false, sym c.has_mark-3.ensures ∙ c.if-has_mark-3.false, sym c.has_mark-4.ensures ∙ c.if-has_mark-4.false, sym c.has_mark-5.ensures ∙ c.if-has_mark-5.true))

pub returns-then-has_mark-6 : goal.returns-then-has_mark-6
returns-then-has_mark-6 c = sym (mark_cases _ ∙ rw (sym c.has_mark.ensures ∙ c.if-has_mark.false, sym c.has_mark-2.ensures ∙ c.if-has_mark-2.false, sym c.has_mark-3.ensures ∙ c.if-has_mark-3.false, sym c.has_mark-4.ensures ∙ c.if-has_mark-4.false, sym c.has_mark-5.ensures ∙ c.if-has_mark-5.false, sym c.has_mark-6.ensures ∙ c.if-has_mark-6.true))

pub returns : goal.returns
returns c = sym (mark_cases _ ∙ rw (sym c.has_mark.ensures ∙ c.if-has_mark.false, sym c.has_mark-2.ensures ∙ c.if-has_mark-2.false, sym c.has_mark-3.ensures ∙ c.if-has_mark-3.false, sym c.has_mark-4.ensures ∙ c.if-has_mark-4.false, sym c.has_mark-5.ensures ∙ c.if-has_mark-5.false, sym c.has_mark-6.ensures ∙ c.if-has_mark-6.false))
