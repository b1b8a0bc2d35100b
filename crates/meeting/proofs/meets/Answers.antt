-- `meeting::meets` meets its contract. Assumes nothing.
use Rattle.std.proofs.Common.{◌≡◌, ap, ◌∙◌}
use Rattle.model.specs.Matching.{template}
use Rattle.model.specs.Meeting.{template_of, meet}
use Rattle.alone.specs.Alone.{sought_by}
use Rattle.matching.specs.Meaning.{template_is}
use Rattle.meeting.specs.declared.Unmet.TheVariants.{Malformed}
use Rattle.meeting.specs.Meets.{passed_on, was_read, nothing_read, why_not, first_malformed, second_malformed, one_refers, meets_told}
use Rattle.meeting.proofs.meets.Goals as goal
use Rattle.meeting.proofs.meets.Goals.{After-templates_meet, then-refers_to-via-then-refers_to, then-refers_to-via-else-refers_to+then-refers_to-2}

pub returns-in_err-a : goal.returns-in_err-a
returns-in_err-a c = let e = c.in_err-a.ensures.value in
    passed_on c.from_residual.result _ Malformed c.from_residual.ensures.0 c.from_residual.ensures.1 (λ f p. p ∙ why_not c.read_alone.result _ c.read_alone.ensures Malformed c.in_err-a.field-0.0 e)
    ∙ first_malformed c.args.first.now c.args.second.now (nothing_read c.read_alone.result _ c.read_alone.ensures Malformed c.in_err-a.field-0.0 e)

pub returns-in_err-b : goal.returns-in_err-b
returns-in_err-b c = let e = c.in_err-b.ensures.value in
    passed_on c.from_residual-in_err-b.result _ Malformed c.from_residual-in_err-b.ensures.0 c.from_residual-in_err-b.ensures.1 (λ f p. p ∙ why_not c.read_alone-2.result _ c.read_alone-2.ensures Malformed c.in_err-b.field-0.0 e)
    ∙ second_malformed c.args.first.now c.args.second.now (nothing_read c.read_alone-2.result _ c.read_alone-2.ensures Malformed c.in_err-b.field-0.0 e)

pub returns-then-refers_to : goal.returns-then-refers_to
returns-then-refers_to c = one_refers c.args.first.now c.args.second.now c.in_ok-a.a c.in_ok-b.b (was_read c.read_alone.result _ c.read_alone.ensures Malformed c.in_ok-a.a c.in_ok-a.ensures.value) (was_read c.read_alone-2.result _ c.read_alone-2.ensures Malformed c.in_ok-b.b c.in_ok-b.ensures.value)
    (elim c.then-refers_to.branch [
      | then-refers_to-via-then-refers_to w ↦ rw (← w.if-refers_to.ensures)
      | then-refers_to-via-else-refers_to+then-refers_to-2 w ↦ let h = w.if-refers_to-2.ensures in rw (← w.if-refers_to.ensures, ← h)
    ])

told : (c : After-templates_meet) → c.templates_meet.result ≡ meet (template_of (sought_by c.in_ok-a.a)) (template_of (sought_by c.in_ok-b.b))
told c =
    let x = sought_by c.in_ok-a.a in
    let y = sought_by c.in_ok-b.b in
    let p : template_is c.template_of.result ≡ template_of x = c.template_of.ensures.0 ∙ ap (λ bs. template bs x.0 x.1) c.no_vars.ensures in
    let q : template_is c.template_of-2.result ≡ template_of y = c.template_of-2.ensures.0 ∙ ap (λ bs. template bs y.0 y.1) c.no_vars-2.ensures in
    c.templates_meet.ensures ∙ (λ i. meet (p i) (q i))

pub returns : goal.returns
returns c =
    meets_told c.args.first.now c.args.second.now c.in_ok-a.a c.in_ok-b.b (was_read c.read_alone.result _ c.read_alone.ensures Malformed c.in_ok-a.a c.in_ok-a.ensures.value) (was_read c.read_alone-2.result _ c.read_alone-2.ensures Malformed c.in_ok-b.b c.in_ok-b.ensures.value)
    (let e = c.if-refers_to-2.ensures in rw (← c.if-refers_to.ensures, ← e)) c.templates_meet.result (told (goal.at.returns c).After-templates_meet)
