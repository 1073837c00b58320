use Rattle.std.proofs.Common.{◌+◌, ◌-◌, sym, ap, ◌∙◌}
use Rattle.model.proofs.ResponseLaws.{response_later, response_passed, response_never}
use Rattle.analysis.proofs.bounds.response.Goals as goal

pub returns-in-Some : goal.returns-in-Some
returns-in-Some g c =
    ap (λ tail. c.in-Some.ready + tail - 1 - c.args.offset) (c.tail.ensures ∙ ap (λ s. s.tail c.args.task) c.sections.ensures)
    ∙ sym (response_later _ _ c.args.offset c.in-Some.ready (sym c.in-Some.ensures.value) c.if-ready-offset.true)

pub returns-in_default : goal.returns-in_default
returns-in_default g c = sym (response_passed _ _ c.args.offset c.in-Some.ready (sym c.in-Some.ensures.value) c.if-ready-offset.false)

pub returns-in_default-2 : goal.returns-in_default-2
returns-in_default-2 g c = sym (response_never _ _ c.args.offset (sym c.in_default.ensures.value))
