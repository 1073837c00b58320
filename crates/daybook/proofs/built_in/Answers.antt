use Rattle.std.proofs.Common.{vec_items, ap, ◌∙◌}
use Rattle.rows.specs.Kept.{kept}
use Rattle.daybook.proofs.Judged.{built_in_judged}
use Rattle.daybook.proofs.built_in.Goals as goal

pub returns : goal.returns
returns c =
    let draft = c.new-4.result in
    let same = c.new-4.ensures in
    built_in_judged (vec_items draft.deadlines) (kept draft.parts.arrivals.rows) (kept draft.parts.order.rows) (kept draft.parts.sections.rows) _ _ _
    (ap vec_items same.deadlines ∙ c.requires)
    (ap (λ part. kept part.rows) same.arrivals ∙ c.in_ok-arrivals.ensures.0)
    (ap (λ part. kept part.rows) same.order ∙ c.in_ok-order.ensures.0 ∙ c.as_slice.ensures.value ∙ c.requires)
    (ap (λ part. kept part.rows) same.sections ∙ c.in_ok-sections.ensures.0)
    c.judge.ensures.sheet
