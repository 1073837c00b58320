use Rattle.std.proofs.Common.{vec_items, arith}
use Rattle.timeline.proofs.OneMore.{crowds_more}
use Rattle.timeline.proofs.state.Timeline.is_crowded.Goals as goal

pub returns : goal.returns
returns g c =
    let t = c.args.self.now in
    let more = crowds_more (g.P.Parts.meaning c.args.parts.now) (vec_items t.jobs) c.args.task t.now (omega (arith, t.short)) (λ n d within. omega (arith, t.past n d within)) in
    rw more (rw c.as_slice.ensures.value at c.is_crowded.ensures)
