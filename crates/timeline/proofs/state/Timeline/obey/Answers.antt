use Rattle.timeline.proofs.state.Timeline.obey.Goals as goal

pub returns-in-Idle : goal.returns-in-Idle
returns-in-Idle g c = rw c.in-Idle.is (c.idle.ensures (g.P.Parts.meaning c.args.parts.now))
