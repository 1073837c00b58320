use Rattle.std.proofs.Common.{◌+◌, ◌<◌, refl, arith, ap, ◌∙◌, set, vec_items}
use Rattle.model.specs.Analysis.{tasks}
use Rattle.timeline.specs.Timelines.{held_by}
use Rattle.timeline.proofs.ServeRules.{serve_absent, serve_answer, serve_changes}
use Rattle.timeline.proofs.state.Timeline.serve.Goals as goal

pub returns-in_default : goal.returns-in_default
returns-in_default g c =
    let m = g.P.Parts.meaning c.args.parts.now in
    let known : c.args.task < tasks m = omega (arith, c.if-task-tasks.false, c.tasks.ensures, ap (λ a. a.tasks) c.arrivals.ensures) in
    let none = rw c.as_slice.ensures.value at c.in_default.ensures in
    let absent = serve_absent m (held_by c.args.self.now) c.args.mark c.args.task known c.if-self-ge-LAST_TICK.false none in
    record { answer = rw (c.new-in_default.ensures) absent; left = refl }

pub returns-in-Some-obstacle : goal.returns-in-Some-obstacle
returns-in-Some-obstacle g c =
    let m = g.P.Parts.meaning c.args.parts.now in
    let known : c.args.task < tasks m = omega (arith, c.if-task-tasks.false, c.tasks.ensures, ap (λ a. a.tasks) c.arrivals.ensures) in
    let place = rw c.as_slice.ensures.value at c.in-Some.ensures in
    let answer = serve_answer m (held_by c.args.self.now) c.args.mark c.args.task known c.if-self-ge-LAST_TICK.false c.in-Some.place c.index.result.now place c.index.ensures in
    record { answer = rw (c.new-in-Some-obstacle.ensures) (rw (← c.in-Some-obstacle.ensures) at answer); left = refl }

pub returns : goal.returns
returns g c =
    let m = g.P.Parts.meaning c.args.parts.now in
    let known : c.args.task < tasks m = omega (arith, c.if-task-tasks.false, c.tasks.ensures, ap (λ a. a.tasks) c.arrivals.ensures) in
    let place = rw c.as_slice.ensures.value at c.in-Some.ensures in
    let answer = serve_answer m (held_by c.args.self.now) c.args.mark c.args.task known c.if-self-ge-LAST_TICK.false c.in-Some.place c.index.result.now place c.index.ensures in
    record {
      answer = rw (← c.in_default-obstacle.ensures) at answer;
      left =
          ap (λ jobs. record { now = c.args.self.now.now + 1; jobs = jobs })
          (ap (set (vec_items c.args.self.now.jobs) c.in-Some.place) c.serve.ensures
          ∙ serve_changes m (held_by c.args.self.now) c.args.mark c.args.task c.in-Some.place c.index_mut-job.result.now place c.index_mut-job.ensures.value);
    }
