-- Releases in a span of time: what it says of a job to be one of them, and a longer span has no fewer.
use Rattle.std.proofs.Common.{◌≡◌, ℕ, ◌+◌, ◌<◌, ◌≤◌, true, ◌&&◌, ltb, leb, List, arith}
use Rattle.std.proofs.lemmas.Bool.{and_parts, and_from, eqb-true, eq-eqb, leb-true, le-leb, ltb-true, lt-ltb}
use Rattle.days.specs.Jobs.{of_task}
use Rattle.days.specs.declared.job.Job.{Job}
use Rattle.days.proofs.Invariants.{in_span, released_in}
use Rattle.days.proofs.SumsOver.{count_le}

-- a job that counts in a span is of the task, and was released in the span
pub in_span_says : (k a d : ℕ) (j : Job) → in_span k a d j ≡ true → (j.task ≡ k) × (a ≤ j.release) × (j.release < a + d)
in_span_says k a d j counts =
    let outer = and_parts (of_task k j) (leb a j.release && ltb j.release (a + d)) counts in
    let inner = and_parts (leb a j.release) (ltb j.release (a + d)) outer.1 in
    (eqb-true j.task k outer.0, leb-true a j.release inner.0, ltb-true j.release (a + d) inner.1)

-- a job of the task that was released in a span counts in it
pub in_span_from : (k a d : ℕ) (j : Job) → j.task ≡ k → a ≤ j.release → j.release < a + d → in_span k a d j ≡ true
in_span_from k a d j same after before =
    and_from (of_task k j) (leb a j.release && ltb j.release (a + d)) (eq-eqb j.task k same)
    (and_from (leb a j.release) (ltb j.release (a + d)) (le-leb a j.release after) (lt-ltb j.release (a + d) before))

-- a longer span has no fewer releases
pub releases_longer : (k a d e : ℕ) (jobs : List Job) → d ≤ e → released_in k a d jobs ≤ released_in k a e jobs
releases_longer k a d e jobs longer =
    count_le (in_span k a d) (in_span k a e) jobs
    (λ j _ counts. let is = in_span_says k a d j counts in in_span_from k a e j is.0 is.1 (omega (arith, is.2)))
