-- Crowding: a release that crowds no span from a release of its task to now crowds no span at all.
use Rattle.std.proofs.Common.{◌≡◌, ℕ, ◌+◌, ◌-◌, ◌<◌, ◌≤◌, Bool, true, false, ◌&&◌, eqb, leb, List, Some, refl, ap, subst, ⊎_elim, arith}
use Rattle.std.specs.List.{find}
use Rattle.std.proofs.lemmas.Bool.{eqb-true, eq-eqb, leb-true, le-leb, ltb-false, and_parts, and_from, cases_Bool}
use Rattle.std.proofs.lemmas.List.Sums.{sum_by_push}
use Rattle.model.specs.Analysis.{Parts, tasks}
use Rattle.model.specs.Arrivals.{last_length}
use Rattle.model.specs.Tables.{Lawful}
use Rattle.days.specs.Jobs.{of_task, new_job}
use Rattle.days.specs.Rules.{State, after, releases, crowding}
use Rattle.days.specs.declared.command.Command.TheVariants.{Release}
use Rattle.days.specs.declared.job.Job.{Job}
use Rattle.days.proofs.Members.{In}
use Rattle.days.proofs.Invariants.{in_span, released_in, Sorted, Sound}
use Rattle.days.proofs.MemberLaws.{first_in, any_first, some_any, push_new}
use Rattle.days.proofs.SortedLaws.{sorted_push, first_earliest}
use Rattle.days.proofs.Spans.{in_span_says}
use Rattle.days.proofs.SumsOver.{one_if, count_le}

-- a release of task k from tick a on
abbrev from_tick : ℕ → ℕ → Job → Bool
from_tick k a j = of_task k j && leb a j.release

-- a release in a span from tick a on is one from tick a on
span_from : (k a d : ℕ) (j : Job) → in_span k a d j ≡ true → from_tick k a j ≡ true
span_from k a d j counted =
    let is = in_span_says k a d j counted in
    and_from (of_task k j) (leb a j.release) (eq-eqb j.task k is.0) (le-leb a j.release is.1)

-- from a release to now, where that span is not crowded, there are no more releases than the arrival curve allows
uncrowded_releases : (m : Parts) (tick k : ℕ) (jobs : List Job) (j : Job) → j.task ≡ k → crowding m tick k jobs j ≡ false → releases k j.release jobs ≤ m.arrivals.count k (tick - j.release + 1)
uncrowded_releases m tick k jobs j same uncrowded =
    ltb-false (m.arrivals.count k (tick - j.release + 1)) (releases k j.release jobs) (rw (eq-eqb j.task k same) at uncrowded)

-- the new job comes last in the order of release
pub released_sorted : (m : Parts) (s : State) (k : ℕ) → Sound m s → Sorted (after s (Release k)).jobs
released_sorted m s k sound = sorted_push s.jobs (new_job k s.now) sound.sorted sound.past

module _ (m : Parts) (lawful : Lawful m) (s : State) (k : ℕ) (has : k < tasks m) (sound : Sound m s)
    (uncrowded : (j : Job) → In j (after s (Release k)).jobs → crowding m s.now k (after s (Release k)).jobs j ≡ false) where
  -- the jobs with the new one
  abbrev with_new : List Job
  with_new = (after s (Release k)).jobs

  -- from tick a on, the releases of the task are those from its first one on, which are not too many
  few_from : (a d : ℕ) → d ≤ last_length → a ≤ s.now → s.now < a + d → (y : Job) → find (from_tick k a) with_new ≡ Some y → released_in k a d with_new ≤ m.arrivals.count k d
  few_from a d last begun before y found =
      let there = first_in (from_tick k a) with_new y found in
      let tests = and_parts (of_task k y) (leb a y.release) there.1 in
      let fewer = count_le (in_span k a d) (from_tick k y.release) with_new (λ j within counted. from_first j within (span_from k a d j counted)) in
      let few = uncrowded_releases m s.now k with_new y (eqb-true y.task k tests.0) (uncrowded y there.0) in
      let after-a = leb-true a y.release tests.1 in
      omega (arith, lawful.arrivals.rises k (s.now - y.release + 1) d has (omega arith) last)
    where
      -- a release from tick a on is one from the first such release on
      from_first : (j : Job) → In j with_new → from_tick k a j ≡ true → from_tick k y.release j ≡ true
      from_first j within passes =
          and_from (of_task k j) (leb y.release j.release) (and_parts (of_task k j) (leb a j.release) passes).0
          (le-leb y.release j.release (first_earliest (from_tick k a) with_new y (released_sorted m s k sound) found j within passes))

  -- a span that holds the new release shrinks to one that starts at a release of the task and ends now
  shrinks : (a d : ℕ) → d ≤ last_length → a ≤ s.now → s.now < a + d → released_in k a d with_new ≤ m.arrivals.count k d
  shrinks a d last begun before =
      let new = new_job k s.now in
      let passes = and_from (eqb k k) (leb a s.now) (eq-eqb k k refl) (le-leb a s.now begun) in
      let found = any_first (from_tick k a) with_new (some_any (from_tick k a) with_new new (push_new s.jobs new) passes) in
      few_from a d last begun before found.0 found.1

  -- No span of time has more releases than the arrival curve allows.
  pub released_curve : (i a d : ℕ) → i < tasks m → d ≤ last_length → released_in i a d with_new ≤ m.arrivals.count i d
  released_curve i a d known last =
      ⊎_elim
      (λ counted. let is = in_span_says i a d (new_job k s.now) counted in
      subst (λ n. released_in n a d with_new ≤ m.arrivals.count n d) is.0 (shrinks a d last is.1 is.2))
      (λ outside. let more = sum_by_push (λ j. one_if (in_span i a d j)) s.jobs (new_job k s.now) in
      let nothing : one_if (in_span i a d (new_job k s.now)) ≡ 0 = ap (λ b. one_if b) outside in
      omega (arith, sound.curve i a d known last))
      (cases_Bool (in_span i a d (new_job k s.now)))
