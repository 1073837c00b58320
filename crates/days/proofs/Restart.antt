-- In any state all of whose jobs were released before now: where no job over a level is unfinished, its busy window
-- begins anew.
use Rattle.std.proofs.Common.{◌≡◌, ◌<◌, ◌≤◌, Bool, true, false, ◌&&◌, leb, ⊎_elim, arith}
use Rattle.std.specs.List.{list_any}
use Rattle.std.proofs.lemmas.Bool.{cases_Bool, both_ways, and_from, and_left, and_right, lt-leb, ne_eqb}
use Rattle.model.specs.Analysis.{Parts, tasks}
use Rattle.model.specs.Sums.{when}
use Rattle.model.specs.Tables.{Lawful}
use Rattle.model.specs.declared.released.Released.{Released}
use Rattle.days.specs.Jobs.{held, unfinished}
use Rattle.days.specs.Rules.{State}
use Rattle.days.specs.declared.job.Job.{Job}
use Rattle.days.proofs.Members.{In}
use Rattle.days.proofs.Invariants.{Sound, Blocker, Busy, Level, over, since_over}
use Rattle.days.proofs.MemberLaws.{any_none, none_any}
use Rattle.days.proofs.SumsOver.{sum_none}

module _ (m : Parts) where
  -- an unfinished job over the level
  abbrev pub unended_over : Released → Job → Bool
  unended_over v j = over m v j && unfinished j

  -- where no job is unfinished, no unfinished one is over a level
  pub none_over : (v : Released) (s : State) → list_any unfinished s.jobs ≡ false → list_any (unended_over v) s.jobs ≡ false
  none_over v s none =
      none_any (unended_over v) s.jobs (λ j member. and_right (over m v j) (unfinished j) (any_none unfinished s.jobs none j member))

module _ (m : Parts) (lawful : Lawful m) (order_tasks : m.order.tasks ≡ m.arrivals.tasks)
    (s : State) (sound : Sound m s) (v : Released) (has : v.task < tasks m) (later : s.now ≤ v.at)
    (past : (j : Job) → In j s.jobs → j.release < s.now) where
  -- a held job that is not over the level blocks it
  blocks_now : (l : Job) → In l s.jobs → held l ≡ true → over m v l ≡ false → Blocker m v 0 l
  blocks_now l member is_held_lem below =
      let ordered : (v.task < m.order.tasks) × (l.task < m.order.tasks) = omega (arith, sound.known l member) in
      let before : l.release < v.at = omega (arith, past l member) in
      record {
        blocks = lawful.order.blocks_behind v.task l.task l.release v.at ordered.0 ordered.1 before below;
        other = ne_eqb l.task v.task (λ same. both_ways (over m v l) below (rw same (lawful.order.own_task v.task l.release v.at ordered.0 (omega arith))));
        longer = (sound.held_since l member is_held_lem).0;
      }

  -- a busy window of no ticks
  restart : list_any (unended_over m v) s.jobs ≡ false → Busy m v s s.now 0
  restart none =
      let nothing = sum_none (λ j. when (since_over m s.now v j) j.received) s.jobs (λ j member.
      rw (and_left (leb s.now j.release) (over m v j) (lt-leb s.now j.release (past j member)))) in
      record {
        begun = omega arith;
        earlier_ended = λ j member is earlier.
            ⊎_elim (λ unended. absurd (both_ways (unended_over m v j) (any_none (unended_over m v) s.jobs none j member) (and_from (over m v j) (unfinished j) is unended)))
            (λ ended. ended) (cases_Bool (unfinished j));
        account = omega arith;
        within_blocked = omega arith;
        blocker = blocks_now;
      }

  -- The level begins anew.
  pub restarted : list_any (unended_over m v) s.jobs ≡ false → Level m v s
  restarted none = record { start = s.now; lost = 0; busy = restart none; demanded = λ d positive short. absurd (omega arith) }
