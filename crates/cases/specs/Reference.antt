-- The reference cases, worked out by hand: counts of the listed arrivals, and the sheets of seven tables.
-- Cited by `reference_cases`, which has them proved.
use Rattle.std.specs.Prelude.{◌≡◌, ℕ, List, [], ◌∷◌, map, None}
use Rattle.kinds.specs.ArrivalKinds.{separated, stepped, delayed}
use Rattle.kinds.specs.OrderKinds.{fixed_priority, earliest_deadline}
use Rattle.kinds.specs.SectionKinds.{open_sections, shut_sections, floating_sections, points_sections}
use Rattle.kinds.specs.declared.FloatingTask.{FloatingTask}
use Rattle.model.specs.Arrivals.{ArrivalsMeaning}
use Rattle.model.specs.Order.{OrderMeaning}
use Rattle.model.specs.Sections.{SectionsMeaning}
use Rattle.model.specs.Tables.{Table, verdict, sheet_window, sheet_bound}

-- the counts of task 0 at some lengths
abbrev pub counts : ArrivalsMeaning → List ℕ → List ℕ
counts m lengths = map (m.count 0) lengths

-- a table of two tasks
abbrev pub two_tasks : List ℕ → ArrivalsMeaning → OrderMeaning → SectionsMeaning → Table
two_tasks deadlines arrivals order sections = record { deadlines = deadlines; parts = record { arrivals = arrivals; order = order; sections = sections } }

-- an accepted table of two tasks, with these windows and these bounds
pub record Sheet (t : Table) (windows bounds : List ℕ) : Type 0 where
  pub accepted : verdict t ≡ None
  pub windows_so : map (sheet_window t) (0 ∷ 1 ∷ []) ≡ windows
  pub bounds_so : map (sheet_bound t) (0 ∷ 1 ∷ []) ≡ bounds

-- deadlines that nothing comes near
abbrev pub far : List ℕ
far = 1000 ∷ 1000 ∷ []

-- task 0 is the more urgent
abbrev pub first_goes_first : OrderMeaning
first_goes_first = fixed_priority (2 ∷ 1 ∷ [])

abbrev pub floating : ℕ → ℕ → FloatingTask
floating cost longest = record { cost = cost; longest = longest }

-- a points row of two segments
abbrev pub two_points : ℕ → ℕ → List ℕ
two_points x y = x ∷ y ∷ 0 ∷ 0 ∷ 0 ∷ 0 ∷ 0 ∷ 0 ∷ []

pub record ReferenceCases : Type 0 where
  -- separation 4
  pub separation : counts (separated (4 ∷ [])) (0 ∷ 1 ∷ 4 ∷ 5 ∷ []) ≡ 0 ∷ 1 ∷ 1 ∷ 2 ∷ []
  -- steps: repeat length 10, entries 1 and 3
  pub steps : counts (stepped (10 ∷ 1 ∷ 3 ∷ 0 ∷ 0 ∷ 0 ∷ 0 ∷ 0 ∷ 0 ∷ [])) (2 ∷ 3 ∷ 10 ∷ 11 ∷ 13 ∷ []) ≡ 1 ∷ 2 ∷ 2 ∷ 3 ∷ 4 ∷ []
  -- a delay of 3 over separation 4
  pub delay : counts (delayed (3 ∷ []) (separated (4 ∷ []))) (0 ∷ 1 ∷ 2 ∷ []) ≡ 0 ∷ 1 ∷ 2 ∷ []
  -- costs 2 and 3, separations 4 and 12, fully preemptive, under earliest deadline first
  pub deadline_first : Sheet (two_tasks (4 ∷ 7 ∷ []) (separated (4 ∷ 12 ∷ [])) (earliest_deadline (4 ∷ 7 ∷ [])) (open_sections (2 ∷ 3 ∷ []))) (7 ∷ 7 ∷ []) (3 ∷ 6 ∷ [])
  -- the same under fixed priority
  pub urgency_first : Sheet (two_tasks far (separated (4 ∷ 12 ∷ [])) first_goes_first (open_sections (2 ∷ 3 ∷ []))) (2 ∷ 7 ∷ []) (2 ∷ 7 ∷ [])
  -- costs 2 and 5, separations 10 and 20, fixed priority: no interruption
  pub shut : Sheet (two_tasks far (separated (10 ∷ 20 ∷ [])) first_goes_first (shut_sections (2 ∷ 5 ∷ []))) (6 ∷ 7 ∷ []) (6 ∷ 7 ∷ [])
  -- with points: one segment of 2, and segments of 3 and 2
  pub points : Sheet (two_tasks far (separated (10 ∷ 20 ∷ [])) first_goes_first (points_sections (two_points 2 0 ∷ two_points 3 2 ∷ []))) (4 ∷ 7 ∷ []) (4 ∷ 7 ∷ [])
  -- with floating stretches of 1 and 3
  pub floats : Sheet (two_tasks far (separated (10 ∷ 20 ∷ [])) first_goes_first (floating_sections (floating 2 1 ∷ floating 5 3 ∷ []))) (4 ∷ 7 ∷ []) (4 ∷ 7 ∷ [])
  -- costs 1 and 2, separations 2 and 10, fixed priority, fully preemptive
  pub full_cost : Sheet (two_tasks far (separated (2 ∷ 10 ∷ [])) first_goes_first (open_sections (1 ∷ 2 ∷ []))) (1 ∷ 4 ∷ []) (1 ∷ 4 ∷ [])
