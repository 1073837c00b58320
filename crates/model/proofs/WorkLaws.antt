-- What the laws say of the cost, the tail and the count of any task, absent ones too, and so of what releases can cost.
use Rattle.std.proofs.Common.{ℕ, ◌*◌, ◌≤◌, ⊎_elim, mul-le-mul, arith}
use Rattle.std.proofs.lemmas.Bool.{cases_lt}
use Rattle.model.specs.Arrivals.{ArrivalsMeaning, LawfulArrivals, last_length, most_releases}
use Rattle.model.specs.Sections.{SectionsMeaning, LawfulSections, most_cost}

-- no cost is above the greatest
pub cost_bounded : (m : SectionsMeaning) → LawfulSections m → (k : ℕ) → m.cost k ≤ most_cost
cost_bounded m laws k = ⊎_elim (laws.cost_bounded k) (λ past. omega (arith, laws.absent_cost k past)) (cases_lt k m.tasks)

-- nor is any tail
pub tail_bounded : (m : SectionsMeaning) → LawfulSections m → (k : ℕ) → m.tail k ≤ most_cost
tail_bounded m laws k =
    ⊎_elim (λ has. omega (arith, laws.tail_within k has, laws.cost_bounded k has)) (λ past. omega (arith, laws.absent_tail k past)) (cases_lt k m.tasks)

-- no count is above the greatest
pub count_bounded : (m : ArrivalsMeaning) → LawfulArrivals m → (k d : ℕ) → d ≤ last_length → m.count k d ≤ most_releases
count_bounded m laws k d short =
    ⊎_elim (λ has. laws.bounded k d has short) (λ past. omega (arith, laws.absent k d past short)) (cases_lt k m.tasks)

-- the greatest cost of the greatest count
abbrev pub most_work : ℕ
most_work = most_cost * most_releases

pub work_bounded : (a : ArrivalsMeaning) (s : SectionsMeaning) → LawfulArrivals a → LawfulSections s → (k d : ℕ) → d ≤ last_length → s.cost k * a.count k d ≤ most_work
work_bounded a s arrivals sections k d short = mul-le-mul (cost_bounded s sections k) (count_bounded a arrivals k d short)
