-- The least length that meets a demand: what finding one or none says, and how two demands compare.
use Rattle.std.proofs.Common.{◌≡◌, ℕ, zero, suc, ◌+◌, ◌<◌, ◌≤◌, leb, ◌⊎◌, Some, None, Option, refl, ap, ◌∙◌, subst, inl, inr, ⊎_elim, arith}
use Rattle.std.proofs.lemmas.Bool.{cases_eq, cases_lt, cond_both, leb-true, leb-false}
use Rattle.model.specs.Least.{first_met, least, Unmet, NeverMet, Rises, LeastMet}

-- the search finds a least length, or none
abbrev pub Searched : (ℕ → ℕ) → ℕ → Type 0
Searched demand limit =
    ((d : ℕ) × (least demand limit ≡ Some d) × LeastMet demand limit d) ⊎ ((least demand limit ≡ None) × NeverMet demand limit)

-- what an answer of the search over n lengths says
abbrev Says : ℕ → ℕ → (ℕ → ℕ) → Option ℕ → Type 0
Says from n demand (Some d) = (from ≤ d) × (d < from + n) × (demand d ≤ d) × Unmet from d demand
Says from n demand None = Unmet from (from + n) demand

-- lengths are unmet if the first is, and those after it
unmet_first : (demand : ℕ → ℕ) (from to : ℕ) → from < demand from → Unmet (suc from) to demand → Unmet from to demand
unmet_first demand from to first after e low high =
    ⊎_elim (λ same. subst (λ x. x < demand x) same first) (λ other. after e (omega arith) high) (cases_eq from e)

-- an unmet length at the front
says_more : (demand : ℕ → ℕ) (from n : ℕ) (answer : Option ℕ) → from < demand from → Says (suc from) n demand answer → Says from (suc n) demand answer
says_more demand from n (Some d) first says = (omega arith, omega arith, says.2, unmet_first demand from d first says.3)
says_more demand from n None first says = unmet_first demand from (from + suc n) first (λ e low high. says e low (omega arith))

-- the search answers so
search_says : (demand : ℕ → ℕ) (n from : ℕ) → Says from n demand (first_met demand n from)
unfolding first_met
search_says demand zero from = omega arith
search_says demand (suc n) from =
    cond_both (leb (demand from) from) (Some from) (first_met demand n (suc from)) (Says from (suc n) demand)
    (λ met. (omega arith, omega arith, leb-true (demand from) from met, omega arith))
    (λ unmet. says_more demand from n (first_met demand n (suc from)) (leb-false (demand from) from unmet) (search_says demand n (suc from)))

module _ (demand : ℕ → ℕ) (limit : ℕ) where
  -- a length that is found is the least
  pub least_some : (d : ℕ) → least demand limit ≡ Some d → LeastMet demand limit d
  least_some d found =
      let says : Says 1 limit demand (Some d) = subst (Says 1 limit demand) found (search_says demand limit 1) in
      record { positive = says.0; within = omega arith; met = says.2; earlier = says.3 }

  -- where none is found, no length up to the limit is met
  pub least_none : least demand limit ≡ None → NeverMet demand limit
  least_none found e low high = subst (Says 1 limit demand) found (search_says demand limit 1) e low (omega arith)

  -- the search by its answer
  cases_of : (answer : Option ℕ) → least demand limit ≡ answer → Searched demand limit
  cases_of (Some d) found = inl (d, found, least_some d found)
  cases_of None found = inr (found, least_none found)

  -- the search does one of the two
  pub least_cases : Searched demand limit
  least_cases = cases_of (least demand limit) refl

  -- where no length up to the limit is met, none is found
  pub none_least : NeverMet demand limit → least demand limit ≡ None
  none_least never =
      ⊎_elim (λ some. absurd (let unmet = never some.0 some.2.positive some.2.within in omega (arith, some.2.met)))
      (λ none. none.0) least_cases

  -- no length that is met is below the least
  pub least_below : (l d : ℕ) → LeastMet demand limit l → 1 ≤ d → demand d ≤ d → l ≤ d
  least_below l d least positive met =
      ⊎_elim (λ below. omega (arith, least.earlier d positive below)) (λ above. above) (cases_lt d l)

  -- where a length is met, the search finds one that is no longer
  pub least_within : (d : ℕ) → 1 ≤ d → d ≤ limit → demand d ≤ d → (l : ℕ) × (least demand limit ≡ Some l) × (l ≤ d)
  least_within d positive within met =
      ⊎_elim (λ some. (some.0, some.1, least_below some.0 d some.2 positive met))
      (λ none. absurd (omega (arith, none.1 d positive within))) least_cases

  -- the least length is found
  pub some_least : (d : ℕ) → LeastMet demand limit d → least demand limit ≡ Some d
  some_least d l =
      let some = least_within d l.positive l.within l.met in
      let found = least_some some.0 some.1 in
      let same : some.0 ≡ d = omega (arith, some.2, least_below d some.0 l found.positive found.met) in
      some.1 ∙ ap Some same

-- a length from d on, below the demand at d, is not met if the demand never falls up to the limit
pub skipped : (demand : ℕ → ℕ) (limit : ℕ) → Rises demand limit → (d e : ℕ) → d ≤ e → e < demand d → e ≤ limit → e < demand e
skipped demand limit rises d e after below within = omega (arith, rises d e after within)

-- a demand that is nowhere greater has a least length that is no longer
pub least_lighter : (light heavy : ℕ → ℕ) (limit h : ℕ) → ((e : ℕ) → 1 ≤ e → e ≤ limit → light e ≤ heavy e) → least heavy limit ≡ Some h → (l : ℕ) × (least light limit ≡ Some l) × (l ≤ h)
least_lighter light heavy limit h lighter found =
    let l = least_some heavy limit h found in
    least_within light limit h l.positive l.within (omega (arith, lighter h l.positive l.within))
