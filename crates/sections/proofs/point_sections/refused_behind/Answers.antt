use Rattle.std.proofs.Common.{◌≡◌, ℕ, zero, suc, ◌==◌, not, cond, nat_lt, List, [], ◌∷◌, refl, arith, rules}
use Rattle.std.specs.List.{find}
use Rattle.std.specs.Option.{option_map}
use Rattle.std.proofs.lemmas.Iterator.{YieldsList-from_slice}
use Rattle.std.proofs.lemmas.Iterator.Search.{find_from_yields_List}
use Rattle.std.proofs.lemmas.Bool.Decides.{nat_tests}
use borrow.Author.Tests.{tests}
use Rattle.model.specs.Sections.{most_cost}
use Rattle.model.specs.declared.fault.Refusal.TheVariants.{Range, Order}
use Rattle.kinds.specs.SectionKinds.{number_behind}
use Rattle.sections.proofs.point_sections.refused_behind.Goals as goal

-- the first number that is not 0 is what is refused
first_behind : (xs : List ℕ) → number_behind xs ≡ option_map (λ x. cond (nat_lt most_cost x) Range Order) (find (λ x. not (x == 0)) xs)
first_behind [] = refl
first_behind (zero ∷ xs) = first_behind xs
first_behind (suc x ∷ xs) = grind (arith, nat_tests)

pub returns : goal.returns
returns c =
    let found = find_from_yields_List (λ x. not (x == 0)) _ _ c.find.result c.find.ensures.ran (YieldsList-from_slice c.args.numbers.now cc) (λ x b q k. search (rules, tests)) in
    let first = first_behind c.args.numbers.now in
    grind (arith, nat_tests)
