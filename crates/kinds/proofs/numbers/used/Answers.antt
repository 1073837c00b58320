use Rattle.std.proofs.Common.{◌≡◌, ℕ, zero, suc, ◌==◌, not, List, [], ◌∷◌, refl, rules, arith}
use Rattle.std.specs.List.{position_or_len, before_first}
use Rattle.std.proofs.lemmas.List.{take_all}
use Rattle.std.proofs.lemmas.List.Sums.{take_while-cons}
use Rattle.std.proofs.lemmas.Iterator.{YieldsList-from_slice}
use Rattle.std.proofs.lemmas.Iterator.Search.{position_from_yields_List}
use Rattle.std.proofs.lemmas.Bool.Decides.{nat_tests}
use borrow.Author.Tests.{tests}
use Rattle.kinds.specs.Numbers.{used}
use Rattle.kinds.proofs.numbers.used.Goals as goal

-- the used numbers are those before the first 0
used_before : (xs : List ℕ) → before_first (λ x. x == 0) xs ≡ used xs
used_before [] = refl
used_before (zero ∷ xs) = refl
used_before (suc x ∷ xs) = let before = used_before xs in let first = take_while-cons (λ n. not (n == 0)) (suc x) xs in grind (arith, nat_tests)

pub returns-in-Some-clause-value : goal.returns-in-Some-clause-value
returns-in-Some-clause-value c =
    let found = position_from_yields_List (λ x. x == 0) _ _ c.position.result c.position.ensures.ran (YieldsList-from_slice c.args.row.now cc) (λ x b q k. search (rules, tests)) in
    let before = used_before c.args.row.now in
    grind (arith, nat_tests)

pub returns-in-None-clause-value : goal.returns-in-None-clause-value
returns-in-None-clause-value c =
    let found = position_from_yields_List (λ x. x == 0) _ _ c.position.result c.position.ensures.ran (YieldsList-from_slice c.args.row.now cc) (λ x b q k. search (rules, tests)) in
    let before = used_before c.args.row.now in
    let whole = take_all (position_or_len (λ x. x == 0) c.args.row.now) c.args.row.now in
    grind (arith, nat_tests)
