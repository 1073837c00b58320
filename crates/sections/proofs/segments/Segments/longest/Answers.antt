use Rattle.std.proofs.Common.{◌≡◌, ℕ, max, List, [], ◌∷◌, refl, arith, rules}
use Rattle.std.specs.List.{fold, reduce}
use Rattle.std.specs.Option.{unwrap_or}
use Rattle.std.proofs.lemmas.Iterator.{YieldsList-from_slice}
use Rattle.std.proofs.lemmas.Iterator.Consumers.{YieldsList-at, YieldsList-from_copied, max_from_yields_List}
use Rattle.kinds.specs.SectionKinds.{largest}
use Rattle.sections.proofs.segments.Segments.longest.Goals as goal

-- the greatest of a number and those behind it
fold_largest : (x : ℕ) (xs : List ℕ) → fold max x xs ≡ max x (largest xs)
fold_largest x [] = omega arith
fold_largest x (y ∷ ys) = omega (arith, fold_largest (max x y) ys)

-- the greatest of all, or 0 where there is none
reduce_largest : (xs : List ℕ) → unwrap_or (reduce max xs) 0 ≡ largest xs
reduce_largest [] = refl
reduce_largest (x ∷ xs) = fold_largest x xs

pub returns : goal.returns
returns c =
    let found = max_from_yields_List c.copied.result c.max.result c.max.ensures.ran (YieldsList-from_copied (YieldsList-at c.copied.ensures.source (YieldsList-from_slice c.args.self.ticks.now cc))) in
    let all = reduce_largest c.args.self.ticks.now in
    search rules
