use Rattle.std.proofs.Common.{◌≡◌, ℕ, ◌-◌, List, [], ◌∷◌, length, refl, ap, ◌∙◌, arith, rules}
use Rattle.std.specs.List.{slice_get}
use Rattle.std.specs.Option.{unwrap_or}
use Rattle.kinds.specs.SectionKinds.{final}
use Rattle.sections.proofs.segments.Segments.last.Goals as goal

-- the last of a number and those behind it
last_behind : (x : ℕ) (xs : List ℕ) → final x xs ≡ unwrap_or (slice_get (x ∷ xs) (length xs)) 0
last_behind x [] = refl
last_behind x (y ∷ ys) = last_behind y ys

-- the last number stands at the last place
last_place : (xs : List ℕ) → final 0 xs ≡ unwrap_or (slice_get xs (length xs - 1)) 0
last_place [] = refl
last_place (x ∷ xs) = last_behind x xs ∙ ap (λ n. unwrap_or (slice_get (x ∷ xs) n) 0) (omega arith)

pub returns : goal.returns
returns c = let at-end = last_place c.args.self.ticks.now in search rules
