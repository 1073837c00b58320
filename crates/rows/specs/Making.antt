-- What a making answers.
-- Cited by the makings of the listed kinds.
use Rattle.std.specs.Prelude.{◌≡◌, Some, None, Option, Result, MatchResult}
use Rattle.model.specs.declared.fault.Fault.{Fault}

-- what is made, and P of it, where what is given has no fault, and else the fault
abbrev pub MakesUnlessFault : {S : Type 0} → Result S Fault → Option Fault → (S → Type 0) → Type 0
MakesUnlessFault result found P = MatchResult result (λ s. P s × (found ≡ None)) (λ f. found ≡ Some f)
