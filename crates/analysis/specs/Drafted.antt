-- What a draft means: its deadlines, and what its parts mean.
-- Cited by the contract of judging.
use Rattle.std.specs.Prelude.{vec_items}
use Rattle.model.specs.Analysis.{Parts}
use Rattle.model.specs.Tables.{Table}
use Rattle.analysis.specs.declared.draft.Draft.{Draft}

abbrev pub drafted : {P : Type 0} → (P → Parts) → Draft P → Table
drafted meaning draft = record { deadlines = vec_items draft.deadlines; parts = meaning draft.parts }
