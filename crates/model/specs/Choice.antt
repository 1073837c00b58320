-- What may be there or not: the first of two, and what is said of it.
-- Cited wherever something is looked for.
use Rattle.std.specs.Prelude.{Some, None, Option}

infixr 30 ◌or_else◌
-- the first of two, if there is any
abbrev pub ◌or_else◌ : {X : Type 0} → Option X → Option X → Option X
◌or_else◌ (Some f) later = Some f
◌or_else◌ None later = later

-- what is said of the value, or `otherwise` where there is none
abbrev pub if_some : {X Y : Type 0} → Option X → Y → (X → Y) → Y
if_some None otherwise says = otherwise
if_some (Some x) otherwise says = says x
