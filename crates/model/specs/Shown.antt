-- What is printed of a fault: number and word of the refusal, number and name of the part, and the task.
-- Cited by the `Display` of a fault.
use Rattle.std.specs.Prelude.{ℕ, List, ◌++◌, codes, decimal}
use Rattle.model.specs.Faults.{number, word, part_number, part_word}
use Rattle.model.specs.declared.fault.Fault.{Fault}

abbrev pub shown_fault : Fault → List ℕ
shown_fault f =
    decimal (number f.refusal) ++ (codes " " ++ (word f.refusal ++ (codes ", part " ++ (decimal (part_number f.part) ++ (codes " " ++ (part_word f.part ++ (codes ", task " ++ decimal f.task)))))))
