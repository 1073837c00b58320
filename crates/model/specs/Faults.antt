-- The number and word of each refusal and of each part.
-- Cited by every call that refuses.
use Rattle.std.specs.Prelude.{ℕ, List, codes}
use Rattle.model.specs.declared.fault.Fault.{Fault}
use Rattle.model.specs.declared.fault.Part.{Part}
use Rattle.model.specs.declared.fault.Part.TheVariants.{Arrivals, Order, Sections, Table, Book}
use Rattle.model.specs.declared.fault.Refusal.{Refusal}
use Rattle.model.specs.declared.fault.Refusal.TheVariants as refusal

abbrev pub number : Refusal → ℕ
number refusal.Size = 1
number refusal.Range = 2
number refusal.Order = 3
number refusal.Overload = 4
number refusal.Late = 5
number refusal.Unfit = 6
number refusal.Unread = 7
number refusal.Full = 8
number refusal.Crowd = 9
number refusal.Absent = 10
number refusal.Held = 11
number refusal.Behind = 12
number refusal.Section = 13

abbrev pub word : Refusal → List ℕ
word refusal.Size = codes "size"
word refusal.Range = codes "range"
word refusal.Order = codes "order"
word refusal.Overload = codes "overload"
word refusal.Late = codes "late"
word refusal.Unfit = codes "unfit"
word refusal.Unread = codes "unread"
word refusal.Full = codes "full"
word refusal.Crowd = codes "crowd"
word refusal.Absent = codes "absent"
word refusal.Held = codes "held"
word refusal.Behind = codes "behind"
word refusal.Section = codes "section"

abbrev pub part_number : Part → ℕ
part_number Arrivals = 1
part_number Order = 2
part_number Sections = 3
part_number Table = 4
part_number Book = 5

abbrev pub part_word : Part → List ℕ
part_word Arrivals = codes "arrivals"
part_word Order = codes "order"
part_word Sections = codes "sections"
part_word Table = codes "table"
part_word Book = codes "book"

-- the task of a fault that means none
abbrev pub no_task : ℕ
no_task = 255

abbrev pub fault : Refusal → Part → ℕ → Fault
fault r p k = record { refusal = r; part = p; task = k }
