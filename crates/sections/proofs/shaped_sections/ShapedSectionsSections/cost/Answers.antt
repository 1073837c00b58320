use Rattle.std.proofs.Common.{◌≡◌, None, arith}
use Rattle.std.proofs.lemmas.Grind.{common_steps}
use Rattle.kinds.specs.SectionKinds.{sections_fault}
use Rattle.model.specs.declared.fault.Part.TheVariants.{Sections}
use Rattle.kinds.proofs.RowLaws.{making_accepted, none_found}
use Rattle.rows.specs.Kept.{kept}
use Rattle.sections.proofs.shaped_sections.ShapedSectionsSections.cost.Goals as goal

-- no row that is kept is refused
pub returns : goal.returns
returns g c =
    let rows = kept c.args.self.now.rows in
    let none : sections_fault g.K.RowShape.refuses rows ≡ None = rw (← g.K.RowShape.finds rows) (none_found _ c.args.self.now.faultless) in
    let accepted = making_accepted g.K.RowShape.refuses Sections rows none c.args.task in
    rw (g.K.RowShape.shapes rows) (grind (arith, common_steps, accepted))
