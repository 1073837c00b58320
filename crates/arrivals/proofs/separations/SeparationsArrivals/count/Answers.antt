use Rattle.std.proofs.iter.Serving.{serving}
use Rattle.rows.specs.Kept.{kept}
use Rattle.kinds.proofs.ArrivalLaws.{separation_positive}
use Rattle.kinds.proofs.RowLaws.{none_found}
use Rattle.arrivals.proofs.separations.SeparationsArrivals.count.Goals as goal

pub map_or-requires : goal.map_or-requires
map_or-requires c =
    let positive = separation_positive (kept c.args.self.now.rows) (none_found _ c.args.self.now.faultless) in
    grind serving
