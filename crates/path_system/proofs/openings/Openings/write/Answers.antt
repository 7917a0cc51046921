-- One row is written.
use Rattle.std.proofs.Common.{◌<◌, length, ap, arith, vec_capacity}
use Rattle.std.proofs.lemmas.List.{length-map}
use Rattle.path_system.specs.Inner.Openings.{Row}
use Rattle.path_system.proofs.Rows.{row_written}
use Rattle.path_system.proofs.openings.Openings.write.Goals as goal

pub returns : goal.returns
returns g c =
    let rows = c.self.inside.rows.items in
    let within : c.args.resource.0 < length rows = omega (arith, c.requires.row, ap length c.self.view_is, length-map {B = Row} rows (λ row. record { numbers = row.items; places = vec_capacity row })) in
    rw (← c.self.view_is) (row_written (λ row. record { numbers = row.items; places = vec_capacity row }) rows c.args.resource.0 c.index_mut.result.now c.write_contents.new.row _ within
    c.index_mut.ensures.value c.write_contents.ensures.numbers c.write_contents.ensures.places)
