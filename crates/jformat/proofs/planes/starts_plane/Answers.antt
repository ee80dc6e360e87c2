use Rattle.std.proofs.Common.{◌<◌, arith}
use Rattle.jdata.specs.Noun.{product}
use Rattle.jformat.specs.Rows.{row_axes, last_axis}
use Rattle.jformat.proofs.Products.{some_right, rows_times_columns}
use Rattle.jformat.proofs.planes.starts_plane.Goals as goal

pub nonzero_rem-result : goal.nonzero_rem-result
nonzero_rem-result c =
    let axes = c.args.axes.now in
    let some : 0 < last_axis axes = some_right (product (row_axes axes)) (last_axis axes) (omega (arith, rows_times_columns axes, c.requires)) in
    omega (arith, some, c.last_axis.ensures)
