use Rattle.std.proofs.Common.{◌-◌, ◌<◌, length, arith}
use Rattle.jdata.specs.Noun.{product}
use Rattle.jformat.specs.Rows.{row_axes, last_axis}
use Rattle.jformat.proofs.Products.{first_part, some_right, rows_times_columns}
use Rattle.jformat.proofs.planes.blanks_before_row.Goals as goal

pub nonzero_rem-row : goal.nonzero_rem-row
nonzero_rem-row c =
    let axes = c.args.axes.now in
    let some : 0 < last_axis axes = some_right (product (row_axes axes)) (last_axis axes) (omega (arith, rows_times_columns axes, c.requires.some)) in
    omega (arith, some, c.last_axis-height.ensures)

pub nonzero_div-row : goal.nonzero_div-row
nonzero_div-row c =
    let axes = c.args.axes.now in
    let some : 0 < last_axis axes = some_right (product (row_axes axes)) (last_axis axes) (omega (arith, rows_times_columns axes, c.requires.some)) in
    omega (arith, some, c.last_axis-height.ensures)

pub blanks_before_plane-requires-clause-some : goal.blanks_before_plane-requires-clause-some
blanks_before_plane-requires-clause-some c =
    let axes = c.args.axes.now in
    rw c.row_axes.ensures (first_part (length axes - 1) axes c.requires.some).some

pub blanks_before_plane-requires-clause-within : goal.blanks_before_plane-requires-clause-within
blanks_before_plane-requires-clause-within c =
    let axes = c.args.axes.now in
    rw c.row_axes.ensures (omega (arith, (first_part (length axes - 1) axes c.requires.some).at_most, c.requires.within))
