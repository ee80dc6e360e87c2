use Rattle.std.proofs.Common.{◌≤◌, ◌*◌, refl, length, map, ap, sym, ◌∙◌, arith}
use Rattle.jdata.specs.Noun.{product}
use Rattle.jdata.specs.Limits.{checked}
use Rattle.jnumber.specs.Spelling.{written}
use Rattle.jformat.specs.Rows.{row_axes, last_axis}
use Rattle.jformat.specs.Format.{integer_text}
use Rattle.jformat.proofs.Products.{product_le_extent}
use Rattle.jformat.proofs.LaidOut.{IsLaidOut, room}
use Rattle.jformat.proofs.Sizes.{text_fits, few_widths}
use Rattle.jformat.proofs.Limits.{refused, checked_ok, checked_err}
use Rattle.jformat.proofs.Formatted.{text_axes_are, text_is}
use Rattle.jformat.proofs.formatting.format_integers.Goals as goal

pub column_widths-requires : goal.column_widths-requires
column_widths-requires c =
    let laid : IsLaidOut c.args.axes.now c.in_ok-row_shape.row_shape c.product-rows.result c.last_axis-columns.result (length c.args.numbers.now) = record { shape_is = c.in_ok-row_shape.ensures; rows_are = c.product-rows.ensures; columns_are = c.last_axis-columns.ensures; atoms_are = c.requires.whole } in
    omega (arith, room _ _ _ _ _ laid)

pub row_width-width-requires : goal.row_width-width-requires
row_width-width-requires c =
    let laid : IsLaidOut c.args.axes.now c.in_ok-row_shape.row_shape c.product-rows.result c.last_axis-columns.result (length c.args.numbers.now) = record { shape_is = c.in_ok-row_shape.ensures; rows_are = c.product-rows.ensures; columns_are = c.last_axis-columns.ensures; atoms_are = c.requires.whole } in
    let few : length c.as_slice.result.now ≤ c.product-rows.result * c.last_axis-columns.result = few_widths c.args.numbers.now c.product-rows.result c.last_axis-columns.result c.as_slice.result.now (c.as_slice.ensures.value ∙ c.in_ok-widths.ensures) in
    omega (arith, few, room _ _ _ _ _ laid, product_le_extent c.args.axes.now, c.requires.shape.extent_at_most, c.requires.whole)

pub text_of_rows-requires-clause-room : goal.text_of_rows-requires-clause-room
text_of_rows-requires-clause-room c =
    let laid : IsLaidOut c.args.axes.now c.in_ok-row_shape.row_shape c.product-rows.result c.last_axis-columns.result (length c.args.numbers.now) = record { shape_is = c.in_ok-row_shape.ensures; rows_are = c.product-rows.ensures; columns_are = c.last_axis-columns.ensures; atoms_are = c.requires.whole } in
    omega (arith, room _ _ _ _ _ laid)

pub returns-in-Err : goal.returns-in-Err
returns-in-Err c =
    let laid : IsLaidOut c.args.axes.now c.in_ok-row_shape.row_shape c.product-rows.result c.last_axis-columns.result (length c.args.numbers.now) = record { shape_is = c.in_ok-row_shape.ensures; rows_are = c.product-rows.ensures; columns_are = c.last_axis-columns.ensures; atoms_are = c.requires.whole } in
    let axes = text_axes_are c.args.axes.now c.in_ok-row_shape.row_shape c.axes.result.now c.args.numbers.now c.as_slice.result.now c.product-rows.result c.last_axis-columns.result c.row_width-width.result laid c.axes.ensures.axes (c.as_slice.ensures.value ∙ c.in_ok-widths.ensures) c.row_width-width.ensures in
    refused (integer_text c.args.axes.now (map written c.args.numbers.now)) _ c.in-Err.trouble axes c.in-Err.ensures.err

pub returns-in-Ok-new : goal.returns-in-Ok-new
returns-in-Ok-new c =
    let laid : IsLaidOut c.args.axes.now c.in_ok-row_shape.row_shape c.product-rows.result c.last_axis-columns.result (length c.args.numbers.now) = record { shape_is = c.in_ok-row_shape.ensures; rows_are = c.product-rows.ensures; columns_are = c.last_axis-columns.ensures; atoms_are = c.requires.whole } in
    let axes = text_axes_are c.args.axes.now c.in_ok-row_shape.row_shape c.axes.result.now c.args.numbers.now c.as_slice.result.now c.product-rows.result c.last_axis-columns.result c.row_width-width.result laid c.axes.ensures.axes (c.as_slice.ensures.value ∙ c.in_ok-widths.ensures) c.row_width-width.ensures in
    let text = text_is c.args.axes.now c.in_ok-row_shape.row_shape c.args.numbers.now c.product-rows.result c.last_axis-columns.result c.in-Ok.shape.items c.of.result c.in_ok-text.text.items laid (c.in-Ok.ensures.ok ∙ axes) c.of.ensures c.in_ok-text.ensures in
    checked_ok (integer_text c.args.axes.now (map written c.args.numbers.now)) c.in-Ok-new.tree (ap checked (sym text) ∙ sym c.in-Ok-new.ensures)

pub returns : goal.returns
returns c =
    let laid : IsLaidOut c.args.axes.now c.in_ok-row_shape.row_shape c.product-rows.result c.last_axis-columns.result (length c.args.numbers.now) = record { shape_is = c.in_ok-row_shape.ensures; rows_are = c.product-rows.ensures; columns_are = c.last_axis-columns.ensures; atoms_are = c.requires.whole } in
    let axes = text_axes_are c.args.axes.now c.in_ok-row_shape.row_shape c.axes.result.now c.args.numbers.now c.as_slice.result.now c.product-rows.result c.last_axis-columns.result c.row_width-width.result laid c.axes.ensures.axes (c.as_slice.ensures.value ∙ c.in_ok-widths.ensures) c.row_width-width.ensures in
    let text = text_is c.args.axes.now c.in_ok-row_shape.row_shape c.args.numbers.now c.product-rows.result c.last_axis-columns.result c.in-Ok.shape.items c.of.result c.in_ok-text.text.items laid (c.in-Ok.ensures.ok ∙ axes) c.of.ensures c.in_ok-text.ensures in
    checked_err (integer_text c.args.axes.now (map written c.args.numbers.now)) c.in-Err-new.field-0 (text_fits c.args.axes.now (map written c.args.numbers.now) (product (row_axes c.args.axes.now)) (last_axis c.args.axes.now) refl) (ap checked (sym text) ∙ sym c.in-Err-new.ensures)
