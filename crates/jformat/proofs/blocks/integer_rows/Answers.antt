use Rattle.std.proofs.Common.{length, ◌∙◌, arith}
use Rattle.jformat.proofs.Products.{product_le_extent}
use Rattle.jformat.proofs.Ranges.{made_more}
use Rattle.jformat.proofs.LaidOut.{IsLaidOut, room, row_room, widths_match}
use Rattle.jformat.proofs.Placed.{integer_piece, integer_piece_is}
use Rattle.jformat.proofs.blocks.integer_rows.Goals as goal

pub column_widths-requires : goal.column_widths-requires
column_widths-requires c =
    let laid : IsLaidOut c.args.axes.now c.in_ok-shape.shape c.product-rows.result c.last_axis-columns.result (length c.args.numbers.now) = record { shape_is = c.in_ok-shape.ensures; rows_are = c.product-rows.ensures; columns_are = c.last_axis-columns.ensures; atoms_are = c.requires.whole } in
    omega (arith, room _ _ _ _ _ laid)

pub blanks_before_row-blanks-requires-clause-within : goal.blanks_before_row-blanks-requires-clause-within
blanks_before_row-blanks-requires-clause-within c = omega (arith, product_le_extent c.axes.result.now, c.axes.ensures.shape.extent_at_most)

pub atoms_of_row-numbers-requires : goal.atoms_of_row-numbers-requires
atoms_of_row-numbers-requires c =
    let laid : IsLaidOut c.args.axes.now c.in_ok-shape.shape c.product-rows.result c.last_axis-columns.result (length c.args.numbers.now) = record { shape_is = c.in_ok-shape.ensures; rows_are = c.product-rows.ensures; columns_are = c.last_axis-columns.ensures; atoms_are = c.requires.whole } in
    row_room _ _ _ _ _ c.loop-row.row laid c.loop-row-test.true

pub integer_row-requires : goal.integer_row-requires
integer_row-requires c =
    let laid : IsLaidOut c.args.axes.now c.in_ok-shape.shape c.product-rows.result c.last_axis-columns.result (length c.args.numbers.now) = record { shape_is = c.in_ok-shape.ensures; rows_are = c.product-rows.ensures; columns_are = c.last_axis-columns.ensures; atoms_are = c.requires.whole } in
    widths_match c.args.numbers.now c.atoms_of_row-numbers.result.now c.as_slice.result.now c.product-rows.result c.last_axis-columns.result c.loop-row.row c.loop-row-test.true (row_room _ _ _ _ _ c.loop-row.row laid c.loop-row-test.true) (c.as_slice.ensures.value ∙ c.in_ok-widths.ensures) c.atoms_of_row-numbers.ensures

pub loop-row-preserved : goal.loop-row-preserved
loop-row-preserved c =
    let laid : IsLaidOut c.args.axes.now c.in_ok-shape.shape c.product-rows.result c.last_axis-columns.result (length c.args.numbers.now) = record { shape_is = c.in_ok-shape.ensures; rows_are = c.product-rows.ensures; columns_are = c.last_axis-columns.ensures; atoms_are = c.requires.whole } in
    let this = integer_piece_is c.args.axes.now c.in_ok-shape.shape c.axes.result.now c.args.numbers.now c.atoms_of_row-numbers.result.now c.as_slice.result.now c.in_ok-text.text.items c.product-rows.result c.last_axis-columns.result c.loop-row.row c.blanks_before_row-blanks.result laid c.loop-row-test.true c.axes.ensures.axes c.blanks_before_row-blanks.ensures (c.as_slice.ensures.value ∙ c.in_ok-widths.ensures) c.atoms_of_row-numbers.ensures c.in_ok-text.ensures in
    made_more (integer_piece c.args.axes.now c.args.numbers.now) c.loop-row.row c.loop-row.out.items _ c.push_row.new.out.items c.loop-row.invariant c.in_ok-push_row.ensures this
