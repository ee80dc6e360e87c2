use Rattle.std.proofs.Common.{length, ◌∙◌, arith}
use Rattle.jformat.proofs.Products.{product_le_extent}
use Rattle.jformat.proofs.Ranges.{made_more}
use Rattle.jformat.proofs.LaidOut.{IsLaidOut, room, row_room}
use Rattle.jformat.proofs.Placed.{box_piece, box_piece_is, boxes_beside}
use Rattle.jformat.proofs.blocks.boxed_rows.Goals as goal

pub box_widths-requires : goal.box_widths-requires
box_widths-requires c =
    let laid : IsLaidOut c.args.axes.now c.in_ok-shape.shape c.product-rows.result c.last_axis-columns.result (length c.args.blocks.now) = record { shape_is = c.in_ok-shape.ensures; rows_are = c.product-rows.ensures; columns_are = c.last_axis-columns.ensures; atoms_are = c.requires.whole } in
    omega (arith, room _ _ _ _ _ laid)

pub atoms_of_row-beside-requires : goal.atoms_of_row-beside-requires
atoms_of_row-beside-requires c =
    let laid : IsLaidOut c.args.axes.now c.in_ok-shape.shape c.product-rows.result c.last_axis-columns.result (length c.args.blocks.now) = record { shape_is = c.in_ok-shape.ensures; rows_are = c.product-rows.ensures; columns_are = c.last_axis-columns.ensures; atoms_are = c.requires.whole } in
    row_room _ _ _ _ _ c.loop-row.row laid c.loop-row-test.true

pub push_row_of_boxes-requires-clause-within : goal.push_row_of_boxes-requires-clause-within
push_row_of_boxes-requires-clause-within c = omega (arith, product_le_extent c.axes.result.now, c.axes.ensures.shape.extent_at_most)

pub push_row_of_boxes-requires-clause-beside : goal.push_row_of_boxes-requires-clause-beside
push_row_of_boxes-requires-clause-beside c =
    let laid : IsLaidOut c.args.axes.now c.in_ok-shape.shape c.product-rows.result c.last_axis-columns.result (length c.args.blocks.now) = record { shape_is = c.in_ok-shape.ensures; rows_are = c.product-rows.ensures; columns_are = c.last_axis-columns.ensures; atoms_are = c.requires.whole } in
    boxes_beside c.args.blocks.now c.atoms_of_row-beside.result.now c.as_slice.result.now c.product-rows.result c.last_axis-columns.result c.loop-row.row (row_room _ _ _ _ _ c.loop-row.row laid c.loop-row-test.true) (c.as_slice.ensures.value ∙ c.in_ok-widths.ensures) c.atoms_of_row-beside.ensures

pub loop-row-preserved : goal.loop-row-preserved
loop-row-preserved c =
    let laid : IsLaidOut c.args.axes.now c.in_ok-shape.shape c.product-rows.result c.last_axis-columns.result (length c.args.blocks.now) = record { shape_is = c.in_ok-shape.ensures; rows_are = c.product-rows.ensures; columns_are = c.last_axis-columns.ensures; atoms_are = c.requires.whole } in
    let this = box_piece_is c.args.axes.now c.in_ok-shape.shape c.axes.result.now c.args.blocks.now c.atoms_of_row-beside.result.now c.as_slice.result.now c.product-rows.result c.last_axis-columns.result c.loop-row.row laid c.axes.ensures.axes (c.as_slice.ensures.value ∙ c.in_ok-widths.ensures) c.atoms_of_row-beside.ensures in
    made_more (box_piece c.args.axes.now c.args.blocks.now) c.loop-row.row c.loop-row.out.items _ c.push_row_of_boxes.new.out.items c.loop-row.invariant c.in_ok-push_row_of_boxes.ensures this
