use Rattle.std.proofs.Common.{length, arith}
use Rattle.jformat.proofs.Products.{product_le_extent}
use Rattle.jformat.proofs.Ranges.{made_more}
use Rattle.jformat.proofs.LaidOut.{IsLaidOut, row_room}
use Rattle.jformat.proofs.Placed.{character_piece, character_piece_is}
use Rattle.jformat.proofs.blocks.character_rows.Goals as goal

pub blanks_before_row-blanks-requires-clause-within : goal.blanks_before_row-blanks-requires-clause-within
blanks_before_row-blanks-requires-clause-within c = omega (arith, product_le_extent c.axes.result.now, c.axes.ensures.shape.extent_at_most)

pub atoms_of_row-requires : goal.atoms_of_row-requires
atoms_of_row-requires c =
    let laid : IsLaidOut c.args.axes.now c.in_ok-shape.shape c.product-rows.result c.last_axis-columns.result (length c.args.characters.now) = record { shape_is = c.in_ok-shape.ensures; rows_are = c.product-rows.ensures; columns_are = c.last_axis-columns.ensures; atoms_are = c.requires.whole } in
    row_room _ _ _ _ _ c.loop-row.row laid c.loop-row-test.true

pub loop-row-preserved : goal.loop-row-preserved
loop-row-preserved c =
    let laid : IsLaidOut c.args.axes.now c.in_ok-shape.shape c.product-rows.result c.last_axis-columns.result (length c.args.characters.now) = record { shape_is = c.in_ok-shape.ensures; rows_are = c.product-rows.ensures; columns_are = c.last_axis-columns.ensures; atoms_are = c.requires.whole } in
    let this = character_piece_is c.args.axes.now c.in_ok-shape.shape c.axes.result.now c.args.characters.now c.atoms_of_row.result.now c.in_ok-text.text.items c.product-rows.result c.last_axis-columns.result c.loop-row.row c.blanks_before_row-blanks.result laid c.loop-row-test.true c.axes.ensures.axes c.blanks_before_row-blanks.ensures c.atoms_of_row.ensures c.in_ok-text.ensures.items in
    made_more (character_piece c.args.axes.now c.args.characters.now) c.loop-row.row c.loop-row.out.items _ c.push_row.new.out.items c.loop-row.invariant c.in_ok-push_row.ensures this
