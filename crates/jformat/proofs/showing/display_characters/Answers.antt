use Rattle.std.proofs.Common.{◌≡◌, length, map, ap, sym, ◌∙◌, arith}
use Rattle.std.specs.List.{range_with_len, flat_map}
use Rattle.jdata.specs.Noun.{product}
use Rattle.jformat.specs.Rows.{row_axes, last_axis, character_row}
use Rattle.jformat.proofs.Products.{product_le_extent}
use Rattle.jformat.proofs.Ranges.{made_more}
use Rattle.jformat.proofs.Grid.{single}
use Rattle.jformat.proofs.Lines.{character_line, lines_of_spaced}
use Rattle.jformat.proofs.LaidOut.{IsLaidOut, rows_are_all, row_room, character_line_is}
use Rattle.jformat.proofs.showing.display_characters.Goals as goal

pub blanks_before_row-blanks-requires-clause-within :
    goal.blanks_before_row-blanks-requires-clause-within
blanks_before_row-blanks-requires-clause-within c = omega (arith, product_le_extent c.axes.result.now, c.axes.ensures.shape.extent_at_most)

pub atoms_of_row-requires : goal.atoms_of_row-requires
atoms_of_row-requires c =
    let laid : IsLaidOut c.args.axes.now c.in_ok-shape.shape c.product-rows.result c.last_axis-columns.result (length c.args.characters.now) = record { shape_is = c.in_ok-shape.ensures; rows_are = c.product-rows.ensures; columns_are = c.last_axis-columns.ensures; atoms_are = c.requires.whole } in
    row_room _ _ _ _ _ c.loop-row.row laid c.loop-row-test.true

pub loop-row-preserved : goal.loop-row-preserved
loop-row-preserved c =
    let laid : IsLaidOut c.args.axes.now c.in_ok-shape.shape c.product-rows.result c.last_axis-columns.result (length c.args.characters.now) = record { shape_is = c.in_ok-shape.ensures; rows_are = c.product-rows.ensures; columns_are = c.last_axis-columns.ensures; atoms_are = c.requires.whole } in
    let line = character_line_is c.args.axes.now c.in_ok-shape.shape c.axes.result.now c.args.characters.now c.atoms_of_row.result.now c.product-rows.result c.last_axis-columns.result c.loop-row.row c.blanks_before_row-blanks.result laid c.loop-row-test.true c.axes.ensures.axes c.blanks_before_row-blanks.ensures c.atoms_of_row.ensures in
    made_more (character_line c.args.axes.now c.args.characters.now) c.loop-row.row c.loop-row.out.items _ c.push_character_line.new.out.items c.loop-row.invariant c.in_ok-push_character_line.ensures line

pub returns : goal.returns
returns c =
    let laid : IsLaidOut c.args.axes.now c.in_ok-shape.shape c.product-rows.result c.last_axis-columns.result (length c.args.characters.now) = record { shape_is = c.in_ok-shape.ensures; rows_are = c.product-rows.ensures; columns_are = c.last_axis-columns.ensures; atoms_are = c.requires.whole } in
    let axes = c.args.axes.now in
    let end : c.loop-row.row ≡ product (row_axes axes) = omega (arith, rows_are_all _ _ _ _ _ laid) in
    c.loop-row.invariant ∙ ap (λ n. flat_map (character_line axes c.args.characters.now) (range_with_len 0 n)) end
    ∙ sym (lines_of_spaced (row_axes axes) (character_row (map single c.args.characters.now) (last_axis axes)))
