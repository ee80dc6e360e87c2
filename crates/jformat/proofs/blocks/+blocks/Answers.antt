use Rattle.std.proofs.Common.{arith, ◌∙◌, sym, ap}
use Rattle.std.proofs.lemmas.Result.{IfOk-weaker}
use Rattle.jdata.specs.Noun.{atom_level}
use Rattle.jdata.specs.Trees.{atom_of}
use Rattle.jdata.proofs.Levels.{level_of_box}
use Rattle.jformat.specs.Rows.{block_of, boxed_rows}
use Rattle.jformat.proofs.Texts.{AreLeaves, rows_of_integers, rows_of_characters, rows_of_boxes, block_of_box, block_of_pyx}
use Rattle.jformat.proofs.Deep.{level_in, level_of_cells}
use Rattle.jformat.proofs.blocks.+blocks.Goals as goal

pub rows_of-blocks_of-requires : goal.rows_of-blocks_of-requires
rows_of-blocks_of-requires t c = (omega (arith, level_of_cells c.args.value.now _ _ _ c.items.ensures.atoms c.in-Cell.is c.items-in-Cell.ensures), tt)

pub blocks_of-block_of-requires : goal.blocks_of-block_of-requires
blocks_of-block_of-requires t c = (omega (arith, level_in _ _ _ c.loop-cell-test.true c.cell-item.is), tt)

pub block_of-rows_of-requires : goal.block_of-rows_of-requires
block_of-rows_of-requires t c = (omega (arith, level_of_box c.in-Boxed.content, ap (λ x. atom_level (atom_of x)) c.in-Boxed.is), tt)

pub rows_of-returns-in-Int : goal.rows_of-returns-in-Int
rows_of-returns-in-Int t c =
    let are : AreLeaves c.args.value.now c.items.result.now c.shape-axes.result.now = record { kind_is = c.items.ensures.kind; atoms_are = c.items.ensures.atoms; axes_are = c.shape-axes.ensures.value } in
    IfOk-weaker c.integer_rows.result _ _ (λ rows h. h ∙ rows_of_integers _ _ _ _ _ are c.in-Int.is c.items-in-Int.ensures) c.integer_rows.ensures

pub rows_of-returns-in-Char : goal.rows_of-returns-in-Char
rows_of-returns-in-Char t c =
    let are : AreLeaves c.args.value.now c.items.result.now c.shape-axes.result.now = record { kind_is = c.items.ensures.kind; atoms_are = c.items.ensures.atoms; axes_are = c.shape-axes.ensures.value } in
    IfOk-weaker c.character_rows.result _ _ (λ rows h. h ∙ rows_of_characters _ _ _ _ _ are c.in-Char.is c.items-in-Char.ensures) c.character_rows.ensures

pub rows_of-returns-in_ok-blocks-in-Cell : goal.rows_of-returns-in_ok-blocks-in-Cell
rows_of-returns-in_ok-blocks-in-Cell t c =
    let are : AreLeaves c.args.value.now c.items.result.now c.shape-axes.result.now = record { kind_is = c.items.ensures.kind; atoms_are = c.items.ensures.atoms; axes_are = c.shape-axes.ensures.value } in
    IfOk-weaker c.boxed_rows.result _ _
    (λ rows h. h ∙ ap (boxed_rows c.shape-axes.result.now) (c.as_slice.ensures.value ∙ c.in_ok-blocks-in-Cell.ensures) ∙ rows_of_boxes _ _ _ _ _ are c.in-Cell.is c.items-in-Cell.ensures)
    c.boxed_rows.ensures

pub block_of-returns-in-Boxed : goal.block_of-returns-in-Boxed
block_of-returns-in-Boxed t c =
    IfOk-weaker c.rows_of.result _ _ (λ rows h. h ∙ sym (block_of_box c.in-Boxed.content) ∙ ap (λ x. block_of (atom_of x)) (sym c.in-Boxed.is)) c.rows_of.ensures

pub block_of-returns-in-Pyx : goal.block_of-returns-in-Pyx
block_of-returns-in-Pyx t c = c.of.ensures ∙ c.new.ensures.items ∙ sym (block_of_pyx c.in-Pyx.field-0) ∙ ap (λ x. block_of (atom_of x)) (sym c.in-Pyx.is)
