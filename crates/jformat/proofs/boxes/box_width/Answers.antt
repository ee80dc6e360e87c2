use Rattle.std.proofs.Common.{rules, ◌≡◌, max}
use Rattle.jformat.proofs.Drawing.{box_wider}
use Rattle.jformat.proofs.boxes.box_width.Goals as goal

pub loop-row-preserved : goal.loop-row-preserved
loop-row-preserved c =
    let most : c.max-width.result ≡ max c.loop-row.width c.widest.result = search rules in
    box_wider c.args.blocks.now c.index-blocks-row.result c.items.result.now c.args.rows c.args.columns c.args.column c.loop-row.row c.widest.result c.loop-row.width c.max-width.result c.requires.room c.requires.within c.loop-row-test.true c.index-blocks-row.is c.items.ensures c.widest.ensures most c.loop-row.invariant
