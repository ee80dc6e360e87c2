use Rattle.std.proofs.Common.{get_or, refl, arith}
use Rattle.jformat.proofs.Drawing.{content_more}
use Rattle.jformat.proofs.boxes.content_row.Goals as goal

pub loop-column-preserved : goal.loop-column-preserved
loop-column-preserved c =
    let j = c.loop-column.column in
    content_more c.args.widths.now c.args.blocks.now c.args.at j (get_or c.args.widths.now j 0) c.index-blocks-column.result c.row_of.result.now c.loop-column.row.items c.push_padded.new.out.items c.push-in-loop-column.new.self.items (omega arith) refl c.index-blocks-column.is c.row_of.ensures c.loop-column.invariant c.in_ok-push_padded.ensures c.in_ok-push-2.ensures.items
