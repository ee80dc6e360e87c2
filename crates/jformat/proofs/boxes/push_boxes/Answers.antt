use Rattle.jformat.specs.Boxes.{content_row}
use Rattle.jformat.proofs.Drawing.{rows_more}
use Rattle.jformat.proofs.boxes.push_boxes.Goals as goal

pub loop-at-preserved : goal.loop-at-preserved
loop-at-preserved c =
    rows_more (content_row c.args.widths.now c.args.blocks.now) c.loop-at.at c.if-is_first.out.items c.loop-at.out.items c.push-in-loop-at.new.self.items c.in_ok-content_row.field-0 c.loop-at.invariant c.in_ok-push-2.ensures.items c.in_ok-content_row.ensures
