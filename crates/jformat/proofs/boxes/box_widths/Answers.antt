use Rattle.jformat.specs.Boxes.{box_width}
use Rattle.jformat.proofs.Drawing.{mapped_more}
use Rattle.jformat.proofs.boxes.box_widths.Goals as goal

pub loop-column-preserved : goal.loop-column-preserved
loop-column-preserved c =
    mapped_more (box_width c.args.blocks.now c.args.rows c.args.columns) c.loop-column.column c.loop-column.widths.items c.push.new.self.items c.box_width.result c.loop-column.invariant c.in_ok-push.ensures.items c.box_width.ensures
