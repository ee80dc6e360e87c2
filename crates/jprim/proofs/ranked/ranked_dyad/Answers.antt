use Rattle.std.proofs.Common.{Ok, Err}
use Rattle.jprim.proofs.OneCell.{one_pair_gives}
use Rattle.jprim.proofs.ranked.ranked_dyad.Goals as goal

pub returns-in-Ok : goal.returns-in-Ok
returns-in-Ok g c =
    let left = rw c.shape-left_axes.ensures.value at (c.is_one_cell.ensures c.if-not-is_one_cell.false) in
    let right = rw c.shape-right_axes.ensures.value at (c.is_one_cell-else-not-is_one_cell.ensures c.if-not-is_one_cell-2.false) in
    one_pair_gives c.args.left c.args.right g.V.WholeDyad.meant c.args.x.noun c.args.y.noun (Ok c.in-Ok.value) left right
    c.shape-left_axes.ensures.array c.shape-right_axes.ensures.array c.in-Ok.ensures c.shape-shape.ensures.array

pub returns-in-Err : goal.returns-in-Err
returns-in-Err g c =
    let left = rw c.shape-left_axes.ensures.value at (c.is_one_cell.ensures c.if-not-is_one_cell.false) in
    let right = rw c.shape-right_axes.ensures.value at (c.is_one_cell-else-not-is_one_cell.ensures c.if-not-is_one_cell-2.false) in
    one_pair_gives c.args.left c.args.right g.V.WholeDyad.meant c.args.x.noun c.args.y.noun (Err c.in-Err.trouble) left right
    c.shape-left_axes.ensures.array c.shape-right_axes.ensures.array c.in-Err.ensures tt
