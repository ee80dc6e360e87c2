use Rattle.std.proofs.Common.{Ok, Err}
use Rattle.jprim.proofs.OneCell.{one_cell_gives}
use Rattle.jprim.proofs.ranked.ranked_monad.Goals as goal

pub returns-in-Ok : goal.returns-in-Ok
returns-in-Ok g c =
    let none = rw c.shape-axes.ensures.value at (c.is_one_cell.ensures c.if-not-is_one_cell.false) in
    one_cell_gives c.args.rank g.V.WholeMonad.meant c.args.y.noun (Ok c.in-Ok.value) none c.shape-axes.ensures.array c.in-Ok.ensures c.shape-shape.ensures.array

pub returns-in-Err : goal.returns-in-Err
returns-in-Err g c =
    let none = rw c.shape-axes.ensures.value at (c.is_one_cell.ensures c.if-not-is_one_cell.false) in
    one_cell_gives c.args.rank g.V.WholeMonad.meant c.args.y.noun (Err c.in-Err.trouble) none c.shape-axes.ensures.array c.in-Err.ensures tt
