use Rattle.jdata.proofs.Extents.{cell_is_shape}
use Rattle.jshape.proofs.shape.Shape.cell.Goals as goal

pub of-requires : goal.of-requires
of-requires c = cell_is_shape _ _ c.axes-axes.ensures.shape
