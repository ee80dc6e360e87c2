use Rattle.jdata.proofs.Extents.{frame_is_shape}
use Rattle.jshape.proofs.shape.Shape.frame.Goals as goal

pub of-requires : goal.of-requires
of-requires c = frame_is_shape _ _ c.axes-axes.ensures.shape
