use Rattle.std.proofs.Common.{subst, sym}
use Rattle.jdata.specs.Limits.{IsShape}
use Rattle.jdata.proofs.Extents.{frame_is_shape}
use Rattle.jsearch.proofs.finding.numbers_for.Goals as goal

pub integers-requires-clause-shape : goal.integers-requires-clause-shape
integers-requires-clause-shape c =
    subst IsShape (sym c.in_ok-axes.ensures.items) (frame_is_shape c.args.cells.frame c.args.cells.axes.now c.requires.array.within)
