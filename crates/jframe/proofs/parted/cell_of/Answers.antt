use Rattle.jdata.proofs.Arrays.{no_error}
use Rattle.jframe.proofs.Arrays.{range_made}
use Rattle.jframe.proofs.parted.cell_of.Goals as goal

pub unreachable-requires : goal.unreachable-requires
unreachable-requires c =
    let made = range_made _ _ _ _ _ c.in_ok-axes.axes.items c.in_ok-atoms.atoms c.requires.count c.requires.within c.requires.shape c.requires.levels
    c.in_ok-axes.ensures.items c.in_ok-atoms.ensures.kind c.in_ok-atoms.ensures.atoms in
    no_error _ _ _ _ c.new.ensures made c.in-Err.is
