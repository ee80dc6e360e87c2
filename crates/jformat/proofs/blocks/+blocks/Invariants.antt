use Rattle.std.proofs.Common.{◌≡◌, ◌+◌, ◌*◌, map, take}
use Rattle.jdata.specs.Noun.{level, atom_level}
use Rattle.jdata.specs.Trees.{atom_of}
use Rattle.jdata.proofs.Levels.{greatest_of}
use Rattle.jformat.specs.Rows.{block_of}
use Rattle.jformat.proofs.blocks.+blocks.Given as goal

-- the levels of boxes that are left
abbrev pub decreases-rows_of : goal.decreases-rows_of
decreases-rows_of l = 3 * level l.value.now + 2

abbrev pub decreases-blocks_of : goal.decreases-blocks_of
decreases-blocks_of l = 3 * greatest_of l.cells.now + 1

abbrev pub decreases-block_of : goal.decreases-block_of
decreases-block_of l = 3 * atom_level (atom_of l.cell.now)

abbrev pub invariant-blocks_of-loop-cell : goal.invariant-blocks_of-loop-cell
invariant-blocks_of-loop-cell l = l.blocks.items ≡ map block_of (map atom_of (take l.cell-index l.cells))
