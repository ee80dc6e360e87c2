use Rattle.std.proofs.Common.{◌≡◌, map}
use Rattle.jdata.specs.Trees.{atom_of}
use Rattle.jboxes.specs.Monads.{content_of}
use Rattle.jboxes.proofs.contents.contents.Given as goal

abbrev pub invariant-loop-cell : goal.invariant-loop-cell
invariant-loop-cell l = l.trees.items ≡ map content_of (map atom_of l.yielded)
