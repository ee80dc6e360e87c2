use Rattle.std.proofs.Common.{◌≡◌, drop, max}
use Rattle.jformat.specs.Boxes.{highest}
use Rattle.jformat.proofs.boxes.highest.Given as goal

abbrev pub invariant-loop-block : goal.invariant-loop-block
invariant-loop-block l = max l.height (highest (drop l.block-index l.blocks)) ≡ highest l.blocks
