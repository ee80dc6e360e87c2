use Rattle.std.proofs.Common.{◌≡◌, take}
use Rattle.jexplicit.specs.Meant.{kinds}
use Rattle.jexplicit.proofs.defining.kinds_of.Given as goal

abbrev pub invariant-loop-part : goal.invariant-loop-part
invariant-loop-part l = l.kinds.items ≡ kinds (take l.part-index l.parts)
