use Rattle.std.proofs.Common.{◌≡◌, ◌++◌, ◌∷◌, length, pos, map, take}
use Rattle.jsearch.proofs.codes.push_pyx.Given as goal

abbrev pub invariant-loop-part : goal.invariant-loop-part
invariant-loop-part l = l.into.items ≡ l.fn.into.items ++ pos 3 ∷ pos l.name.number ∷ pos (length l.name.path) ∷ map pos (take l.part-index l.parts)
