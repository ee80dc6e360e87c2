use Rattle.std.proofs.Common.{◌≡◌, ◌++◌, drop}
use Rattle.jeval.specs.Constants.{characters}
use Rattle.jeval.proofs.Splitting.{characters_on}
use Rattle.jeval.proofs.constants.characters.Given as goal

abbrev pub invariant-loop-byte : goal.invariant-loop-byte
invariant-loop-byte l = characters l.inside ≡ l.bytes.items ++ characters_on l.doubled (drop l.byte-index l.inside)
