use Rattle.std.proofs.Common.{◌≡◌, ◌++◌, map, take}
use Rattle.jdata.specs.declared.noun.Atom.TheVariants as atom
use Rattle.jsearch.specs.Codes.{atom_code, joined}
use Rattle.jsearch.proofs.codes.push_integers.Given as goal

abbrev pub invariant-loop-number : goal.invariant-loop-number
invariant-loop-number l = l.into.items ≡ l.fn.into.items ++ joined (map atom_code (map atom.Int (take l.number-index l.numbers)))
