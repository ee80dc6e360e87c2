use Rattle.std.proofs.Common.{◌≡◌, ◌++◌, map, take}
use Rattle.jdata.specs.declared.noun.Atom.TheVariants as atom
use Rattle.jsearch.specs.Codes.{atom_code, joined}
use Rattle.jsearch.proofs.codes.push_characters.Given as goal

abbrev pub invariant-loop-byte : goal.invariant-loop-byte
invariant-loop-byte l = l.into.items ≡ l.fn.into.items ++ joined (map atom_code (map atom.Char (take l.byte-index l.bytes)))
