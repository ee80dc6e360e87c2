use Rattle.std.proofs.Common.{◌∙◌, sym, ap, map}
use Rattle.jdata.specs.Noun.{greatest, atom_level}
use Rattle.jdata.specs.Trees.{atoms_of}
use Rattle.jdata.proofs.Levels.{level_of_ints, level_of_chars}
use Rattle.jdata.proofs.tree.Leaves.level.Goals as goal

pub returns-in-Int : goal.returns-in-Int
returns-in-Int c = sym (ap (λ l. greatest (map atom_level (atoms_of l))) c.in-Int.is ∙ level_of_ints _)

pub returns-in-Char : goal.returns-in-Char
returns-in-Char c = sym (ap (λ l. greatest (map atom_level (atoms_of l))) c.in-Char.is ∙ level_of_chars _)
