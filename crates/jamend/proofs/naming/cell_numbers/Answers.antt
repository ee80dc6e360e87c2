use Rattle.std.proofs.Common.{ap, ◌∙◌}
use Rattle.jdata.specs.Leaf.{atoms_in}
use Rattle.jamend.specs.Naming as meant
use Rattle.jamend.proofs.Boxes.{by_integers, by_characters}
use Rattle.jamend.proofs.naming.cell_numbers.Goals as goal

pub returns-in-Int : goal.returns-in-Int
returns-in-Int c = ap (λ a. meant.cell_numbers c.args.axes.now (atoms_in a)) c.in-Int.is ∙ by_integers c.args.axes.now c.in-Int.field-0.now

pub returns-in-Char : goal.returns-in-Char
returns-in-Char c = ap (λ a. meant.cell_numbers c.args.axes.now (atoms_in a)) c.in-Char.is ∙ by_characters c.args.axes.now c.in-Char.field-0.now
