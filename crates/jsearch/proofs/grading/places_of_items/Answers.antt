use Rattle.std.proofs.Common.{ap, ◌∙◌, length}
use Rattle.std.proofs.lemmas.List.{length-map}
use Rattle.jdata.specs.Leaf.{kind_in, atoms_in}
use Rattle.jdata.specs.Trees.{atom_of}
use Rattle.jsearch.proofs.Graded.{integers_have_order, characters_have_order}
use Rattle.jsearch.proofs.grading.places_of_items.Goals as goal

pub returns-in-Int : goal.returns-in-Int
returns-in-Int c = λ y has k these. c.places_of_integers.ensures y has (integers_have_order y (k ∙ ap kind_in c.in-Int.is)) (these ∙ ap atoms_in c.in-Int.is)

pub returns-in-Char : goal.returns-in-Char
returns-in-Char c = λ y has k these. c.places_of_characters.ensures y has (characters_have_order y (k ∙ ap kind_in c.in-Char.is)) (these ∙ ap atoms_in c.in-Char.is)

pub returns-in-Cell : goal.returns-in-Cell
returns-in-Cell c = λ y has k these. c.places_of_boxes.ensures y has (k ∙ ap kind_in c.in-Cell.is) (ap length (these ∙ ap atoms_in c.in-Cell.is) ∙ length-map c.in-Cell.cells.now atom_of)
