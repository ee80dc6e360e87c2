use Rattle.std.proofs.Common.{ap, ◌∙◌}
use Rattle.std.proofs.lemmas.Result.{IfOk-weaker}
use Rattle.jdata.specs.Leaf.{atoms_in}
use Rattle.jdata.specs.Trees.{atom_of}
use Rattle.jdata.specs.declared.noun.Atom.TheVariants as atom
use Rattle.jstruct.proofs.Repeating.{seen_again}
use Rattle.jstruct.proofs.shaping.again.Goals as goal

pub returns-in-Int-clause-atoms : goal.returns-in-Int-clause-atoms
returns-in-Int-clause-atoms c = λ d.
    IfOk-weaker c.items_again.result _ _
    (λ l e. e ∙ seen_again atom.Int c.in-Int.numbers.now (atoms_in c.args.atoms) d c.args.size (ap atoms_in c.in-Int.is))
    (c.items_again.ensures.atoms d)

pub returns-in-Char-clause-atoms : goal.returns-in-Char-clause-atoms
returns-in-Char-clause-atoms c = λ d.
    IfOk-weaker c.items_again-in-Char.result _ _
    (λ l e. e ∙ seen_again atom.Char c.in-Char.bytes.now (atoms_in c.args.atoms) d c.args.size (ap atoms_in c.in-Char.is))
    (c.items_again-in-Char.ensures.atoms d)

pub returns-in-Cell-clause-atoms : goal.returns-in-Cell-clause-atoms
returns-in-Cell-clause-atoms c = λ d.
    IfOk-weaker c.items_again-in-Cell.result _ _
    (λ l e. e ∙ seen_again atom_of c.in-Cell.cells.now (atoms_in c.args.atoms) d c.args.size (ap atoms_in c.in-Cell.is))
    (c.items_again-in-Cell.ensures.atoms d)
