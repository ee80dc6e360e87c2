use Rattle.std.proofs.Common.{ap, sym, ◌∙◌, take, drop, map}
use Rattle.jdata.specs.Leaf.{atoms_in}
use Rattle.jdata.specs.Trees.{atom_of}
use Rattle.jdata.specs.declared.noun.Atom.TheVariants as atom
use Rattle.jdata.proofs.Lists.{range-map}
use Rattle.jsearch.proofs.cells.range_of.Goals as goal

pub returns-in-Int-clause-atoms : goal.returns-in-Int-clause-atoms
returns-in-Int-clause-atoms c =
    ap (map atom.Int) c.range.ensures ∙ range-map atom.Int c.args.start c.args.count c.in-Int.numbers.now
    ∙ ap (λ v. take c.args.count (drop c.args.start (atoms_in v))) (sym c.in-Int.is)

pub returns-in-Char-clause-atoms : goal.returns-in-Char-clause-atoms
returns-in-Char-clause-atoms c =
    ap (map atom.Char) c.range-in-Char.ensures ∙ range-map atom.Char c.args.start c.args.count c.in-Char.bytes.now
    ∙ ap (λ v. take c.args.count (drop c.args.start (atoms_in v))) (sym c.in-Char.is)

pub returns-in-Cell-clause-atoms : goal.returns-in-Cell-clause-atoms
returns-in-Cell-clause-atoms c =
    ap (map atom_of) c.range-in-Cell.ensures ∙ range-map atom_of c.args.start c.args.count c.in-Cell.cells.now
    ∙ ap (λ v. take c.args.count (drop c.args.start (atoms_in v))) (sym c.in-Cell.is)
