use Rattle.std.proofs.Common.{sym, subst, ap, ◌∙◌, length, arith, ◌≤◌}
use Rattle.std.proofs.lemmas.List.{length-map}
use Rattle.jdata.specs.Answers.{Answers}
use Rattle.jdata.specs.Leaf.{kind_in, atoms_in}
use Rattle.jdata.specs.Trees.{atom_of}
use Rattle.jdata.specs.declared.noun.Atom.TheVariants as atom
use Rattle.jdata.proofs.Arrays.{few_atoms}
use Rattle.jarray.specs.Placed.{noun_in}
use Rattle.jboxes.proofs.Wording.{worded_text, is_text, integers_are_no_text, boxes_are_no_text}
use Rattle.jboxes.proofs.texts.words_of.Goals as goal

pub words_in-requires : goal.words_in-requires
words_in-requires c =
    let many = ap length (sym c.leaf.ensures.atoms ∙ ap atoms_in c.in-Char.is) in
    let same = length-map c.in-Char.text.now atom.Char in
    let few = few_atoms c.args.y.now.noun c.shape-axes.ensures.array in
    omega (arith, many, same, few)

pub returns-in-Char : goal.returns-in-Char
returns-in-Char c =
    let y = c.args.y.now.noun in
    subst (λ m. Answers m (noun_in c.words_in.result))
    (worded_text y c.in-Char.text.now (sym c.leaf.ensures.atoms ∙ ap atoms_in c.in-Char.is) (is_text y (sym c.leaf.ensures.kind ∙ ap kind_in c.in-Char.is)))
    c.words_in.ensures

pub returns-in-Int : goal.returns-in-Int
returns-in-Int c =
    let y = c.args.y.now.noun in
    let these = sym c.leaf.ensures.atoms ∙ ap atoms_in c.in-Int.is in
    let many = ap length these ∙ length-map c.in-Int.numbers.now atom.Int in
    c.words_of_others.ensures y many (λ some. integers_are_no_text y (sym c.leaf.ensures.kind ∙ ap kind_in c.in-Int.is) (omega (arith, many, some)))

pub returns-in-Cell : goal.returns-in-Cell
returns-in-Cell c =
    let y = c.args.y.now.noun in
    let these = sym c.leaf.ensures.atoms ∙ ap atoms_in c.in-Cell.is in
    let many = ap length these ∙ length-map c.in-Cell.cells.now atom_of in
    c.words_of_others-in-Cell.ensures y many (λ some. boxes_are_no_text y (sym c.leaf.ensures.kind ∙ ap kind_in c.in-Cell.is) (omega (arith, many, some)))
