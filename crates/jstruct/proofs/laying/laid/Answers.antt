use Rattle.std.proofs.Common.{ap, sym, ◌∙◌}
use Rattle.std.proofs.lemmas.Result.{IfOk-weaker}
use Rattle.jdata.specs.Fills.{fill_of}
use Rattle.jdata.specs.Leaf.{kind_in, atoms_in}
use Rattle.jstruct.specs.Layouts.{laid}
use Rattle.jstruct.proofs.laying.laid.Goals as goal

pub returns-in-Int-clause-atoms : goal.returns-in-Int-clause-atoms
returns-in-Int-clause-atoms c =
    IfOk-weaker c.laid_items.result _ _ (λ l e. e ∙ ap (λ v. laid (fill_of (kind_in v)) c.args.layouts.now c.args.axes.now (atoms_in v)) (sym c.in-Int.is)) c.laid_items.ensures.atoms

pub returns-in-Char-clause-atoms : goal.returns-in-Char-clause-atoms
returns-in-Char-clause-atoms c =
    IfOk-weaker c.laid_items-in-Char.result _ _ (λ l e. e ∙ ap (λ v. laid (fill_of (kind_in v)) c.args.layouts.now c.args.axes.now (atoms_in v)) (sym c.in-Char.is)) c.laid_items-in-Char.ensures.atoms

pub returns-in-Cell-clause-atoms : goal.returns-in-Cell-clause-atoms
returns-in-Cell-clause-atoms c =
    IfOk-weaker c.laid_items-in-Cell.result _ _ (λ l e. e ∙ ap (λ v. laid (fill_of (kind_in v)) c.args.layouts.now c.args.axes.now (atoms_in v)) (sym c.in-Cell.is)) c.laid_items-in-Cell.ensures.atoms
