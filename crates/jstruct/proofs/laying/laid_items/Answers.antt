use Rattle.std.proofs.Common.{ap, ◌∙◌, ◌++◌, map}
use Rattle.jstruct.specs.Layouts.{laid}
use Rattle.jstruct.proofs.LaidAxes.{laid-map}
use Rattle.jstruct.proofs.laying.laid_items.Goals as goal

pub returns-clause-atoms : goal.returns-clause-atoms
returns-clause-atoms g c =
    let ls = c.args.layouts.now in
    let ns = c.args.axes.now in
    let items = c.args.items.now in
    c.leaves_of.ensures.atoms
    ∙ ap (map g.T.Item.atom) (c.in_ok-lay.ensures ∙ ap (λ l. l ++ laid g.T.Item.blank ls ns items) c.in_ok-into.ensures.items)
    ∙ laid-map g.T.Item.atom g.T.Item.blank ls ns items
    ∙ ap (λ f. laid f ls ns (map g.T.Item.atom items)) g.met.T.Item.blank_is
