use Rattle.std.proofs.Common.{ap, ◌∙◌, ◌++◌, map}
use Rattle.jstruct.specs.Weights.{picked}
use Rattle.jstruct.proofs.Weighing.{picked-map}
use Rattle.jstruct.proofs.transposing.pick_items.Goals as goal

pub returns-clause-atoms : goal.returns-clause-atoms
returns-clause-atoms g c =
    let ns = c.args.axes.now in
    let ws = c.args.weights.now in
    let items = c.args.items.now in
    c.leaves_of.ensures.atoms
    ∙ ap (map g.T.Item.atom) (c.in_ok-pick.ensures ∙ ap (λ l. l ++ picked g.T.Item.blank ns ws 0 items) c.in_ok-into.ensures.items)
    ∙ picked-map g.T.Item.atom g.T.Item.blank ns ws 0 items
    ∙ ap (λ f. picked f ns ws 0 (map g.T.Item.atom items)) g.met.T.Item.blank_is
