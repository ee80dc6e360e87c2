use Rattle.std.proofs.Common.{ap, ◌∙◌, ◌++◌, map, replicate}
use Rattle.jdata.proofs.Lists.{map-replicate}
use Rattle.jdata.proofs.item.filled_with.Goals as goal

pub returns-clause-atoms : goal.returns-clause-atoms
returns-clause-atoms g c =
    let none = c.in_ok-items.ensures.items in
    c.leaves_of.ensures.atoms ∙ ap (map g.T.Item.atom) (c.in_ok-push_fills.ensures ∙ ap (λ l. l ++ replicate c.args.count g.T.Item.blank) none)
    ∙ map-replicate g.T.Item.atom c.args.count g.T.Item.blank
    ∙ ap (replicate c.args.count) g.met.T.Item.blank_is
