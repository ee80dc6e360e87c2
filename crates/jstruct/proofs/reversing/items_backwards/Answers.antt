use Rattle.std.proofs.Common.{◌≡◌, ap, ◌∙◌, rules, map}
use Rattle.jstruct.proofs.FromLast.{reversed_items}
use Rattle.jstruct.proofs.reversing.items_backwards.Goals as goal

pub returns-then-size-eq1-clause-atoms : goal.returns-then-size-eq1-clause-atoms
returns-then-size-eq1-clause-atoms g c =
    let one : c.args.size ≡ 1 = search rules in
    c.leaves_of.ensures.atoms
    ∙ ap (map g.T.Item.atom) c.reverse.ensures.items
    ∙ reversed_items g.T.Item.atom c.args.items.items c.args.count c.args.size one c.requires.whole
