use Rattle.std.proofs.Common.{ap, ◌∙◌, ◌++◌, sym, append-nil, map}
use Rattle.jdata.specs.Noun.{atoms}
use Rattle.jframe.proofs.Blocks.{once_more_mapped}
use Rattle.jframe.proofs.items.add_atom.Goals as goal

pub loop-preserved : goal.loop-preserved
loop-preserved g c =
    let mine = c.items_of-own.ensures ∙ ap atoms c.into_parts-leaves.ensures in
    once_more_mapped g.T.Item.atom c.items_of-own.result.items c.args.items.now.items c.loop.items.items c.push_copies.new.into.items (atoms c.args.tree) c.loop.counter
    mine c.loop.invariant (c.in_ok-push_copies.ensures ∙ ap (λ l. c.loop.items.items ++ l) c.as_slice.ensures.value)
