use Rattle.std.proofs.Common.{arith, ap, sym, ◌∙◌, ◌≡◌, ◌<◌, ◌++◌, ◌/◌, ◌%◌, length, map, take}
use Rattle.jstruct.proofs.Repeating.{cycle_more, again_mapped}
use Rattle.jstruct.proofs.shaping.items_again.Goals as goal

pub loop-preserved : goal.loop-preserved
loop-preserved g c =
    c.in_ok-push_copies.ensures ∙ ap (λ r. r ++ c.args.items.now) c.loop.invariant ∙ sym (cycle_more c.loop.counter c.args.items.now)

pub returns-clause-atoms : goal.returns-clause-atoms
returns-clause-atoms g c = λ d.
    let items = c.args.items.now in
    let some : 0 < length items = omega (arith, c.if-count-eq0.false) in
    let all : c.loop.counter ≡ c.args.size / length items = omega arith in
    c.leaves_of-2.ensures.atoms
    ∙ ap (map g.T.Item.atom) (c.in_ok-push_copies-2.ensures ∙ ap (λ r. r ++ take (c.args.size % length items) items) c.loop.invariant)
    ∙ again_mapped g.T.Item.atom items d c.loop.counter c.args.size all some
