use Rattle.std.proofs.Common.{arith, ap, ◌∙◌, ◌≡◌, length, map, take, drop}
use Rattle.std.proofs.lemmas.List.{take_all}
use Rattle.std.specs.List.{flat_map}
use Rattle.jdata.proofs.Lists.{map-gathered}
use Rattle.jdata.proofs.gathering.gather_items.Goals as goal

pub returns-clause-atoms : goal.returns-clause-atoms
returns-clause-atoms g c =
    let all : take c.loop-place.place-index c.args.places.now ≡ c.args.places.now = take_all c.loop-place.place-index c.args.places.now (omega (arith, c.loop-place-test.false)) in
    c.leaves_of.ensures.atoms
    ∙ ap (map g.T.Item.atom) (c.loop-place.invariant ∙ ap (flat_map (λ p. take c.args.count (drop p c.args.items.now))) all)
    ∙ map-gathered g.T.Item.atom c.args.count c.args.items.now c.args.places.now
