use Rattle.std.proofs.Common.{arith, ap, ◌∙◌, ◌≡◌, ◌*◌, map, take, drop}
use Rattle.std.proofs.lemmas.List.{take_all}
use Rattle.std.specs.List.{flat_map}
use Rattle.jselect.proofs.NamedItems.{each_run}
use Rattle.jselect.proofs.Runs.{map-runs}
use Rattle.jselect.proofs.listing.runs_at.Goals as goal

pub returns-clause-atoms : goal.returns-clause-atoms
returns-clause-atoms g c =
    let all : take c.loop-place.place-index c.args.places.now ≡ c.args.places.now = take_all c.loop-place.place-index c.args.places.now (omega (arith, c.loop-place-test.false)) in
    c.leaves_of.ensures.atoms
    ∙ ap (map g.T.Item.atom)
    (c.loop-place.invariant
    ∙ ap (flat_map (λ p. take c.args.cell (drop (p * c.args.cell) c.args.items.now))) all
    ∙ each_run c.args.cell c.args.items.now c.args.places.now)
    ∙ map-runs g.T.Item.atom c.args.cell c.args.items.now c.args.places.now
