use Rattle.std.proofs.Common.{arith, ◌≡◌, ◌++◌, ap, sym, ◌∙◌, replicate, map}
use Rattle.jselect.specs.Copies.{count_at}
use Rattle.jselect.specs.Picking.{runs, repeated, served}
use Rattle.jselect.proofs.Runs.{runs_none, runs-append, repeated_none, repeated_more, map-runs}
use Rattle.jselect.proofs.items.copies_of.Goals as goal

pub loop-place-init : goal.loop-place-init
loop-place-init g c =
    let count = count_at c.args.plan.one_count c.args.plan.counts.now in
    let place = served c.args.plan.one_item in
    c.in_ok-copies.ensures.items ∙ sym (ap (runs c.args.plan.cell c.args.items.now) (repeated_none count place) ∙ runs_none c.args.plan.cell c.args.items.now)

pub loop-place-preserved : goal.loop-place-preserved
loop-place-preserved g c =
    let count = count_at c.args.plan.one_count c.args.plan.counts.now in
    let place = served c.args.plan.one_item in
    let more = repeated_more count place c.loop-place.place in
    let joined = ap (runs c.args.plan.cell c.args.items.now) more ∙ runs-append c.args.plan.cell c.args.items.now (repeated count place c.loop-place.place) (replicate (count c.loop-place.place) (place c.loop-place.place)) in
    c.in_ok-push_times.ensures
    ∙ (λ i. c.loop-place.invariant i ++ runs c.args.plan.cell c.args.items.now (replicate (c.count_at-count.ensures i) (c.served-item.ensures i)))
    ∙ sym joined

pub returns-clause-atoms : goal.returns-clause-atoms
returns-clause-atoms g c =
    let count = count_at c.args.plan.one_count c.args.plan.counts.now in
    let place = served c.args.plan.one_item in
    let done : c.loop-place.place ≡ c.args.plan.number = omega arith in
    c.leaves_of.ensures.atoms
    ∙ ap (map g.T.Item.atom) c.loop-place.invariant
    ∙ map-runs g.T.Item.atom c.args.plan.cell c.args.items.now (repeated count place c.loop-place.place)
    ∙ ap (λ n. runs c.args.plan.cell (map g.T.Item.atom c.args.items.now) (repeated count place n)) done
