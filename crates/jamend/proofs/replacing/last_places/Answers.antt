use Rattle.std.proofs.Common.{arith, refl, ◌∙◌}
use Rattle.jamend.proofs.Lasting.{only_none, none_yet, last_more, last_long, named_below}
use Rattle.jamend.proofs.replacing.last_places.Goals as goal

pub loop-place-init : goal.loop-place-init
loop-place-init c = c.in_ok-last.ensures.items_if_clones_equal (only_none _ (λ n e. e)) ∙ none_yet c.args.numbers.now c.args.count

pub index_mut-requires : goal.index_mut-requires
index_mut-requires c =
    let long = last_long c.args.numbers.now c.loop-place.last.items c.args.count c.loop-place.place c.loop-place.invariant in
    let below = named_below c.args.numbers.now c.args.count c.loop-place.place (omega (arith, c.loop-place-test.true)) c.requires in
    omega (arith, long, below, c.loop-place.last.ok)

pub loop-place-preserved : goal.loop-place-preserved
loop-place-preserved c =
    let below = named_below c.args.numbers.now c.args.count c.loop-place.place (omega (arith, c.loop-place-test.true)) c.requires in
    last_more c.args.numbers.now c.loop-place.last.items _ c.args.count c.loop-place.place _ refl below c.loop-place.invariant refl
