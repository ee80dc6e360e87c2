use Rattle.std.proofs.Common.{◌<◌, length, ap, ◌∙◌, arith, refl, get_or}
use Rattle.std.proofs.lemmas.List.FromFn.{length-map-range_with_len}
use Rattle.jcut.specs.Grouped.{places_with}
use Rattle.jcut.proofs.Grouping.{grouped_more}
use Rattle.jcut.proofs.key.grouped.Goals as goal

pub push_into-requires : goal.push_into-requires
push_into-requires c =
    let numbers = c.args.numbers.now in
    let k = c.loop-place.place in
    let many = ap length c.loop-place.invariant ∙ length-map-range_with_len (places_with numbers k) 0 (length numbers) in
    let below : get_or numbers k 0 < length numbers = c.requires k 0 c.loop-place-test.true in
    omega (arith, many, below)

pub loop-place-preserved : goal.loop-place-preserved
loop-place-preserved c =
    let numbers = c.args.numbers.now in
    let k = c.loop-place.place in
    grouped_more numbers c.loop-place.lists.items _ (length numbers) k (get_or numbers k 0) refl (c.requires k 0 c.loop-place-test.true) c.loop-place.invariant c.in_ok-push_into.ensures
