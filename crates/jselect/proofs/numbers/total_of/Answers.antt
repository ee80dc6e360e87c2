use Rattle.std.proofs.Common.{◌-◌, ◌^◌, min, length, arith, ap, sym}
use Rattle.jselect.specs.Copies.{count_at}
use Rattle.jselect.proofs.Runs.{repeated_none, length-repeated_more}
use Rattle.jselect.proofs.numbers.total_of.Goals as goal

pub loop-place-init : goal.loop-place-init
loop-place-init c place = ap (λ l. min (length l) (2 ^ 64 - 1)) (sym (repeated_none (count_at c.args.one_count c.args.counts.now) place))

pub loop-place-preserved : goal.loop-place-preserved
loop-place-preserved c place =
    let count = count_at c.args.one_count c.args.counts.now in
    let more = length-repeated_more count place c.loop-place.place in
    let before = c.loop-place.invariant place in
    omega (arith, more, before, c.saturating_add-total.ensures, c.count_at.ensures)
