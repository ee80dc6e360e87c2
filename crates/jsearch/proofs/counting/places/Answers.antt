use Rattle.std.proofs.Common.{rules, w64, pos, ℕ, ℤ, arith, ap, sym, ◌∙◌}
use mir.Val.{SFits}
use Rattle.std.proofs.lemmas.Result.{IfOk-weaker}
use Rattle.jdata.specs.Indexes.{index_at}
use Rattle.jdata.proofs.Extents.{product_at_most}
use Rattle.jsearch.specs.Turned.{place_turned}
use Rattle.jsearch.proofs.Made.{straight}
use Rattle.jsearch.proofs.Pushed.{pushed}
use Rattle.jsearch.proofs.counting.places.Goals as goal

pub counted_up-requires : goal.counted_up-requires
counted_up-requires c = omega (arith, product_at_most c.args.axes.now, c.requires.count, c.requires.bound)

pub returns-then-are_counts : goal.returns-then-are_counts
returns-then-are_counts c =
    IfOk-weaker c.counted_up.result _ _
    (λ v e. e ∙ straight c.args.numbers.now c.args.axes.now c.args.count c.requires.axes (sym c.are_counts.ensures ∙ c.if-are_counts.true) c.requires.count)
    c.counted_up.ensures

pub loop-place-preserved : goal.loop-place-preserved
loop-place-preserved c =
    let fits : SFits w64 c.integer-number.result = search rules in
    let at : ℕ → ℤ = λ p. pos (place_turned c.args.numbers.now (index_at c.args.axes.now p)) in
    pushed at c.loop-place.place c.integer-number.result c.loop-place.places.items c.push.new.self.items fits c.in_ok-push.ensures.items
    (c.integer-number.ensures ∙ ap pos c.place_turned.ensures.value) c.loop-place.invariant
