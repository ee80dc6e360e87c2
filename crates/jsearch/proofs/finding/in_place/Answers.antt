use Rattle.std.proofs.Common.{rules, w64, ℕ, ℤ, get_or}
use Rattle.std.specs.Prelude.{◌==◌}
use mir.Val.{SFits}
use Rattle.jsearch.specs.Finding.{truth}
use Rattle.jsearch.proofs.Pushed.{pushed}
use Rattle.jsearch.proofs.finding.in_place.Goals as goal

pub loop-at-preserved : goal.loop-at-preserved
loop-at-preserved c =
    let fits : SFits w64 c.truth-number.result = search rules in
    let at : ℕ → ℤ = λ i. truth (get_or c.args.places.now i 0 == i) in
    pushed at c.loop-at.at c.truth-number.result c.loop-at.numbers.items c.push.new.self.items fits c.in_ok-push.ensures.items c.truth-number.ensures c.loop-at.invariant
