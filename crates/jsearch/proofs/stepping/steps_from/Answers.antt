use Rattle.std.proofs.Common.{rules, w64}
use mir.Val.{SFits}
use Rattle.std.proofs.Common.{ap, ◌∙◌}
use Rattle.std.proofs.lemmas.Int.{to_z-of_z}
use Rattle.jsearch.specs.Steps.{step, step_at}
use Rattle.jsearch.proofs.Pushed.{pushed}
use Rattle.jsearch.proofs.stepping.steps_from.Goals as goal

pub loop-place-preserved : goal.loop-place-preserved
loop-place-preserved c =
    let fits : SFits w64 c.step-step.result = search rules in
    let place : SFits w64 c.integer.result = search rules in
    pushed (step c.args.number.now) c.loop-place.place c.step-step.result c.loop-place.steps.items c.push.new.self.items fits c.in_ok-push.ensures.items
    (c.step-step.ensures ∙ ap (step_at c.args.number.now) (to_z-of_z w64 c.integer.result place ∙ c.integer.ensures)) c.loop-place.invariant
