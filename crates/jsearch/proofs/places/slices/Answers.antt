use Rattle.std.proofs.Common.{ap, ◌∙◌, map}
use Rattle.jsearch.proofs.Pushing.{take_all}
use Rattle.jsearch.proofs.places.slices.Goals as goal

pub returns : goal.returns
returns c = c.loop-code.invariant ∙ ap (map (λ c'. c'.items)) (take_all c.args.codes.now c.loop-code.code-index c.loop-code-test.false)
