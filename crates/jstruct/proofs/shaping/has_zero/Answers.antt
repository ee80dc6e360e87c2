use Rattle.std.proofs.Common.{◌∙◌}
use Rattle.jstruct.proofs.Repeating.{any_zero}
use Rattle.jstruct.proofs.shaping.has_zero.Goals as goal

pub returns : goal.returns
returns c = c.contains.ensures.value ∙ any_zero c.args.axes.now
