use Rattle.std.proofs.Common.{◌∙◌}
use Rattle.jstruct.proofs.Layers.{laminated_beyond, laminated_of_kinds}
use Rattle.jstruct.proofs.joins.too_high.Goals as goal

pub returns-in-Some : goal.returns-in-Some
returns-in-Some c =
    laminated_beyond c.args.x c.args.y c.as_slice.result.now c.requires (c.as_slice.ensures.value ∙ c.in_ok-both.ensures) c.in-Some.ensures.1

pub returns : goal.returns
returns c =
    laminated_of_kinds c.args.x c.args.y c.as_slice.result.now (c.as_slice.ensures.value ∙ c.in_ok-both.ensures) c.in-None.ensures
