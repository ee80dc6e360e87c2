use Rattle.std.proofs.Common.{◌∙◌, ap}
use Rattle.std.proofs.lemmas.Int.{to_z-of_z}
use mir.Syntax.{w64}
use Rattle.jstruct.specs.Laying.{turns}
use Rattle.jstruct.proofs.Planning.{turned_layout}
use Rattle.jstruct.proofs.change.turned.Goals as goal

pub returns : goal.returns
returns c =
    turned_layout c.args.number c.args.length c.turns-gone.result
    (λ some. c.turns-gone.ensures.value some ∙ ap (λ x. turns x c.args.length) (to_z-of_z w64 c.args.number c.ranges.number)) c.turns-gone.ensures.within
