use Rattle.std.proofs.Common.{◌∙◌, ap}
use Rattle.std.proofs.lemmas.Int.{to_z-of_z}
use mir.Syntax.{w64}
use Rattle.jexplicit.specs.Needs.{is_pos}
use Rattle.jexplicit.proofs.Values.{value_is}
use Rattle.jexplicit.proofs.needs.is_value.Goals as goal

pub returns-in-Number : goal.returns-in-Number
returns-in-Number c =
    let spells = c.in-Number.ensures in
    let z = c.in-Number.number in
    c.is_same.ensures ∙ ap (is_pos c.args.small) (to_z-of_z w64 z spells.in_range) ∙ value_is c.args.run.now z c.args.small spells
