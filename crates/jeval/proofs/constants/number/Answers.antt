use Rattle.std.proofs.Common.{◌∙◌, ap, Some}
use Rattle.std.proofs.lemmas.Int.{to_z-of_z}
use mir.Syntax.{w64}
use Rattle.jeval.proofs.Reading.{number_is, none_is, not_number}
use Rattle.jeval.proofs.constants.number.Goals as goal

pub returns-in-Number : goal.returns-in-Number
returns-in-Number c = let spells = c.in-Number.ensures in ap Some (to_z-of_z w64 c.in-Number.number spells.in_range) ∙ number_is c.args.run.now c.in-Number.number spells

pub returns-in-Not : goal.returns-in-Not
returns-in-Not c = none_is c.args.run.now (not_number c.args.run.now c.in-Not.ensures)
