use Rattle.std.proofs.Common.{◌∙◌, ap}
use Rattle.juses.specs.Tables.{front, last_number}
use Rattle.juses.proofs.Makers.{front_is, last_is}
use Rattle.juses.proofs.desk.tasks.maker_of.Goals as goal

pub returns-in_default-clause-maker : goal.returns-in_default-clause-maker
returns-in_default-clause-maker c = front_is c.parts-parts.result.now ∙ ap front c.parts-parts.ensures

pub returns-in_default-clause-number : goal.returns-in_default-clause-number
returns-in_default-clause-number c = last_is c.parts-parts.result.now ∙ ap last_number c.parts-parts.ensures
