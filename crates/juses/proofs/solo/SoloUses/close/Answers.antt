use Rattle.std.proofs.Common.{◌∙◌, ap}
use Rattle.juses.specs.Standing.{Kept, closed_by}
use Rattle.juses.proofs.Closing.{closed_first}
use Rattle.juses.proofs.solo.SoloUses.close.Goals as goal

pub returns-clause-closed : goal.returns-clause-closed
returns-clause-closed c =
    closed_first c.args.self.now c.close.new.self c.args.cause (c.close.ensures.closed ∙ ap (λ (d : Kept). closed_by d c.args.cause) c.self.view_is)
