use Rattle.std.proofs.Common.{rules, ◌≡◌}
use Rattle.juses.specs.Keeping.{first_kept}
use Rattle.juses.proofs.Desks.{first_stands}
use Rattle.juses.proofs.desk.Desk.new.Goals as goal

pub returns-clause-stands : goal.returns-clause-stands
returns-clause-stands c = first_stands c.args.workers _ (search rules)
