use Rattle.std.proofs.Common.{Ok}
use Rattle.jeval.specs.Applying.{applied, ran}
use Rattle.jeval.specs.Made.{Makes}
use Rattle.jplan.specs.Modifiers.{derived}
use Rattle.jeval.proofs.Scanning.{with_level}
use Rattle.jeval.proofs.activity.Activity.scan.Goals as goal

pub returns-clause-some : goal.returns-clause-some
returns-clause-some g c =
    with_level (λ n v. Makes g.U.Uses.leads g.U.Uses.refuses c.args.self.now c.scan_down.new.self (ran (applied n) (derived c.args.verb.now c.args.x.now c.args.y.now)) (Ok v))
    c.args.levels c.if-levels-eq0.false c.scan_down.result c.scan_down.ensures.some
