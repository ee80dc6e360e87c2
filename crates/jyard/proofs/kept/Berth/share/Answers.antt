use Rattle.std.proofs.Common.{ap}
use Rattle.jyard.specs.Yards.{blocks_of}
use Rattle.jyard.proofs.Berths.{shared_ok, shared_err}
use Rattle.jyard.proofs.kept.Berth.share.Goals as goal
use Rattle.jyard.proofs.kept.Berth.share.Goals.{in-Ok-share, in-Err}

pub returns-clause-steps : goal.returns-clause-steps
returns-clause-steps g c =
    let ids = blocks_of c.self.inside.yard in let after = c.share.new.self.seat.steps in elim c.match-share.branch [
      | in-Ok-share w ↦ shared_ok ids c.self.inside.hold c.in-Some.hold c.args.self.now w.in-Ok-share.hold c.match-share.result w.of.result after c.in-Some.is c.self.view_is w.result-is (ap (λ k. k.seat) w.of.ensures) w.in-Ok-share.ensures.steps.1
      | in-Err w ↦ shared_err ids c.self.inside.hold c.in-Some.hold c.args.self.now w.in-Err.refused c.match-share.result after c.in-Some.is c.self.view_is w.result-is w.in-Err.ensures.steps.1
    ]
