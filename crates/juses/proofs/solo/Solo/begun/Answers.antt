use Rattle.std.proofs.Common.{rules, ◌≡◌, Some}
use Rattle.juses.specs.Desk.{waiting_work}
use Rattle.juses.specs.Standing.{phase_in}
use Rattle.juses.proofs.Solos.{leads_handed}
use Rattle.juses.proofs.solo.Solo.begun.Goals as goal

pub returns-clause-leads : goal.returns-clause-leads
returns-clause-leads c =
    let zeroth : c.args.pyx.now.number ≡ 0 = search rules in
    let work : Some c.in-Some.work ≡ waiting_work (phase_in c.args.self.now.tasks c.args.pyx.now.path) = search rules in
    leads_handed c.args.self.now c.begin_task.new.self c.args.pyx.now.path c.in-Some.work c.args.pyx.now (λ i. record { path = c.args.pyx.now.path; number = zeroth i }) work (search rules)
