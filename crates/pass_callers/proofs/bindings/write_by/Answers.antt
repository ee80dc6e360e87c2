use Rattle.pass_callers.proofs.Writes.{wrote_by, stopped_by}
use Rattle.pass_callers.proofs.bindings.write_by.Goals as goal

pub returns-clause-all : goal.returns-clause-all
returns-clause-all g c = wrote_by c.args.pass c.back.result c.args.thread c.args.bindings.now c.new-uses.result c.write_all-outcome.new.uses c.write_all-outcome.result c.new-uses.ensures c.write_all-outcome.ensures.all c.back.ensures

pub returns-clause-stopped : goal.returns-clause-stopped
returns-clause-stopped g c = stopped_by c.args.pass c.back.result c.args.thread c.args.bindings.now c.new-uses.result c.write_all-outcome.new.uses c.write_all-outcome.result c.new-uses.ensures c.write_all-outcome.ensures.stopped c.back.ensures
