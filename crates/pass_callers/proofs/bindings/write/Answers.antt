use Rattle.jpass.specs.UsedLaws.{leads_none}
use Rattle.pass_callers.proofs.bindings.write.Goals as goal

pub returns-in_default-clause-refused : goal.returns-in_default-clause-refused
returns-in_default-clause-refused g c = leads_none c.args.uses.now
