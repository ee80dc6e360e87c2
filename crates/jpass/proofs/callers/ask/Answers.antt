use Rattle.jpass.proofs.Passes.{same_call}
use Rattle.jpass.proofs.callers.ask.Goals as goal

pub returns : goal.returns
returns g c = same_call c.args.uses.now c.call.new.self c.main.result c.args.uses.now.thread c.args.asked c.call.result c.call.ensures.ok c.call.ensures.err
