use Rattle.jkept.proofs.Values.{starts}
use Rattle.jkept.proofs.kept.Kept.start_test.Goals as goal

pub returns : goal.returns
returns c = starts c.self.inside.result c.self.inside.values.entries c.args.self.now c.self.view_is c.args.word c.remove-before.new.self.entries c.remove-before.ensures.updates.0
