use Rattle.std.proofs.Common.{None, Some, ◌∙◌}
use Rattle.jkept.proofs.Values.{reads}
use Rattle.jkept.proofs.kept.Kept.value.Goals as goal

pub returns-in-Some : goal.returns-in-Some
returns-in-Some c = reads c.self.inside.result c.self.inside.values.entries c.args.self.now c.self.view_is c.args.word (Some c.in-Some.value.now) c.in-Some.ensures.value

pub returns-in-None : goal.returns-in-None
returns-in-None c = c.self.invariant ∙ reads c.self.inside.result c.self.inside.values.entries c.args.self.now c.self.view_is c.args.word None c.in-None.ensures.value
