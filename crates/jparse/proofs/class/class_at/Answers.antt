use Rattle.std.proofs.Common.{◌∙◌, ap, refl, length, Some}
use Rattle.jparse.proofs.Classes.{class_read, none_read}
use Rattle.jparse.proofs.class.class_at.Goals as goal

pub returns-then-at-stack : goal.returns-then-at-stack
returns-then-at-stack c =
    ap Some c.class_of.ensures
    ∙ class_read c.args.stack.now c.args.at (length c.args.stack.now) c.index-stack-stack.result refl c.if-at-stack.true c.index-stack-stack.is

pub returns-else-at-stack : goal.returns-else-at-stack
returns-else-at-stack c = none_read c.args.stack.now c.args.at (length c.args.stack.now) refl c.if-at-stack.false
