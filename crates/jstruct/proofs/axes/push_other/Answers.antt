use Rattle.jstruct.proofs.Ordering.{left_out, put_in}
use Rattle.jstruct.proofs.axes.push_other.Goals as goal

pub returns-then-contains : goal.returns-then-contains
returns-then-contains c = left_out c.args.last.now c.args.order.now.items c.args.axis c.contains.result c.contains.ensures.value c.if-contains.true

pub returns : goal.returns
returns c =
    put_in c.args.last.now c.args.order.now.items c.push.new.self.items c.args.axis c.contains.result c.contains.ensures.value c.if-contains.false c.in_ok-push.ensures.items
