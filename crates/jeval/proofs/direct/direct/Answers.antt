use Rattle.std.proofs.Common.{◌∙◌, sym}
use Rattle.jeval.proofs.Directly.{gives_value}
use Rattle.jeval.proofs.direct.direct.Goals as goal

pub returns : goal.returns
returns c =
    gives_value c.args.verb.now c.args.x.now c.args.y.now c.in_ok-between.between c.in_ok-numbers.numbers.now c.inserted.result
    c.if-is_some.ensures (sym c.in_ok-between.ensures) (sym c.array.ensures ∙ c.in_ok-numbers.ensures.list) c.inserted.ensures
