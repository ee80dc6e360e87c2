use Rattle.std.proofs.Common.{◌∙◌, ap, length, sym}
use Rattle.jeval.proofs.Directly.{list_is}
use Rattle.jeval.proofs.direct.list_in.Goals as goal

pub returns-in-Int-clause-list : goal.returns-in-Int-clause-list
returns-in-Int-clause-list c =
    list_is c.args.y.now.noun c.in-Int.numbers.now (sym (ap length c.shape.ensures.value) ∙ c.if-shape-ne1.false) c.shape.ensures.array (sym c.in-Int.ensures.kind) (sym c.in-Int.ensures.atoms)
