use Rattle.std.proofs.Common.{ap, sym, subst}
use Rattle.jdata.specs.Firsts.{and_then}
use Rattle.jarray.specs.Placed.{Gives}
use Rattle.jstruct.specs.Axes.{reordered_by}
use Rattle.jstruct.proofs.Changing.{the_numbers}
use Rattle.jstruct.proofs.axes.transpose_by.Goals as goal

pub returns : goal.returns
returns c =
    let y = c.args.y.noun in
    subst (λ m. Gives m c.reordered_by.result)
    (sym (ap (λ r. and_then r (λ numbers. reordered_by numbers y)) (the_numbers c.args.x.noun c.in-Some.numbers.now c.in-Some.ensures.some c.in-Some.ensures.integers)))
    c.reordered_by.ensures
