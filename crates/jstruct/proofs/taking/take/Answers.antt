use Rattle.std.proofs.Common.{ap, sym, subst}
use Rattle.jdata.specs.Firsts.{and_then}
use Rattle.jarray.specs.Placed.{Gives}
use Rattle.jstruct.specs.Laying.{taken, changed_by}
use Rattle.jstruct.specs.declared.change.Change.TheVariants as change
use Rattle.jstruct.proofs.Changing.{the_numbers, no_numbers}
use Rattle.jstruct.proofs.taking.take.Goals as goal

pub returns-in_default : goal.returns-in_default
unfolding taken
returns-in_default c = ap (λ r. and_then r (λ xs. changed_by change.Take xs c.args.y.noun)) (no_numbers c.args.x.noun c.in_default.ensures.none)

pub returns : goal.returns
unfolding taken
returns c =
    subst (λ m. Gives m c.changed.result)
    (sym (ap (λ r. and_then r (λ xs. changed_by change.Take xs c.args.y.noun)) (the_numbers c.args.x.noun c.in-Some.numbers.now c.in-Some.ensures.some c.in-Some.ensures.integers)))
    c.changed.ensures
