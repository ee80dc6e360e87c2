use Rattle.std.proofs.Common.{arith, ap, get_or}
use Rattle.jdata.specs.Limits.{most_atoms}
use Rattle.jdata.specs.Noun.{shape}
use Rattle.jframe.specs.Assembly.{raised}
use Rattle.jframe.proofs.Blocks.{given_few}
use Rattle.jframe.proofs.items.items_given.Goals as goal

pub returns-clause-few : goal.returns-clause-few
returns-clause-few c =
    let few = given_few c.args.rank (shape c.args.tree.now) most_atoms c.shape.ensures.array.within.extent_at_most in
    let same = ap (λ s. get_or (raised c.args.rank s) 0 1) c.shape.ensures.value in
    omega (arith, few, same, c.raised_axis.ensures)
