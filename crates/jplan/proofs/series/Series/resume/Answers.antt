use Rattle.std.proofs.Common.{◌∙◌, ◌≤◌, subst, arith}
use Rattle.jdata.specs.Limits.{most_atoms, IsShape}
use Rattle.jdata.specs.Noun.{product}
use Rattle.jdata.proofs.Extents.{product_at_most}
use Rattle.jplan.specs.Several.{several_of}
use Rattle.jplan.proofs.series.Series.resume.Goals as goal

pub push-requires : goal.push-requires
push-requires c =
    let whole = (several_of c.args.self.parts).frame in
    let within = subst IsShape (c.axes-axes.ensures.axes ∙ c.frame.ensures) c.axes-axes.ensures.shape in
    let few : product whole ≤ most_atoms = omega (arith, product_at_most whole, within.extent_at_most) in
    record { few = omega (arith, c.args.self.going.so_far, c.args.self.going.more, few) }

pub overflow_add-at : goal.overflow_add-at
overflow_add-at c =
    let whole = (several_of c.args.self.parts).frame in
    let within = subst IsShape (c.axes-axes.ensures.axes ∙ c.frame.ensures) c.axes-axes.ensures.shape in
    let few : product whole ≤ most_atoms = omega (arith, product_at_most whole, within.extent_at_most) in
    omega (arith, c.args.self.going.more, few)
