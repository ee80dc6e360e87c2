use Rattle.std.proofs.Common.{◌∙◌, arith, ap, sym, subst, length, map, get_or}
use Rattle.jdata.specs.Fills.{fill_of}
use Rattle.jdata.specs.Leaf.{kind_in, atoms_in}
use Rattle.jdata.specs.Limits.{most_atoms}
use Rattle.jdata.specs.Noun.{shape, product}
use Rattle.jdata.specs.Trees.{kind_of, atoms_of}
use Rattle.jarray.specs.Placed.{Gives}
use Rattle.jstruct.specs.Orders.{weight_of}
use Rattle.jstruct.specs.Weights.{picked}
use Rattle.jstruct.proofs.Counting.{axis_at_most}
use Rattle.jstruct.proofs.Ordering.{reordered_is, weight_light}
use Rattle.jstruct.proofs.Weighing.{picked-length}
use Rattle.jstruct.proofs.axes.reordered.Goals as goal

pub picked-requires-clause-short : goal.picked-requires-clause-short
picked-requires-clause-short c k =
    let same = ap (λ l. get_or l k 0) (c.as_slice-2.ensures.value ∙ sym c.as_slice.ensures.value) in
    omega (arith, same, axis_at_most c.as_slice.result.now k, c.in-Ok-size_of.ensures.1.extent_at_most)

pub picked-requires-clause-light : goal.picked-requires-clause-light
picked-requires-clause-light c k =
    let y = c.args.y.now.noun in
    let same = ap (λ l. get_or l k 0) (c.as_slice-3.ensures.value ∙ c.in-Ok.ensures.weights ∙ ap (λ s. map (weight_of s) c.args.order.now) c.shape.ensures.value) in
    omega (arith, same, weight_light (shape y) c.args.order.now most_atoms c.shape.ensures.array.within.extent_at_most k)

pub array_of-requires : goal.array_of-requires
array_of-requires c =
    ap length c.in-Ok-picked.ensures.atoms
    ∙ picked-length (fill_of (kind_in c.leaf.result)) c.as_slice-2.result.now c.as_slice-3.result.now 0 (atoms_in c.leaf.result)
    ∙ ap product c.as_slice-2.ensures.value

pub returns-in-Ok-picked : goal.returns-in-Ok-picked
returns-in-Ok-picked c =
    let y = c.args.y.now.noun in
    let order = c.args.order.now in
    let axes = c.in-Ok.ensures.axes ∙ ap (λ s. map (λ a. get_or s a 0) order) c.shape.ensures.value in
    let weights = c.in-Ok.ensures.weights ∙ ap (λ s. map (weight_of s) order) c.shape.ensures.value in
    let same = c.in-Ok-picked.ensures.atoms ∙ (λ i. picked (fill_of (c.leaf.ensures.kind i)) (c.as_slice-2.ensures.value i) (c.as_slice-3.ensures.value i) 0 (c.leaf.ensures.atoms i)) in
    subst (λ m. Gives m c.array_of.result)
    (reordered_is y order c.in-Ok.both.0.items c.in-Ok.both.1.items (kind_of c.in-Ok-picked.atoms) (atoms_of c.in-Ok-picked.atoms) c.requires axes weights (c.in-Ok-picked.ensures.kind ∙ c.leaf.ensures.kind) same)
    c.array_of.ensures
