use Rattle.std.proofs.Common.{◌∙◌, ap, sym, subst, length, reverse}
use Rattle.jdata.specs.Fills.{fill_of}
use Rattle.jdata.specs.Leaf.{kind_in, atoms_in}
use Rattle.jdata.specs.Limits.{IsShape}
use Rattle.jdata.specs.Noun.{product}
use Rattle.jdata.specs.Trees.{kind_of, atoms_of}
use Rattle.jarray.specs.Placed.{Gives}
use Rattle.jstruct.specs.Weights.{weights_of, picked}
use Rattle.jstruct.proofs.Weighing.{axes_short, weights_light, weights_same, picked-length, transposed_is}
use Rattle.jstruct.proofs.transposing.transpose.Goals as goal

pub picked-requires-clause-same : goal.picked-requires-clause-same
picked-requires-clause-same c =
    weights_same c.shape.result.now c.as_slice.result.now c.as_slice-2.result.now (c.as_slice.ensures.value ∙ c.in_ok-axes.ensures.axes) (c.as_slice-2.ensures.value ∙ c.in_ok-axes.ensures.weights)

pub picked-requires-clause-short : goal.picked-requires-clause-short
picked-requires-clause-short c =
    axes_short c.shape.result.now c.as_slice.result.now (subst IsShape (sym c.shape.ensures.value) c.shape.ensures.array.within) (c.as_slice.ensures.value ∙ c.in_ok-axes.ensures.axes)

pub picked-requires-clause-light : goal.picked-requires-clause-light
picked-requires-clause-light c =
    weights_light c.shape.result.now c.as_slice-2.result.now (subst IsShape (sym c.shape.ensures.value) c.shape.ensures.array.within) (c.as_slice-2.ensures.value ∙ c.in_ok-axes.ensures.weights)

pub array_of-requires : goal.array_of-requires
array_of-requires c =
    ap length c.in_ok-atoms.ensures.atoms
    ∙ picked-length (fill_of (kind_in c.leaf.result)) c.as_slice.result.now c.as_slice-2.result.now 0 (atoms_in c.leaf.result)
    ∙ ap product c.as_slice.ensures.value

pub returns : goal.returns
returns c =
    let y = c.args.y.noun in
    let axes = c.in_ok-axes.ensures.axes ∙ ap reverse c.shape.ensures.value in
    let weights = c.in_ok-axes.ensures.weights ∙ ap (λ s. reverse (weights_of s)) c.shape.ensures.value in
    let same = c.in_ok-atoms.ensures.atoms ∙ (λ i. picked (fill_of (c.leaf.ensures.kind i)) (c.as_slice.ensures.value i) (c.as_slice-2.ensures.value i) 0 (c.leaf.ensures.atoms i)) in
    subst (λ m. Gives m c.array_of.result)
    (transposed_is y c.in_ok-axes.axes.items c.in_ok-axes.weights.items (kind_of c.in_ok-atoms.atoms) (atoms_of c.in_ok-atoms.atoms) axes weights (c.in_ok-atoms.ensures.kind ∙ c.leaf.ensures.kind) same)
    c.array_of.ensures
