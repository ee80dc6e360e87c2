use Rattle.std.proofs.Common.{◌≡◌, ◌*◌, ◌+◌, ◌∙◌, arith, ap, sym, refl, subst, length, map, get_or}
use Rattle.std.specs.List.{range_with_len}
use Rattle.std.proofs.lemmas.List.FromFn.{length-map-range_with_len}
use Rattle.jdata.specs.Fills.{fill_of}
use Rattle.jdata.specs.Limits.{IsShape}
use Rattle.jdata.specs.Noun.{shape, atoms, product}
use Rattle.jdata.specs.Trees.{kind_of, atoms_of}
use Rattle.jdata.proofs.Arrays.{few_atoms}
use Rattle.jarray.specs.Placed.{Gives}
use Rattle.jstruct.specs.Items.{first_axis, further_axes}
use Rattle.jstruct.proofs.FromLast.{counted_atoms, item_is}
use Rattle.jstruct.proofs.ends.item.Goals as goal

pub item_size-size-requires : goal.item_size-size-requires
item_size-size-requires c = subst IsShape (sym c.shape-axes.ensures.value) c.shape-axes.ensures.array.within

pub item_atoms-requires-clause-whole : goal.item_atoms-requires-clause-whole
item_atoms-requires-clause-whole c =
    let y = c.args.y.now.noun in
    ap length c.leaf.ensures.atoms ∙ counted_atoms y (shape y) refl c.shape-axes.ensures.array.whole
    ∙ ap (λ s. first_axis s * product (further_axes s)) (sym c.shape-axes.ensures.value)
    ∙ (λ i. sym c.item_count.ensures i * sym c.item_size-size.ensures i)

pub item_atoms-requires-clause-bound : goal.item_atoms-requires-clause-bound
item_atoms-requires-clause-bound c =
    let y = c.args.y.now.noun in
    let counted : length (atoms y) ≡ c.item_count.result * c.item_size-size.result =
    counted_atoms y (shape y) refl c.shape-axes.ensures.array.whole
    ∙ ap (λ s. first_axis s * product (further_axes s)) (sym c.shape-axes.ensures.value)
    ∙ (λ i. sym c.item_count.ensures i * sym c.item_size-size.ensures i) in
    omega (arith, few_atoms y c.shape-axes.ensures.array, counted)

pub array_of-requires : goal.array_of-requires
array_of-requires c =
    ap length c.in_ok-atoms.ensures.atoms ∙ length-map-range_with_len _ 0 c.item_size-size.result ∙ c.item_size-size.ensures
    ∙ ap product (sym (c.in_ok-shape.ensures.items ∙ c.item_axes.ensures))

pub returns : goal.returns
returns c =
    let y = c.args.y.now.noun in
    let axes = c.in_ok-shape.ensures.items ∙ c.item_axes.ensures ∙ ap further_axes c.shape-axes.ensures.value in
    let size = c.item_size-size.ensures ∙ ap (λ s. product (further_axes s)) c.shape-axes.ensures.value in
    let same = c.in_ok-atoms.ensures.atoms ∙ (λ i. map (λ j. get_or (c.leaf.ensures.atoms i) (c.args.at * size i + j) (fill_of (c.leaf.ensures.kind i))) (range_with_len 0 (size i))) in
    subst (λ m. Gives m c.array_of.result)
    (item_is y c.args.at c.in_ok-shape.shape.items (kind_of c.in_ok-atoms.atoms) (atoms_of c.in_ok-atoms.atoms) axes (c.in_ok-atoms.ensures.kind ∙ c.leaf.ensures.kind) same)
    c.array_of.ensures
