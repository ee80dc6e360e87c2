use Rattle.std.proofs.Common.{◌≡◌, ◌*◌, ◌∙◌, arith, ap, sym, refl, subst, length}
use Rattle.jdata.specs.Noun.{shape, kind, atoms, product}
use Rattle.jdata.specs.Trees.{kind_of, atoms_of}
use Rattle.jdata.proofs.Arrays.{few_atoms}
use Rattle.jarray.specs.Placed.{Gives}
use Rattle.jstruct.specs.Backward.{backward}
use Rattle.jstruct.specs.Ends.{reversed}
use Rattle.jstruct.specs.Items.{first_axis, further_axes}
use Rattle.jstruct.proofs.FromLast.{counted_atoms, reversed_is, backward-length}
use Rattle.jstruct.proofs.reversing.reverse.Goals as goal

pub backwards-requires-clause-bound : goal.backwards-requires-clause-bound
backwards-requires-clause-bound c =
    let y = c.in-Ok.tree in
    let counted : length (atoms y) ≡ c.item_count-count.result * c.item_size-size.result =
    counted_atoms y (shape y) refl c.shape.ensures.array.whole
    ∙ (λ i. first_axis (sym c.shape.ensures.value i) * product (further_axes (sym c.shape-2.ensures.value i)))
    ∙ (λ i. sym c.item_count-count.ensures i * sym c.item_size-size.ensures i) in
    omega (arith, few_atoms y c.shape.ensures.array, counted)

pub array_of-requires : goal.array_of-requires
array_of-requires c =
    let y = c.in-Ok.tree in
    let count = c.item_count-count.ensures ∙ ap first_axis c.shape.ensures.value in
    let size = c.item_size-size.ensures ∙ ap (λ s. product (further_axes s)) c.shape-2.ensures.value in
    ap length (c.in_ok-atoms.ensures.atoms ∙ (λ i. backward (count i) (size i) (atoms (c.into_parts-shape.ensures i))))
    ∙ backward-length (shape y) y refl c.shape.ensures.array.whole
    ∙ ap (λ v. product (shape v)) (sym c.into_parts-shape.ensures)

pub returns : goal.returns
returns c =
    let y = c.in-Ok.tree in
    let count = c.item_count-count.ensures ∙ ap first_axis c.shape.ensures.value in
    let size = c.item_size-size.ensures ∙ ap (λ s. product (further_axes s)) c.shape-2.ensures.value in
    let same = c.in_ok-atoms.ensures.atoms ∙ (λ i. backward (count i) (size i) (atoms (c.into_parts-shape.ensures i))) in
    let meant = reversed_is y c.into_parts-shape.result.0.items (kind_of c.in_ok-atoms.atoms) (atoms_of c.in_ok-atoms.atoms) c.shape.ensures.array.whole
    (ap shape c.into_parts-shape.ensures) (c.in_ok-atoms.ensures.kind ∙ ap kind c.into_parts-shape.ensures) same in
    subst (λ m. Gives m c.array_of.result) (meant ∙ (λ i. reversed (c.in-Ok.ensures.value i))) c.array_of.ensures
