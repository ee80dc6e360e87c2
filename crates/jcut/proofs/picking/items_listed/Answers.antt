use Rattle.std.proofs.Common.{◌≤◌, ◌+◌, ◌*◌, ◌∷◌, length, take, drop, ap, sym, subst, ◌∙◌}
use Rattle.std.specs.List.{All, flat_map}
use Rattle.jdata.specs.Leaf.{atoms_in}
use Rattle.jdata.specs.Noun.{atoms, product}
use Rattle.jselect.specs.Items.{further_axes}
use Rattle.jselect.specs.Picking.{runs}
use Rattle.std.proofs.lemmas.List.Elements.{All-map}
use Rattle.jcut.proofs.Making.{places_fit, made_is_array, made_is_picked, runs_gathered, starts_within}
use Rattle.jcut.proofs.picking.items_listed.Goals as goal

pub starts_of-requires : goal.starts_of-requires
starts_of-requires c k below =
    let y = c.args.y.now.noun in
    let cell = c.product_of-cell.ensures ∙ ap product (c.further_axes-item.ensures ∙ ap further_axes c.shape.ensures.value) in
    starts_within y c.args.places.now c.product_of-cell.result k c.shape.ensures.array c.requires.within cell below

pub gather-requires : goal.gather-requires
gather-requires c =
    let y = c.args.y.now.noun in
    let places = c.args.places.now in
    let n = c.product_of-cell.result in
    let cell = c.product_of-cell.ensures ∙ ap product (c.further_axes-item.ensures ∙ ap further_axes c.shape.ensures.value) in
    let fits : All (λ p. p * n + n ≤ length (atoms_in c.leaf.result)) places =
    subst (λ l. All (λ p. p * n + n ≤ length l) places) (sym c.leaf.ensures.atoms)
    (subst (λ m. All (λ p. p * m + m ≤ length (atoms y)) places) (sym cell) (places_fit y places c.shape.ensures.array c.requires.within)) in
    record {
      within =
          subst (λ l. All (λ p. p + n ≤ length (atoms_in c.leaf.result)) l) (sym (c.as_slice.ensures.value ∙ c.in_ok-starts.ensures))
          (All-map (λ p. p + n ≤ length (atoms_in c.leaf.result)) (λ p. p * n) places fits);
    }

pub array-requires : goal.array-requires
array-requires c =
    let y = c.args.y.now.noun in
    let places = c.args.places.now in
    let further = c.further_axes-item.ensures ∙ ap further_axes c.shape.ensures.value in
    let cell = c.product_of-cell.ensures ∙ ap product further in
    let axes = c.in_ok-shape.ensures ∙ (λ i. length places ∷ further i) in
    let starts = c.as_slice.ensures.value ∙ c.in_ok-starts.ensures in
    let these = c.in_ok-leaves.ensures.atoms ∙ ap (flat_map (λ p. take c.product_of-cell.result (drop p (atoms_in c.leaf.result)))) starts
    ∙ runs_gathered c.product_of-cell.result (atoms_in c.leaf.result) places ∙ (λ i. runs (cell i) (c.leaf.ensures.atoms i) places) in
    made_is_array y places _ _ _ c.shape.ensures.array c.requires axes (c.in_ok-leaves.ensures.kind ∙ c.leaf.ensures.kind) these

pub returns : goal.returns
returns c =
    let y = c.args.y.now.noun in
    let places = c.args.places.now in
    let further = c.further_axes-item.ensures ∙ ap further_axes c.shape.ensures.value in
    let cell = c.product_of-cell.ensures ∙ ap product further in
    let axes = c.in_ok-shape.ensures ∙ (λ i. length places ∷ further i) in
    let starts = c.as_slice.ensures.value ∙ c.in_ok-starts.ensures in
    let these = c.in_ok-leaves.ensures.atoms ∙ ap (flat_map (λ p. take c.product_of-cell.result (drop p (atoms_in c.leaf.result)))) starts
    ∙ runs_gathered c.product_of-cell.result (atoms_in c.leaf.result) places ∙ (λ i. runs (cell i) (c.leaf.ensures.atoms i) places) in
    c.array.ensures ∙ made_is_picked y places _ _ _ c.shape.ensures.array c.requires axes (c.in_ok-leaves.ensures.kind ∙ c.leaf.ensures.kind) these
