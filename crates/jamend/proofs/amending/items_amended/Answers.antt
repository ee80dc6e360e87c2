use Rattle.std.proofs.Common.{ap, sym, subst, ◌∙◌, ◌≡◌, ◌-◌, ◌*◌, ◌<◌, ◌⊎◌, ◌||◌, ◌++◌, Ok, length, map}
use Rattle.std.specs.List.{All}
use Rattle.jdata.specs.Answers.{Answers}
use Rattle.jdata.specs.Firsts.{all_or_first}
use Rattle.jdata.specs.Kinds.{kinds_match}
use Rattle.jdata.specs.Noun.{shape, atoms, product}
use Rattle.jdata.specs.declared.noun.Noun.{Noun}
use Rattle.jselect.specs.Items.{item_axes, item_count, further_axes}
use Rattle.jselect.specs.Places.{place_in}
use Rattle.jselect.proofs.NamedItems.{places_are}
use Rattle.jamend.specs.Amended as meant
use Rattle.jamend.specs.Replacing.{Divides}
use Rattle.jamend.proofs.Amends.{items_of_kinds, items_of_shape, items_stop, items_replaced}
use Rattle.jamend.proofs.Checking.{fits_end}
use Rattle.jamend.proofs.Ending.{parts_fit, last_some}
use Rattle.jamend.proofs.amending.items_amended.Goals as goal

pub returns-then-not-kinds_agree : goal.returns-then-not-kinds_agree
returns-then-not-kinds_agree c =
    let agree = c.kinds_agree.ensures
    ∙ (λ i. kinds_match (c.leaf.ensures.kind i) (c.leaf-2.ensures.kind i) (c.leaf.ensures.atoms i) || kinds_match (c.leaf-2.ensures.kind i) (c.leaf.ensures.kind i) (c.leaf-2.ensures.atoms i)) in
    items_of_kinds c.args.x.now.noun c.args.y.now.noun c.args.axes.now c.args.numbers.now (sym agree ∙ c.if-not-kinds_agree.true)

pub returns-in-Some : goal.returns-in-Some
returns-in-Some c =
    let x = c.args.x.now.noun in
    let y = c.args.y.now.noun in
    let agree = c.kinds_agree.ensures
    ∙ (λ i. kinds_match (c.leaf.ensures.kind i) (c.leaf-2.ensures.kind i) (c.leaf.ensures.atoms i) || kinds_match (c.leaf-2.ensures.kind i) (c.leaf.ensures.kind i) (c.leaf-2.ensures.atoms i)) in
    let further = c.further_axes-item.ensures ∙ ap further_axes c.shape.ensures.value in
    let target = c.as_slice.ensures.value ∙ c.in_ok-target.ensures ∙ ap (λ s. c.args.axes.now ++ s) further in
    let wrong = sym (c.shape_fault.ensures ∙ (λ i. meant.shape_fault (target i) (c.shape-2.ensures.value i))) ∙ c.in-Some.is in
    items_of_shape x y c.args.axes.now c.args.numbers.now c.in-Some.fault (sym agree ∙ c.if-not-kinds_agree.false) wrong

pub returns-in-Err : goal.returns-in-Err
returns-in-Err c =
    let x = c.args.x.now.noun in
    let y = c.args.y.now.noun in
    let agree = c.kinds_agree.ensures
    ∙ (λ i. kinds_match (c.leaf.ensures.kind i) (c.leaf-2.ensures.kind i) (c.leaf.ensures.atoms i) || kinds_match (c.leaf-2.ensures.kind i) (c.leaf.ensures.kind i) (c.leaf-2.ensures.atoms i)) in
    let further = c.further_axes-item.ensures ∙ ap further_axes c.shape.ensures.value in
    let target = c.as_slice.ensures.value ∙ c.in_ok-target.ensures ∙ ap (λ s. c.args.axes.now ++ s) further in
    let right = sym (c.shape_fault.ensures ∙ (λ i. meant.shape_fault (target i) (c.shape-2.ensures.value i))) ∙ c.in_default.is in
    items_stop x y c.args.axes.now c.args.numbers.now c.item_count-count.result c.in-Err.trouble (sym agree ∙ c.if-not-kinds_agree.false) right
    c.item_count-count.ensures.value c.in-Err.ensures

pub with_cells-requires-clause-within : goal.with_cells-requires-clause-within
with_cells-requires-clause-within c =
    let y = c.args.y.now.noun in
    let named : all_or_first (map (place_in (item_count y)) c.args.numbers.now) ≡ Ok c.in-Ok.places =
    ap (λ n. all_or_first (map (place_in n) c.args.numbers.now)) (sym c.item_count-count.ensures.value) ∙ c.in-Ok.ensures in
    let are = places_are (item_count y) c.args.numbers.now c.in-Ok.places named in
    subst (λ ps. All (λ p. p < c.item_count-count.result) ps) (sym c.items.ensures)
    (subst (λ n. All (λ p. p < n) c.in-Ok.places) (sym c.item_count-count.ensures.value) are.1)

pub with_cells-requires-clause-some : goal.with_cells-requires-clause-some
with_cells-requires-clause-some c =
    let x = c.args.x.now.noun in
    let y = c.args.y.now.noun in
    let axes = c.args.axes.now in
    let further = c.further_axes-item.ensures ∙ ap further_axes c.shape.ensures.value in
    let target = c.as_slice.ensures.value ∙ c.in_ok-target.ensures ∙ ap (λ s. axes ++ s) further in
    let right = sym (c.shape_fault.ensures ∙ (λ i. meant.shape_fault (target i) (c.shape-2.ensures.value i))) ∙ c.in_default.is in
    let named : all_or_first (map (place_in (item_count y)) c.args.numbers.now) ≡ Ok c.in-Ok.places =
    ap (λ n. all_or_first (map (place_in n) c.args.numbers.now)) (sym c.item_count-count.ensures.value) ∙ c.in-Ok.ensures in
    let are = places_are (item_count y) c.args.numbers.now c.in-Ok.places named in
    let many : length c.items.result.now ≡ product axes = ap length c.items.ensures ∙ are.0 ∙ c.requires in
    let cell = c.product_of.ensures ∙ ap product further in
    λ h. subst (λ k. 0 < k) (sym c.shape-2.ensures.array.whole)
    (last_some axes (item_axes y) (shape x) (length (axes ++ item_axes y) - length (shape x)) (length c.items.result.now) (fits_end (axes ++ item_axes y) (shape x) right) many
    (subst (λ k. 0 < length c.items.result.now * k) cell h))

pub with_cells-requires-clause-parts : goal.with_cells-requires-clause-parts
with_cells-requires-clause-parts c =
    let x = c.args.x.now.noun in
    let y = c.args.y.now.noun in
    let axes = c.args.axes.now in
    let further = c.further_axes-item.ensures ∙ ap further_axes c.shape.ensures.value in
    let target = c.as_slice.ensures.value ∙ c.in_ok-target.ensures ∙ ap (λ s. axes ++ s) further in
    let right = sym (c.shape_fault.ensures ∙ (λ i. meant.shape_fault (target i) (c.shape-2.ensures.value i))) ∙ c.in_default.is in
    let cell = c.product_of.ensures ∙ ap product further in
    let fit = parts_fit axes (item_axes y) (shape x) (length (axes ++ item_axes y) - length (shape x)) (fits_end (axes ++ item_axes y) (shape x) right) in
    subst (λ k. Divides k (length (atoms x)) ⊎ Divides (length (atoms x)) k) (sym cell)
    (subst (λ k. Divides (product (item_axes y)) k ⊎ Divides k (product (item_axes y))) (sym c.shape-2.ensures.array.whole) fit)

pub returns : goal.returns
returns c =
    let x = c.args.x.now.noun in
    let y = c.args.y.now.noun in
    let axes = c.args.axes.now in
    let agree = c.kinds_agree.ensures
    ∙ (λ i. kinds_match (c.leaf.ensures.kind i) (c.leaf-2.ensures.kind i) (c.leaf.ensures.atoms i) || kinds_match (c.leaf-2.ensures.kind i) (c.leaf.ensures.kind i) (c.leaf-2.ensures.atoms i)) in
    let further = c.further_axes-item.ensures ∙ ap further_axes c.shape.ensures.value in
    let target = c.as_slice.ensures.value ∙ c.in_ok-target.ensures ∙ ap (λ s. axes ++ s) further in
    let right = sym (c.shape_fault.ensures ∙ (λ i. meant.shape_fault (target i) (c.shape-2.ensures.value i))) ∙ c.in_default.is in
    let named : all_or_first (map (place_in (item_count y)) c.args.numbers.now) ≡ Ok c.in-Ok.places =
    ap (λ n. all_or_first (map (place_in n) c.args.numbers.now)) (sym c.item_count-count.ensures.value) ∙ c.in-Ok.ensures in
    let cell = c.product_of.ensures ∙ ap product further in
    subst (λ r. Answers {Value = Noun} r c.with_cells.result)
    ((λ i. Ok (meant.with_cells x y (cell i) (c.items.ensures i))) ∙ sym (items_replaced x y axes c.args.numbers.now c.in-Ok.places (sym agree ∙ c.if-not-kinds_agree.false) right named))
    c.with_cells.ensures
