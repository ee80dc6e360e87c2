use Rattle.std.proofs.Common.{◌≡◌, ◌+◌, ◌*◌, ◌<◌, ◌≤◌, ◌++◌, Ok, length, map, ap, sym, subst, ◌∙◌}
use Rattle.std.specs.List.{All}
use Rattle.jdata.specs.Answers.{Answers}
use Rattle.jdata.specs.Firsts.{all_or_first}
use Rattle.jdata.specs.Leaf.{atoms_in}
use Rattle.jdata.specs.Limits.{limited, most_atoms}
use Rattle.jdata.specs.Noun.{noun, atoms, product, extent}
use Rattle.jdata.specs.declared.noun.Noun.{Noun}
use Rattle.jselect.specs.Items.{item_count, further_axes}
use Rattle.jselect.specs.Picking.{runs}
use Rattle.jselect.specs.Places.{place_in}
use Rattle.jselect.proofs.NamedItems.{named_stops, named_made, named_too_many, places_are, places_fit, atoms_whole}
use Rattle.jselect.proofs.listing.runs_named.Goals as goal

pub returns-in-Err : goal.returns-in-Err
returns-in-Err c = named_stops c.args.axes.now c.args.numbers.now c.args.y.now.noun c.item_count.result c.in-Err.trouble c.item_count.ensures.value c.in-Err.ensures

pub returns-in-None : goal.returns-in-None
returns-in-None c =
    let y = c.args.y.now.noun in
    let named : all_or_first (map (place_in (item_count y)) c.args.numbers.now) ≡ Ok c.in-Ok.places =
    ap (λ n. all_or_first (map (place_in n) c.args.numbers.now)) (sym c.item_count.ensures.value) ∙ c.in-Ok.ensures in
    let axes = c.in_ok-shape.ensures ∙ ap (λ s. c.args.axes.now ++ s) (c.further_axes-item.ensures ∙ ap further_axes c.shape.ensures.value) in
    named_too_many c.args.axes.now c.args.numbers.now y c.in-Ok.places named
    (subst (λ s. most_atoms < extent s) axes (subst (λ s. most_atoms < extent s) c.as_slice.ensures.value c.in-None.ensures))

pub items_at-requires : goal.items_at-requires
items_at-requires c =
    let y = c.args.y.now.noun in
    let named : all_or_first (map (place_in (item_count y)) c.args.numbers.now) ≡ Ok c.in-Ok.places =
    ap (λ n. all_or_first (map (place_in n) c.args.numbers.now)) (sym c.item_count.ensures.value) ∙ c.in-Ok.ensures in
    let cell = c.product_of-cell.ensures ∙ ap product (c.further_axes-item.ensures ∙ ap further_axes c.shape.ensures.value) in
    let fit = places_fit y c.args.numbers.now c.in-Ok.places c.shape.ensures.array (places_are (item_count y) c.args.numbers.now c.in-Ok.places named) in
    subst (λ l. All (λ p. p * c.product_of-cell.result + c.product_of-cell.result ≤ length (atoms_in c.leaf.result)) l) (sym c.items.ensures)
    (subst (λ a. All (λ p. p * c.product_of-cell.result + c.product_of-cell.result ≤ length a) c.in-Ok.places) (sym c.leaf.ensures.atoms)
    (subst (λ n. All (λ p. p * n + n ≤ length (atoms y)) c.in-Ok.places) (sym cell) fit))

pub limited-requires : goal.limited-requires
limited-requires c =
    let y = c.args.y.now.noun in
    let named : all_or_first (map (place_in (item_count y)) c.args.numbers.now) ≡ Ok c.in-Ok.places =
    ap (λ n. all_or_first (map (place_in n) c.args.numbers.now)) (sym c.item_count.ensures.value) ∙ c.in-Ok.ensures in
    let further = c.further_axes-item.ensures ∙ ap further_axes c.shape.ensures.value in
    let axes = c.in_ok-shape.ensures ∙ ap (λ s. c.args.axes.now ++ s) further in
    let cell = c.product_of-cell.ensures ∙ ap product further in
    let these = c.in_ok-leaves.ensures.atoms ∙ (λ i. runs (cell i) (c.leaf.ensures.atoms i) (c.items.ensures i)) in
    ap length these
    ∙ atoms_whole y c.args.numbers.now c.in-Ok.places c.args.axes.now c.shape.ensures.array (places_are (item_count y) c.args.numbers.now c.in-Ok.places named) c.requires
    ∙ ap product (sym axes)

pub returns : goal.returns
returns c =
    let y = c.args.y.now.noun in
    let named : all_or_first (map (place_in (item_count y)) c.args.numbers.now) ≡ Ok c.in-Ok.places =
    ap (λ n. all_or_first (map (place_in n) c.args.numbers.now)) (sym c.item_count.ensures.value) ∙ c.in-Ok.ensures in
    let further = c.further_axes-item.ensures ∙ ap further_axes c.shape.ensures.value in
    let axes = c.in_ok-shape.ensures ∙ ap (λ s. c.args.axes.now ++ s) further in
    let cell = c.product_of-cell.ensures ∙ ap product further in
    let these = c.in_ok-leaves.ensures.atoms ∙ (λ i. runs (cell i) (c.leaf.ensures.atoms i) (c.items.ensures i)) in
    let kinds = c.in_ok-leaves.ensures.kind ∙ c.leaf.ensures.kind in
    subst (λ r. Answers {Value = Noun} r c.limited.result)
    (ap limited (λ i. noun (axes i) (kinds i) (these i)) ∙ sym (named_made c.args.axes.now c.args.numbers.now y c.in-Ok.places named))
    c.limited.ensures
