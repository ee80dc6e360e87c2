use Rattle.std.proofs.Common.{◌<◌, ◌≤◌, ◌+◌, ◌*◌, ◌∷◌, ap, sym, ◌∙◌, subst, length}
use Rattle.std.specs.List.{All}
use Rattle.jdata.specs.Answers.{Answers}
use Rattle.jdata.specs.Limits.{limited, most_atoms}
use Rattle.jdata.specs.Noun.{shape, atoms, product, extent}
use Rattle.jselect.specs.Copies.{count_at}
use Rattle.jselect.specs.Items.{first_axis, further_axes}
use Rattle.jselect.specs.Picking.{is_alone, served, repeated, runs}
use Rattle.jselect.proofs.Copied.{item_serves, picked_made, picked_whole, picked_too_many}
use Rattle.jselect.proofs.Picked.{item_fits}
use Rattle.jselect.proofs.Runs.{All-repeated}
use Rattle.jselect.proofs.copying.copied_items.Goals as goal

pub returns-in-None : goal.returns-in-None
returns-in-None c =
    let y = c.args.y.now.noun in
    let places = repeated (count_at c.args.one_count c.args.counts.now) (served (is_alone (shape y))) c.args.number in
    let axes = c.in_ok-shape.ensures ∙ ap (λ s. c.total_of-total.result ∷ s) (c.further_axes-item.ensures ∙ ap further_axes c.shape-axes.ensures.value) in
    picked_too_many y places c.total_of-total.result c.in_ok-shape.shape.items (c.total_of-total.ensures (served (is_alone (shape y))))
    axes (subst (λ s. most_atoms < extent s) c.as_slice.ensures.value c.in-None.ensures)

pub copies-requires-clause-items : goal.copies-requires-clause-items
copies-requires-clause-items c i below =
    let y = c.args.y.now.noun in
    let cell = c.product_of.ensures ∙ ap product (c.further_axes-item.ensures ∙ ap further_axes c.shape-axes.ensures.value) in
    let alone = c.is_alone-one_item.ensures ∙ ap is_alone c.shape-axes.ensures.value in
    let serves = item_serves c.args.one_count (length c.args.counts.now) (shape y) c.args.number i c.requires.number below in
    let fits = item_fits y (served (is_alone (shape y)) i) c.shape-axes.ensures.array serves in
    subst (λ n. served c.is_alone-one_item.result i * c.product_of.result + c.product_of.result ≤ n) (ap length (sym c.leaf.ensures.atoms))
    (subst (λ b. served b i * c.product_of.result + c.product_of.result ≤ length (atoms y)) (sym alone)
    (subst (λ n. served (is_alone (shape y)) i * n + n ≤ length (atoms y)) (sym cell) fits))

pub limited-requires : goal.limited-requires
limited-requires c =
    let y = c.args.y.now.noun in
    let places = repeated (count_at c.args.one_count c.args.counts.now) (served (is_alone (shape y))) c.args.number in
    let further = c.further_axes-item.ensures ∙ ap further_axes c.shape-axes.ensures.value in
    let axes = c.in_ok-shape.ensures ∙ ap (λ s. c.total_of-total.result ∷ s) further in
    let cell = c.product_of.ensures ∙ ap product further in
    let alone = c.is_alone-one_item.ensures ∙ ap is_alone c.shape-axes.ensures.value in
    let within : All (λ p. p < first_axis (shape y)) places =
    All-repeated (λ p. p < first_axis (shape y)) (count_at c.args.one_count c.args.counts.now) (served (is_alone (shape y))) c.args.number
    (λ i below. item_serves c.args.one_count (length c.args.counts.now) (shape y) c.args.number i c.requires.number below) in
    let these = c.in_ok-leaves.ensures.atoms ∙ (λ i. runs (cell i) (c.leaf.ensures.atoms i) (repeated (count_at c.args.one_count c.args.counts.now) (served (alone i)) c.args.number)) in
    let small = subst (λ s. extent s ≤ most_atoms) c.as_slice.ensures.value c.in-Some.ensures.1 in
    picked_whole y places c.total_of-total.result c.in_ok-shape.shape.items _ c.shape-axes.ensures.array within (c.total_of-total.ensures (served (is_alone (shape y))))
    axes small these

pub returns : goal.returns
returns c =
    let y = c.args.y.now.noun in
    let places = repeated (count_at c.args.one_count c.args.counts.now) (served (is_alone (shape y))) c.args.number in
    let further = c.further_axes-item.ensures ∙ ap further_axes c.shape-axes.ensures.value in
    let axes = c.in_ok-shape.ensures ∙ ap (λ s. c.total_of-total.result ∷ s) further in
    let cell = c.product_of.ensures ∙ ap product further in
    let alone = c.is_alone-one_item.ensures ∙ ap is_alone c.shape-axes.ensures.value in
    let within : All (λ p. p < first_axis (shape y)) places =
    All-repeated (λ p. p < first_axis (shape y)) (count_at c.args.one_count c.args.counts.now) (served (is_alone (shape y))) c.args.number
    (λ i below. item_serves c.args.one_count (length c.args.counts.now) (shape y) c.args.number i c.requires.number below) in
    let these = c.in_ok-leaves.ensures.atoms ∙ (λ i. runs (cell i) (c.leaf.ensures.atoms i) (repeated (count_at c.args.one_count c.args.counts.now) (served (alone i)) c.args.number)) in
    let small = subst (λ s. extent s ≤ most_atoms) c.as_slice.ensures.value c.in-Some.ensures.1 in
    let meant = picked_made y places c.total_of-total.result c.in_ok-shape.shape.items _ _ c.shape-axes.ensures.array within (c.total_of-total.ensures (served (is_alone (shape y))))
    axes small (c.in_ok-leaves.ensures.kind ∙ c.leaf.ensures.kind) these in
    subst (λ v. Answers (limited v) c.limited.result) (sym meant) c.limited.ensures
