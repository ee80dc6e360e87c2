use Rattle.std.proofs.Common.{◌≤◌, ◌+◌, ◌*◌, ◌∷◌, length, take, drop, ap, sym, subst, ◌∙◌}
use Rattle.std.specs.List.{range_with_len}
use Rattle.jdata.specs.Noun.{atoms, product}
use Rattle.jselect.specs.Items.{item_count, item_axes, further_axes}
use Rattle.std.proofs.lemmas.List.FromFn.{length-range_with_len}
use Rattle.jcut.proofs.Bounds.{run_picks}
use Rattle.jcut.proofs.Making.{atoms_fit, made_is_array, made_is_picked, runs_between}
use Rattle.jcut.proofs.picking.items_within.Goals as goal

pub copy_range-requires : goal.copy_range-requires
copy_range-requires c =
    let y = c.args.y.now.noun in
    let cell = c.product_of-cell.ensures ∙ ap product (c.further_axes-item.ensures ∙ ap further_axes c.shape.ensures.value) in
    let fits = atoms_fit y c.args.run.start c.args.run.count c.shape.ensures.array c.requires in
    record {
      within =
          subst (λ l. c.args.run.start * c.product_of-cell.result + c.args.run.count * c.product_of-cell.result ≤ length l) (sym c.leaf.ensures.atoms)
          (subst (λ n. c.args.run.start * n + c.args.run.count * n ≤ length (atoms y)) (sym cell) fits);
    }

pub array-requires : goal.array-requires
array-requires c =
    let y = c.args.y.now.noun in
    let s = c.args.run.start in
    let k = c.args.run.count in
    let further = c.further_axes-item.ensures ∙ ap further_axes c.shape.ensures.value in
    let cell = c.product_of-cell.ensures ∙ ap product further in
    let axes = c.in_ok-shape.ensures ∙ (λ i. sym (length-range_with_len s k) i ∷ further i) in
    let these = c.in_ok-leaves.ensures.atoms ∙ (λ i. take (k * cell i) (drop (s * cell i) (c.leaf.ensures.atoms i))) ∙ sym (runs_between (product (item_axes y)) (atoms y) s k) in
    made_is_array y (range_with_len s k) _ _ _ c.shape.ensures.array (run_picks s k (item_count y) c.requires) axes (c.in_ok-leaves.ensures.kind ∙ c.leaf.ensures.kind) these

pub returns : goal.returns
returns c =
    let y = c.args.y.now.noun in
    let s = c.args.run.start in
    let k = c.args.run.count in
    let further = c.further_axes-item.ensures ∙ ap further_axes c.shape.ensures.value in
    let cell = c.product_of-cell.ensures ∙ ap product further in
    let axes = c.in_ok-shape.ensures ∙ (λ i. sym (length-range_with_len s k) i ∷ further i) in
    let these = c.in_ok-leaves.ensures.atoms ∙ (λ i. take (k * cell i) (drop (s * cell i) (c.leaf.ensures.atoms i))) ∙ sym (runs_between (product (item_axes y)) (atoms y) s k) in
    c.array.ensures
    ∙ made_is_picked y (range_with_len s k) _ _ _ c.shape.ensures.array (run_picks s k (item_count y) c.requires) axes (c.in_ok-leaves.ensures.kind ∙ c.leaf.ensures.kind) these
