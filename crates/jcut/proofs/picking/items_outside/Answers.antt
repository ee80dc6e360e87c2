use Rattle.std.proofs.Common.{◌≡◌, ◌≤◌, ◌+◌, ◌-◌, ◌*◌, ◌++◌, ◌∷◌, length, take, drop, ap, sym, subst, ◌∙◌, arith}
use Rattle.std.specs.List.{range_with_len}
use Rattle.jdata.specs.Noun.{atoms, product}
use Rattle.jselect.specs.Items.{item_count, item_axes, further_axes}
use Rattle.std.proofs.lemmas.List.{length-append}
use Rattle.std.proofs.lemmas.List.FromFn.{length-range_with_len}
use Rattle.jcut.specs.Runs.{outside}
use Rattle.jcut.proofs.Bounds.{around_picks}
use Rattle.jcut.proofs.Making.{atoms_fit, made_is_array, made_is_picked, runs_around}
use Rattle.jcut.proofs.picking.items_outside.Goals as goal

pub overflow_add-end : goal.overflow_add-end
overflow_add-end c = omega (arith, c.requires, c.item_count-count.ensures.value, c.item_count-count.ensures.at_most)

pub copy_range-requires-2 : goal.copy_range-requires-2
copy_range-requires-2 c =
    let y = c.args.y.now.noun in
    let n = c.item_count-count.ensures.value in
    let e = c.args.run.start + c.args.run.count in
    let m = c.item_count-count.result - e in
    let cell = c.product_of-cell.ensures ∙ ap product (c.further_axes-item.ensures ∙ ap further_axes c.shape.ensures.value) in
    let within : e + m ≤ item_count y = omega (arith, c.requires, n) in
    let fits = atoms_fit y e m c.shape.ensures.array within in
    record {
      within =
          subst (λ l. e * c.product_of-cell.result + m * c.product_of-cell.result ≤ length l) (sym c.leaf-2.ensures.atoms)
          (subst (λ w. e * w + m * w ≤ length (atoms y)) (sym cell) fits);
    }

pub array-requires : goal.array-requires
array-requires c =
    let y = c.args.y.now.noun in
    let n = item_count y in
    let s = c.args.run.start in
    let e = s + c.args.run.count in
    let further = c.further_axes-item.ensures ∙ ap further_axes c.shape.ensures.value in
    let cell = c.product_of-cell.ensures ∙ ap product further in
    let many : length (outside n c.args.run) ≡ s + (n - e) =
    length-append (range_with_len 0 s) (range_with_len e (n - e)) ∙ (λ i. length-range_with_len 0 s i + length-range_with_len e (n - e) i) in
    let axes = c.in_ok-shape.ensures ∙ (λ i. (s + (c.item_count-count.ensures.value i - e)) ∷ further i) ∙ ap (λ k. k ∷ item_axes y) (sym many) in
    let these = c.in_ok-append.ensures.ok
    ∙ (λ i. c.in_ok-leaves.ensures.atoms i ++ c.in_ok-more.ensures.atoms i)
    ∙ (λ i. take (s * cell i) (c.leaf.ensures.atoms i) ++ take ((c.item_count-count.ensures.value i - e) * cell i) (drop (e * cell i) (c.leaf-2.ensures.atoms i)))
    ∙ sym (runs_around (product (item_axes y)) (atoms y) s e (n - e)) in
    let up : s ≤ e = omega arith in
    made_is_array y (outside n c.args.run) _ _ _ c.shape.ensures.array (around_picks s e n up c.requires) axes
    (c.in_ok-append.ensures.kind ∙ c.in_ok-leaves.ensures.kind ∙ c.leaf.ensures.kind) these

pub returns : goal.returns
returns c =
    let y = c.args.y.now.noun in
    let n = item_count y in
    let s = c.args.run.start in
    let e = s + c.args.run.count in
    let further = c.further_axes-item.ensures ∙ ap further_axes c.shape.ensures.value in
    let cell = c.product_of-cell.ensures ∙ ap product further in
    let many : length (outside n c.args.run) ≡ s + (n - e) =
    length-append (range_with_len 0 s) (range_with_len e (n - e)) ∙ (λ i. length-range_with_len 0 s i + length-range_with_len e (n - e) i) in
    let axes = c.in_ok-shape.ensures ∙ (λ i. (s + (c.item_count-count.ensures.value i - e)) ∷ further i) ∙ ap (λ k. k ∷ item_axes y) (sym many) in
    let these = c.in_ok-append.ensures.ok
    ∙ (λ i. c.in_ok-leaves.ensures.atoms i ++ c.in_ok-more.ensures.atoms i)
    ∙ (λ i. take (s * cell i) (c.leaf.ensures.atoms i) ++ take ((c.item_count-count.ensures.value i - e) * cell i) (drop (e * cell i) (c.leaf-2.ensures.atoms i)))
    ∙ sym (runs_around (product (item_axes y)) (atoms y) s e (n - e)) in
    let up : s ≤ e = omega arith in
    c.array.ensures
    ∙ made_is_picked y (outside n c.args.run) _ _ _ c.shape.ensures.array (around_picks s e n up c.requires) axes
    (c.in_ok-append.ensures.kind ∙ c.in_ok-leaves.ensures.kind ∙ c.leaf.ensures.kind) these
