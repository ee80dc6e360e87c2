use Rattle.std.proofs.Common.{◌≡◌, ◌*◌, ◌∙◌, ◌++◌, ap, sym, subst}
use Rattle.std.proofs.Math.Nat.{mul-zero}
use Rattle.jdata.specs.Firsts.{and_then}
use Rattle.jdata.specs.Noun.{product}
use Rattle.jdata.proofs.Extents.{product-append}
use Rattle.jarray.specs.Placed.{Gives}
use Rattle.jstruct.specs.Items.{item_axes, further_axes}
use Rattle.jstruct.specs.Shaping.{counts, filled_axes, reshaped}
use Rattle.jstruct.proofs.Filling.{first_refused}
use Rattle.jstruct.proofs.shaping.reshape.Goals as goal

pub returns-in-Err : goal.returns-in-Err
unfolding reshaped
returns-in-Err c =
    let y = c.args.y.noun in
    first_refused (counts c.args.x.noun) (λ numbers. filled_axes (numbers ++ item_axes y) y) c.in-Err.trouble c.in-Err.ensures

pub fill_axes-requires : goal.fill_axes-requires
fill_axes-requires c = λ some none.
    let y = c.args.y.noun in
    let axes = c.in_ok-extend_from_slice.ensures.items ∙ (λ i. c.into_items-axes.ensures i ++ (c.item_axes.ensures ∙ ap further_axes c.shape.ensures.value) i) in
    some (ap product axes ∙ product-append c.in-Ok.numbers (item_axes y) ∙ ap (λ k. product c.in-Ok.numbers * k) none ∙ mul-zero (product c.in-Ok.numbers))

pub returns : goal.returns
unfolding reshaped
returns c =
    let y = c.args.y.noun in
    let axes = c.in_ok-extend_from_slice.ensures.items ∙ (λ i. c.into_items-axes.ensures i ++ (c.item_axes.ensures ∙ ap further_axes c.shape.ensures.value) i) in
    let same : filled_axes c.extend_from_slice.new.self.items y ≡ reshaped c.args.x.noun y =
    ap (λ a. filled_axes a y) axes ∙ sym (ap (λ r. and_then r (λ numbers. filled_axes (numbers ++ item_axes y) y)) c.in-Ok.ensures) in
    subst (λ m. Gives m c.fill_axes.result) same c.fill_axes.ensures
