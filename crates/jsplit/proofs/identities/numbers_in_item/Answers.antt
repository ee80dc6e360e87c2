-- A number at each place of an item.
use Rattle.std.proofs.Common.{Ok, sym, ◌∙◌, ap, w64}
use Rattle.std.specs.Prelude.{replicate}
use Rattle.std.proofs.lemmas.Int.{to_z-of_z}
use Rattle.jdata.specs.Noun.{product}
use Rattle.jselect.specs.Items.{further_axes}
use Rattle.jsplit.proofs.Items.{numbers_are}
use Rattle.jsplit.proofs.identities.numbers_in_item.Goals as goal

pub returns : goal.returns
returns c =
    let further = c.further_axes-item.ensures ∙ ap further_axes c.shape.ensures.value in
    let counted = c.product_of-count.ensures ∙ ap product further in
    let same = ap (replicate c.product_of-count.result) (to_z-of_z w64 c.args.number c.ranges.number) in
    let whole = numbers_are c.args.y.now.noun c.in_ok-axes.axes.items c.args.number c.product_of-count.result c.of.result
    (c.in_ok-axes.ensures.items ∙ further) counted (c.of.ensures ∙ c.in_ok-numbers.ensures.items_if_clones_equal (λ y e. e) ∙ same) in
    sym (ap (λ v. Ok v) (c.integers.ensures ∙ whole))
