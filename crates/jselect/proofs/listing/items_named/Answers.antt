use Rattle.std.proofs.Common.{◌++◌, sym, ◌∙◌, ap, subst, map}
use Rattle.jdata.specs.Answers.{Answers}
use Rattle.jdata.specs.Firsts.{all_or_first, and_then}
use Rattle.jdata.specs.Limits.{limited}
use Rattle.jdata.specs.Noun.{noun, product}
use Rattle.jdata.specs.declared.noun.Noun.{Noun}
use Rattle.jdata.specs.declared.noun.Kind.TheVariants as sort
use Rattle.jdata.specs.declared.noun.Atom.TheVariants as atom
use Rattle.jselect.specs.Items.{further_axes}
use Rattle.jselect.specs.Listing.{number_named}
use Rattle.jselect.proofs.SingleItems.{single_items}
use Rattle.jselect.proofs.listing.items_named.Goals as goal

pub returns-in-Int-eq1 : goal.returns-in-Int-eq1
returns-in-Int-eq1 c =
    let y = c.args.y.now.noun in
    let axes = c.args.axes.now in
    let items = c.in-Int-eq1.items.now in
    let item = c.further_axes-item.ensures ∙ ap further_axes c.shape.ensures.value in
    let one = sym (ap product item) ∙ sym c.product_of-cell.ensures ∙ c.in-Int-eq1.is-1 in
    let meant = single_items axes c.args.numbers.now items y c.shape.ensures.array one (sym c.in-Int-eq1.ensures.kind) (sym c.in-Int-eq1.ensures.atoms) in
    subst (λ r. Answers {Value = Noun} r c.single_named.result)
    (ap (λ s. and_then (all_or_first (map (number_named items) c.args.numbers.now)) (λ picks. limited (noun (axes ++ s) sort.Int (map atom.Int picks)))) item ∙ sym meant)
    c.single_named.ensures
