use Rattle.std.proofs.Common.{◌≡◌, ◌*◌, arith, ◌∙◌, ap}
use Rattle.std.proofs.lemmas.List.{length-map}
use Rattle.jdata.specs.Noun.{product}
use Rattle.jdata.specs.declared.noun.Atom.TheVariants as atom
use Rattle.jdata.proofs.Extents.{product-append}
use Rattle.jselect.specs.Listing.{number_named}
use Rattle.jselect.proofs.SingleItems.{as_many}
use Rattle.jselect.proofs.listing.single_named.Goals as goal

pub limited-requires : goal.limited-requires
limited-requires c =
    let axes = c.args.axes.now in
    let item = c.args.item.now in
    let many = length-map c.in-Ok.picks atom.Int ∙ as_many (number_named c.args.items.now) c.args.numbers.now c.in-Ok.picks c.in-Ok.ensures in
    let single : product axes * product item ≡ product axes * 1 = ap (λ n. product axes * n) c.requires.single in
    omega (arith, many, c.requires.whole, single, product-append axes item, ap product c.in_ok-shape.ensures)
