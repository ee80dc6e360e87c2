use Rattle.std.proofs.Common.{ap, sym, ◌∙◌, drop}
use Rattle.jdata.specs.Noun.{kind, atoms, shape, product}
use Rattle.jdata.proofs.Arrays.{few_atoms}
use Rattle.jsearch.specs.Listed.{whole}
use Rattle.jsearch.proofs.Found.{items_within, items_count}
use Rattle.jsearch.proofs.Graded.{cells_whole, cells_few}
use Rattle.jsearch.proofs.grading.places.Goals as goal

pub item_size-size-requires-clause-frame : goal.item_size-size-requires-clause-frame
item_size-size-requires-clause-frame c = items_within c.items_of-items.result c.args.y.now.noun c.items_of-items.ensures.whole c.items_of-items.ensures.frame

pub count_of-count-requires-clause-frame : goal.count_of-count-requires-clause-frame
count_of-count-requires-clause-frame c = items_within c.items_of-items.result c.args.y.now.noun c.items_of-items.ensures.whole c.items_of-items.ensures.frame

pub places_of_items-requires-clause-whole : goal.places_of_items-requires-clause-whole
places_of_items-requires-clause-whole c = cells_whole c.items_of-items.result c.item_size-size.result c.count_of-count.result c.items_of-items.ensures.array c.count_of-count.ensures c.item_size-size.ensures

pub places_of_items-requires-clause-few : goal.places_of_items-requires-clause-few
places_of_items-requires-clause-few c = few_atoms (whole c.items_of-items.result) c.items_of-items.ensures.array

pub places_of_items-requires-clause-count : goal.places_of_items-requires-clause-count
places_of_items-requires-clause-count c = cells_few c.items_of-items.result c.count_of-count.result c.items_of-items.ensures.array c.count_of-count.ensures

pub returns : goal.returns
returns c =
    let w = c.items_of-items.result in
    let is = c.items_of-items.ensures.whole in
    let frame = c.items_of-items.ensures.frame in
    c.places_of_items.ensures c.args.y.now.noun
    (record { size_is = c.item_size-size.ensures ∙ (λ i. product (drop (frame i) (shape (is i)))); count_is = c.count_of-count.ensures ∙ items_count w c.args.y.now.noun is frame })
    (sym (ap kind is)) (sym (ap atoms is))
