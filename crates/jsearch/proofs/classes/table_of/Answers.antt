use Rattle.std.proofs.Common.{ap, sym, ◌∙◌, subst, length, map, ◌<◌}
use Rattle.std.specs.List.{range_with_len}
use Rattle.jdata.specs.Limits.{most_atoms}
use Rattle.jdata.specs.Noun.{extent}
use Rattle.jsearch.specs.Finding.{items, item, first_place}
use Rattle.jsearch.proofs.Found.{items_within, items_are, item_is, items_count}
use Rattle.std.proofs.lemmas.List.FromFn.{length-map-range_with_len}
use Rattle.jdata.specs.Answers.{Answers}
use Rattle.jselect.specs.Items.{item_count}
use Rattle.jsearch.proofs.Classed.{rows_are, table_too_large, table_made, table_whole}
use Rattle.jsearch.proofs.classes.table_of.Goals as goal

pub first_places_in-requires-clause-among_frame : goal.first_places_in-requires-clause-among_frame
first_places_in-requires-clause-among_frame c = items_within c.items_of-items.result c.args.y.now.noun c.items_of-items.ensures.whole c.items_of-items.ensures.frame

pub first_places_in-requires-clause-wanted_frame : goal.first_places_in-requires-clause-wanted_frame
first_places_in-requires-clause-wanted_frame c = items_within c.items_of-items.result c.args.y.now.noun c.items_of-items.ensures.whole c.items_of-items.ensures.frame

pub returns-in-None : goal.returns-in-None
returns-in-None c =
    let y = c.args.y.now.noun in
    let w = c.items_of-items.result in
    let is = c.items_of-items.ensures.whole in
    let frame = c.items_of-items.ensures.frame in
    let e = c.as_slice-places.ensures.value ∙ c.in_ok-places.ensures ∙ (λ i. map (λ j. first_place (items_are w y is frame i) (item_is w y is frame j i)) (range_with_len 0 (items_count w y is frame i))) in
    let are = c.as_slice-rows.ensures.value ∙ c.in_ok-rows.ensures ∙ rows_are y c.as_slice-places.result.now e in
    table_too_large y c.as_slice-rows.result.now c.as_slice-places.result.now c.in_ok-shape.shape.items are (ap length e ∙ length-map-range_with_len (λ j. first_place (items y) (item y j)) 0 (item_count y)) c.in_ok-shape.ensures.items
    (subst (λ s. most_atoms < extent s) c.as_slice.ensures.value c.in-None.ensures)

pub limited-requires : goal.limited-requires
limited-requires c = table_whole c.as_slice-rows.result.now c.as_slice-places.result.now c.in_ok-shape.shape.items c.of.result c.in_ok-shape.ensures.items (c.of.ensures ∙ c.in_ok-flags.ensures)

pub returns : goal.returns
returns c =
    let y = c.args.y.now.noun in
    let w = c.items_of-items.result in
    let is = c.items_of-items.ensures.whole in
    let frame = c.items_of-items.ensures.frame in
    let e = c.as_slice-places.ensures.value ∙ c.in_ok-places.ensures ∙ (λ i. map (λ j. first_place (items_are w y is frame i) (item_is w y is frame j i)) (range_with_len 0 (items_count w y is frame i))) in
    let are = c.as_slice-rows.ensures.value ∙ c.in_ok-rows.ensures ∙ rows_are y c.as_slice-places.result.now e in
    let meant = table_made y c.as_slice-rows.result.now c.as_slice-places.result.now c.in_ok-shape.shape.items c.of.result e are c.in_ok-shape.ensures.items (c.of.ensures ∙ c.in_ok-flags.ensures) in
    subst (λ v. Answers v c.limited.result) (sym meant) c.limited.ensures
