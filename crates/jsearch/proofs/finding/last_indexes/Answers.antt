use Rattle.std.proofs.Common.{Ok, ap, length, map, pos, ◌∙◌, ℕ}
use Rattle.std.specs.List.{range_with_len}
use Rattle.std.proofs.lemmas.List.{length-map}
use Rattle.std.proofs.lemmas.List.FromFn.{length-map-range_with_len}
use Rattle.std.proofs.lemmas.Result.{IfOk-weaker}
use Rattle.jsearch.specs.Finding.{outer, items, last_place}
use Rattle.jsearch.specs.Listed.{cell_in, cell_count, cells_in}
use Rattle.jsearch.proofs.Found.{numbers_made, placed_for, places_fit, items_within, cells_within, last_within}
use Rattle.jsearch.proofs.finding.last_indexes.Goals as goal

pub last_places_in-requires-clause-among_frame : goal.last_places_in-requires-clause-among_frame
last_places_in-requires-clause-among_frame c = items_within c.items_of.result c.args.x.now.noun c.items_of.ensures.whole c.items_of.ensures.frame

pub last_places_in-requires-clause-wanted_frame : goal.last_places_in-requires-clause-wanted_frame
last_places_in-requires-clause-wanted_frame c = cells_within c.cells_like-wanted.result c.args.x.now.noun c.args.y.now.noun c.cells_like-wanted.ensures.whole c.cells_like-wanted.ensures.frame

pub as_numbers-requires : goal.as_numbers-requires
as_numbers-requires c =
    let a = c.items_of.result in
    let w = c.cells_like-wanted.result in
    places_fit a (λ j. last_place (cells_in a) (cell_in w j)) (range_with_len 0 (cell_count w)) _ c.items_of.ensures.array (c.as_slice.ensures.value ∙ c.in_ok-places.ensures) (λ j. last_within (cells_in a) (cell_in w j))

pub numbers_for-requires-clause-count : goal.numbers_for-requires-clause-count
numbers_for-requires-clause-count c =
    let f : ℕ → ℕ = λ j. last_place (cells_in c.items_of.result) (cell_in c.cells_like-wanted.result j) in
    ap length (c.in_ok-numbers.ensures ∙ ap (map pos) c.as_slice.ensures.value) ∙ length-map _ pos ∙ ap length c.in_ok-places.ensures ∙ length-map-range_with_len f 0 (cell_count c.cells_like-wanted.result)

pub returns : goal.returns
returns c =
    let x = c.args.x.now.noun in
    let y = c.args.y.now.noun in
    let a = c.items_of.result in
    let w = c.cells_like-wanted.result in
    IfOk-weaker c.numbers_for.result _ _
    (λ t e. ap Ok (numbers_made w y (outer x y) (λ v. pos (last_place (items x) v)) _ t c.cells_like-wanted.ensures.whole c.cells_like-wanted.ensures.frame
    (placed_for a w x last_place _ _ c.items_of.ensures.whole c.items_of.ensures.frame c.in_ok-places.ensures (c.in_ok-numbers.ensures ∙ ap (map pos) c.as_slice.ensures.value)) e))
    c.numbers_for.ensures
