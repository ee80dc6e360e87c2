use Rattle.std.proofs.Common.{ap, length, ℕ, ◌∙◌, get_or, map}
use Rattle.std.specs.List.{range_with_len}
use Rattle.std.specs.Prelude.{◌==◌}
use Rattle.std.proofs.lemmas.List.FromFn.{length-map-range_with_len}
use Rattle.std.proofs.lemmas.Result.{IfOk-weaker}
use Rattle.jsearch.specs.Finding.{is_new, first_place, truth}
use Rattle.jsearch.specs.Listed.{cell_in, cell_count, cells_in}
use Rattle.jsearch.proofs.Found.{flags_made, new_flags, items_within}
use Rattle.jsearch.proofs.finding.sieve_of.Goals as goal

pub first_places_in-requires-clause-among_frame : goal.first_places_in-requires-clause-among_frame
first_places_in-requires-clause-among_frame c = items_within c.items_of-items.result c.args.y.now.noun c.items_of-items.ensures.whole c.items_of-items.ensures.frame

pub first_places_in-requires-clause-wanted_frame : goal.first_places_in-requires-clause-wanted_frame
first_places_in-requires-clause-wanted_frame c = items_within c.items_of-items.result c.args.y.now.noun c.items_of-items.ensures.whole c.items_of-items.ensures.frame

pub numbers_for-requires-clause-frame : goal.numbers_for-requires-clause-frame
numbers_for-requires-clause-frame c = items_within c.items_of-items.result c.args.y.now.noun c.items_of-items.ensures.whole c.items_of-items.ensures.frame

pub numbers_for-requires-clause-count : goal.numbers_for-requires-clause-count
numbers_for-requires-clause-count c =
    let w = c.items_of-items.result in
    let f : ℕ → ℕ = λ j. first_place (cells_in w) (cell_in w j) in
    let places = c.in_ok-places.places.items in
    ap length (c.in_ok-numbers.ensures ∙ (λ k. map (λ i. truth (get_or (c.as_slice.ensures.value k) i 0 == i)) (range_with_len 0 (length (c.as_slice.ensures.value k))))) ∙ length-map-range_with_len (λ i. truth (get_or places i 0 == i)) 0 (length places) ∙ ap length c.in_ok-places.ensures ∙ length-map-range_with_len f 0 (cell_count w)

pub returns : goal.returns
returns c =
    let y = c.args.y.now.noun in
    let w = c.items_of-items.result in
    let whole = c.items_of-items.ensures.whole in
    let frame = c.items_of-items.ensures.frame in
    IfOk-weaker c.numbers_for.result _ _
    (λ t e. flags_made w y (is_new y) _ t whole frame ((c.in_ok-numbers.ensures ∙ (λ k. map (λ i. truth (get_or (c.as_slice.ensures.value k) i 0 == i)) (range_with_len 0 (length (c.as_slice.ensures.value k))))) ∙ new_flags w y _ whole frame c.in_ok-places.ensures) e)
    c.numbers_for.ensures
