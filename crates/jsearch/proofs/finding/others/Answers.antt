use Rattle.std.proofs.Common.{ap, length, ℕ, ◌∙◌, map}
use Rattle.std.specs.List.{range_with_len}
use Rattle.std.specs.Prelude.{nat_lt, not}
use Rattle.std.proofs.lemmas.List.{length-map}
use Rattle.std.proofs.lemmas.List.FromFn.{length-map-range_with_len}
use Rattle.std.proofs.lemmas.Result.{IfOk-weaker}
use Rattle.jsearch.specs.Finding.{item, is_item_of, first_place, truth}
use Rattle.jsearch.specs.Listed.{cell_in, cell_count, cells_in}
use Rattle.jsearch.proofs.Found.{flags_made, tested_for, items_within, item_is}
use Rattle.jsearch.proofs.finding.others.Goals as goal

pub count_of-requires-clause-frame : goal.count_of-requires-clause-frame
count_of-requires-clause-frame c = items_within c.items_of-among.result c.args.y.now.noun c.items_of-among.ensures.whole c.items_of-among.ensures.frame

pub first_places_in-requires-clause-among_frame : goal.first_places_in-requires-clause-among_frame
first_places_in-requires-clause-among_frame c = items_within c.items_of-among.result c.args.y.now.noun c.items_of-among.ensures.whole c.items_of-among.ensures.frame

pub first_places_in-requires-clause-wanted_frame : goal.first_places_in-requires-clause-wanted_frame
first_places_in-requires-clause-wanted_frame c = items_within c.items_of-wanted.result c.args.x.now.noun c.items_of-wanted.ensures.whole c.items_of-wanted.ensures.frame

pub numbers_for-requires-clause-frame : goal.numbers_for-requires-clause-frame
numbers_for-requires-clause-frame c = items_within c.items_of-wanted.result c.args.x.now.noun c.items_of-wanted.ensures.whole c.items_of-wanted.ensures.frame

pub numbers_for-requires-clause-count : goal.numbers_for-requires-clause-count
numbers_for-requires-clause-count c =
    let f : ℕ → ℕ = λ j. first_place (cells_in c.items_of-among.result) (cell_in c.items_of-wanted.result j) in
    ap length (c.in_ok-numbers.ensures ∙ ap (map (λ p. truth (not (nat_lt p c.count_of.result)))) c.as_slice.ensures.value) ∙ length-map _ (λ p. truth (not (nat_lt p c.count_of.result))) ∙ ap length c.in_ok-places.ensures ∙ length-map-range_with_len f 0 (cell_count c.items_of-wanted.result)

pub returns : goal.returns
returns c =
    let x = c.args.x.now.noun in
    let y = c.args.y.now.noun in
    let a = c.items_of-among.result in
    let w = c.items_of-wanted.result in
    let whole = c.items_of-wanted.ensures.whole in
    let frame = c.items_of-wanted.ensures.frame in
    IfOk-weaker c.numbers_for.result _ _
    (λ t e. flags_made w x (λ i. not (is_item_of y (item x i))) _ t whole frame
    (tested_for a w y c.count_of.result not _ _ c.items_of-among.ensures.whole c.items_of-among.ensures.frame c.count_of.ensures c.in_ok-places.ensures (c.in_ok-numbers.ensures ∙ ap (map (λ p. truth (not (nat_lt p c.count_of.result)))) c.as_slice.ensures.value)
    ∙ (λ i. map (λ j. truth (not (is_item_of y (item_is w x whole frame j i)))) (range_with_len 0 (cell_count w)))) e)
    c.numbers_for.ensures
