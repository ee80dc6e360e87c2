use Rattle.std.proofs.Common.{Ok, ap, length, ℕ, ◌∙◌, map}
use Rattle.std.specs.Prelude.{nat_lt}
use Rattle.std.proofs.lemmas.List.{length-map}
use Rattle.std.proofs.lemmas.List.FromFn.{length-map-range_with_len}
use Rattle.std.proofs.lemmas.Result.{IfOk-weaker}
use Rattle.jsearch.specs.Finding.{outer, is_item_of, first_place, truth}
use Rattle.jsearch.specs.Listed.{cell_in, cell_count, cells_in}
use Rattle.jsearch.proofs.Found.{numbers_made, tested_for, items_within, cells_within}
use Rattle.jsearch.proofs.finding.members.Goals as goal

pub count_of-requires-clause-frame : goal.count_of-requires-clause-frame
count_of-requires-clause-frame c = items_within c.items_of-among.result c.args.y.now.noun c.items_of-among.ensures.whole c.items_of-among.ensures.frame

pub first_places_in-requires-clause-among_frame : goal.first_places_in-requires-clause-among_frame
first_places_in-requires-clause-among_frame c = items_within c.items_of-among.result c.args.y.now.noun c.items_of-among.ensures.whole c.items_of-among.ensures.frame

pub first_places_in-requires-clause-wanted_frame : goal.first_places_in-requires-clause-wanted_frame
first_places_in-requires-clause-wanted_frame c = cells_within c.cells_like-wanted.result c.args.y.now.noun c.args.x.now.noun c.cells_like-wanted.ensures.whole c.cells_like-wanted.ensures.frame

pub numbers_for-requires-clause-count : goal.numbers_for-requires-clause-count
numbers_for-requires-clause-count c =
    let f : ℕ → ℕ = λ j. first_place (cells_in c.items_of-among.result) (cell_in c.cells_like-wanted.result j) in
    ap length (c.in_ok-numbers.ensures ∙ ap (map (λ p. truth (nat_lt p c.count_of.result))) c.as_slice.ensures.value) ∙ length-map _ (λ p. truth (nat_lt p c.count_of.result)) ∙ ap length c.in_ok-places.ensures ∙ length-map-range_with_len f 0 (cell_count c.cells_like-wanted.result)

pub returns : goal.returns
returns c =
    let x = c.args.x.now.noun in
    let y = c.args.y.now.noun in
    let a = c.items_of-among.result in
    let w = c.cells_like-wanted.result in
    IfOk-weaker c.numbers_for.result _ _
    (λ t e. ap Ok (numbers_made w x (outer y x) (λ v. truth (is_item_of y v)) _ t c.cells_like-wanted.ensures.whole c.cells_like-wanted.ensures.frame
    (tested_for a w y c.count_of.result (λ b. b) _ _ c.items_of-among.ensures.whole c.items_of-among.ensures.frame c.count_of.ensures c.in_ok-places.ensures (c.in_ok-numbers.ensures ∙ ap (map (λ p. truth (nat_lt p c.count_of.result))) c.as_slice.ensures.value)) e))
    c.numbers_for.ensures
