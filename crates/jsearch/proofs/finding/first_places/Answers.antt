use Rattle.std.proofs.Common.{◌∙◌, map}
use Rattle.std.proofs.lemmas.Result.{IfOk-weaker}
use Rattle.std.specs.List.{range_with_len}
use Rattle.jsearch.specs.Finding.{first_place}
use Rattle.jsearch.proofs.Found.{items_within, items_are, item_is, items_count}
use Rattle.jsearch.proofs.finding.first_places.Goals as goal

pub first_places_in-requires-clause-among_frame : goal.first_places_in-requires-clause-among_frame
first_places_in-requires-clause-among_frame c = items_within c.items_of-items.result c.args.y.now.noun c.items_of-items.ensures.whole c.items_of-items.ensures.frame

pub first_places_in-requires-clause-wanted_frame : goal.first_places_in-requires-clause-wanted_frame
first_places_in-requires-clause-wanted_frame c = items_within c.items_of-items.result c.args.y.now.noun c.items_of-items.ensures.whole c.items_of-items.ensures.frame

pub returns : goal.returns
returns c =
    let y = c.args.y.now.noun in
    let w = c.items_of-items.result in
    let whole = c.items_of-items.ensures.whole in
    let frame = c.items_of-items.ensures.frame in
    IfOk-weaker c.first_places_in.result _ _
    (λ v e. e ∙ (λ k. map (λ j. first_place (items_are w y whole frame k) (item_is w y whole frame j k)) (range_with_len 0 (items_count w y whole frame k))))
    c.first_places_in.ensures
