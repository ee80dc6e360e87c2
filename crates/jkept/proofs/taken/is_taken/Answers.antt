use Rattle.std.proofs.Common.{ap, ◌∙◌}
use Rattle.jarray.specs.Matches.{matches}
use Rattle.jkept.proofs.Contents.{some_cell, same_test, boxes_and_boxes, boxes_and_one, one_and_boxes, one_and_one}
use Rattle.jkept.proofs.taken.is_taken.Goals as goal

pub returns-in-Some-Some-clause-value : goal.returns-in-Some-Some-clause-value
returns-in-Some-Some-clause-value c =
    let w = c.in-Some-Some in
    c.share_content.ensures
    ∙ boxes_and_boxes c.args.selected.now.noun c.args.value.now.noun w.boxes.now w.others.now w.ensures.boxed w.ensures'.boxed w.ensures.boxes w.ensures'.boxes

pub returns-in_ok-content-in-Some-None-clause-value : goal.returns-in_ok-content-in-Some-None-clause-value
returns-in_ok-content-in-Some-None-clause-value c =
    let w = c.in-Some-None in
    c.has_content.ensures
    ∙ (ap (λ v. some_cell (matches v) w.boxes.now) c.in_ok-content-in-Some-None.ensures
    ∙ boxes_and_one c.args.selected.now.noun c.args.value.now.noun w.boxes.now w.ensures.boxed w.ensures'.boxed w.ensures.boxes)

pub returns-in_ok-content-in-None-Some-clause-value : goal.returns-in_ok-content-in-None-Some-clause-value
returns-in_ok-content-in-None-Some-clause-value c =
    let w = c.in-None-Some in
    c.has_content-in-None-Some.ensures
    ∙ (ap (λ v. some_cell (matches v) w.boxes.now) c.in_ok-content-in-None-Some.ensures
    ∙ one_and_boxes c.args.selected.now.noun c.args.value.now.noun w.boxes.now w.ensures.boxed w.ensures'.boxed w.ensures'.boxes)

pub returns-in-None-None-clause-value : goal.returns-in-None-None-clause-value
returns-in-None-None-clause-value c =
    same_test c.match_with.result c.args.selected.now.noun c.args.value.now.noun c.match_with.ensures
    ∙ one_and_one c.args.selected.now.noun c.args.value.now.noun c.in-None-None.ensures.boxed c.in-None-None.ensures'.boxed
