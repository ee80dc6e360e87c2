use Rattle.std.proofs.Common.{◌≤◌, ◌<◌, ◌+◌, ◌*◌, ◌∷◌, [], ap, sym, ◌∙◌, subst, refl}
use Rattle.jdata.specs.Answers.{Answers}
use Rattle.jdata.specs.Limits.{limited, most_atoms}
use Rattle.jdata.specs.Noun.{extent, product}
use Rattle.jsearch.specs.Steps.{step_list, step}
use Rattle.jsearch.specs.Turned.{magnitude}
use Rattle.jsearch.proofs.Made.{list_too_long, list_length, steps_made, turned_whole, one_axis}
use Rattle.jsearch.proofs.stepping.step_list.Goals as goal

pub returns-in-None : goal.returns-in-None
returns-in-None c =
    let z = c.args.number.now in
    list_too_long (step_list z) (2 * magnitude z + 1) c.step_count-count.result c.in_ok-shape.shape.items refl c.step_count-count.ensures c.in_ok-shape.ensures.items
    (subst (λ s. most_atoms < extent s) c.as_slice.ensures.value c.in-None.ensures)

pub steps_from-requires-clause-all : goal.steps_from-requires-clause-all
steps_from-requires-clause-all c =
    let small = subst (λ s. extent s ≤ most_atoms) c.as_slice.ensures.value c.in-Some.ensures.1 in
    c.in-Some.ensures.0 ∙ ap product (c.as_slice.ensures.value ∙ c.in_ok-shape.ensures.items) ∙ one_axis c.step_count-count.result
    ∙ list_length (2 * magnitude c.args.number.now + 1) c.step_count-count.result c.in_ok-shape.shape.items c.step_count-count.ensures c.in_ok-shape.ensures.items small

pub limited-requires : goal.limited-requires
limited-requires c =
    turned_whole c.in_ok-shape.shape.items (step c.args.number.now) c.in-Some.count c.of.result (c.in-Some.ensures.0 ∙ ap product c.as_slice.ensures.value) (c.of.ensures ∙ c.in_ok-steps.ensures)

pub returns : goal.returns
returns c =
    let z = c.args.number.now in
    let small = subst (λ s. extent s ≤ most_atoms) c.as_slice.ensures.value c.in-Some.ensures.1 in
    let same = c.in-Some.ensures.0 ∙ ap product (c.as_slice.ensures.value ∙ c.in_ok-shape.ensures.items) ∙ one_axis c.step_count-count.result in
    let all = same ∙ list_length (2 * magnitude z + 1) c.step_count-count.result c.in_ok-shape.shape.items c.step_count-count.ensures c.in_ok-shape.ensures.items small in
    let meant = steps_made z c.in-Some.count c.in_ok-shape.shape.items c.of.result all (c.in_ok-shape.ensures.items ∙ ap (λ n. n ∷ []) (sym same)) (c.of.ensures ∙ c.in_ok-steps.ensures) in
    subst (λ v. Answers (limited v) c.limited.result) (sym meant) c.limited.ensures
