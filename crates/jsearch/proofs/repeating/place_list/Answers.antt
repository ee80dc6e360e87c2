use Rattle.std.proofs.Common.{◌≤◌, ◌<◌, ◌∷◌, [], false, ap, sym, ◌∙◌, subst, length, refl}
use Rattle.jdata.specs.Answers.{Answers}
use Rattle.jdata.specs.Limits.{limited, most_atoms}
use Rattle.jdata.specs.Noun.{extent}
use Rattle.jselect.specs.Picking.{served}
use Rattle.jsearch.specs.Steps.{place_list, repeated_places}
use Rattle.jsearch.proofs.Made.{list_too_long, list_length, places_made, places_whole}
use Rattle.jsearch.proofs.repeating.place_list.Goals as goal

pub returns-in-None : goal.returns-in-None
returns-in-None c =
    let places = repeated_places c.args.counts.now in
    list_too_long (place_list places) (length places) c.total_of-total.result c.in_ok-shape.shape.items refl (c.total_of-total.ensures (served false)) c.in_ok-shape.ensures.items
    (subst (λ s. most_atoms < extent s) c.as_slice.ensures.value c.in-None.ensures)

pub limited-requires : goal.limited-requires
limited-requires c =
    let places = repeated_places c.args.counts.now in
    let small = subst (λ s. extent s ≤ most_atoms) c.as_slice.ensures.value c.in-Some.ensures.1 in
    let all = list_length (length places) c.total_of-total.result c.in_ok-shape.shape.items (c.total_of-total.ensures (served false)) c.in_ok-shape.ensures.items small in
    places_whole places c.in_ok-shape.shape.items c.of.result (c.in_ok-shape.ensures.items ∙ ap (λ n. n ∷ []) all) (c.of.ensures ∙ c.in_ok-places.ensures)

pub returns : goal.returns
returns c =
    let places = repeated_places c.args.counts.now in
    let small = subst (λ s. extent s ≤ most_atoms) c.as_slice.ensures.value c.in-Some.ensures.1 in
    let all = list_length (length places) c.total_of-total.result c.in_ok-shape.shape.items (c.total_of-total.ensures (served false)) c.in_ok-shape.ensures.items small in
    let meant = places_made places c.in_ok-shape.shape.items c.of.result (c.in_ok-shape.ensures.items ∙ ap (λ n. n ∷ []) all) (c.of.ensures ∙ c.in_ok-places.ensures) in
    subst (λ v. Answers (limited v) c.limited.result) (sym meant) c.limited.ensures
