use Rattle.std.proofs.Common.{ap, sym, ◌∙◌, subst, length, map, pos, ◌<◌, ◌^◌}
use Rattle.std.specs.List.{All}
use Rattle.std.proofs.lemmas.Result.{IfOk-weaker}
use Rattle.jsearch.proofs.KeyLists.{map-map, small_places}
use Rattle.jsearch.proofs.OrderLaws.{places_in_order}
use Rattle.jsearch.proofs.ordering.places_sorted.Goals as goal

pub places_beside-requires : goal.places_beside-requires
places_beside-requires g c =
    subst (All (λ e. e.1 < 2 ^ 63)) (sym c.as_slice.ensures.value)
    (small_places c.args.keyed.items c.sort_unstable.new.self.items c.requires.few c.requires.places c.sort_unstable.ensures.permutation)

pub returns : goal.returns
returns g c = λ order value key total agrees keys.
    let before = c.args.keyed.items in
    let after = c.sort_unstable.new.self.items in
    let these = places_in_order g.K.Ord.cmp order value key before after (length before) total agrees c.requires.places keys c.sort_unstable.ensures.permutation c.sort_unstable.ensures.sorted in
    IfOk-weaker c.places_beside.result _ _
    (λ l e. e ∙ ap (map (λ e'. pos e'.1)) c.as_slice.ensures.value ∙ sym (map-map pos (λ e'. e'.1) after) ∙ ap (map pos) these)
    c.places_beside.ensures
