use Rattle.std.proofs.Common.{length, map, ap, sym, ◌∙◌}
use Rattle.std.specs.List.{range_with_len}
use Rattle.std.proofs.lemmas.Result.{IfOk-weaker}
use Rattle.std.proofs.lemmas.List.FromFn.{length-map-range_with_len}
use Rattle.jselect.specs.Items.{item_count}
use Rattle.jcut.specs.Grouped.{places_with}
use Rattle.jcut.proofs.Alike.{place, firsts_below, classes_are}
use Rattle.jcut.proofs.key.class_places.Goals as goal

pub grouped-requires : goal.grouped-requires
grouped-requires c = firsts_below c.args.x.now.noun c.as_slice.result.now (c.as_slice.ensures.value ∙ c.in_ok-firsts.ensures)

pub own_lists-requires : goal.own_lists-requires
own_lists-requires c =
    ap length c.in_ok-lists.ensures ∙ length-map-range_with_len (places_with c.as_slice.result.now (length c.as_slice.result.now)) 0 (length c.as_slice.result.now)
    ∙ ap length (c.as_slice.ensures.value ∙ sym c.as_slice-2.ensures.value)

pub returns : goal.returns
returns c =
    let x = c.args.x.now.noun in
    let numbers = c.as_slice-2.result.now in
    let are = c.as_slice-2.ensures.value ∙ c.in_ok-firsts.ensures in
    let many = ap length are ∙ length-map-range_with_len (place x) 0 (item_count x) in
    let same = c.as_slice.ensures.value ∙ sym c.as_slice-2.ensures.value in
    let lists = c.in_ok-lists.ensures ∙ (λ i. map (places_with (same i) (length (same i))) (range_with_len 0 (length (same i)))) in
    IfOk-weaker c.own_lists.result _ _ (λ l e. e ∙ classes_are x numbers (length numbers) many are c.in_ok-lists.lists lists) c.own_lists.ensures
