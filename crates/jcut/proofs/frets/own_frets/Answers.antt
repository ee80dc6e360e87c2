use Rattle.std.proofs.Common.{◌∙◌, ap, length}
use Rattle.std.proofs.lemmas.Result.{IfOk-weaker}
use Rattle.std.proofs.lemmas.List.FromFn.{length-map-range_with_len}
use Rattle.jselect.specs.Items.{item_count}
use Rattle.jcut.specs.Frets.{marker}
use Rattle.jcut.proofs.Alike.{place}
use Rattle.jcut.proofs.Fretting.{own_frets_are}
use Rattle.jcut.proofs.frets.own_frets.Goals as goal

pub returns : goal.returns
returns c =
    let y = c.args.y.now.noun in
    let are = c.as_slice-places.ensures.value ∙ c.in_ok-firsts.ensures in
    let many = ap length are ∙ length-map-range_with_len (place y) 0 (item_count y) in
    let at = c.marker-marker.ensures ∙ ap (marker c.args.cutting) many in
    IfOk-weaker c.equal_to.result _ _
    (λ l e. own_frets_are c.args.cutting y c.as_slice-places.result.now c.marker-marker.result l are at e)
    c.equal_to.ensures
