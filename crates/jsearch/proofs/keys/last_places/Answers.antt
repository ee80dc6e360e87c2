use Rattle.std.proofs.Common.{ap, ◌∙◌, length, reverse}
use Rattle.std.specs.Prelude.{unwrap_or}
use Rattle.std.specs.List.{position_or_len, position_from}
use Rattle.jsearch.specs.Finding.{from_end}
use Rattle.jsearch.proofs.Sought.{found_back}
use Rattle.jsearch.proofs.Pushing.{mapped_more}
use Rattle.jsearch.proofs.keys.last_places.Goals as goal

pub loop-key-preserved : goal.loop-key-preserved
loop-key-preserved g c =
    let among = c.args.among.now in
    let key = c.key-item.result in
    let turned = c.as_slice.ensures.value ∙ c.reverse.ensures.items ∙ ap reverse c.in_ok-turned.ensures.items in
    mapped_more (λ k. from_end (length among) (position_or_len (g.K.PartialEq.eq k) (reverse among))) c.args.wanted.now c.loop-key.key-index key c.from_end.result c.loop-key.found.items _ c.loop-key-test.true c.key-item.is
    (c.from_end.ensures ∙ ap (from_end (length among)) (c.place_or-place.ensures ∙ ap (λ o. unwrap_or o (length among)) (c.in_ok-places.ensures key ∙ ap (position_from (g.K.PartialEq.eq key) 0) turned) ∙ found_back (g.K.PartialEq.eq key) among))
    c.in_ok-push.ensures.items c.loop-key.invariant
