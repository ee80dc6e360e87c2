use Rattle.std.proofs.Common.{ap, ◌∙◌, length}
use Rattle.std.specs.Prelude.{unwrap_or}
use Rattle.std.specs.List.{position_or_len}
use Rattle.jsearch.proofs.Sought.{found}
use Rattle.jsearch.proofs.Pushing.{mapped_more}
use Rattle.jsearch.proofs.keys.first_places.Goals as goal

pub loop-key-preserved : goal.loop-key-preserved
loop-key-preserved g c =
    let among = c.args.among.now in
    let key = c.key-item.result in
    mapped_more (λ k. position_or_len (g.K.PartialEq.eq k) among) c.args.wanted.now c.loop-key.key-index key c.place_or.result c.loop-key.found.items _ c.loop-key-test.true c.key-item.is
    (c.place_or.ensures ∙ ap (λ o. unwrap_or o (length among)) (c.in_ok-places.ensures key) ∙ found (g.K.PartialEq.eq key) among)
    c.in_ok-push.ensures.items c.loop-key.invariant
