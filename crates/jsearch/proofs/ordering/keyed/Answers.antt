use Rattle.std.proofs.Common.{refl}
use Rattle.jsearch.proofs.KeyLists.{keyed_more}
use Rattle.jsearch.proofs.ordering.keyed.Goals as goal

pub loop-place-preserved : goal.loop-place-preserved
loop-place-preserved g c =
    keyed_more (λ e. e.0) (λ e. e.1) c.args.keys.now c.loop-place.place _ c.index-keys-place.result c.loop-place.keyed.items _ c.loop-place-test.true refl refl c.index-keys-place.is c.in_ok-push.ensures.items
    c.loop-place.invariant.0 c.loop-place.invariant.1
