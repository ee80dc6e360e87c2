use Rattle.std.proofs.Common.{arith, ◌≡◌, ◌+◌, ◌-◌, ◌<◌, ap, ◌∙◌, length, drop}
use Rattle.std.specs.Map.{lookup}
use Rattle.std.specs.List.{position_from}
use Rattle.jsearch.proofs.Sought.{stepped, ended}
use Rattle.jsearch.proofs.keys.places_by_key.Goals as goal

pub loop-left-init : goal.loop-left-init
loop-left-init g c =
    (omega arith, λ q. ap (lookup (g.K.PartialEq.eq q)) c.new-places.ensures.empty ∙ ended (g.K.PartialEq.eq q) c.args.among.now)

pub loop-left-preserved : goal.loop-left-preserved
loop-left-preserved g c =
    let among = c.args.among.now in
    let i = c.loop-left.left - 1 in
    let within : i < length among = omega (arith, c.loop-left.invariant.0, c.loop-left-test.true) in
    let one : i + 1 ≡ c.loop-left.left = omega (arith, c.loop-left-test.true) in (
      omega (arith, c.loop-left.invariant.0),
      λ q. stepped g.K.PartialEq.eq g.met.K.Eq.laws among c.loop-left.left i c.index-among-left.result q _ _ one within c.index-among-left.is (c.in-Ok.ensures.updates.0 q) (c.loop-left.invariant.1 q),
    )

pub returns : goal.returns
returns g c =
    let none : c.loop-left.left ≡ 0 = omega arith in
    λ q. c.loop-left.invariant.1 q ∙ ap (λ n. position_from (g.K.PartialEq.eq q) n (drop n c.args.among.now)) none
