use Rattle.std.proofs.Common.{◌≡◌, ◌++◌, ◌+◌, replicate, arith, ap, sym, ◌∙◌, w64}
use Rattle.std.proofs.lemmas.Int.{to_z-of_z}
use Rattle.jsearch.proofs.Pushed.{pushed_again}
use Rattle.jsearch.proofs.repeating.push_times.Goals as goal

pub loop-preserved : goal.loop-preserved
loop-preserved c =
    let same = to_z-of_z w64 c.args.number c.ranges.number in
    pushed_again c.loop.counter c.args.number c.args.into.now.items c.loop.into.items c.push.new.self.items c.ranges.number c.in_ok-push.ensures.items
    (c.loop.invariant ∙ ap (λ n. c.args.into.now.items ++ replicate c.loop.counter n) same)
    ∙ ap (λ n. c.args.into.now.items ++ replicate (c.loop.counter + 1) n) (sym same)

pub returns : goal.returns
returns c =
    let done : c.loop.counter ≡ c.args.count = omega arith in
    c.loop.invariant ∙ (λ i. c.args.into.now.items ++ replicate (done i) (to_z-of_z w64 c.args.number c.ranges.number i))
