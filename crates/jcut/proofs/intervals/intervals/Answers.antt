use Rattle.std.proofs.Common.{◌≡◌, length, arith}
use Rattle.jcut.specs.Cut.{interval}
use Rattle.jcut.proofs.Stepping.{interval_more, intervals_all}
use Rattle.jcut.proofs.intervals.intervals.Goals as goal

pub loop-number-preserved : goal.loop-number-preserved
loop-number-preserved c =
    interval_more (interval c.args.cutting c.args.frets.now c.args.count) c.args.count c.loop-number.number c.loop-number.runs.items c.push.new.self.items c.interval.result
    c.loop-number.invariant.0 c.loop-number.invariant.1 c.interval.ensures.value c.interval.ensures.within c.in_ok-push.ensures.items

pub returns-clause-value : goal.returns-clause-value
returns-clause-value c =
    let all : c.loop-number.number ≡ length c.args.frets.now = omega arith in
    intervals_all c.args.cutting c.args.frets.now c.args.count c.loop-number.number c.loop-number.runs.items c.of.result all c.of.ensures c.loop-number.invariant.0
