use Rattle.std.proofs.Common.{arith, ◌∙◌}
use Rattle.jexplicit.proofs.Standings.{goes_past, stops_at, ends_at}
use Rattle.jexplicit.proofs.checking.reads.Goals as goal

pub returns-then-refused : goal.returns-then-refused
returns-then-refused c =
    stops_at
    c.args.kinds.now
    c.loop-at.at
    _
    c.loop-at.groups.items
    c.refuses.new.groups.items
    c.in_ok-refused.refused
    c.is_sentence_at-followed.result
    (omega arith)
    c.is_sentence_at-followed.ensures
    c.in_ok-refused.ensures
    c.if-refused.true
    c.loop-at.invariant

pub loop-at-preserved : goal.loop-at-preserved
loop-at-preserved c =
    goes_past
    c.args.kinds.now
    c.loop-at.at
    _
    c.loop-at.groups.items
    c.refuses.new.groups.items
    c.in_ok-refused.refused
    c.is_sentence_at-followed.result
    (omega arith)
    c.is_sentence_at-followed.ensures
    c.in_ok-refused.ensures
    c.if-refused.false
    c.loop-at.invariant

pub returns : goal.returns
returns c = c.may_end.ensures ∙ ends_at c.args.kinds.now c.loop-at.at c.loop-at.groups.items (omega arith) c.loop-at.invariant
