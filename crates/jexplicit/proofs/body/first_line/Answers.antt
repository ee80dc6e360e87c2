use Rattle.std.proofs.Common.{◌+◌, ◌-◌, take, drop, length, refl, arith}
use Rattle.std.proofs.lemmas.Grind.{common_steps}
use Rattle.jexplicit.proofs.Lines.{first_at, no_end}
use Rattle.jexplicit.proofs.body.first_line.Goals as goal

pub returns-then-byte-eq10-clause-lines : goal.returns-then-byte-eq10-clause-lines
returns-then-byte-eq10-clause-lines c =
    let text = c.args.text.now in
    let next = c.loop-i.i + 1 in
    first_at c.loop-i.i text (take c.loop-i.i text) (take (length text - next) (drop next text)) refl (grind (arith, common_steps)) c.loop-i-test.true c.if-byte-eq10.true c.loop-i.invariant

pub returns-clause-lines : goal.returns-clause-lines
returns-clause-lines c = no_end c.args.text.now (λ k h. c.loop-i.invariant k (omega (arith, h, c.loop-i-test.false)))
