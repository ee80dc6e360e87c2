use Rattle.std.proofs.Common.{ap, ◌∙◌}
use Rattle.jturn.proofs.Known.{enters_pass}
use Rattle.jturn.proofs.turn.Turn.enter.Goals as goal

pub returns-then-served-ticket-clause-pass : goal.returns-then-served-ticket-clause-pass
returns-then-served-ticket-clause-pass g c = let ticket = c.draw-ticket.ensures.ticket in let drawn = c.loop.invariant.1 ∙ ticket.2 in
    let hit = (c.look-served.ensures.hit ticket.0 (ap (λ m. m.0.stage) drawn)).0 (c.if-served-ticket.true ∙ ticket.1) in
    enters_pass _ _ c.pass.inside.seat.me.0 c.loop.seat.me.0 _ c.args.pass ticket.0 hit.0 hit.1.0 c.pass.view_is (c.exchange-slot.ensures.0 ∙ (c.look-served.ensures.seat.0 ∙ (c.loop.invariant.0 ∙ c.draw-ticket.ensures.seat.0))) (ap (λ m. m.0) drawn)
    (ap (λ m. m.0) c.exchange-slot.ensures.3 ∙ ap (λ m. m.0) hit.1.1.1) hit.1.1.2 hit.1.1.3 c.pass.invariant.3
