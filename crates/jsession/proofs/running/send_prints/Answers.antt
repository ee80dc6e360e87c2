use Rattle.std.proofs.Common.{[], ◌∷◌, List, ℕ, subst}
use Rattle.juses.proofs.Doing.{Relations}
use Rattle.juses.specs.declared.uses.Cause.{Cause}
use Rattle.jsession.specs.Ran.{Wrote, ill, handing}
use Rattle.jsession.proofs.Sessions.{then_closed}
use Rattle.jsession.proofs.running.send_prints.Goals as goal

pub returns-clause-wrote : goal.returns-clause-wrote
returns-clause-wrote g c =
    let u : Relations g.row.U.Denot = record { leads = g.U.Uses.leads; refuses = g.U.Uses.refuses; stays = g.met.U.Uses.stays; joins = g.met.U.Uses.joins } in
    let P : List ℕ → Type 0 = λ bytes. Wrote (g.K.Sink.writes c.args.out.now) bytes (ill c.in-Err.status) (g.K.Sink.writes c.send.new.out) in
    let Q : Cause → Type 0 = λ cause. g.U.Uses.leads c.args.eval.now.uses (handing c.take_prints-piece.result (cause ∷ [])) c.close.new.self.uses in (
      c.take_prints-piece.result,
      subst Q c.cause_of.ensures (then_closed u c.args.eval.now.uses c.take_prints-piece.new.self.uses c.close.new.self.uses c.take_prints-piece.result c.cause_of.result c.take_prints-piece.ensures.uses c.close.ensures.uses),
      subst P c.items.ensures c.in-Err.ensures.wrote,
    )
