use Rattle.std.proofs.Common.{◌≡◌, [], subst}
use Rattle.jeval.specs.Eval.{Evaluator}
use Rattle.jsession.specs.Ran.{moment}
use Rattle.jsession.specs.Script.{first_state}
use Rattle.jsession.specs.Sessions.{SessionRan, at}
use Rattle.juses.specs.Leading.{Leads}
use Rattle.juses.specs.Standing.{Kept, Refuses}
use Rattle.jconsole.proofs.Telling.{told, session_gives, nothing_told}
use Rattle.jconsole.proofs.session.session_over.Goals as goal

pub returns-in-Ok-clause-told : goal.returns-in-Ok-clause-told
returns-in-Ok-clause-told g c =
    let source = g.S.Source.reads c.args.script.now in
    let source' = g.S.Source.reads c.run-status.new.script in
    let sink = g.K.Sink.writes c.args.out.now in
    let new = at c.run-status.new.eval (g.K.Sink.writes c.run-status.new.out) in
    let P : Evaluator Kept → Type 0 = λ e. SessionRan Leads Refuses (λ d. d.waiting ≡ []) e.turns source source' (at e sink) new c.run-status.result in
    let Q : Kept → Type 0 = λ d. SessionRan Leads Refuses (λ d. d.waiting ≡ []) 10000000 source source' (moment d (first_state 10000000) sink) new c.run-status.result in
    told source source' sink new c.run-status.result (subst Q c.requires (subst P c.in-Ok.ensures.ok c.run-status.ensures.session))

pub returns-in-Ok-clause-gives : goal.returns-in-Ok-clause-gives
returns-in-Ok-clause-gives g c =
    session_gives Leads Refuses (λ (d : Kept). d.waiting ≡ []) c.in-Ok.eval.turns (g.S.Source.reads c.args.script.now) (g.S.Source.reads c.run-status.new.script)
    (at c.in-Ok.eval (g.K.Sink.writes c.args.out.now)) (at c.run-status.new.eval (g.K.Sink.writes c.run-status.new.out)) c.run-status.result c.run-status.ensures.session

pub returns-clause-told : goal.returns-clause-told
returns-clause-told g c = nothing_told (g.S.Source.reads c.args.script.now) (g.K.Sink.writes c.args.out.now)
