use Rattle.jconsole.proofs.Telling.{nothing_told}
use Rattle.jconsole.proofs.session.session.Goals as goal

pub returns-in-Err-clause-told : goal.returns-in-Err-clause-told
returns-in-Err-clause-told g c = nothing_told (g.S.Source.reads c.args.script.now) (g.K.Sink.writes c.args.out.now)
