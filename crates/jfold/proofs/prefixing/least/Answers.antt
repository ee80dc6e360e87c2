use Rattle.std.proofs.Common.{◌≡◌, Some, IfOk, map, sym, subst}
use Rattle.std.specs.Option.{IfSome}
use Rattle.jfold.proofs.Verbs.{least_runs}
use Rattle.jfold.proofs.prefixing.least.Goals as goal

pub returns : goal.returns
returns c = subst (λ each. IfOk c.with_running.result (λ made. IfSome made (λ values. each ≡ map Some values))) (sym (least_runs c.args.numbers.now)) c.with_running.ensures
