use Rattle.std.proofs.Common.{rules, ◌≡◌, ◌<◌, ◌^◌, Some, IfOk, map, sym, subst}
use Rattle.std.specs.Option.{IfSome}
use Rattle.jfold.specs.Running.{magnitudes}
use Rattle.jfold.proofs.Verbs.{sums_run}
use Rattle.jfold.proofs.prefixing.sums.Goals as goal

pub returns-then-are_small : goal.returns-then-are_small
returns-then-are_small c =
    let small : magnitudes c.args.numbers.now < 2 ^ 63 = search rules in
    subst (λ each. IfOk c.with_running.result (λ made. IfSome made (λ values. each ≡ map Some values))) (sym (sums_run c.args.numbers.now small)) c.with_running.ensures
