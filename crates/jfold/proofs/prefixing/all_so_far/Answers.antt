use Rattle.std.proofs.Common.{rules, ◌≡◌, true, Some, IfOk, map, sym, subst}
use Rattle.std.specs.List.{list_all}
use Rattle.std.specs.Option.{IfSome}
use Rattle.jscalar.specs.Truths.{is_truth}
use Rattle.jfold.proofs.Truths.{multiples_run}
use Rattle.jfold.proofs.prefixing.all_so_far.Goals as goal

pub returns-then-are_truths : goal.returns-then-are_truths
returns-then-are_truths c =
    let truths : list_all is_truth c.args.numbers.now ≡ true = search rules in
    subst (λ each. IfOk c.with_running.result (λ made. IfSome made (λ values. each ≡ map Some values))) (sym (multiples_run c.args.numbers.now truths)) c.with_running.ensures
