use Rattle.std.proofs.Common.{arith, ap, sym, subst, ◌∙◌, ℕ, Ok, Err, Result}
use Rattle.jdata.specs.Noun.{product}
use Rattle.jdata.specs.declared.fault.Fault.{Fault}
use Rattle.jarray.specs.Placed.{Placed}
use Rattle.jframe.specs.Cells.{nth_cell}
use Rattle.jframe.proofs.Firsts.{places_more}
use Rattle.jterm.specs.declared.term.Term.{Term}
use Rattle.jeval.specs.Made.{Answers}
use Rattle.jeval.specs.Targets as targets
use Rattle.jeval.proofs.Quoted.{answers_until}
use Rattle.jeval.proofs.targets.each_opened.Goals as goal

pub returns-in-Err-opened : goal.returns-in-Err-opened
returns-in-Err-opened c =
    let each : ℕ → Result Term Fault = λ i. targets.opened (nth_cell c.args.cells.now.cell c.args.y.now.noun i) in
    let here = subst (λ (a : Placed). Answers (targets.opened a.noun) (Err c.in-Err-opened.end)) c.in-Ok.ensures c.in-Err-opened.ensures in
    answers_until each c.loop-at.at (product c.args.cells.now.frame) c.loop-at.values c.in-Err-opened.end c.loop-at.invariant (omega (arith, c.loop-at-test.true, c.count-at-end.ensures)) here

pub loop-at-preserved : goal.loop-at-preserved
loop-at-preserved c =
    let each : ℕ → Result Term Fault = λ i. targets.opened (nth_cell c.args.cells.now.cell c.args.y.now.noun i) in
    let here = ap (λ (a : Placed). targets.opened a.noun) (sym c.in-Ok.ensures) ∙ c.in-Ok-opened.ensures in
    places_more each c.loop-at.at c.loop-at.values c.in-Ok-opened.value c.loop-at.invariant here ∙ ap Ok (sym c.in-Ok-push.ensures.ok)
