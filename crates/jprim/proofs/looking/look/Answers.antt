use Rattle.std.proofs.Common.{arith, ap, sym, subst, ◌∙◌, ◌≤◌, ℕ, Ok, Err, Result}
use Rattle.jdata.specs.Answers.{Answers}
use Rattle.jdata.specs.Limits.{most_atoms, IsShape}
use Rattle.jdata.specs.Noun.{product}
use Rattle.jdata.specs.declared.fault.Fault.{Fault}
use Rattle.jdata.specs.declared.noun.Noun.{Noun}
use Rattle.jdata.proofs.Extents.{product_at_most}
use Rattle.jarray.specs.Placed.{Placed}
use Rattle.jframe.specs.Cells.{nth_cell}
use Rattle.jframe.proofs.Applying.{answers_until}
use Rattle.jframe.proofs.Firsts.{places_long, places_more}
use Rattle.jselect.specs.From as choosing
use Rattle.jprim.proofs.looking.look.Goals as goal

pub returns-in-Err-from_among : goal.returns-in-Err-from_among
returns-in-Err-from_among c =
    let each : ℕ → Result Noun Fault = λ i. choosing.selected (nth_cell c.args.cells.now.cell c.args.x.now.noun i) c.args.y.now.noun in
    let here = subst (λ (a : Placed). Answers {Value = Noun} (choosing.selected a.noun c.args.y.now.noun) (Err c.in-Err-from_among.trouble)) c.in-Ok.ensures c.in-Err-from_among.ensures in
    answers_until each c.loop-at.at (product c.args.cells.now.frame) c.loop-at.results c.in-Err-from_among.trouble c.loop-at.invariant (omega (arith, c.loop-at-test.true, c.count-at-end.ensures)) here

pub push-requires : goal.push-requires
push-requires c =
    let each : ℕ → Result Noun Fault = λ i. choosing.selected (nth_cell c.args.cells.now.cell c.args.x.now.noun i) c.args.y.now.noun in
    let within = subst IsShape (c.axes-axes.ensures.axes ∙ c.frame.ensures) c.axes-axes.ensures.shape in
    let few : product c.args.cells.now.frame ≤ most_atoms = omega (arith, product_at_most c.args.cells.now.frame, within.extent_at_most) in
    record { few = omega (arith, places_long each c.loop-at.at c.loop-at.results c.loop-at.invariant, c.loop-at-test.true, c.count-at-end.ensures, few) }

pub loop-at-preserved : goal.loop-at-preserved
loop-at-preserved c =
    let each : ℕ → Result Noun Fault = λ i. choosing.selected (nth_cell c.args.cells.now.cell c.args.x.now.noun i) c.args.y.now.noun in
    let here = ap (λ (a : Placed). choosing.selected a.noun c.args.y.now.noun) (sym c.in-Ok.ensures) ∙ c.in-Ok-from_among.ensures in
    places_more each c.loop-at.at c.loop-at.results c.in-Ok-from_among.value.noun c.loop-at.invariant here ∙ ap Ok (sym c.in-Ok-push.ensures.ok)
