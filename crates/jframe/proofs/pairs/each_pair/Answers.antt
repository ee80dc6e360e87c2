use Rattle.std.proofs.Common.{arith, ap, sym, subst, ◌∙◌, ◌≡◌, ◌≤◌, ◌/◌, ℕ, Ok, Err, Result}
use Rattle.jdata.specs.Answers.{Answers}
use Rattle.jdata.specs.Limits.{most_atoms, IsShape}
use Rattle.jdata.specs.Noun.{product}
use Rattle.jdata.specs.declared.fault.Fault.{Fault}
use Rattle.jdata.specs.declared.noun.Noun.{Noun}
use Rattle.jdata.proofs.Extents.{product_at_most}
use Rattle.jarray.specs.Placed.{Placed, own}
use Rattle.jshape.specs.Agreement.{repeated}
use Rattle.jshape.specs.Frames.{IsPrefix}
use Rattle.jframe.specs.Cells.{nth_cell}
use Rattle.jframe.proofs.Applying.{answers_until}
use Rattle.jframe.proofs.Firsts.{places_long, places_more}
use Rattle.jframe.proofs.Pairing.{both_begin, repeats_some, place_within}
use Rattle.jframe.proofs.pairs.each_pair.Goals as goal

pub repeats-lefts-requires : goal.repeats-lefts-requires
repeats-lefts-requires g c =
    let begin = both_begin _ _ _ c.requires.agree in
    subst (λ s. IsPrefix s c.args.pairs.now.frame) (sym c.frame.ensures) begin.0

pub repeats-rights-requires : goal.repeats-rights-requires
repeats-rights-requires g c =
    let begin = both_begin _ _ _ c.requires.agree in
    subst (λ s. IsPrefix s c.args.pairs.now.frame) (sym c.frame-2.ensures) begin.1

pub nonzero_div-at : goal.nonzero_div-at
nonzero_div-at g c =
    let begin = both_begin _ _ _ c.requires.agree in
    let is = c.repeats-lefts.ensures ∙ ap (λ s. repeated s c.args.pairs.now.frame) c.frame.ensures in
    let some = repeats_some c.args.pairs.now.left.frame c.args.pairs.now.frame c.repeats-lefts.result begin.0 is c.requires.some in
    omega (arith, some)

pub get-requires-clause-within : goal.get-requires-clause-within
get-requires-clause-within g c =
    let begin = both_begin _ _ _ c.requires.agree in
    let is = c.repeats-lefts.ensures ∙ ap (λ s. repeated s c.args.pairs.now.frame) c.frame.ensures in
    place_within c.args.pairs.now.left.frame c.args.pairs.now.frame c.repeats-lefts.result c.loop-at.at begin.0 is (omega (arith, c.loop-at-test.true, c.product-at-end.ensures))

pub nonzero_div-at-in-loop-at : goal.nonzero_div-at-in-loop-at
nonzero_div-at-in-loop-at g c =
    let begin = both_begin _ _ _ c.requires.agree in
    let is = c.repeats-rights.ensures ∙ ap (λ s. repeated s c.args.pairs.now.frame) c.frame-2.ensures in
    let some = repeats_some c.args.pairs.now.right.frame c.args.pairs.now.frame c.repeats-rights.result begin.1 is c.requires.some in
    omega (arith, some)

pub get-requires-in-loop-at-clause-within : goal.get-requires-in-loop-at-clause-within
get-requires-in-loop-at-clause-within g c =
    let begin = both_begin _ _ _ c.requires.agree in
    let is = c.repeats-rights.ensures ∙ ap (λ s. repeated s c.args.pairs.now.frame) c.frame-2.ensures in
    place_within c.args.pairs.now.right.frame c.args.pairs.now.frame c.repeats-rights.result c.loop-at.at begin.1 is (omega (arith, c.loop-at-test.true, c.product-at-end.ensures))

pub returns-in-Err-apply : goal.returns-in-Err-apply
returns-in-Err-apply g c =
    let each : ℕ → Result Noun Fault = λ i. g.V.WholeDyad.meant (nth_cell c.args.pairs.now.left.cell c.args.x.now.noun (i / repeated c.args.pairs.now.left.frame c.args.pairs.now.frame)) (nth_cell c.args.pairs.now.right.cell c.args.y.now.noun (i / repeated c.args.pairs.now.right.frame c.args.pairs.now.frame)) in
    let lefts : c.repeats-lefts.result ≡ repeated c.args.pairs.now.left.frame c.args.pairs.now.frame = c.repeats-lefts.ensures ∙ ap (λ s. repeated s c.args.pairs.now.frame) c.frame.ensures in
    let rights : c.repeats-rights.result ≡ repeated c.args.pairs.now.right.frame c.args.pairs.now.frame = c.repeats-rights.ensures ∙ ap (λ s. repeated s c.args.pairs.now.frame) c.frame-2.ensures in
    let left = c.in-Ok.ensures ∙ ap (λ n. own (nth_cell c.args.pairs.now.left.cell c.args.x.now.noun (c.loop-at.at / n))) lefts in
    let right = c.in-Ok-get.ensures ∙ ap (λ n. own (nth_cell c.args.pairs.now.right.cell c.args.y.now.noun (c.loop-at.at / n))) rights in
    let here = subst (λ (q : Placed × Placed). Answers {Value = Noun} (g.V.WholeDyad.meant q.0.noun q.1.noun) (Err c.in-Err-apply.trouble)) (λ i. (left i, right i)) c.in-Err-apply.ensures in
    answers_until each c.loop-at.at (product c.args.pairs.now.frame) c.loop-at.results c.in-Err-apply.trouble c.loop-at.invariant (omega (arith, c.loop-at-test.true, c.product-at-end.ensures)) here

pub push-requires : goal.push-requires
push-requires g c =
    let each : ℕ → Result Noun Fault = λ i. g.V.WholeDyad.meant (nth_cell c.args.pairs.now.left.cell c.args.x.now.noun (i / repeated c.args.pairs.now.left.frame c.args.pairs.now.frame)) (nth_cell c.args.pairs.now.right.cell c.args.y.now.noun (i / repeated c.args.pairs.now.right.frame c.args.pairs.now.frame)) in
    let within = subst IsShape c.axes-axes.ensures.axes c.axes-axes.ensures.shape in
    let few : product c.args.pairs.now.frame ≤ most_atoms = omega (arith, product_at_most c.args.pairs.now.frame, within.extent_at_most) in
    record { few = omega (arith, places_long each c.loop-at.at c.loop-at.results c.loop-at.invariant, c.loop-at-test.true, c.product-at-end.ensures, few) }

pub loop-at-preserved : goal.loop-at-preserved
loop-at-preserved g c =
    let each : ℕ → Result Noun Fault = λ i. g.V.WholeDyad.meant (nth_cell c.args.pairs.now.left.cell c.args.x.now.noun (i / repeated c.args.pairs.now.left.frame c.args.pairs.now.frame)) (nth_cell c.args.pairs.now.right.cell c.args.y.now.noun (i / repeated c.args.pairs.now.right.frame c.args.pairs.now.frame)) in
    let lefts : c.repeats-lefts.result ≡ repeated c.args.pairs.now.left.frame c.args.pairs.now.frame = c.repeats-lefts.ensures ∙ ap (λ s. repeated s c.args.pairs.now.frame) c.frame.ensures in
    let rights : c.repeats-rights.result ≡ repeated c.args.pairs.now.right.frame c.args.pairs.now.frame = c.repeats-rights.ensures ∙ ap (λ s. repeated s c.args.pairs.now.frame) c.frame-2.ensures in
    let left = c.in-Ok.ensures ∙ ap (λ n. own (nth_cell c.args.pairs.now.left.cell c.args.x.now.noun (c.loop-at.at / n))) lefts in
    let right = c.in-Ok-get.ensures ∙ ap (λ n. own (nth_cell c.args.pairs.now.right.cell c.args.y.now.noun (c.loop-at.at / n))) rights in
    let here = (λ i. g.V.WholeDyad.meant ((sym left i).noun) ((sym right i).noun)) ∙ c.in-Ok-apply.ensures in
    places_more each c.loop-at.at c.loop-at.results c.in-Ok-apply.value.noun c.loop-at.invariant here ∙ ap Ok (sym c.in-Ok-push.ensures.ok)
