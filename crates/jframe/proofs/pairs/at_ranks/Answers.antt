use Rattle.std.proofs.Common.{arith, ap, sym, subst, ◌∙◌, ◌≡◌, ◌≢◌, ◌/◌, ◌∷◌, [], ℕ, Result, Err}
use Rattle.jdata.specs.Answers.{Answers}
use Rattle.jdata.specs.Noun.{product}
use Rattle.jdata.specs.declared.fault.Fault.{Fault}
use Rattle.jdata.specs.declared.noun.Noun.{Noun}
use Rattle.jarray.specs.Placed.{Placed, Gives, own}
use Rattle.jshape.specs.Agreement.{repeated}
use Rattle.jframe.specs.Cells.{nth_cell, filled_cell}
use Rattle.jframe.proofs.Applying.{none_gives, all_give, fault_gives}
use Rattle.jframe.proofs.Firsts.{places_long}
use Rattle.jframe.proofs.Pairing.{at_ranks_is, differ_gives}
use Rattle.jframe.proofs.pairs.at_ranks.Goals as goal

pub returns-in-Err : goal.returns-in-Err
returns-in-Err g c = differ_gives c.args.left c.args.right g.V.WholeDyad.meant c.args.x.noun c.args.y.noun c.in-Err.trouble c.in-Err.ensures.err

pub returns-then-product-eq0 : goal.returns-then-product-eq0
returns-then-product-eq0 g c =
    let p = c.in-Ok.pairs in
    let each : ℕ → Result Noun Fault = λ i. g.V.WholeDyad.meant (nth_cell p.left.cell c.args.x.noun (i / repeated p.left.frame p.frame)) (nth_cell p.right.cell c.args.y.noun (i / repeated p.right.frame p.frame)) in
    let fills = g.V.WholeDyad.meant (filled_cell c.args.left c.args.x.noun) (filled_cell c.args.right c.args.y.noun) in
    let none : product p.frame ≡ 0 = sym c.product.ensures ∙ c.if-product-eq0.true in
    let left = c.of.ensures ∙ ap own c.in-Ok-fill_cell.ensures in
    let right = c.of-then-product-eq0.ensures ∙ ap own c.in-Ok-fill_cell-2.ensures in
    let answer = subst (λ (q : Placed × Placed). Gives (g.V.WholeDyad.meant q.0.noun q.1.noun) c.apply-answer.result) (λ i. (left i, right i)) c.apply-answer.ensures in
    subst (λ d. Gives d c.for_shape.result) (sym (at_ranks_is c.args.left c.args.right g.V.WholeDyad.meant c.args.x.noun c.args.y.noun p.left p.right p.frame c.in-Ok.ensures.left.0 c.in-Ok.ensures.right.0 c.in-Ok.ensures.frame))
    (none_gives p.frame each fills c.for_shape.result none (c.for_shape.ensures fills answer))

pub finished-requires : goal.finished-requires
finished-requires g c =
    let p = c.in-Ok.pairs in
    let each : ℕ → Result Noun Fault = λ i. g.V.WholeDyad.meant (nth_cell p.left.cell c.args.x.noun (i / repeated p.left.frame p.frame)) (nth_cell p.right.cell c.args.y.noun (i / repeated p.right.frame p.frame)) in
    let fills = g.V.WholeDyad.meant (filled_cell c.args.left c.args.x.noun) (filled_cell c.args.right c.args.y.noun) in
    let long = places_long each (product p.frame) c.in-Ok-each_pair.results c.in-Ok-each_pair.ensures in
    omega (arith, long, c.product.ensures, c.if-product-eq0.false)

pub returns-in-Ok-each_pair : goal.returns-in-Ok-each_pair
returns-in-Ok-each_pair g c =
    let p = c.in-Ok.pairs in
    let each : ℕ → Result Noun Fault = λ i. g.V.WholeDyad.meant (nth_cell p.left.cell c.args.x.noun (i / repeated p.left.frame p.frame)) (nth_cell p.right.cell c.args.y.noun (i / repeated p.right.frame p.frame)) in
    let fills = g.V.WholeDyad.meant (filled_cell c.args.left c.args.x.noun) (filled_cell c.args.right c.args.y.noun) in
    let some : product p.frame ≢ 0 = λ e. c.if-product-eq0.false (c.product.ensures ∙ e) in
    subst (λ d. Gives d c.finished.result) (sym (at_ranks_is c.args.left c.args.right g.V.WholeDyad.meant c.args.x.noun c.args.y.noun p.left p.right p.frame c.in-Ok.ensures.left.0 c.in-Ok.ensures.right.0 c.in-Ok.ensures.frame))
    (all_give p.frame each fills c.in-Ok-each_pair.results c.finished.result some c.in-Ok-each_pair.ensures c.finished.ensures)

pub returns : goal.returns
returns g c =
    let p = c.in-Ok.pairs in
    let each : ℕ → Result Noun Fault = λ i. g.V.WholeDyad.meant (nth_cell p.left.cell c.args.x.noun (i / repeated p.left.frame p.frame)) (nth_cell p.right.cell c.args.y.noun (i / repeated p.right.frame p.frame)) in
    let fills = g.V.WholeDyad.meant (filled_cell c.args.left c.args.x.noun) (filled_cell c.args.right c.args.y.noun) in
    let some : product p.frame ≢ 0 = λ e. c.if-product-eq0.false (c.product.ensures ∙ e) in
    subst (λ d. Answers {Value = Noun} d (Err c.in-Err-each_pair.trouble)) (sym (at_ranks_is c.args.left c.args.right g.V.WholeDyad.meant c.args.x.noun c.args.y.noun p.left p.right p.frame c.in-Ok.ensures.left.0 c.in-Ok.ensures.right.0 c.in-Ok.ensures.frame))
    (fault_gives p.frame each fills c.in-Err-each_pair.trouble some c.in-Err-each_pair.ensures)
