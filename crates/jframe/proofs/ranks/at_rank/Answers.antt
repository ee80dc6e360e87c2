use Rattle.std.proofs.Common.{arith, ap, sym, subst, ◌∙◌, ◌≡◌, ◌≢◌, ◌∷◌, [], ℕ, Result, Err}
use Rattle.jdata.specs.Answers.{Answers}
use Rattle.jdata.specs.Firsts.{and_then}
use Rattle.jdata.specs.Noun.{product}
use Rattle.jdata.specs.declared.fault.Fault.{Fault}
use Rattle.jdata.specs.declared.noun.Noun.{Noun}
use Rattle.jarray.specs.Placed.{Placed, Gives, own}
use Rattle.jframe.specs.Assembly.{assembled}
use Rattle.jframe.specs.Cells.{nth_cell, filled_cell}
use Rattle.jframe.specs.Ranks.{for_shape}
use Rattle.jframe.proofs.Applying.{none_gives, all_give, fault_gives, at_rank_is}
use Rattle.jframe.proofs.Firsts.{places_long}
use Rattle.jframe.proofs.ranks.at_rank.Goals as goal

pub returns-then-count-eq0 : goal.returns-then-count-eq0
returns-then-count-eq0 g c =
    let p = c.in-Ok.cells in
    let each : ℕ → Result Noun Fault = λ i. g.V.WholeMonad.meant (nth_cell p.cell c.args.y.noun i) in
    let fills = g.V.WholeMonad.meant (filled_cell c.args.rank c.args.y.noun) in
    let none : product p.frame ≡ 0 = sym c.count.ensures ∙ c.if-count-eq0.true in
    let answer = subst (λ (a : Placed). Gives (g.V.WholeMonad.meant a.noun) c.apply-answer.result) (c.of.ensures ∙ ap own c.in-Ok-fill_cell.ensures) c.apply-answer.ensures in
    let shown = subst (λ f. Gives (and_then (for_shape fills) (λ v. assembled f (v ∷ []))) c.for_shape.result) c.frame.ensures (c.for_shape.ensures fills answer) in
    subst (λ d. Gives d c.for_shape.result) (sym (at_rank_is c.args.rank g.V.WholeMonad.meant c.args.y.noun p c.in-Ok.ensures.parted))
    (none_gives p.frame each fills c.for_shape.result none shown)

pub finished-requires : goal.finished-requires
finished-requires g c =
    let p = c.in-Ok.cells in
    let each : ℕ → Result Noun Fault = λ i. g.V.WholeMonad.meant (nth_cell p.cell c.args.y.noun i) in
    let long = places_long each (product p.frame) c.in-Ok-each_cell.results c.in-Ok-each_cell.ensures in
    omega (arith, long, c.count.ensures, c.if-count-eq0.false, ap product c.frame-in-Ok-each_cell.ensures)

pub returns-in-Ok-each_cell : goal.returns-in-Ok-each_cell
returns-in-Ok-each_cell g c =
    let p = c.in-Ok.cells in
    let each : ℕ → Result Noun Fault = λ i. g.V.WholeMonad.meant (nth_cell p.cell c.args.y.noun i) in
    let fills = g.V.WholeMonad.meant (filled_cell c.args.rank c.args.y.noun) in
    let some : product p.frame ≢ 0 = λ e. c.if-count-eq0.false (c.count.ensures ∙ e) in
    let whole = subst (λ f. Gives (assembled f c.in-Ok-each_cell.results) c.finished.result) c.frame-in-Ok-each_cell.ensures c.finished.ensures in
    subst (λ d. Gives d c.finished.result) (sym (at_rank_is c.args.rank g.V.WholeMonad.meant c.args.y.noun p c.in-Ok.ensures.parted))
    (all_give p.frame each fills c.in-Ok-each_cell.results c.finished.result some c.in-Ok-each_cell.ensures whole)

pub returns : goal.returns
returns g c =
    let p = c.in-Ok.cells in
    let each : ℕ → Result Noun Fault = λ i. g.V.WholeMonad.meant (nth_cell p.cell c.args.y.noun i) in
    let fills = g.V.WholeMonad.meant (filled_cell c.args.rank c.args.y.noun) in
    let some : product p.frame ≢ 0 = λ e. c.if-count-eq0.false (c.count.ensures ∙ e) in
    subst (λ d. Answers {Value = Noun} d (Err c.in-Err-each_cell.trouble)) (sym (at_rank_is c.args.rank g.V.WholeMonad.meant c.args.y.noun p c.in-Ok.ensures.parted))
    (fault_gives p.frame each fills c.in-Err-each_cell.trouble some c.in-Err-each_cell.ensures)
