use Rattle.std.proofs.Common.{ap, sym, subst, ◌∙◌}
use Rattle.jdata.specs.Answers.{Answers}
use Rattle.jdata.specs.declared.noun.Noun.{Noun}
use Rattle.jamend.specs.Amended as meant
use Rattle.jamend.specs.Naming.{cell_numbers}
use Rattle.jamend.proofs.Amends.{by_items, by_one_cell, by_nothing}
use Rattle.jamend.proofs.amending.amended.Goals as goal

pub returns-in-Some : goal.returns-in-Some
returns-in-Some c =
    let x = c.args.x.now.noun in
    let y = c.args.y.now.noun in
    let l = c.in-Some.numbers.now in
    subst (λ r. Answers {Value = Noun} r c.items_amended.result)
    (ap (λ s. meant.items_amended x s l y) c.shape-axes.ensures.value ∙ sym (by_items x c.args.at.now y l c.in-Some.ensures.integers c.in-Some.ensures.some))
    c.items_amended.ensures

pub returns-in-Ok : goal.returns-in-Ok
returns-in-Ok c =
    let x = c.args.x.now.noun in
    let y = c.args.y.now.noun in
    let l = c.in-Ok.numbers.now in
    let named = sym (λ i. cell_numbers (c.shape-axes.ensures.value i) (c.leaf.ensures.atoms i)) ∙ c.in-Ok.ensures in
    subst (λ r. Answers {Value = Noun} r c.cell_amended.result) (sym (by_one_cell x c.args.at.now y l c.in_default.ensures.none named)) c.cell_amended.ensures

pub returns-in-Err : goal.returns-in-Err
returns-in-Err c =
    let named = sym (λ i. cell_numbers (c.shape-axes.ensures.value i) (c.leaf.ensures.atoms i)) ∙ c.in-Err.ensures in
    by_nothing c.args.x.now.noun c.args.at.now c.args.y.now.noun c.in-Err.fault c.in_default.ensures.none named
