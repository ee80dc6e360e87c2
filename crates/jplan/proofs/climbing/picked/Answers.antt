use Rattle.std.proofs.Common.{◌≡◌, ◌∙◌, ◌≤◌, List, ℕ, ap, subst, arith, length, map, get_or}
use Rattle.std.specs.Prelude.{pos}
use Rattle.std.proofs.lemmas.List.{length-map}
use Rattle.jdata.specs.Limits.{most_atoms, IsShape}
use Rattle.jdata.specs.Noun.{int_atom, product}
use Rattle.jdata.specs.declared.noun.Noun.{Noun}
use Rattle.jdata.proofs.Extents.{product_at_most}
use Rattle.jdata.specs.Answers.{Answers}
use Rattle.jframe.specs.Assembly.{assembled}
use Rattle.jplan.specs.Repeating.{picked}
use Rattle.jplan.proofs.Going.{ends_as}
use Rattle.jplan.proofs.climbing.picked.Goals as goal

pub results_of-requires : goal.results_of-requires
results_of-requires c =
    let s = c.args.steps.now in
    let within = subst IsShape c.axes-axes.ensures.axes c.axes-axes.ensures.shape in
    let few : product s.frame ≤ most_atoms = omega (arith, product_at_most s.frame, within.extent_at_most) in
    let many = ap length c.items.ensures in
    record { few = omega (arith, s.listed, few, many) }

pub finish-requires : goal.finish-requires
finish-requires c =
    let s = c.args.steps.now in
    let f : ℕ → Noun = λ n. get_or c.args.values.now n (int_atom (pos 0)) in
    ap length c.in_ok-results.ensures ∙ length-map c.items.result.now f ∙ ap length c.items.ensures ∙ s.listed

pub returns-clause-rest : goal.returns-clause-rest
returns-clause-rest c =
    let s = c.args.steps.now in
    let f : ℕ → Noun = λ n. get_or c.args.values.now n (int_atom (pos 0)) in
    let is : c.in_ok-results.results ≡ map f s.counts = c.in_ok-results.ensures ∙ ap (map f) c.items.ensures in
    let answer = subst (λ (vs : List Noun). Answers (assembled s.frame vs) c.finish.result) is c.finish.ensures in
    ends_as (picked s.frame s.counts c.args.values.now) c.finish.result c.done.result answer c.done.ensures
