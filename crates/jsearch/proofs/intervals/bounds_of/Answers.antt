use Rattle.std.proofs.Common.{arith, ap, sym, ◌∙◌, length}
use Rattle.std.proofs.lemmas.List.{length-map}
use Rattle.jdata.specs.declared.noun.Atom.TheVariants as atom
use Rattle.jdata.proofs.Arrays.{few_atoms}
use Rattle.jsearch.proofs.Placing.{in_order_by}
use Rattle.jsearch.proofs.intervals.bounds_of.Goals as goal

pub returns-then-is_ordered-clause-few : goal.returns-then-is_ordered-clause-few
returns-then-is_ordered-clause-few c =
    let many = ap length c.in-Some.ensures.some in
    let same = length-map c.in-Some.numbers.now atom.Int in
    let few = few_atoms c.args.x.now.noun c.shape-axes.ensures.array in
    omega (arith, many, same, few)

pub returns-then-is_ordered-clause-yes : goal.returns-then-is_ordered-clause-yes
returns-then-is_ordered-clause-yes c =
    sym (in_order_by c.args.x.now.noun c.shape-axes.result.now c.in-Some.numbers.now c.shape-axes.ensures.value c.in-Some.ensures.integers c.in-Some.ensures.some) ∙ sym c.is_ordered.ensures ∙ c.if-is_ordered.true

pub returns-else-is_ordered-clause-no : goal.returns-else-is_ordered-clause-no
returns-else-is_ordered-clause-no c =
    sym (in_order_by c.args.x.now.noun c.shape-axes.result.now c.in-Some.numbers.now c.shape-axes.ensures.value c.in-Some.ensures.integers c.in-Some.ensures.some) ∙ sym c.is_ordered.ensures ∙ c.if-is_ordered.false
