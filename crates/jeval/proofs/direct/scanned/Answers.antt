use Rattle.std.proofs.Common.{◌∙◌, ap, subst, sym}
use Rattle.jdata.specs.Limits.{IsArray}
use Rattle.jeval.proofs.Scanning.{few_values, takes_turns}
use Rattle.jeval.proofs.direct.scanned.Goals as goal

pub returns-in-Some-clause-turns : goal.returns-in-Some-clause-turns
returns-in-Some-clause-turns c =
    takes_turns c.args.verb.now c.args.x.now c.args.y.now c.in-Some-None.scan c.in-Some.numbers.now c.values_of.result c.in-Some-None.ensures (sym c.in-Some-None.is-1)
    (sym c.array.ensures ∙ c.in-Some.ensures.list) (subst IsArray c.array.ensures c.in-Some.ensures.array) c.if-not-is_empty.ensures c.values_of.ensures

pub returns-in-Some-clause-few : goal.returns-in-Some-clause-few
returns-in-Some-clause-few c = few_values c.array.result.now.noun c.in-Some-None.scan c.in-Some.numbers.now c.values_of.result c.in-Some.ensures.list c.in-Some.ensures.array c.values_of.ensures
