use Rattle.std.proofs.Common.{◌∙◌, ap, arith, length, take, get_or}
use Rattle.std.specs.Prelude.{pos}
use Rattle.std.proofs.lemmas.List.{length-map, length-take}
use Rattle.jdata.specs.Noun.{int_atom}
use Rattle.jplan.proofs.climbing.results_of.Goals as goal

pub push-requires : goal.push-requires
push-requires c =
    let l = c.args.counts.now in
    let many = ap length c.loop-count.invariant ∙ length-map (take c.loop-count.count-index l) (λ n. get_or c.args.values.now n (int_atom (pos 0))) ∙ length-take c.loop-count.count-index l in
    record { few = omega (arith, c.requires.few, many, c.loop-count-test.true) }
