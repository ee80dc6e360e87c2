use Rattle.std.proofs.lemmas.Int.{to_z-of_z}
use Rattle.jdata.specs.declared.fault.Fault.TheVariants.{Domain}
use Rattle.jscalar.proofs.Onlys.{by_flag, only_not_or}
use Rattle.jscalar.proofs.dyads.NotOrDyad.raw.Goals as goal

pub returns : goal.returns
returns c =
    let f = c.ranges.x in
    let g = c.ranges.y in
    by_flag Domain _ _ _ _ (simp to_z-of_z at c.not_or.ensures) (only_not_or c.args.x c.args.y) (c.flag.ensures Domain)
