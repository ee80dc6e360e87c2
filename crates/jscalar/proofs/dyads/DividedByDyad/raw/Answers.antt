use Rattle.std.proofs.lemmas.Int.{to_z-of_z}
use Rattle.jdata.specs.declared.fault.Fault.TheVariants.{Nonce}
use Rattle.jscalar.proofs.Onlys.{by_flag, only_quotient}
use Rattle.jscalar.proofs.dyads.DividedByDyad.raw.Goals as goal

pub returns : goal.returns
returns c =
    let f = c.ranges.x in
    let g = c.ranges.y in
    by_flag Nonce _ _ _ _ (simp to_z-of_z at c.whole_quotient.ensures) (only_quotient c.args.x c.args.y) (c.flag.ensures Nonce)
