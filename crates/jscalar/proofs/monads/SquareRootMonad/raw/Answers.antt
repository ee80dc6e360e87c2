use Rattle.std.specs.Prelude.{pos}
use Rattle.std.proofs.lemmas.Int.{to_z-of_z}
use Rattle.jdata.specs.declared.fault.Fault.TheVariants.{Nonce}
use Rattle.jscalar.proofs.Onlys.{by_flag, only_root}
use Rattle.jscalar.proofs.monads.SquareRootMonad.raw.Goals as goal

pub returns : goal.returns
returns c =
    let g = c.ranges.y in
    by_flag Nonce _ _ _ _ (simp to_z-of_z at c.root.ensures) (only_root (pos 2) c.args.y) (c.flag.ensures Nonce)
