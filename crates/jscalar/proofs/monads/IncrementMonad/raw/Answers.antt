use Rattle.std.proofs.lemmas.Int.{to_z-of_z}
use Rattle.std.proofs.Common.{FitsSigned, arith}
use Rattle.std.specs.Prelude.{pos}
use mir.Syntax.{w64}
use Rattle.jscalar.proofs.Flagging.{sum_or_none}
use Rattle.jscalar.proofs.monads.IncrementMonad.raw.Goals as goal

pub returns : goal.returns
returns c =
    let g = c.ranges.y in
    let one : FitsSigned w64 (pos 1) = record { sfits = omega arith } in
    sum_or_none c.args.y (pos 1) _ _ g one (simp to_z-of_z at c.overflowing_add.ensures.value) (simp to_z-of_z at c.overflowing_add.ensures.overflow)
