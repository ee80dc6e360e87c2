use Rattle.std.proofs.lemmas.Int.{to_z-of_z}
use Rattle.std.proofs.Common.{FitsSigned, arith}
use Rattle.std.specs.Prelude.{pos}
use mir.Syntax.{w64}
use Rattle.jscalar.proofs.Flagging.{rest_or_none}
use Rattle.jscalar.proofs.monads.DecrementMonad.raw.Goals as goal

pub returns : goal.returns
returns c =
    let g = c.ranges.y in
    let one : FitsSigned w64 (pos 1) = record { sfits = omega arith } in
    rest_or_none c.args.y (pos 1) _ _ g one (simp to_z-of_z at c.overflowing_sub.ensures.value) (simp to_z-of_z at c.overflowing_sub.ensures.overflow)
