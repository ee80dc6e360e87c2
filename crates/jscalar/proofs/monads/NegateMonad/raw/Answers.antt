use Rattle.std.proofs.lemmas.Int.{to_z-of_z}
use Rattle.std.proofs.Common.{FitsSigned, arith}
use Rattle.std.specs.Prelude.{pos}
use mir.Syntax.{w64}
use Rattle.jscalar.proofs.Flagging.{rest_or_none, negated}
use Rattle.jscalar.proofs.monads.NegateMonad.raw.Goals as goal

pub returns : goal.returns
returns c =
    let g = c.ranges.y in
    let one : FitsSigned w64 (pos 0) = record { sfits = omega arith } in
    negated c.args.y _ _ (rest_or_none (pos 0) c.args.y _ _ one g (simp to_z-of_z at c.overflowing_sub.ensures.value) (simp to_z-of_z at c.overflowing_sub.ensures.overflow))
