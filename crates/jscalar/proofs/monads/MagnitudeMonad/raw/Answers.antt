use Rattle.std.proofs.Common.{◌∙◌, sym, ap, Ok, FitsSigned, arith}
use Rattle.std.specs.Prelude.{pos}
use Rattle.std.proofs.lemmas.Int.{to_z-of_z}
use mir.Syntax.{w64}
use Rattle.jscalar.specs.Fitted.{fitted}
use Rattle.jscalar.proofs.Bounds.{fitted_within}
use Rattle.jscalar.proofs.Flagging.{rest_or_none, negated, size_of_negative, size_of_other}
use Rattle.jscalar.proofs.monads.MagnitudeMonad.raw.Goals as goal

pub returns-then-y-lt0 : goal.returns-then-y-lt0
returns-then-y-lt0 c =
    let g = c.ranges.y in
    let low = simp to_z-of_z at c.if-y-lt0.true in
    let zero : FitsSigned w64 (pos 0) = record { sfits = omega arith } in
    ap fitted (size_of_negative c.args.y low)
    ∙ negated c.args.y _ _ (rest_or_none (pos 0) c.args.y _ _ zero g (simp to_z-of_z at c.overflowing_sub.ensures.value) (simp to_z-of_z at c.overflowing_sub.ensures.overflow))

pub returns-else-y-lt0 : goal.returns-else-y-lt0
returns-else-y-lt0 c =
    let g = c.ranges.y in
    let high = simp to_z-of_z at c.if-y-lt0.false in
    ap fitted (size_of_other c.args.y high) ∙ fitted_within c.args.y g ∙ ap Ok (sym (to_z-of_z w64 c.args.y g))
