use Rattle.std.proofs.Common.{sym, ◌∙◌, rules, ap}
use Rattle.std.proofs.lemmas.Int.{to_z-of_z}
use Rattle.std.specs.Prelude.{◌+ℤ◌, FitsSigned}
use mir.Syntax.{w64}
use Rattle.jscalar.proofs.Bounds.{zero_from_bits, not_zero_from_bits}
use Rattle.jscalar.proofs.Fractions.{residue_by_zero, residue_of_positive, residue_of_negative, residue_of_negative_none, unlike_sum}
use Rattle.jscalar.proofs.quotients.residue.Goals as goal
use Rattle.jscalar.proofs.quotients.residue.Goals.{else-x-lt0-via-then-x-lt0+else-rest-gt0, else-x-lt0-via-else-x-lt0}

pub returns-then-x-eq0 : goal.returns-then-x-eq0
returns-then-x-eq0 c =
    to_z-of_z w64 c.args.y c.ranges.y ∙ sym (residue_by_zero c.args.x c.args.y (zero_from_bits c.args.x c.ranges.x c.if-x-eq0.true))

pub returns-then-rest-gt0 : goal.returns-then-rest-gt0
returns-then-rest-gt0 c =
    let fx = c.ranges.x in
    let fy = c.ranges.y in
    let fr : FitsSigned w64 c.wrapping_rem_euclid-rest.result = search rules in
    let rest = simp to_z-of_z at c.wrapping_rem_euclid-rest.ensures in
    let below = simp to_z-of_z at c.if-x-lt0.true in
    let above = simp to_z-of_z at c.if-rest-gt0.true in
    simp to_z-of_z (unlike_sum c.wrapping_rem_euclid-rest.result c.args.x fr fx below above
    ∙ ap (λ r. r +ℤ c.args.x) rest
    ∙ sym (residue_of_negative c.args.x c.args.y below (rw rest at above)))

pub returns-else-x-lt0 : goal.returns-else-x-lt0
returns-else-x-lt0 c =
    let fx = c.ranges.x in
    let fy = c.ranges.y in
    let fr : FitsSigned w64 c.wrapping_rem_euclid-rest.result = search rules in
    let rest = simp to_z-of_z at c.wrapping_rem_euclid-rest.ensures in
    to_z-of_z w64 _ fr ∙ rest ∙ sym (elim c.else-x-lt0.branch [
      | else-x-lt0-via-then-x-lt0+else-rest-gt0 w ↦
          let below = simp to_z-of_z at w.if-x-lt0.true in
          let none = simp to_z-of_z at w.if-rest-gt0.false in
          residue_of_negative_none c.args.x c.args.y below (rw rest at none)
      | else-x-lt0-via-else-x-lt0 w ↦
          let above = simp to_z-of_z at w.if-x-lt0.false in
          residue_of_positive c.args.x c.args.y (not_zero_from_bits c.args.x c.if-x-eq0.false) above
    ])
