use Rattle.std.proofs.Common.{◌^◌, ◌<◌, Ok, ◌∙◌, ap, arith}
use Rattle.std.proofs.lemmas.Int.{to_z-of_z, to_z_pos}
use mir.Syntax.{w64}
use Rattle.jscalar.proofs.Bounds.{abs_within}
use Rattle.jscalar.specs.Powers.{whole}
use Rattle.jscalar.proofs.RootLaws.{no_root_of_low, no_root_of_negative, root_is}
use Rattle.jscalar.proofs.roots.root.Goals as goal

pub returns-then-x-lt1 : goal.returns-then-x-lt1
returns-then-x-lt1 c =
    let fx = c.ranges.x in
    no_root_of_low c.args.x c.args.y (simp to_z-of_z at c.if-x-lt1.true)

pub returns-then-y-lt0 : goal.returns-then-y-lt0
returns-then-y-lt0 c =
    let fy = c.ranges.y in
    no_root_of_negative c.args.x c.args.y (simp to_z-of_z at c.if-y-lt0.true)

pub returns-in-None : goal.returns-in-None
returns-in-None c =
    let fx = c.ranges.x in
    let fy = c.ranges.y in
    let x = simp to_z-of_z at c.unsigned_abs.ensures.value in
    let y = simp to_z-of_z at c.unsigned_abs-2.ensures.value in
    let found = simp (x, y) at (c.in-None.ensures.value) in
    ap whole found ∙ root_is c.args.x c.args.y (simp to_z-of_z at c.if-x-lt1.false) (simp to_z-of_z at c.if-y-lt0.false)

pub returns-in-Some : goal.returns-in-Some
returns-in-Some c =
    let fx = c.ranges.x in
    let fy = c.ranges.y in
    let x = simp to_z-of_z at c.unsigned_abs.ensures.value in
    let y = simp to_z-of_z at c.unsigned_abs-2.ensures.value in
    let above = simp to_z-of_z at c.if-y-lt0.false in
    let small : c.in-Some.root < 2 ^ 63 = omega (arith, c.in-Some.ensures.bound, y, abs_within c.args.y c.ranges.y above) in
    let found = simp (x, y) at (c.in-Some.ensures.value) in
    ap Ok (to_z_pos w64 c.in-Some.root small) ∙ ap whole found ∙ root_is c.args.x c.args.y (simp to_z-of_z at c.if-x-lt1.false) above
