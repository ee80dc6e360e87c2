use Rattle.std.proofs.Common.{◌∙◌}
use Rattle.std.proofs.lemmas.Int.{to_z-of_z}
use Rattle.jscalar.proofs.ChoiceLaws.{no_ways_of_negative, no_way_to_take_negative, out_of_is}
use Rattle.jscalar.proofs.choices.out_of.Goals as goal

pub returns-then-y-lt0 : goal.returns-then-y-lt0
returns-then-y-lt0 c =
    let fy = c.ranges.y in
    no_ways_of_negative c.args.x c.args.y (simp to_z-of_z at c.if-y-lt0.true)

pub returns-then-x-lt0 : goal.returns-then-x-lt0
returns-then-x-lt0 c =
    let fx = c.ranges.x in
    let fy = c.ranges.y in
    no_way_to_take_negative c.args.x c.args.y (simp to_z-of_z at c.if-y-lt0.false) (simp to_z-of_z at c.if-x-lt0.true)

pub returns : goal.returns
returns c =
    let fx = c.ranges.x in
    let fy = c.ranges.y in
    let x = simp to_z-of_z at c.unsigned_abs.ensures.value in
    let y = simp to_z-of_z at c.unsigned_abs-2.ensures.value in
    simp (x, y) at c.choose.ensures ∙ out_of_is c.args.x c.args.y (simp to_z-of_z at c.if-y-lt0.false) (simp to_z-of_z at c.if-x-lt0.false)
