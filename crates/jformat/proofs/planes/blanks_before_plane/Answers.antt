use Rattle.std.proofs.Common.{◌-◌, arith}
use Rattle.jformat.proofs.Products.{last_part, some_axis}
use Rattle.jformat.proofs.Changes.{inner_more, blanks_at_most, one_more, none_more}
use Rattle.jformat.proofs.planes.blanks_before_plane.Goals as goal

pub overflow_mul-inner : goal.overflow_mul-inner
overflow_mul-inner c =
    let axes = c.args.axes.now in
    let l = c.loop-at in
    let e = inner_more axes c.args.plane l.inner l.blanks l.at (l.at - 1) (omega arith) l.invariant in
    omega (arith, e, (last_part (l.at - 1) axes c.requires.some).at_most, c.requires.within)

pub nonzero_div-plane : goal.nonzero_div-plane
nonzero_div-plane c =
    let axes = c.args.axes.now in
    let l = c.loop-at in
    let e = inner_more axes c.args.plane l.inner l.blanks l.at (l.at - 1) (omega arith) l.invariant in
    omega (arith, e, (last_part (l.at - 1) axes c.requires.some).some)

pub nonzero_rem-plane : goal.nonzero_rem-plane
nonzero_rem-plane c = some_axis c.args.axes.now (c.loop-at.at - 1 - 1) (omega (arith, c.loop-at.invariant.within)) c.requires.some

pub nonzero_div-plane-in-loop-at : goal.nonzero_div-plane-in-loop-at
nonzero_div-plane-in-loop-at c =
    let axes = c.args.axes.now in
    let l = c.loop-at in
    let e = inner_more axes c.args.plane l.inner l.blanks l.at (l.at - 1) (omega arith) l.invariant in
    omega (arith, e, (last_part (l.at - 1) axes c.requires.some).some)

pub nonzero_rem-plane-in-loop-at : goal.nonzero_rem-plane-in-loop-at
nonzero_rem-plane-in-loop-at c = some_axis c.args.axes.now (c.loop-at.at - 1 - 1) (omega (arith, c.loop-at.invariant.within)) c.requires.some

pub overflow_add-blanks : goal.overflow_add-blanks
overflow_add-blanks c =
    let l = c.loop-at in
    omega (arith, blanks_at_most c.args.axes.now c.args.plane l.inner l.blanks l.at l.invariant)

pub loop-at-preserved-then-plane-inner : goal.loop-at-preserved-then-plane-inner
loop-at-preserved-then-plane-inner c =
    let l = c.loop-at in
    one_more c.args.axes.now c.args.plane l.inner l.blanks l.at (l.at - 1) (l.at - 1 - 1) (omega arith) (omega arith) l.invariant c.if-plane-inner.true

pub loop-at-preserved : goal.loop-at-preserved
loop-at-preserved c =
    let l = c.loop-at in
    none_more c.args.axes.now c.args.plane l.inner l.blanks l.at (l.at - 1) (l.at - 1 - 1) (omega arith) (omega arith) l.invariant c.if-plane-inner.false
