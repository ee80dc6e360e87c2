use Rattle.std.proofs.Common.{◌≡◌, ◌∙◌, length, arith}
use Rattle.jcut.proofs.Fretting.{fret_more, fret_same, frets_all}
use Rattle.jcut.proofs.frets.fret_places.Goals as goal
use Rattle.jcut.proofs.frets.fret_places.Goals.{then-fret+in_ok-push, else-fret}

pub loop-place-preserved : goal.loop-place-preserved
loop-place-preserved c =
    elim c.if-fret.branch [
      | then-fret+in_ok-push w ↦
          rw (w.places-is) (fret_more c.args.frets.now c.loop-place.place c.loop-place.places.items _ w.if-fret.true c.loop-place.invariant w.in_ok-push.ensures.items)
      | else-fret w ↦ rw (w.places-is) (fret_same c.args.frets.now c.loop-place.place c.loop-place.places.items w.if-fret.false c.loop-place.invariant)
    ]

pub returns : goal.returns
returns c =
    let all : c.loop-place.place ≡ length c.args.frets.now = omega arith in
    c.loop-place.invariant ∙ frets_all c.args.frets.now c.loop-place.place all
