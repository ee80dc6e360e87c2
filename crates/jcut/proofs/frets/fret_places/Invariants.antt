use Rattle.std.proofs.Common.{◌≡◌}
use Rattle.jcut.proofs.Fretting.{frets_among}
use Rattle.jcut.proofs.frets.fret_places.Given as goal

abbrev pub invariant-loop-place : goal.invariant-loop-place
invariant-loop-place l = l.places.items ≡ frets_among l.frets l.place
