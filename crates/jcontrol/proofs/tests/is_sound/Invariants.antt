use Rattle.std.proofs.Common.{ℕ, ◌≡◌, ◌<◌, Some, length, slice_get}
use Rattle.jcontrol.specs.Machine.{LeadsInside}
use Rattle.jcontrol.specs.declared.prepared.Prepared.{Prepared}
use Rattle.jcontrol.proofs.tests.is_sound.Given as goal

-- the words before this place lead inside
abbrev pub invariant-loop-place : goal.invariant-loop-place
invariant-loop-place l = (p : ℕ) (w : Prepared) → p < l.place → slice_get l.words p ≡ Some w → LeadsInside (length l.words) p w.act × ((c : ℕ) → w.catch ≡ Some c → c < length l.words)
