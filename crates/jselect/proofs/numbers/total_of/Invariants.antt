use Rattle.std.proofs.Common.{◌≡◌, ℕ, ◌-◌, ◌^◌, min, length}
use Rattle.jselect.specs.Copies.{count_at}
use Rattle.jselect.specs.Picking.{repeated}
use Rattle.jselect.proofs.numbers.total_of.Given as goal

abbrev pub invariant-loop-place : goal.invariant-loop-place
invariant-loop-place l = (place : ℕ → ℕ) → l.total ≡ min (length (repeated (count_at l.one_count l.counts) place l.place)) (2 ^ 64 - 1)
