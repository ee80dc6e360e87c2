use Rattle.std.proofs.Common.{◌≡◌, ℕ, ◌-◌, ◌<◌, ◌≤◌, slice_index_or}
use Rattle.core.specs.Mem.Slots.{slots_items, slots_filled, slots_ptr, slots_len}
use Rattle.core.specs.Mem.Slots.Ownership.{Filled}
use Rattle.jyard.proofs.rows.zeros.Given as goal

abbrev pub invariant-loop-i : goal.invariant-loop-i
invariant-loop-i l = (l.i ≤ l.count) × (slots_len l.row ≡ l.count) × (slots_ptr l.row ≡ l.fn.places.ptr) × Filled (slots_filled l.row) 0 l.i × ((k : ℕ) → k < l.i → slice_index_or (slots_items l.row) k 0 ≡ 0)

abbrev pub decreases-loop-i : goal.decreases-loop-i
decreases-loop-i l = l.count - l.i
