use Rattle.std.proofs.Common.{◌≡◌, ℕ, ◌-◌, ◌<◌, ◌≤◌, slice_index_or}
use Rattle.core.specs.Mem.Slots.{slots_items, slots_len}
use Rattle.jyard.proofs.rows.all_free.Given as goal

abbrev pub invariant-loop-i : goal.invariant-loop-i
invariant-loop-i l = (l.words ≡ l.fn.words) × (l.i ≤ slots_len l.fn.words) × ((k : ℕ) → k < l.i → slice_index_or (slots_items l.fn.words) k 0 ≡ 0)

abbrev pub decreases-loop-i : goal.decreases-loop-i
decreases-loop-i l = slots_len l.fn.words - l.i
