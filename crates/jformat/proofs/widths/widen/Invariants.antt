use Rattle.std.proofs.Common.{◌≡◌, ◌<◌, ◌≤◌, ℕ, [], length, map, max, slice_index, slice_index_or}
use Rattle.jnumber.specs.Spelling.{written}
use Rattle.jformat.proofs.widths.widen.Given as goal

abbrev pub invariant-loop-column : goal.invariant-loop-column
invariant-loop-column l = record {
  before : (j : ℕ) → j < l.column → slice_index l.widths j ≡ max (slice_index l.fn.widths j) (length (slice_index_or (map written l.numbers) j []));
  after : (j : ℕ) → l.column ≤ j → slice_index l.widths j ≡ slice_index l.fn.widths j;
}
