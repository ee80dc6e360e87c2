use Rattle.std.proofs.Common.{◌≡◌, ◌++◌, [], map, slice_index, slice_index_or}
use Rattle.std.specs.List.{range_with_len, flat_map}
use Rattle.jnumber.specs.Spelling.{written}
use Rattle.jformat.specs.Rows.{field}
use Rattle.jformat.specs.Pieces.{gap_before}
use Rattle.jformat.proofs.writing.push_fields.Given as goal

abbrev pub invariant-loop-column : goal.invariant-loop-column
invariant-loop-column l =
    l.out.items ≡ l.fn.out.items ++ flat_map (λ j. gap_before j ++ field (slice_index l.widths j) (slice_index_or (map written l.numbers) j [])) (range_with_len 0 l.column)
