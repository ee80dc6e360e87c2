use Rattle.std.proofs.Common.{◌≡◌, ◌++◌, [], replicate}
use Rattle.jformat.proofs.boxes.push_empty_rows.Given as goal

abbrev pub invariant-loop : goal.invariant-loop
invariant-loop l = l.out.items ≡ l.fn.out.items ++ replicate l.counter []
