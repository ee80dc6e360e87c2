use Rattle.std.proofs.Common.{◌≡◌, ◌+◌, drop}
use Rattle.std.specs.List.{position_or_len}
use Rattle.jexplicit.specs.Body.{is_colon}
use Rattle.jexplicit.proofs.body.colon_place.Given as goal

abbrev pub invariant-loop-i : goal.invariant-loop-i
invariant-loop-i l = l.i + position_or_len is_colon (drop l.i l.lines) ≡ position_or_len is_colon l.lines
