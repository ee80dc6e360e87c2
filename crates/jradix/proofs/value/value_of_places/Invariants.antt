use Rattle.std.proofs.Common.{◌≡◌, ◌-◌, pos, map}
use Rattle.std.specs.List.{range_with_len}
use Rattle.jradix.specs.Bases.{value_on, place_at}
use Rattle.jradix.proofs.value.value_of_places.Given as goal

abbrev pub invariant-loop-place : goal.invariant-loop-place
invariant-loop-place l =
    let place = place_at l.one_base l.bases l.one_digit l.digits in
    value_on (pos 0) (map place (range_with_len 0 l.count)) ≡ value_on l.value (map place (range_with_len l.place (l.count - l.place)))
