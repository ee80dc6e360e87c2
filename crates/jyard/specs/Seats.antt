-- A seat as one of several.
use Rattle.jyard.specs.Units.{SeatOf}
use Rattle.jyard.specs.declared.table.Seat.{Seat}

abbrev pub seat_of : {S : Type 0} → Seat S → SeatOf S
seat_of s = record { id = s.id; right = s.right; round = s.round; value = s.value; seat = s.seat; steps = s.steps }
