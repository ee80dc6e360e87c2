-- A seat, after a write through `get_mut`.
use Rattle.std.specs.Prelude.{ℕ, [], ◌∷◌, ◌++◌, Result, Ok, Err}
use Rattle.jyard.specs.Logs.{looking, entry}
use Rattle.jyard.specs.declared.table.Seat.{Seat}

-- the seat, with the value w
abbrev pub with_value : {S : Type 0} → Seat S → S → Seat S
with_value s w = record { marker = s.marker; id = s.id; right = s.right; round = s.round; value = w; seat = s.seat; steps = s.steps }

-- the seat, with another right
abbrev pub with_right : {S : Type 0} → Seat S → ℕ → Seat S
with_right s k = record { marker = s.marker; id = s.id; right = k; round = s.round; value = s.value; seat = s.seat; steps = s.steps }

-- the seat, with one step more: it looked, and found n
abbrev pub with_look : {S : Type 0} → Seat S → ℕ → Seat S
with_look s n = record { marker = s.marker; id = s.id; right = s.right; round = s.round; value = s.value; seat = s.seat; steps = s.steps ++ entry looking s.seat n n 0 ∷ [] }

-- the word that was found
unfoldable pub found_in : {A : Type 0} → Result A ℕ → ℕ
found_in (Ok r) = 2
found_in (Err n) = n
