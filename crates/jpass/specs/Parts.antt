-- Passes of one turn.
use Rattle.std.specs.Prelude.{◌≡◌}
use Rattle.jpass.specs.Used.{Taken}

-- both are of one turn, with the same parts, and both or neither are the marker
abbrev pub IsSame : Taken → Taken → Type 0
IsSame s t = (t.pass.turn ≡ s.pass.turn) × (t.pass.parts ≡ s.pass.parts) × (t.pass.is_marker ≡ s.pass.is_marker)
