use denote.RattleType.{RattleType}
use denote.Param.Send.{IsSend, IsSync, sendable}
use denote.Struct.Struct.{Struct}
use denote.Struct.Owning.{shape}
use Rattle.jyard.specs.Units.{place}
use Rattle.jyard.specs.contracts.table.Seat.{the_row, the_type}
use Rattle.jyard.proofs.Sent.{seat_shown}

pub sync : (T : RattleType) → IsSend T → IsSync T → IsSync (the_row T)
sync T s y = let fields : IsSync (Struct (shape (the_type T))) = search sendable depth 20 in
    record { shared = λ d b o κ. (fields.shared (tt, tt) b o κ, seat_shown T y (place d.id) d.id d.right d.round d.value κ) }
