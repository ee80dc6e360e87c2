use denote.RattleType.{RattleType}
use denote.Param.Send.{IsSend, IsSync, struct_sync, sendable}
use denote.Builtin.{RawPtr}
use denote.Struct.Owning.{shape, to}
use Rattle.jyard.specs.contracts.table.Table.{the_row, the_type}
use Rattle.jyard.proofs.Sent.{table_common}

pub sync : (T : RattleType) → IsSend T → IsSync T → IsSync (the_row T)
sync T s y = let py : IsSync RawPtr = search sendable in
    record { shared = λ d b o κ. ((struct_sync (shape (the_type T)) (py, (py, tt))).shared (to (the_type T) d) b o κ, table_common T s y d.cells d.words d.empty d.ids κ) }
