use denote.RattleType.{RattleType}
use denote.Param.Send.{IsSend, IsSync, owning_send, struct_send, sendable}
use denote.Builtin.{RawPtr}
use denote.Struct.Struct.{exits_of}
use denote.Struct.Owning.{shape, fields, to}
use Rattle.std_alloc.proofs.SendSync.{quiet}
use Rattle.jyard.specs.contracts.table.Table.{the_row, the_type}
use Rattle.jyard.proofs.Sent.{table_keyless}

pub send : (T : RattleType) → IsSend T → IsSync T → IsSend (the_row T)
send T s y = let O = the_type T in let ps : IsSend RawPtr = search sendable in owning_send O (ps, (ps, tt)) (λ d. table_keyless T s y d.cells d.words d.empty d.ids)
    (λ k. quiet (to O) (exits_of k (fields O)) ((struct_send (shape O) (ps, (ps, tt))).leaving k))
