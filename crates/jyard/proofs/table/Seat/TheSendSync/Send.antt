use denote.RattleType.{RattleType}
use denote.Param.Send.{IsSend, IsSync}
use Rattle.jyard.specs.Units.{place}
use Rattle.jyard.specs.contracts.table.Seat.{the_row}
use Rattle.jyard.proofs.Sent.{holder_keyless}

pub send : (T : RattleType) → IsSend T → IsSync T → IsSend (the_row T)
send T s y = record { owned = λ d vs. ((λ vss. (tt, ((λ uss. (tt, tt)), tt))), holder_keyless T s y (place d.id) d.id d.right d.round d.value d.seat d.steps); leaving = λ k f vs. tt }
