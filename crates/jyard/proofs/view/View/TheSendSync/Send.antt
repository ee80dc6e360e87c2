use denote.Param.Send.{IsSend}
use Rattle.jyard.specs.contracts.view.View.{the_row}
use Rattle.jyard.proofs.Sent.{spents_keyless}

pub send : IsSend the_row
send = record { owned = λ d vs. ((λ vss. (tt, ((λ uss. (tt, tt)), tt))), spents_keyless d.spent); leaving = λ k f vs. tt }
