use denote.Param.Send.{IsSync, part_keyless}
use Rattle.jyard.specs.contracts.view.View.{the_row}
use Rattle.jyard.proofs.view.View.TheSendSync.Send.{send}

pub sync : IsSync the_row
sync = record { shared = λ d b o ν q. part_keyless the_row send q d b o }
