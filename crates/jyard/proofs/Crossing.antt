-- A yard, a hold and a pass may go to other threads and be shared by them, where the payload may do both. A caller lists these lemmas, or `yards_cross`, in the proof of a call that starts a thread.
use denote.RattleType.{RattleType}
use denote.Param.Send.{IsSend, IsSync, sendable}
use Rattle.std.proofs.Crossing.{crosses}
use Rattle.jyard.specs.contracts.hold.Hold as hold
use Rattle.jyard.specs.contracts.yard.Yard as yard
use Rattle.jyard.specs.contracts.yard.YardPass as pass
use Rattle.jyard.proofs.hold.Hold.TheSendSync as of_hold
use Rattle.jyard.proofs.yard.Yard.TheSendSync as of_yard
use Rattle.jyard.proofs.yard.YardPass.TheSendSync as of_pass

pub yard_send : (T : RattleType) → IsSend T → IsSync T → IsSend (yard.the_row T)
yard_send T s y = of_yard.the_send T s y

pub yard_sync : (T : RattleType) → IsSend T → IsSync T → IsSync (yard.the_row T)
yard_sync T s y = of_yard.the_sync T s y

pub hold_send : (T : RattleType) → IsSend T → IsSync T → IsSend (hold.the_row T)
hold_send T s y = of_hold.the_send T s y

pub hold_sync : (T : RattleType) → IsSend T → IsSync T → IsSync (hold.the_row T)
hold_sync T s y = of_hold.the_sync T s y

pub pass_send : IsSend pass.the_row
pass_send = of_pass.the_send

pub pass_sync : IsSync pass.the_row
pass_sync = of_pass.the_sync

-- what `search` takes to show that closures over yards, holds and passes may cross
pub ruleset yards_cross = (sendable, crosses, yard_send, yard_sync, hold_send, hold_sync, pass_send, pass_sync)
