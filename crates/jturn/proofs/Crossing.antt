-- A pass may go to another thread, and a turn may be shared, where the state may go to another thread.
use denote.RattleType.{RattleType}
use denote.Param.Send.{IsSend, IsSync, sendable, part_keyless}
use denote.Struct.Struct.{Struct}
use denote.Struct.Owning.{shape}
use Rattle.std.proofs.Crossing.{crosses, frees, sync}
use Rattle.std.specs.contracts.alloc.Global as Heap
use Rattle.std.specs.contracts.impls.GlobalAllocator.TheImpl.{ghosts}
use Rattle.std.specs.contracts.snapshot.Snapshot as note
use Rattle.atomic_table.proofs.Sent.{seat_keyless, shares_keyless}
use Rattle.atomic_table.proofs.Rights.{right_send}
use Rattle.atomic_table.specs.declared.shared.TableRule as rule
use Rattle.atomic_table.specs.contracts.shared.Shared as shared
use Rattle.atomic_table.specs.contracts.send_lease.SendLease as lease
use Rattle.atomic_table.specs.contracts.shared.Seat as seat
use Rattle.jturn.specs.declared.logged.Logged.{Ghosts}
use Rattle.jturn.specs.contracts.board.Slot as slot
use Rattle.jturn.specs.contracts.pass.TurnPass as pass
use Rattle.jturn.specs.contracts.turn.Turn as turn

seat_send : (S V : RattleType) → IsSend S → IsSend (seat.the_row S V)
seat_send S V s = record { owned = λ d vs. ((λ vss. (tt, ((λ uss. (tt, tt)), tt))), seat_keyless S s V.coded.code d.table_id d.id d.me); leaving = λ k f vs. tt }

slot_send : (S E : RattleType) → IsSend S → IsSend (slot.the_row S (note.the_row E))
slot_send S E s = search (sendable, crosses) depth 20

pub pass_send : (S E : RattleType) (g : Ghosts S.Denot E.Denot) → IsSend S → IsSend (pass.the_row S E g)
pass_send S E g s = search (sendable, slot_send, seat_send) depth 20

shared_sync : (S V K P : RattleType) (g : rule.Ghosts P.Denot S.Denot V.Denot K.Denot) → IsSend S → IsSync (shared.the_row S V K P g)
shared_sync S V K P g s = let fields : IsSync (Struct (shape (shared.the_type S V K P g))) = search sendable depth 20 in
    record { shared = λ d b o ν. (fields.shared (d.words, (d.slots, (tt, tt))) b o ν, shares_keyless S s V.coded.code d.table_id (g.holds d.key) d.words d.slots ν) }

lease_sync : (T : RattleType) → IsSync (lease.the_row T Heap.the_row ghosts)
lease_sync T = record { shared = λ d b o ν q. part_keyless (lease.the_row T Heap.the_row ghosts) (right_send T Heap.the_row ghosts frees) q d b o }

pub turn_sync : (S E : RattleType) (g : Ghosts S.Denot E.Denot) → IsSend S → IsSync (turn.the_row S E g)
turn_sync S E g s = search (sendable, crosses, slot_send, shared_sync, lease_sync, sync) depth 30

-- what `search` takes to show that closures over passes and turns may cross
pub ruleset turns_cross = (sendable, crosses, pass_send, turn_sync)
