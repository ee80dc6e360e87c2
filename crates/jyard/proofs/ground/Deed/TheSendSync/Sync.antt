use denote.RattleType.{RattleType}
use denote.Param.Send.{IsSend, IsSync, Frees, part_keyless}
use Rattle.core.specs.declared.alloc.Allocator.{Ghosts}
use Rattle.jyard.specs.contracts.ground.Deed.{the_row}
use Rattle.jyard.proofs.Blanks.{deed_send}

pub sync : (S A : RattleType) (g : Ghosts A.Denot) → IsSend A → Frees g g.dealloc_token → IsSync (the_row S A g)
sync S A g s f = record { shared = λ d b o ν q. part_keyless (the_row S A g) (deed_send S A g f) q d b o }
