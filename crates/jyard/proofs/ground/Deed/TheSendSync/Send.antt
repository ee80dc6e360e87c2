use denote.RattleType.{RattleType}
use denote.Param.Send.{IsSend, Frees}
use Rattle.core.specs.declared.alloc.Allocator.{Ghosts}
use Rattle.jyard.specs.contracts.ground.Deed.{the_row}
use Rattle.jyard.proofs.Blanks.{deed_send}

pub send : (S A : RattleType) (g : Ghosts A.Denot) → IsSend A → Frees g g.dealloc_token → IsSend (the_row S A g)
send S A g s f = deed_send S A g f
