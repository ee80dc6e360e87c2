use Rattle.std.proofs.Common.{rules}
use Rattle.jturn.proofs.Kept.{looks}
use Rattle.jturn.proofs.board.Board.look.Goals as goal

pub load-requires : goal.load-requires
load-requires g c = (
  search rules,
  search rules,
  looks g.S.Logged.stands_for g.S.Logged.mark g.S.Logged.constant _ _ _ c.requires.1.0 _ c.requires.1.1 c.requires.2,
)
