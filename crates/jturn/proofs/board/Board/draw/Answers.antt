use Rattle.std.proofs.Common.{rules}
use Rattle.jturn.proofs.Kept.{draws}
use Rattle.jturn.proofs.board.Board.draw.Goals as goal

pub fetch_add-requires : goal.fetch_add-requires
fetch_add-requires g c = (
  search rules,
  search rules,
  draws g.S.Logged.stands_for g.S.Logged.mark g.S.Logged.constant _ _ _ _ c.requires.1 c.requires.2,
)
