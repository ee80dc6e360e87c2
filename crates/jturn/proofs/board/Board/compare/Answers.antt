use Rattle.std.proofs.Common.{rules}
use Rattle.jturn.proofs.Kept.{compares}
use Rattle.jturn.proofs.board.Board.compare.Goals as goal

pub load-requires : goal.load-requires
load-requires g c = (search rules, search rules, compares g.S.Logged.stands_for g.S.Logged.mark g.S.Logged.constant _ _ _ _)
