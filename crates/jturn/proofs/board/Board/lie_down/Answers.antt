use Rattle.std.proofs.Common.{rules, ℕ, ◌+◌, ◌%◌, ◌^◌}
use Rattle.jturn.proofs.Kept.{counts_sleepers}
use Rattle.jturn.proofs.board.Board.lie_down.Goals as goal

pub fetch_add-requires : goal.fetch_add-requires
fetch_add-requires g c = (search rules, search rules, counts_sleepers g.S.Logged.stands_for g.S.Logged.mark g.S.Logged.constant _ (λ (n : ℕ). (n + 1) % 2 ^ 64) _ 1 _ _)
