use Rattle.std.proofs.Common.{rules, ℕ, ◌+◌, ◌%◌, ◌^◌}
use Rattle.jturn.proofs.Kept.{counts_change}
use Rattle.jturn.proofs.board.Board.change.Goals as goal

pub fetch_add-before-requires : goal.fetch_add-before-requires
fetch_add-before-requires g c = (search rules, search rules, counts_change g.S.Logged.stands_for g.S.Logged.mark g.S.Logged.constant _ (λ (n : ℕ). (n + 1) % 2 ^ 64) _ 1 _ _)
