use Rattle.std.proofs.Common.{◌≡◌, ◌≤◌, ◌+◌, suc, drop}
use Rattle.juses.specs.Desk.{threads_of, is_idle}
use Rattle.juses.specs.Standing.{phase_in}
use Rattle.juses.proofs.desk.Desk.idle.Given as goal

abbrev pub invariant-loop-own : goal.invariant-loop-own
invariant-loop-own l =
    (l.count + threads_of (is_idle (phase_in l.self.tasks) l.self.order) l.pool (suc l.own-index) (drop l.own-index l.self.threads) ≡ threads_of (is_idle (phase_in l.self.tasks) l.self.order) l.pool 1 l.self.threads)
    × (l.count ≤ l.own-index) × (l.number ≡ l.own-index)
