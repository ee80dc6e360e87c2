use Rattle.std.proofs.Common.{◌≡◌, ◌≤◌, ◌+◌, nat_eq, drop}
use Rattle.juses.specs.Desk.{count_of}
use Rattle.juses.proofs.desk.Desk.of_pool.Given as goal

abbrev pub invariant-loop-own : goal.invariant-loop-own
invariant-loop-own l = (l.count + count_of (nat_eq l.pool) (drop l.own-index l.self.threads) ≡ count_of (nat_eq l.pool) l.self.threads) × (l.count ≤ l.own-index)
