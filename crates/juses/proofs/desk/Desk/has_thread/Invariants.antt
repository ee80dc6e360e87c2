use Rattle.std.proofs.Common.{◌≡◌, drop, nat_eq}
use Rattle.std.specs.List.{list_any}
use Rattle.juses.proofs.desk.Desk.has_thread.Given as goal

abbrev pub invariant-loop-own : goal.invariant-loop-own
invariant-loop-own l = list_any (nat_eq l.pool) (drop l.own-index l.self.threads) ≡ list_any (nat_eq l.pool) l.self.threads
