use Rattle.std.proofs.Common.{◌≡◌, ◌-◌, ◌*◌, suc, take, drop}
use Rattle.std.specs.List.{range_with_len, flat_map}
use Rattle.jstruct.proofs.reversing.runs_backwards.Given as goal

abbrev pub invariant-loop-i : goal.invariant-loop-i
invariant-loop-i g l = l.made.items ≡ flat_map (λ k. take l.size (drop ((l.count - suc k) * l.size) l.items)) (range_with_len 0 l.i)
