use Rattle.std.proofs.Common.{rules, ◌≡◌, [], Some, length, arith}
use Rattle.std.proofs.lemmas.Grind.{common_steps}
use Rattle.jio.proofs.Fronts.{next_part, nothing_left}
use Rattle.jio.proofs.memory_source.MemSourceSource.read.Goals as goal

pub returns-clause-bytes : goal.returns-clause-bytes
returns-clause-bytes c = let e = next_part c.self.inside.bytes.items c.self.inside.at c.copy_front-count.result in
    (omega arith, omega arith, record { left = grind (arith, common_steps); given = grind (arith, common_steps); faults = search rules; broken = search rules; ended = search rules })

pub returns-then-count-eq0-clause-end : goal.returns-then-count-eq0-clause-end
returns-then-count-eq0-clause-end c =
    let front : c.begin_call.new.self.reads.left ≡ Some c.left.result.now = c.left.ensures in
    let none : c.left.result.now ≡ [] = nothing_left c.left.result.now (length c.args.into.now) c.self.inside.most c.copy_front-count.result c.copy_front-count.ensures.count c.requires c.self.invariant.1 c.if-count-eq0.true in
    record {
      left = search rules;
      at_end = search rules;
      given = search rules;
      faults = search rules;
      broken = search rules;
      ended = search rules;
    }
