use Rattle.std.proofs.Common.{take}
use Rattle.jpass.specs.Used.{Leads}
use Rattle.pass_callers.specs.Bindings.{writing}
use Rattle.pass_callers.proofs.bindings.write_all.Given as goal

abbrev pub invariant-loop-binding : goal.invariant-loop-binding
invariant-loop-binding g l = Leads l.fn.uses (writing l.fn.uses.thread (take l.binding-index l.bindings)) l.uses
