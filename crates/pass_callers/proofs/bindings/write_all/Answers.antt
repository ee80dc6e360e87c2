use Rattle.std.proofs.Common.{rules, ◌≡◌, ℕ, ◌+◌, List, [], ◌∷◌, ◌++◌, take, get_or, sym, ap, ◌∙◌, subst}
use Rattle.std.proofs.lemmas.List.{take_more, append-nil}
use Rattle.juses.specs.Told.{nothing, replied}
use Rattle.jpass.specs.Used.{Leads}
use Rattle.jpass.specs.UsedLaws.{leads_none, leads_on}
use Rattle.pass_callers.specs.Bindings.{written, writing}
use Rattle.pass_callers.specs.declared.bindings.Binding.{Binding}
use Rattle.pass_callers.proofs.Writes.{wrote_more, then_nothing}
use Rattle.pass_callers.proofs.bindings.write_all.Goals as goal

pub loop-binding-init : goal.loop-binding-init
loop-binding-init g c = leads_none c.args.uses.now

pub loop-binding-preserved : goal.loop-binding-preserved
loop-binding-preserved g c = let b = c.binding-item.result in let bs = c.args.bindings.now in
    let one : Leads c.loop-binding.uses (replied (written c.loop-binding.uses.thread b)) c.write-outcome.new.uses = search rules in
    let here : get_or bs c.loop-binding.binding-index b ≡ b = search rules in
    let more : take (c.loop-binding.binding-index + 1) bs ≡ take c.loop-binding.binding-index bs ++ b ∷ [] =
    take_more bs c.loop-binding.binding-index b c.loop-binding-test.true ∙ ap (λ (x : Binding). take c.loop-binding.binding-index bs ++ x ∷ []) here in
    subst (λ (l : List Binding). Leads c.args.uses.now (writing c.args.uses.now.thread l) c.write-outcome.new.uses) (sym more)
    (wrote_more c.args.uses.now c.loop-binding.uses c.write-outcome.new.uses (take c.loop-binding.binding-index bs) b c.loop-binding.invariant one)

pub returns-then-is_err-clause-stopped : goal.returns-then-is_err-clause-stopped
returns-then-is_err-clause-stopped g c =
    let none : Leads c.loop-binding.uses nothing c.write-outcome.new.uses = search rules in
    let same : Leads c.args.uses.now (writing c.args.uses.now.thread (take c.loop-binding.binding-index c.args.bindings.now)) c.write-outcome.new.uses =
    then_nothing c.args.uses.now c.loop-binding.uses c.write-outcome.new.uses c.args.uses.now.thread (take c.loop-binding.binding-index c.args.bindings.now) c.loop-binding.invariant none in
    search (rules, same)
