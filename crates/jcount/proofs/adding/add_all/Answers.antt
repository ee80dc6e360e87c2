use Rattle.std.proofs.Common.{ℕ, List, sym, subst}
use Rattle.std.proofs.lemmas.List.{take_more}
use Rattle.jturn.specs.Laws.{grew_on}
use Rattle.jturn.specs.Pass.{Grew}
use Rattle.jcount.proofs.adding.add_all.Goals as goal

pub loop-x-preserved : goal.loop-x-preserved
loop-x-preserved g c = subst (λ (l : List ℕ). Grew c.args.pass l c.add-pass.result) (sym (take_more c.args.xs.now c.loop-x.x-index 0 c.loop-x-test.true))
    (grew_on c.args.pass c.loop-x.pass c.add-pass.result _ _ c.loop-x.invariant c.add-pass.ensures)
