use Rattle.std.proofs.Common.{rules, ◌≡◌, ℕ, ◌<◌, List, [], ◌∷◌, ◌++◌, length, take, get_or, OnOk, OnErr, sym, ap, ◌∙◌, subst}
use Rattle.std.proofs.lemmas.List.{take_more, append-nil}
use Rattle.jcount.specs.declared.shelf.Line.{Line}
use Rattle.jturn.specs.Laws.{grew_on}
use Rattle.jturn.specs.Pass.{Grew}
use Rattle.jcount.proofs.shelving.put_all.Goals as goal

pub loop-line-preserved : goal.loop-line-preserved
loop-line-preserved g c = let one : Grew c.loop-line.pass (c.line-item.result ∷ []) c.put-after.result.0 = search rules in
    let here : get_or c.args.lines.now c.loop-line.line-index c.line-item.result ≡ c.line-item.result = search rules in
    subst (λ (l : List Line). Grew c.args.pass l c.put-after.result.0) (sym (take_more c.args.lines.now c.loop-line.line-index c.line-item.result c.loop-line-test.true ∙ ap (λ (x : Line). take c.loop-line.line-index c.args.lines.now ++ x ∷ []) here))
    (grew_on c.args.pass c.loop-line.pass c.put-after.result.0 _ _ c.loop-line.invariant one)

pub returns-then-is_err-clause-stopped : goal.returns-then-is_err-clause-stopped
returns-then-is_err-clause-stopped g c = let none : Grew c.loop-line.pass [] c.put-after.result.0 = search rules in
    let same : Grew c.args.pass (take c.loop-line.line-index c.args.lines.now) c.put-after.result.0 = subst (λ (l : List Line). Grew c.args.pass l c.put-after.result.0) (append-nil (take c.loop-line.line-index c.args.lines.now)) (grew_on c.args.pass c.loop-line.pass c.put-after.result.0 _ _ c.loop-line.invariant none) in
    search (rules, same)
