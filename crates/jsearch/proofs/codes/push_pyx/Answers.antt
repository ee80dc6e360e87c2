use Rattle.std.proofs.Common.{ap, sym, ◌∙◌, ◌++◌, ◌∷◌, pos, length, map}
use Rattle.jsearch.proofs.Pushing.{take_all, code_of_pyx}
use Rattle.jsearch.proofs.codes.push_pyx.Goals as goal

pub returns : goal.returns
returns c =
    let p = c.args.name.now in
    c.loop-part.invariant
    ∙ ap (λ l. c.args.into.now.items ++ pos 3 ∷ pos p.number ∷ pos (length p.path) ∷ map pos l) (take_all c.parts-parts.result.now c.loop-part.part-index c.loop-part-test.false ∙ c.parts-parts.ensures)
    ∙ ap (λ r. c.args.into.now.items ++ r) (sym (code_of_pyx p))
