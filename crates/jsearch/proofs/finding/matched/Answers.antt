use Rattle.std.proofs.Common.{Ok, ap, sym, ◌∙◌, rules, w64}
use Rattle.std.proofs.lemmas.Int.{to_z-of_z}
use mir.Val.{SFits}
use Rattle.jdata.specs.Noun.{int_atom}
use Rattle.jsearch.specs.Finding.{truth}
use Rattle.jsearch.proofs.Looking.{same_test}
use Rattle.jsearch.proofs.finding.matched.Goals as goal

pub returns : goal.returns
returns c =
    let fits : SFits w64 c.truth.result = search rules in
    ap Ok (ap (λ b. int_atom (truth b)) (sym (same_test _ _ _ c.match_with-same.ensures)) ∙ ap int_atom (sym c.truth.ensures) ∙ ap int_atom (sym (to_z-of_z w64 c.truth.result fits)) ∙ ap (λ p. p.noun) (sym c.atom.ensures))
