use Rattle.std.proofs.Common.{rules, sym, ap, ◌∙◌, w64}
use Rattle.std.specs.Prelude.{Ok}
use mir.Val.{SFits}
use Rattle.std.proofs.lemmas.Int.{to_z-of_z}
use Rattle.jdata.specs.Noun.{int_atom}
use Rattle.jarray.specs.Placed.{Placed}
use Rattle.jdyad.proofs.Filling.{as_read}
use Rattle.jdyad.proofs.Wholes.{alone_number, alone_fault}
use Rattle.jdyad.proofs.scalar.alone.Goals as goal

pub returns-in-Ok-clause-answer : goal.returns-in-Ok-clause-answer
returns-in-Ok-clause-answer c =
    let fits : SFits w64 c.in-Ok.number = search rules in
    alone_number _ _ _ _ (sym (as_read _ _ _ _ c.ranges.x c.ranges.y c.two.ensures) ∙ c.in-Ok.is)
    ∙ ap (λ n. Ok (int_atom n)) (sym (to_z-of_z w64 c.in-Ok.number fits)) ∙ ap (λ v. Ok v) (sym (ap (λ (p : Placed). p.noun) c.atom.ensures))

pub returns-in-Err-clause-answer : goal.returns-in-Err-clause-answer
returns-in-Err-clause-answer c =
    alone_fault _ _ _ _ (sym (as_read _ _ _ _ c.ranges.x c.ranges.y c.two.ensures) ∙ c.in-Err.is)
