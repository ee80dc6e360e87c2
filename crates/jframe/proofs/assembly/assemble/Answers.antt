use Rattle.std.proofs.Common.{ap, sym, subst, ◌∙◌}
use Rattle.jdata.specs.Answers.{Answers}
use Rattle.jframe.specs.Assembly.{kinds_agree}
use Rattle.jframe.proofs.Assembling.{assembled_of_a_kind, assembled_of_kinds}
use Rattle.jframe.proofs.assembly.assemble.Goals as goal

pub returns-in-Some : goal.returns-in-Some
returns-in-Some c =
    let agree = ap kinds_agree (sym c.as_slice.ensures.value) ∙ c.in-Some.ensures.1 in
    subst (λ d. Answers d c.put_together.result) (sym (assembled_of_a_kind c.args.frame.now c.args.results.items agree)) c.put_together.ensures

pub returns-in-None : goal.returns-in-None
returns-in-None c = assembled_of_kinds c.args.frame.now c.args.results.items (ap kinds_agree (sym c.as_slice.ensures.value) ∙ c.in-None.ensures)
