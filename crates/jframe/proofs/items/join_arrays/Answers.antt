use Rattle.std.proofs.Common.{ap, sym, subst, ◌∙◌}
use Rattle.jdata.specs.Answers.{Answers}
use Rattle.jframe.specs.Assembly.{kinds_agree}
use Rattle.jframe.proofs.Blocks.{joined_of_a_kind, joined_of_kinds}
use Rattle.jframe.proofs.items.join_arrays.Goals as goal

pub returns-in-Some : goal.returns-in-Some
returns-in-Some c =
    let agree = ap kinds_agree (sym c.as_slice.ensures.value) ∙ c.in-Some.ensures.1 in
    subst (λ d. Answers d c.join_kind.result) (sym (joined_of_a_kind c.args.arrays.items agree)) c.join_kind.ensures

pub returns-in-None : goal.returns-in-None
returns-in-None c = joined_of_kinds c.args.arrays.items (ap kinds_agree (sym c.as_slice.ensures.value) ∙ c.in-None.ensures)
