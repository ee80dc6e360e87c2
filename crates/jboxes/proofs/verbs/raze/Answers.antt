use Rattle.std.proofs.Common.{sym, subst, ◌∙◌}
use Rattle.jdata.specs.Answers.{Answers}
use Rattle.jarray.specs.Placed.{noun_in}
use Rattle.jboxes.proofs.Linked.{razed_ints, razed_chars, razed_boxes}
use Rattle.jboxes.proofs.verbs.raze.Goals as goal

pub returns-in-Int : goal.returns-in-Int
returns-in-Int c =
    subst (λ w. Answers w (noun_in c.listed.result)) (sym (razed_ints c.args.y.noun (sym c.kind.ensures ∙ c.in-Int.is))) c.listed.ensures

pub returns-in-Char : goal.returns-in-Char
returns-in-Char c =
    subst (λ w. Answers w (noun_in c.listed-in-Char.result)) (sym (razed_chars c.args.y.noun (sym c.kind.ensures ∙ c.in-Char.is))) c.listed-in-Char.ensures

pub returns-in-Boxed : goal.returns-in-Boxed
returns-in-Boxed c =
    subst (λ w. Answers w (noun_in c.raze_boxes.result)) (sym (razed_boxes c.args.y.noun (sym c.kind.ensures ∙ c.in-Boxed.is))) c.raze_boxes.ensures
