use Rattle.std.proofs.Common.{sym, subst, ◌∙◌}
use Rattle.jdata.specs.Answers.{Answers}
use Rattle.jarray.specs.Placed.{noun_in}
use Rattle.jboxes.proofs.Opened.{disclosed_ints, disclosed_chars, disclosed_boxes}
use Rattle.jboxes.proofs.verbs.disclose.Goals as goal

pub returns-in-Int : goal.returns-in-Int
returns-in-Int c = disclosed_ints c.args.y.noun (sym c.kind.ensures ∙ c.in-Int.is)

pub returns-in-Char : goal.returns-in-Char
returns-in-Char c = disclosed_chars c.args.y.noun (sym c.kind.ensures ∙ c.in-Char.is)

pub returns-in-Boxed : goal.returns-in-Boxed
returns-in-Boxed c =
    subst (λ w. Answers w (noun_in c.disclose_boxes.result)) (sym (disclosed_boxes c.args.y.noun (sym c.kind.ensures ∙ c.in-Boxed.is))) c.disclose_boxes.ensures
