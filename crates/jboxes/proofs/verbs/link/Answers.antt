use Rattle.std.proofs.Common.{sym, subst, ◌∙◌}
use Rattle.jdata.specs.Answers.{Answers}
use Rattle.jarray.specs.Placed.{noun_in}
use Rattle.jboxes.proofs.Linked.{linked_ints, linked_chars, linked_boxes}
use Rattle.jboxes.proofs.verbs.link.Goals as goal

pub returns-in-Int : goal.returns-in-Int
returns-in-Int c =
    subst (λ w. Answers w (noun_in c.link_unboxed.result)) (sym (linked_ints c.args.x.noun c.args.y.noun (sym c.kind.ensures ∙ c.in-Int.is))) c.link_unboxed.ensures

pub returns-in-Char : goal.returns-in-Char
returns-in-Char c =
    subst (λ w. Answers w (noun_in c.link_unboxed-in-Char.result)) (sym (linked_chars c.args.x.noun c.args.y.noun (sym c.kind.ensures ∙ c.in-Char.is))) c.link_unboxed-in-Char.ensures

pub returns-in-Boxed : goal.returns-in-Boxed
returns-in-Boxed c =
    subst (λ w. Answers w (noun_in c.link_boxes.result)) (sym (linked_boxes c.args.x.noun c.args.y.noun (sym c.kind.ensures ∙ c.in-Boxed.is))) c.link_boxes.ensures
