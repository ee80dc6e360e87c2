use Rattle.std.proofs.Common.{Ok, ap, sym, subst, ◌∙◌}
use Rattle.jdata.specs.Answers.{Answers}
use Rattle.jformat.proofs.Texts.{AreLeaves}
use Rattle.jformat.proofs.Formatted.{format_of_integers, format_of_characters, format_of_boxes}
use Rattle.jformat.proofs.formatting.format.Goals as goal

pub returns-in-Int : goal.returns-in-Int
returns-in-Int c =
    let are : AreLeaves c.args.value.now c.items.result.now c.shape.result.now = record { kind_is = c.items.ensures.kind; atoms_are = c.items.ensures.atoms; axes_are = c.shape.ensures.value } in
    subst (λ w. Answers w c.format_integers.result) (format_of_integers _ _ _ _ _ are c.in-Int.is c.items-in-Int.ensures) c.format_integers.ensures

pub returns-in-Ok : goal.returns-in-Ok
returns-in-Ok c = format_of_characters c.args.value.now c.items.result.now _ c.items.ensures.kind c.in-Char.is ∙ ap (λ v. Ok v) (sym c.in-Ok.ensures)

pub returns-in_ok-rows_of-in-Cell : goal.returns-in_ok-rows_of-in-Cell
returns-in_ok-rows_of-in-Cell c =
    subst (λ w. Answers w c.format_rows.result) (format_of_boxes c.args.value.now c.items.result.now _ c.items-in-Cell-2.result.now c.items.ensures.kind c.in-Cell.is (c.items-in-Cell-2.ensures ∙ c.in_ok-rows_of-in-Cell.ensures)) c.format_rows.ensures
