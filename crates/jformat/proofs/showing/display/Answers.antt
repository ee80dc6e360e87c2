use Rattle.std.proofs.Common.{◌∙◌}
use Rattle.std.proofs.lemmas.Result.{IfOk-weaker}
use Rattle.jformat.proofs.Texts.{AreLeaves, display_of_integers, display_of_characters, display_of_rows}
use Rattle.jformat.proofs.showing.display.Goals as goal

pub returns-in-Int : goal.returns-in-Int
returns-in-Int c =
    let are : AreLeaves c.args.value.now c.items.result.now c.shape-axes.result.now = record { kind_is = c.items.ensures.kind; atoms_are = c.items.ensures.atoms; axes_are = c.shape-axes.ensures.value } in
    IfOk-weaker c.display_integers.result _ _ (λ bytes h. h ∙ display_of_integers _ _ _ _ _ are c.in-Int.is c.items-in-Int.ensures) c.display_integers.ensures

pub returns-in-Char : goal.returns-in-Char
returns-in-Char c =
    let are : AreLeaves c.args.value.now c.items.result.now c.shape-axes.result.now = record { kind_is = c.items.ensures.kind; atoms_are = c.items.ensures.atoms; axes_are = c.shape-axes.ensures.value } in
    IfOk-weaker c.display_characters.result _ _ (λ bytes h. h ∙ display_of_characters _ _ _ _ _ are c.in-Char.is c.items-in-Char.ensures) c.display_characters.ensures

pub returns-in_ok-rows_of-in-Cell : goal.returns-in_ok-rows_of-in-Cell
returns-in_ok-rows_of-in-Cell c =
    IfOk-weaker c.display_rows.result _ _ (λ bytes h. h ∙ display_of_rows c.args.value.now _ (c.items-in-Cell-2.ensures ∙ c.in_ok-rows_of-in-Cell.ensures)) c.display_rows.ensures
