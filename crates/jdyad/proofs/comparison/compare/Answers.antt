use Rattle.std.proofs.Common.{sym, ap, ◌∙◌, ◌≡◌}
use Rattle.jscalar.specs.Places.{by_place}
use Rattle.std.specs.Prelude.{false}
use Rattle.std.proofs.lemmas.Result.{IfOk-weaker}
use Rattle.jdata.specs.Leaf.{kind_in}
use Rattle.jdyad.specs.Atoms.{compared}
use Rattle.jdyad.proofs.Comparing.{apart, not_ints, not_chars, not_cells}
use Rattle.jdyad.proofs.comparison.compare.Goals as goal
use Rattle.jdyad.proofs.comparison.compare.Goals.{in_default-via-in-Int+in_default, in_default-via-in-Char+in_default, in_default-via-in-Cell+in_default}

pub returns-in_default : goal.returns-in_default
returns-in_default c =
    let other : kind_in c.args.shorter ≡ kind_in c.args.longer → ⊥ = elim c.in_default.branch [
      | in_default-via-in-Int+in_default w ↦ λ e. not_ints c.args.longer w.in_default.not-Int-1 (sym (ap kind_in w.in_default.is-0) ∙ e)
      | in_default-via-in-Char+in_default w ↦ λ e. not_chars c.args.longer w.in_default.not-Char-1 (sym (ap kind_in w.in_default.is-0) ∙ e)
      | in_default-via-in-Cell+in_default w ↦ λ e. not_cells c.args.longer w.in_default.not-Cell-1 (sym (ap kind_in w.in_default.is-0) ∙ e)
    ] in
    IfOk-weaker c.differ.result _ _ (λ v h. apart c.args.verb c.args.shorter c.args.longer c.args.cell other c.requires.some c.requires.whole ∙ ap (by_place (λ j. compared c.args.verb false)) (sym c.len.ensures) ∙ h) c.differ.ensures
