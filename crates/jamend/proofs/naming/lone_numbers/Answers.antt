use Rattle.std.proofs.Common.{arith, rules, ap, sym, ◌∙◌, ◌≡◌, length, map}
use Rattle.std.proofs.lemmas.Result.{MatchResult-weaker}
use Rattle.jdata.specs.Trees.{atom_of}
use Rattle.jdata.specs.declared.noun.Atom.{Atom, out-Atom}
use Rattle.jamend.specs.Naming as meant
use Rattle.jamend.proofs.Boxes.{any_mapped, lone_one, lone_other, some_nested, none_nested}
use Rattle.jamend.proofs.naming.lone_numbers.Goals as goal
use Rattle.jamend.proofs.naming.lone_numbers.Goals.{in_default-via-then-axes-lt1+then-cells-lt1, in_default-via-then-axes-lt1+else-cells-lt1+else-this-lt2, in_default-via-else-axes-lt1}

pub returns-then-any_nested : goal.returns-then-any_nested
returns-then-any_nested c =
    let tested = sym (any_mapped (λ (a : Atom). meant.is_nested (out-Atom a)) atom_of c.args.cells.now) ∙ sym c.any_nested.ensures ∙ c.if-any_nested.true in
    some_nested c.args.axes.now (map atom_of c.args.cells.now) tested

pub returns-in-empty-len1 : goal.returns-in-empty-len1
returns-in-empty-len1 c =
    let tested = sym (any_mapped (λ (a : Atom). meant.is_nested (out-Atom a)) atom_of c.args.cells.now) ∙ sym c.any_nested.ensures ∙ c.if-any_nested.false in
    let none : length c.args.axes.now ≡ 0 = first_of (search rules, grind arith, grind (arith, c.in-empty-len1)) in
    let single : length c.args.cells.now ≡ 1 = first_of (search rules, grind arith, grind (arith, c.in-empty-len1)) in
    let same = none_nested c.args.axes.now (map atom_of c.args.cells.now) tested
    ∙ lone_one atom_of c.args.axes.now c.args.cells.now c.cell-item.result none single
    ∙ sym (ap (λ a. meant.box_numbers (out-Atom (atom_of a))) c.cell-item.is) in
    MatchResult-weaker c.box_numbers.result c.box_numbers.ensures (λ l h. same ∙ h) (λ why h. same ∙ h)

pub returns-in_default : goal.returns-in_default
returns-in_default c =
    let tested = sym (any_mapped (λ (a : Atom). meant.is_nested (out-Atom a)) atom_of c.args.cells.now) ∙ sym c.any_nested.ensures ∙ c.if-any_nested.false in
    let other : length c.args.axes.now ≡ 0 → length c.args.cells.now ≡ 1 → ⊥ = λ a b. elim c.in_default.branch [
      | in_default-via-then-axes-lt1+then-cells-lt1 w ↦ first_of (search rules, grind (arith, w, a, b), grind (arith, w))
      | in_default-via-then-axes-lt1+else-cells-lt1+else-this-lt2 w ↦ first_of (search rules, grind (arith, w, a, b), grind (arith, w))
      | in_default-via-else-axes-lt1 w ↦ first_of (search rules, grind (arith, w, a, b), grind (arith, w))
    ] in
    none_nested c.args.axes.now (map atom_of c.args.cells.now) tested ∙ lone_other atom_of c.args.axes.now c.args.cells.now other
