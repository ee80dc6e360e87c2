use Rattle.std.proofs.Common.{ap, sym, subst, ◌∙◌, ◌≡◌, Ok, length}
use Rattle.jdata.specs.Fills.{fill_of}
use Rattle.jdata.specs.Limits.{IsArray}
use Rattle.jdata.specs.Noun.{noun}
use Rattle.jdata.specs.declared.noun.Noun.{Noun}
use Rattle.jamend.specs.Amended as meant
use Rattle.jamend.specs.Replacing.{replaced}
use Rattle.jamend.proofs.Arrays.{none_to_replace, none_to_stand, amended_is_array, made_of}
use Rattle.jamend.proofs.amending.with_cells.Goals as goal
use Rattle.jamend.proofs.amending.with_cells.Goals.{then-len-eq0-via-then-len-eq0, then-len-eq0-via-else-len-eq0+then-len-eq0-2}

pub returns-then-len-eq0 : goal.returns-then-len-eq0
returns-then-len-eq0 c =
    let x = c.args.x.now.noun in
    let y = c.args.y.now.noun in
    let cells = c.args.cells in
    let stays : meant.with_cells x y cells.size cells.numbers.now ≡ y = elim c.then-len-eq0.branch [
      | then-len-eq0-via-then-len-eq0 w ↦
          none_to_stand x y cells.size cells.count cells.numbers.now c.requires.old
          (sym (c.len.ensures ∙ ap length c.leaf-items.ensures.atoms) ∙ w.if-len-eq0.true) c.requires.some c.requires.whole
      | then-len-eq0-via-else-len-eq0+then-len-eq0-2 w ↦
          none_to_replace x y cells.size cells.numbers.now c.requires.old
          (sym (w.len-else-len-eq0.ensures ∙ ap length w.leaf.ensures.atoms) ∙ w.if-len-eq0-2.true)
    ] in
    ap (λ (v : Noun). Ok v) (stays ∙ sym c.in_ok-tree.ensures)

pub array-requires : goal.array-requires
array-requires c =
    let x = c.args.x.now.noun in
    let y = c.args.y.now.noun in
    let cells = c.args.cells in
    let axes = c.in_ok-shape.ensures.items ∙ c.shape.ensures.value in
    let kinds = c.in_ok-leaves.ensures.kind ∙ c.leaf-2.ensures.kind in
    let these = c.in_ok-leaves.ensures.atoms
    ∙ (λ i. replaced (fill_of (c.leaf-2.ensures.kind i)) (c.leaf-items.ensures.atoms i) (c.leaf-2.ensures.atoms i) cells.numbers.now cells.size (length (c.leaf-2.ensures.atoms i))) in
    let made = made_of x y cells.size cells.numbers.now c.requires.old ∙ sym (λ i. noun (axes i) (kinds i) (these i)) in
    subst IsArray made (amended_is_array x y cells.size cells.numbers.now c.requires.new c.requires.old)

pub returns : goal.returns
returns c =
    let x = c.args.x.now.noun in
    let y = c.args.y.now.noun in
    let cells = c.args.cells in
    let axes = c.in_ok-shape.ensures.items ∙ c.shape.ensures.value in
    let kinds = c.in_ok-leaves.ensures.kind ∙ c.leaf-2.ensures.kind in
    let these = c.in_ok-leaves.ensures.atoms
    ∙ (λ i. replaced (fill_of (c.leaf-2.ensures.kind i)) (c.leaf-items.ensures.atoms i) (c.leaf-2.ensures.atoms i) cells.numbers.now cells.size (length (c.leaf-2.ensures.atoms i))) in
    let made = made_of x y cells.size cells.numbers.now c.requires.old ∙ sym (λ i. noun (axes i) (kinds i) (these i)) in
    ap (λ (v : Noun). Ok v) (made ∙ sym c.array.ensures)
