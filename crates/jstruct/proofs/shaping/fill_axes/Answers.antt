use Rattle.std.proofs.Common.{◌<◌, ◌%◌, ◌∙◌, List, ap, sym, subst, Err, length, map, get_or, false}
use Rattle.std.specs.List.{range_with_len}
use Rattle.std.proofs.lemmas.List.FromFn.{length-map-range_with_len}
use Rattle.jdata.specs.Answers.{Answers}
use Rattle.jdata.specs.Fills.{fill_of}
use Rattle.jdata.specs.Noun.{kind, product}
use Rattle.jdata.specs.Trees.{kind_of, atoms_of}
use Rattle.jdata.specs.declared.noun.Atom.{Atom}
use Rattle.jarray.specs.Placed.{Gives}
use Rattle.jstruct.specs.Items.{first_axis}
use Rattle.jstruct.specs.Shaping.{filled_axes}
use Rattle.jstruct.specs.Sizes.{IsBeyond}
use Rattle.jstruct.proofs.Filling.{lacking, filled_beyond, filled_is, some_atoms}
use Rattle.jstruct.proofs.shaping.fill_axes.Goals as goal

pub returns-in-Err : goal.returns-in-Err
returns-in-Err c =
    let axes = c.args.axes.items in
    let y = c.args.y.noun in
    let there = lacking axes c.as_slice.result.now y c.item_count.result c.lacks_items.result false (c.item_count.ensures ∙ ap first_axis c.shape.ensures.value) c.as_slice.ensures.value c.lacks_items.ensures c.if-lacks_items.false in
    let beyond = subst IsBeyond c.as_slice-2.ensures.value c.in-Err.ensures.1 in
    subst (λ t. Answers (filled_axes axes y) (Err t)) (sym c.in-Err.ensures.0) (filled_beyond axes y there beyond)

pub again-requires : goal.again-requires
again-requires c = λ some.
    let axes = c.args.axes.items in
    let y = c.args.y.noun in
    let there = lacking axes c.as_slice.result.now y c.item_count.result c.lacks_items.result false (c.item_count.ensures ∙ ap first_axis c.shape.ensures.value) c.as_slice.ensures.value c.lacks_items.ensures c.if-lacks_items.false in
    let size = c.in-Ok.ensures.0 ∙ ap product c.as_slice-2.ensures.value in
    subst (λ (l : List Atom). 0 < length l) (sym c.leaf.ensures.atoms) (some_atoms axes y c.in-Ok.size c.shape.ensures.array size there c.requires some)

pub array_of-requires : goal.array_of-requires
array_of-requires c =
    ap length (c.in-Ok-again.ensures.atoms (fill_of (kind c.args.y.noun)))
    ∙ length-map-range_with_len _ 0 c.in-Ok.size
    ∙ c.in-Ok.ensures.0 ∙ ap product c.as_slice-2.ensures.value

pub returns : goal.returns
returns c =
    let axes = c.args.axes.items in
    let y = c.args.y.noun in
    let there = lacking axes c.as_slice.result.now y c.item_count.result c.lacks_items.result false (c.item_count.ensures ∙ ap first_axis c.shape.ensures.value) c.as_slice.ensures.value c.lacks_items.ensures c.if-lacks_items.false in
    let size = c.in-Ok.ensures.0 ∙ ap product c.as_slice-2.ensures.value in
    let d = fill_of (kind y) in
    let same = c.in-Ok-again.ensures.atoms d ∙ (λ i. map (λ p. get_or (c.leaf.ensures.atoms i) (p % length (c.leaf.ensures.atoms i)) d) (range_with_len 0 (size i))) in
    subst (λ m. Gives m c.array_of.result)
    (filled_is axes y (kind_of c.in-Ok-again.atoms) (atoms_of c.in-Ok-again.atoms) there (c.in-Ok-again.ensures.kind ∙ c.leaf.ensures.kind) same)
    c.array_of.ensures
