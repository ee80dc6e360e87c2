use Rattle.std.proofs.Common.{arith, refl, ◌≡◌, ◌<◌, length, ◌∙◌, sym, ap, map, true≢false}
use Rattle.std.proofs.lemmas.Bool.Decides.{Decides-like, Decides-at, Decides-int_eq, Decides-eqb}
use Rattle.std.proofs.lemmas.Slice.Eq.{slice_eq-Decides}
use Rattle.jdata.specs.Noun.{product}
use Rattle.jdata.specs.Match.{plain_atom, plain}
use Rattle.jdata.specs.Trees.{atoms_of, noun_of, value_of}
use Rattle.jdata.specs.declared.noun.Atom.TheVariants as atom
use Rattle.jdata.proofs.Sizes.{cells_within}
use Rattle.jdata.proofs.Names.{pyxes_decide, axes_equal, axes_differ}
use Rattle.jdata.proofs.Matching.{boxes_match, pyxes_match, box_is_no_pyx, ints_back, chars_back, apart_int, apart_char, apart_cell, nouns_match, empty_match, match_shape, match_atoms, match_at}
use Rattle.jdata.proofs.tree.+matches.Goals as goal

pub Cell::same-returns-in-Boxed-Boxed : goal.Cell::same-returns-in-Boxed-Boxed
Cell::same-returns-in-Boxed-Boxed t c =
    let both = boxes_match c.in-Boxed-Boxed.left c.in-Boxed-Boxed.right in
    rw (c.in-Boxed-Boxed.is-0, c.in-Boxed-Boxed.is-1) (λ yes_. both.1 (c.same.ensures.0 yes_), λ e. c.same.ensures.1 (both.0 e))

pub Cell::same-returns-in-Pyx-Pyx : goal.Cell::same-returns-in-Pyx-Pyx
Cell::same-returns-in-Pyx-Pyx t c =
    let both = pyxes_match c.in-Pyx-Pyx.left c.in-Pyx-Pyx.right in
    rw (c.in-Pyx-Pyx.is-0, c.in-Pyx-Pyx.is-1) (Decides-like _ both.1 both.0 (Decides-at _ _ c.eq.ensures (pyxes_decide c.in-Pyx-Pyx.left c.in-Pyx-Pyx.right)))

pub Cell::same-returns-in-Boxed-Pyx : goal.Cell::same-returns-in-Boxed-Pyx
Cell::same-returns-in-Boxed-Pyx t c =
    rw (c.in-Boxed-Pyx.is-0, c.in-Boxed-Pyx.is-1) (λ h. absurd (true≢false (sym h)), λ e. absurd (box_is_no_pyx _ _ e))

pub Cell::same-returns-in-Pyx-Boxed : goal.Cell::same-returns-in-Pyx-Boxed
Cell::same-returns-in-Pyx-Boxed t c =
    rw (c.in-Pyx-Boxed.is-0, c.in-Pyx-Boxed.is-1) (λ h. absurd (true≢false (sym h)), λ e. absurd (box_is_no_pyx _ _ (sym e)))

pub Leaves::same-returns-in_default : goal.Leaves::same-returns-in_default
Leaves::same-returns-in_default t c =
    (λ h. absurd (true≢false (sym h)), λ e. absurd (apart_int c.args.self.now c.args.other.now _ c.in_default.is-0 c.in_default.not-Int-1 c.requires e))

pub Leaves::same-returns-in_default-2 : goal.Leaves::same-returns-in_default-2
Leaves::same-returns-in_default-2 t c =
    (λ h. absurd (true≢false (sym h)), λ e. absurd (apart_char c.args.self.now c.args.other.now _ c.in_default.is-0 c.in_default.not-Char-1 c.requires e))

pub Leaves::same-returns-in_default-3 : goal.Leaves::same-returns-in_default-3
Leaves::same-returns-in_default-3 t c =
    (λ h. absurd (true≢false (sym h)), λ e. absurd (apart_cell c.args.self.now c.args.other.now _ c.in_default.is-0 c.in_default.not-Cell-1 c.requires e))

pub Leaves::same-same_cells-requires : goal.Leaves::same-same_cells-requires
Leaves::same-same_cells-requires t c = (omega (arith, cells_within _ _ _ c.in-Cell-Cell.is-0 c.items-in-Cell-Cell.ensures), tt)

pub Leaves::same-returns-in-Int-Int : goal.Leaves::same-returns-in-Int-Int
Leaves::same-returns-in-Int-Int t c =
    let test = slice_eq-Decides Decides-int_eq _ _ _ c.eq.ensures in
    rw (c.in-Int-Int.is-0, c.in-Int-Int.is-1) (Decides-like _
    (λ e. ap (λ ns. map plain_atom (map (λ n. atom.Int n) ns)) (sym c.items.ensures ∙ e ∙ c.items-in-Int-Int.ensures))
    (λ e. c.items.ensures ∙ ints_back _ _ e ∙ sym c.items-in-Int-Int.ensures) test)

pub Leaves::same-returns-in-Char-Char : goal.Leaves::same-returns-in-Char-Char
Leaves::same-returns-in-Char-Char t c =
    let test = slice_eq-Decides Decides-eqb _ _ _ c.eq-in-Char-Char.ensures in
    rw (c.in-Char-Char.is-0, c.in-Char-Char.is-1) (Decides-like _
    (λ e. ap (λ ns. map plain_atom (map (λ n. atom.Char n) ns)) (sym c.items-in-Char-Char.ensures ∙ e ∙ c.items-in-Char-Char-2.ensures))
    (λ e. c.items-in-Char-Char.ensures ∙ chars_back _ _ e ∙ sym c.items-in-Char-Char-2.ensures) test)

pub Leaves::same-returns-in-Cell-Cell : goal.Leaves::same-returns-in-Cell-Cell
Leaves::same-returns-in-Cell-Cell t c =
    rw (c.in-Cell-Cell.is-0, c.in-Cell-Cell.is-1) (rw (← c.items-in-Cell-Cell.ensures, ← c.items-in-Cell-Cell-2.ensures) c.same_cells.ensures)

pub Tree::same-returns : goal.Tree::same-returns
Tree::same-returns t c =
    let a = c.self.inside in
    let b = c.other.inside in
    let s : a.axes ≡ b.axes = sym c.items.ensures ∙ axes_equal _ _ _ c.ne.ensures c.if-ne.false ∙ c.items-2.ensures in
    let some : 0 < length (atoms_of a.leaves) = omega (arith, c.len.ensures, c.if-len-eq0.false) in
    rw (← c.self.view_is, ← c.other.view_is) (
      λ h. nouns_match a.axes a.leaves b.leaves some (c.same.ensures.0 h) ∙ ap (λ x. plain (noun_of x b.leaves)) s,
      λ e. c.same.ensures.1 (match_atoms (value_of a) (value_of b) e),
    )

pub Tree::same-returns-then-ne : goal.Tree::same-returns-then-ne
Tree::same-returns-then-ne t c =
    let a = c.self.inside in
    let b = c.other.inside in
    let other : a.axes ≡ b.axes → ⊥ = λ e. axes_differ _ _ _ c.ne.ensures c.if-ne.true (c.items.ensures ∙ e ∙ sym c.items-2.ensures) in
    rw (← c.self.view_is, ← c.other.view_is) (λ h. absurd (true≢false (sym h)), λ e. absurd (other (match_shape (value_of a) (value_of b) e)))

pub Tree::same-returns-then-len-eq0 : goal.Tree::same-returns-then-len-eq0
Tree::same-returns-then-len-eq0 t c =
    let a = c.self.inside in
    let b = c.other.inside in
    let s : a.axes ≡ b.axes = sym c.items.ensures ∙ axes_equal _ _ _ c.ne.ensures c.if-ne.false ∙ c.items-2.ensures in
    let none : length (atoms_of a.leaves) ≡ 0 = sym c.len.ensures ∙ c.if-len-eq0.true in
    let none_too : length (atoms_of b.leaves) ≡ 0 = c.other.invariant.array.whole ∙ ap product (sym s) ∙ sym c.self.invariant.array.whole ∙ none in
    rw (← c.self.view_is, ← c.other.view_is) (
      λ _. empty_match a.axes a.leaves b.leaves none none_too ∙ ap (λ x. plain (noun_of x b.leaves)) s,
      λ _. refl,
    )

pub matches::same_cells-returns-then-not-same : goal.matches::same_cells-returns-then-not-same
matches::same_cells-returns-then-not-same t c =
    let on_right : c.loop-at.at < length c.args.right.now = omega (arith, c.loop-at-test.true, c.if-left-right.false) in (
      λ h. absurd (true≢false (sym h)),
      λ e. absurd (true≢false (sym (c.same.ensures.1 (match_at _ _ _ _ _ c.loop-at-test.true on_right c.index-left-at.is c.index-right-at.is e)) ∙ c.if-not-same.true)),
    )
