use Rattle.std.proofs.Common.{◌≡◌, ◌∙◌, ◌+◌, ◌∷◌, [], ℕ, ap, map, reverse, sym, arith}
use Rattle.std.proofs.lemmas.List.{reverse-append}
use Rattle.std.proofs.lemmas.List.FromFn.{map-range_with_len_more}
use Rattle.std.specs.List.{range_with_len}
use Rattle.jarray.specs.Placed.{Placed}
use Rattle.jdata.specs.declared.noun.Noun.{Noun}
use Rattle.jframe.specs.Cells.{nth_cell}
use Rattle.jplan.proofs.modifiers.cells_back.Goals as goal

one_more : (f : ℕ → Noun) (n : ℕ) → f n ∷ reverse (map f (range_with_len 0 n)) ≡ reverse (map f (range_with_len 0 (n + 1)))
one_more f n =
    let last : 0 + n ≡ n = omega arith in
    sym (ap reverse (map-range_with_len_more f 0 n n last) ∙ reverse-append (map f (range_with_len 0 n)) (f n ∷ []))

pub loop-at-preserved : goal.loop-at-preserved
loop-at-preserved c =
    let f : ℕ → Noun = nth_cell c.args.cells.now.cell c.args.y.now.noun in
    let here = c.of.ensures ∙ ap (λ (a : Placed). a.noun) c.in_ok-item.ensures in
    c.in_ok-push.ensures.ok ∙ (λ i. here i ∷ c.loop-at.invariant i) ∙ one_more f c.loop-at.at
