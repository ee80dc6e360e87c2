use Rattle.std.proofs.Common.{ℕ, List, [], ◌∷◌, ◌++◌, sym, ◌∙◌, arith}
use Rattle.std.proofs.lemmas.List.FromFn.{map-range_with_len_more}
use Rattle.jcut.proofs.key.empty_lists.Goals as goal

pub loop-preserved : goal.loop-preserved
loop-preserved c =
    let none : ℕ → List ℕ = λ _. [] in
    c.in_ok-push.ensures.items
    ∙ (λ i. c.loop.invariant i ++ (c.of.ensures ∙ c.new.ensures.items) i ∷ [])
    ∙ sym (map-range_with_len_more none 0 c.loop.counter c.loop.counter (omega arith))
