use Rattle.std.proofs.Common.{arith, refl, sym, ◌∙◌, ap, ◌≡◌, List, [], ◌∷◌, ℕ, ℤ, w64}
use Rattle.std.proofs.lemmas.Int.{to_z-of_z}
use Rattle.jdata.specs.declared.tree.Leaves.TheVariants as leaf
use Rattle.jdata.specs.Trees.{IsKept}
use Rattle.jdata.proofs.Levels.{level_is, level_of_ints}
use Rattle.jdata.proofs.tree.Tree.atom.Goals as goal
use Rattle.jdata.specs.Noun.{int_atom, level}
use Rattle.jdata.specs.Limits.{IsArray}

kept : (axes : List ℕ) (ns : List ℤ) (n : ℤ) → axes ≡ [] → ns ≡ n ∷ [] → IsKept (record { axes = axes; leaves = leaf.Int ns; depth = 0 })
kept axes ns n e f =
    let flat : level (int_atom n) ≡ 0 = level_is (int_atom n) ∙ level_of_ints (n ∷ []) in
    let array : IsArray (int_atom n) = record { whole = refl; within = record { rank = omega arith; extent_at_most = omega arith }; level_at_most = omega (arith, flat) } in
    rw (e, f) (record { array = array; depth_is = sym flat })

pub invariant_of-result : goal.invariant_of-result
invariant_of-result c = kept _ _ c.args.number (c.of.ensures ∙ c.new.ensures.items) (c.of-2.ensures ∙ c.in_ok-numbers.ensures.items ∙ ap (λ n. n ∷ []) (to_z-of_z w64 c.args.number c.ranges.number))
