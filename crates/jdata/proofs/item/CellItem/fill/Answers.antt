use Rattle.std.proofs.Common.{arith, refl, ap, ◌∙◌, ◌≡◌, ◌∷◌, []}
use Rattle.jdata.specs.Limits.{checked}
use Rattle.jdata.specs.Noun.{noun}
use Rattle.jdata.specs.Trees.{noun_of}
use Rattle.jdata.specs.declared.noun.Kind.TheVariants as sort
use Rattle.jdata.specs.declared.tree.Leaves.TheVariants as leaf
use Rattle.jdata.proofs.Arrays.{made, no_error, integers_are_array}
use Rattle.jdata.proofs.item.CellItem.fill.Goals as goal

pub unreachable-requires : goal.unreachable-requires
unreachable-requires c =
    let none : c.of.result ≡ [] = cc in
    let whole = made (noun (0 ∷ []) sort.Int []) (integers_are_array (0 ∷ []) [] (record { rank = omega arith; extent_at_most = omega arith }) (omega arith)) in
    no_error _ _ _ _ c.new-2.ensures (ap checked (λ i. noun_of (c.in_ok-axes.ensures.items i) (leaf.Int (none i))) ∙ whole) c.in-Err.is
