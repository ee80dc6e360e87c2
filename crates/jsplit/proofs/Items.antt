-- The shape of an item, and a number at each of its places.
use Rattle.std.specs.Prelude.{ℕ, ◌≤◌, ◌≡◌, ℤ, List, [], ◌∷◌, map, replicate}
use Rattle.std.proofs.Common.{arith, ◌∙◌, ap}
use Rattle.jdata.proofs.Lists.{map-replicate}
use Rattle.jdata.specs.Limits.{IsShape}
use Rattle.jdata.specs.Noun.{noun, product, extent}
use Rattle.jdata.specs.declared.noun.Noun.{Noun}
use Rattle.jdata.specs.declared.noun.Kind.TheVariants as sort
use Rattle.jdata.specs.declared.noun.Atom.TheVariants as atom
use Rattle.jdata.proofs.Extents.{parts_are_within}
use Rattle.jselect.specs.Items.{further_axes, item_axes}

pub item_shape : (s : List ℕ) → IsShape s → IsShape (further_axes s)
item_shape [] h = record { rank = omega arith; extent_at_most = omega arith }
item_shape (n ∷ ns) h =
    let less : extent ns ≤ extent (n ∷ ns) = (parts_are_within 1 (n ∷ ns)).1 in
    record { rank = omega (arith, h.rank); extent_at_most = omega (arith, less, h.extent_at_most) }

pub numbers_are : (y : Noun) (axes : List ℕ) (n : ℤ) (count : ℕ) (numbers : List ℤ) → axes ≡ item_axes y → count ≡ product (item_axes y) → numbers ≡ replicate count n →
    noun axes sort.Int (map atom.Int numbers) ≡ noun (item_axes y) sort.Int (replicate (product (item_axes y)) (atom.Int n))
numbers_are y axes n count numbers shaped counted is =
    let all = ap (map atom.Int) is ∙ map-replicate atom.Int count n ∙ ap (λ k. replicate k (atom.Int n)) counted in
    λ i. noun (shaped i) sort.Int (all i)
