-- What is an array, and what making one of its parts answers.
use Rattle.std.specs.Prelude.{ℕ, ℤ, pos, ◌+◌, ◌*◌, ◌≤◌, ◌≡◌, List, [], ◌∷◌, length, map, replicate, take, Result, Ok, Err}
use Rattle.std.proofs.Common.{arith, sym, ◌∙◌, ap, drop}
use Rattle.std.proofs.lemmas.List.{length-replicate, length-map, length-take, length-drop}
use Rattle.jdata.specs.Fills.{fill_of}
use Rattle.jdata.specs.Limits.{checked, limited, most_axes, most_atoms, most_levels, IsShape, IsArray}
use Rattle.jdata.specs.Noun.{shape, kind, atoms, noun, level, atom_level, product, extent, greatest}
use Rattle.jdata.specs.declared.noun.Noun.{Noun}
use Rattle.jdata.specs.declared.noun.Kind.{Kind}
use Rattle.jdata.specs.declared.noun.Kind.TheVariants as sort
use Rattle.jdata.specs.declared.noun.Atom.{Atom}
use Rattle.jdata.specs.declared.noun.Atom.TheVariants as atom
use Rattle.jdata.specs.declared.tree.BadTree.{BadTree}
use Rattle.jdata.proofs.Checks.{passes}
use Rattle.jdata.proofs.Extents.{product_at_most}
use Rattle.jdata.proofs.Levels.{level_is, level_of_box, level_of_int, level_of_char, level_of_ints}
use Rattle.jdata.proofs.Lists.{range-map, map-replicate, greatest-take, greatest-drop, greatest-replicate}

-- what is an array is made
pub made : (v : Noun) → IsArray v → checked v ≡ Ok v
made v a = passes v a.within.rank a.within.extent_at_most a.level_at_most a.whole

pub never_refused : (v : Noun) (why : BadTree) → IsArray v → checked v ≡ Err why → ⊥
never_refused v why a e = cc (made v a)

-- integers of a shape
pub integers_are_array : (axes : List ℕ) (ns : List ℤ) → IsShape axes → length ns ≡ product axes → IsArray (noun axes sort.Int (map atom.Int ns))
integers_are_array axes ns within whole = record {
  whole = length-map ns atom.Int ∙ whole;
  within = within;
  level_at_most = let flat = level_is (noun axes sort.Int (map atom.Int ns)) ∙ level_of_ints ns in omega (arith, flat);
}

fill_level : (k : Kind) → atom_level (fill_of k) ≤ 1
fill_level sort.Int = omega (arith, level_of_int (pos 0))
fill_level sort.Char = omega (arith, level_of_char 32)
fill_level sort.Boxed = omega (arith, level_of_box (noun (0 ∷ []) sort.Int []), level_is (noun (0 ∷ []) sort.Int []))

pub fills_are_array : (axes : List ℕ) (k : Kind) → IsShape axes → IsArray (noun axes k (replicate (product axes) (fill_of k)))
fills_are_array axes k within = record {
  whole = length-replicate (product axes) (fill_of k);
  within = within;
  level_at_most =
      let here = level_is (noun axes k (replicate (product axes) (fill_of k))) in
      let all = ap greatest (map-replicate atom_level (product axes) (fill_of k)) in
      omega (arith, here, all, greatest-replicate (product axes) (atom_level (fill_of k)), fill_level k);
}

-- atoms of an array that stand together
pub range_is_array : (axes : List ℕ) (y : Noun) (s : ℕ) → s + product axes ≤ length (atoms y) → IsShape axes → level y ≤ most_levels →
    IsArray (noun axes (kind y) (take (product axes) (drop s (atoms y))))
range_is_array axes y s h within deep =
    let c = product axes in
    record {
      whole = let long : length (take c (drop s (atoms y))) ≡ c = omega (arith, length-take c (drop s (atoms y)), length-drop s (atoms y)) in long;
      within = within;
      level_at_most =
          let here = level_is (noun axes (kind y) (take c (drop s (atoms y)))) in
          let there = level_is y in
          let all = ap greatest (range-map atom_level s c (atoms y)) in
          let less = greatest-take c (drop s (map atom_level (atoms y))) in
          let fewer = greatest-drop s (map atom_level (atoms y)) in
          omega (arith, here, there, all, less, fewer);
    }

pub few_atoms : (y : Noun) → IsArray y → length (atoms y) ≤ most_atoms
few_atoms y a = omega (arith, a.whole, a.within.extent_at_most, product_at_most (shape y))

pub same_noun : (s t : List ℕ) (k m : Kind) (l n : List Atom) → s ≡ t → k ≡ m → l ≡ n → noun s k l ≡ noun t m n
same_noun s t k m l n e f g = λ i. noun (e i) (f i) (g i)

-- an answer that is known
pub is_value : {T E : Type 0} (r s : Result T E) (x y : T) → r ≡ s → s ≡ Ok y → r ≡ Ok x → x ≡ y
is_value r s x y e f g = cc

pub no_error : {T E : Type 0} (r s : Result T E) (x : E) (y : T) → r ≡ s → s ≡ Ok y → r ≡ Err x → ⊥
no_error r s x y e f g = cc
