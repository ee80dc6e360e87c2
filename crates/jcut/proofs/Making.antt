-- Items of an array at some of its places are an array, and are runs of its atoms.
use Rattle.std.specs.Prelude.{ℕ, zero, suc, ◌+◌, ◌*◌, ◌<◌, ◌≤◌, ◌≡◌, max, List, [], ◌∷◌, ◌++◌, length, map, take, drop, get_or, ◌^◌}
use Rattle.std.specs.List.{All, flat_map, range_with_len}
use Rattle.std.proofs.Common.{arith, sym, ◌∙◌, ap, refl, subst}
use Rattle.std.proofs.Math.Nat.{zero-mul, mul-le-mul_right}
use Rattle.std.proofs.lemmas.List.Elements.{All-weaker}
use Rattle.jdata.specs.Limits.{IsArray, IsShape, most_atoms}
use Rattle.jdata.specs.Noun.{shape, kind, atoms, noun, atom_level, product, extent, greatest}
use Rattle.jdata.specs.declared.noun.Noun.{Noun}
use Rattle.jdata.specs.declared.noun.Kind.{Kind}
use Rattle.jdata.specs.declared.noun.Atom.{Atom}
use Rattle.jdata.proofs.Arrays.{few_atoms}
use Rattle.jdata.proofs.Extents.{parts_are_within}
use Rattle.jdata.proofs.Levels.{level_is}
use Rattle.jdata.proofs.Lists.{greatest-take, greatest-drop, take_more_of}
use Rattle.jselect.specs.Items.{first_axis, further_axes, item_axes, item_count}
use Rattle.jselect.specs.Picking.{items_at, runs}
use Rattle.jselect.proofs.Picked.{items_are_runs, item_fits, product_is}
use Rattle.jselect.proofs.Runs.{Fits, length-runs, map-runs, runs-append}
use Rattle.jcut.specs.Picks.{Picks}

greatest-append : (l m : List ℕ) → greatest (l ++ m) ≤ max (greatest l) (greatest m)
greatest-append [] m = omega arith
greatest-append (x ∷ l) m = omega (arith, greatest-append l m)

greatest-runs : (c : ℕ) (l places : List ℕ) → greatest (runs c l places) ≤ greatest l
unfolding runs
greatest-runs c l [] = omega arith
greatest-runs c l (p ∷ places) =
    omega (
      arith,
      greatest-append (take c (drop (p * c) l)) (runs c l places),
      greatest-take c (drop (p * c) l),
      greatest-drop (p * c) l,
      greatest-runs c l places,
    )

listed_shape : (s : List ℕ) (k : ℕ) → IsShape s → k ≤ first_axis s → IsShape (k ∷ further_axes s)
listed_shape [] k h few = record { rank = omega arith; extent_at_most = omega arith }
listed_shape (n ∷ ns) k h few =
    let less : max k 1 ≤ max n 1 = omega arith in
    let up = mul-le-mul_right (extent ns) less in
    record { rank = h.rank; extent_at_most = omega (arith, up, h.extent_at_most) }

pub places_fit : (y : Noun) (places : List ℕ) → IsArray y → All (λ p. p < item_count y) places → All (Fits (product (item_axes y)) (length (atoms y))) places
places_fit y places a h = All-weaker (λ p. p < item_count y) (Fits (product (item_axes y)) (length (atoms y))) (λ p below. item_fits y p a below) places h

items_are_array : (y : Noun) (places : List ℕ) → IsArray y → Picks (item_count y) places →
    IsArray (noun (length places ∷ item_axes y) (kind y) (runs (product (item_axes y)) (atoms y) places))
items_are_array y places a h =
    let c = product (item_axes y) in
    record {
      whole = length-runs c (atoms y) places (places_fit y places a h.within);
      within = listed_shape (shape y) (length places) a.within h.few;
      level_at_most =
          let here = level_is (noun (length places ∷ item_axes y) (kind y) (runs c (atoms y) places)) in
          let all = ap greatest (map-runs atom_level c (atoms y) places) in
          omega (arith, here, all, greatest-runs c (map atom_level (atoms y)) places, level_is y, a.level_at_most);
    }

-- what is made of the atoms of the items
module _ (y : Noun) (places axes : List ℕ) (k : Kind) (things : List Atom) (a : IsArray y) (h : Picks (item_count y) places)
    (e : axes ≡ length places ∷ item_axes y) (same : k ≡ kind y) (these : things ≡ runs (product (item_axes y)) (atoms y) places) where
  made_is : noun axes k things ≡ noun (length places ∷ item_axes y) (kind y) (runs (product (item_axes y)) (atoms y) places)
  made_is = λ i. noun (e i) (same i) (these i)

  pub made_is_array : IsArray (noun axes k things)
  made_is_array = subst IsArray (sym made_is) (items_are_array y places a h)

  pub made_is_picked : noun axes k things ≡ items_at places y
  made_is_picked = made_is ∙ sym (items_are_runs y places a h.within)

drop_nil : {A : Type 0} (n : ℕ) → drop {A = A} n [] ≡ []
drop_nil zero = refl
drop_nil (suc n) = refl

drop-drop : {A : Type 0} (a b : ℕ) (l : List A) → drop b (drop a l) ≡ drop (a + b) l
drop-drop zero b l = ap (λ n. drop n l) (omega arith)
drop-drop (suc a) b [] = drop_nil b ∙ sym (drop_nil (suc a + b))
drop-drop (suc a) b (x ∷ l) = let more : suc a + b ≡ suc (a + b) = omega arith in drop-drop a b l ∙ ap (λ n. drop n (x ∷ l)) (sym more)

-- items that stand together are one range of atoms
pub runs_between : {A : Type 0} (c : ℕ) (l : List A) (s k : ℕ) → runs c l (range_with_len s k) ≡ take (k * c) (drop (s * c) l)
unfolding runs
runs_between c l s zero = ap (λ n. take n (drop (s * c) l)) (sym (zero-mul c))
runs_between c l s (suc k) =
    let next : s * c + c ≡ (s + 1) * c = omega arith in
    let all : c + k * c ≡ suc k * c = omega arith in
    ap (λ r. take c (drop (s * c) l) ++ r) (runs_between c l (s + 1) k ∙ ap (take (k * c)) (sym (drop-drop (s * c) c l ∙ ap (λ n. drop n l) next)))
    ∙ take_more_of c (k * c) (drop (s * c) l)
    ∙ ap (λ n. take n (drop (s * c) l)) all

pub runs_around : {A : Type 0} (c : ℕ) (l : List A) (s e n : ℕ) →
    runs c l (range_with_len 0 s ++ range_with_len e n) ≡ take (s * c) l ++ take (n * c) (drop (e * c) l)
runs_around c l s e n =
    let none : 0 * c ≡ 0 = omega arith in
    runs-append c l (range_with_len 0 s) (range_with_len e n)
    ∙ (λ i. (runs_between c l 0 s ∙ ap (λ k. take (s * c) (drop k l)) none) i ++ runs_between c l e n i)

-- the atoms of items that stand together are there
pub atoms_fit : (y : Noun) (s k : ℕ) → IsArray y → s + k ≤ item_count y → s * product (item_axes y) + k * product (item_axes y) ≤ length (atoms y)
atoms_fit y s k a h =
    let c = product (item_axes y) in
    let up = mul-le-mul_right c h in
    omega (arith, up, a.whole, product_is (shape y))

further_within : (s : List ℕ) (m : ℕ) → extent s ≤ m → extent (further_axes s) ≤ m
further_within [] m h = h
further_within (n ∷ ns) m h = omega (arith, h, (parts_are_within 1 (n ∷ ns)).1)

pub item_within : (y : Noun) → IsArray y → extent (item_axes y) ≤ most_atoms
item_within y a = further_within (shape y) most_atoms a.within.extent_at_most

-- where the atoms of items begin
pub runs_gathered : {A : Type 0} (c : ℕ) (l : List A) (places : List ℕ) → flat_map (λ p. take c (drop p l)) (map (λ p. p * c) places) ≡ runs c l places
unfolding runs
runs_gathered c l [] = refl
runs_gathered c l (p ∷ places) = ap (λ r. take c (drop (p * c) l) ++ r) (runs_gathered c l places)

pub starts_within : (y : Noun) (places : List ℕ) (c k : ℕ) → IsArray y → All (λ p. p < item_count y) places → c ≡ product (item_axes y) → k < length places →
    get_or places k 0 * c < 2 ^ 64
starts_within y places c k a h e below =
    let fits : get_or places k 0 * product (item_axes y) + product (item_axes y) ≤ length (atoms y) = places_fit y places a h k 0 below in
    let same = ap (λ n. get_or places k 0 * n) e in
    omega (arith, fits, same, few_atoms y a)
