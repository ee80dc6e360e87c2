-- Items match exactly where they have one first place.
use Rattle.std.specs.Prelude.{ℕ, ◌<◌, ◌≤◌, ◌≡◌, ◌==◌, nat_lt, Bool, true, false, List, [], length, map, filter, get_or}
use Rattle.std.specs.List.{All, range_with_len, position_or_len}
use Rattle.std.proofs.Common.{arith, sym, ◌∙◌, ap, refl, subst, true≢false}
use Rattle.std.proofs.lemmas.Bool.{ltb-true, ltb-false, eqb-true}
use Rattle.std.proofs.lemmas.Bool.Decides.{same_from_decides, Decides-like, Decides-eqb}
use Rattle.std.proofs.lemmas.List.Elements.{All-map, filter_passes}
use Rattle.std.proofs.lemmas.List.FromFn.{length-map-range_with_len, get_or-map-range_with_len}
use Rattle.std.proofs.lemmas.List.Sums.{fails_before_first, passes_at_first}
use Rattle.jdata.specs.Match.{IsMatch, plain}
use Rattle.jdata.specs.declared.noun.Noun.{Noun}
use Rattle.jarray.specs.Matches.{matches}
use Rattle.jarray.proofs.Equality.{matches_decides}
use Rattle.jselect.specs.Items.{item_count}
use Rattle.jsearch.specs.Finding.{item, items, first_place, is_new}
use Rattle.jcut.specs.Grouped.{places_with, own_places}
use Rattle.jcut.specs.Key.{new_places, places_like}
use Rattle.jcut.specs.Picks.{Picks}
use Rattle.jcut.proofs.Bounds.{filter_same, filter_below, filter_picks, map_same}

-- the first place of an item that matches item i
abbrev pub place : Noun → ℕ → ℕ
place y i = first_place (items y) (item y i)

same_tests : (v w : Noun) → IsMatch v w → (u : Noun) → matches v u ≡ matches w u
same_tests v w e u = same_from_decides (matches v u) (matches w u) (Decides-like _ (λ h. sym e ∙ h) (λ h. e ∙ h) (matches_decides v u)) (matches_decides w u)

same_place : (vs : List Noun) (v w : Noun) → IsMatch v w → first_place vs v ≡ first_place vs w
unfolding first_place
same_place vs v w e = λ i. position_or_len (λ u. same_tests v w e u i) vs

nth_item : (y : Noun) (i : ℕ) (d : Noun) → i < item_count y → get_or (items y) i d ≡ item y i
nth_item y i d below = get_or-map-range_with_len (item y) 0 (item_count y) i i d below (omega arith)

itself : (y : Noun) (i : ℕ) → i < item_count y → (b : Bool) → nat_lt i (place y i) ≡ b → place y i ≤ i
unfolding first_place
itself y i below true e =
    let fails = fails_before_first (matches (item y i)) (items y) i (item y i) (ltb-true i (place y i) e) in
    let here = ap (matches (item y i)) (nth_item y i (item y i) below) in
    absurd (true≢false (sym ((matches_decides (item y i) (item y i)).1 refl) ∙ sym here ∙ fails))
itself y i below false e = ltb-false i (place y i) e

pub place_at_most : (y : Noun) (i : ℕ) → i < item_count y → place y i ≤ i
place_at_most y i below = itself y i below (nat_lt i (place y i)) refl

-- an item matches the one at its first place
at_place : (y : Noun) (i : ℕ) (d : Noun) → i < item_count y → IsMatch (item y i) (get_or (items y) (place y i) d)
unfolding first_place
at_place y i d below =
    let long = length-map-range_with_len (item y) 0 (item_count y) in
    let found : place y i < length (items y) = omega (arith, long, place_at_most y i below) in
    (matches_decides (item y i) (get_or (items y) (place y i) d)).0 (passes_at_first (matches (item y i)) (items y) d found)

pub places_tell : (y : Noun) (i j : ℕ) → i < item_count y → j < item_count y → (place y i == place y j) ≡ matches (item y i) (item y j)
places_tell y i j one other =
    let v = item y i in
    let w = item y j in
    same_from_decides _ _
    (Decides-like _
    (λ e. at_place y i v one ∙ ap (λ k. plain (get_or (items y) k v)) e ∙ sym (at_place y j v other))
    (λ e. same_place (items y) v w e)
    (Decides-eqb (place y i) (place y j)))
    (matches_decides v w)

-- numbers that are the first places of items
module _ (y : Noun) (numbers : List ℕ) (n : ℕ) (many : n ≡ item_count y) (are : numbers ≡ map (place y) (range_with_len 0 (item_count y))) where
  pub number_is : (i : ℕ) → i < n → get_or numbers i 0 ≡ place y i
  number_is i below = ap (λ l. get_or l i 0) are ∙ get_or-map-range_with_len (place y) 0 (item_count y) i i 0 (omega arith) (omega arith)

  pub own_are_new : own_places numbers n ≡ new_places y
  unfolding new_places
  own_are_new =
      filter_same (λ i. get_or numbers i 0 == i) (is_new y) n (λ i below. ap (λ k. k == i) (number_is i below))
      ∙ ap (λ m. filter (is_new y) (range_with_len 0 m)) many

  with_are_like : (i : ℕ) → i < n → is_new y i ≡ true → places_with numbers n i ≡ places_like y i
  unfolding places_like
  with_are_like i below new =
      let own : place y i ≡ i = eqb-true (place y i) i new in
      filter_same (λ j. i == get_or numbers j 0) (λ j. matches (item y i) (item y j)) n
      (λ j k. (λ t. sym own t == number_is j k t) ∙ places_tell y i j (omega arith) (omega arith))
      ∙ ap (λ m. filter (λ j. matches (item y i) (item y j)) (range_with_len 0 m)) many

  pub classes_are : (lists : List (List ℕ)) → lists ≡ map (places_with numbers n) (range_with_len 0 n) →
      map (λ i. get_or lists i []) (own_places numbers n) ≡ map (places_like y) (new_places y)
  unfolding new_places
  classes_are lists e =
      let new = new_places y in
      let all : All (λ i. get_or lists i [] ≡ places_like y i) new = λ k d h.
      let i = get_or new k d in
      let below : i < n = subst (λ m. i < m) (sym many) (filter_below (is_new y) (item_count y) k d h) in
      ap (λ l. get_or l i []) e ∙ get_or-map-range_with_len (places_with numbers n) 0 n i i [] below (omega arith)
      ∙ with_are_like i below (filter_passes (is_new y) (range_with_len 0 (item_count y)) k d h)
      in
      ap (map (λ i. get_or lists i [])) own_are_new ∙ map_same (λ i. get_or lists i []) (places_like y) new all

-- first places are places of items
pub firsts_below : (y : Noun) (numbers : List ℕ) → numbers ≡ map (place y) (range_with_len 0 (item_count y)) → All (λ n. n < length numbers) numbers
firsts_below y numbers are k d h =
    let n = item_count y in
    let many = ap length are ∙ length-map-range_with_len (place y) 0 n in
    let below : k < n = omega (arith, many) in
    let is = ap (λ l. get_or l k d) are ∙ get_or-map-range_with_len (place y) 0 n k k d below (omega arith) in
    omega (arith, many, is, place_at_most y k below)

pub classes_pick : (x : Noun) (n : ℕ) → item_count x ≡ n → All (Picks n) (map (places_like x) (new_places x))
unfolding places_like
classes_pick x n same =
    subst (λ m. All (Picks m) (map (places_like x) (new_places x))) same
    (All-map (Picks (item_count x)) (places_like x) (new_places x) (λ k d h. filter_picks (λ j. matches (item x (get_or (new_places x) k d)) (item x j)) (item_count x)))
