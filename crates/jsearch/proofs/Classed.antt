-- Which items match which, by the first place of each.
use Rattle.std.specs.Prelude.{ℕ, zero, suc, ◌+◌, ◌*◌, ◌<◌, ◌≤◌, ◌≡◌, ◌==◌, not, ℤ, pos, Bool, true, false, cond, List, [], ◌∷◌, ◌++◌, length, map, filter, take, get_or, Err}
use Rattle.std.specs.List.{range_with_len, flat_map, position_or_len}
use Rattle.std.proofs.Common.{arith, sym, ◌∙◌, ap, refl, subst}
use Rattle.std.proofs.lemmas.Bool.Decides.{same_from_decides, Decides-like, Decides-eqb}
use Rattle.std.proofs.lemmas.List.{length-map, map-append, length-append, take_more}
use Rattle.std.proofs.lemmas.List.Concat.{flat_map-append}
use Rattle.std.proofs.lemmas.List.Elements.{filter-append}
use Rattle.std.proofs.lemmas.List.FromFn.{length-map-range_with_len, get_or-map-range_with_len}
use Rattle.jdata.specs.Limits.{limited, most_atoms}
use Rattle.jdata.specs.Match.{IsMatch, plain}
use Rattle.jdata.specs.Noun.{noun, extent, product}
use Rattle.jdata.specs.declared.fault.Fault.TheVariants as fault
use Rattle.jdata.specs.declared.noun.Noun.{Noun}
use Rattle.jdata.specs.declared.noun.Kind.TheVariants as sort
use Rattle.jdata.specs.declared.noun.Atom.{Atom}
use Rattle.jdata.specs.declared.noun.Atom.TheVariants as atom
use Rattle.jdata.proofs.Lists.{same_map}
use Rattle.jarray.specs.Matches.{matches}
use Rattle.jarray.proofs.Equality.{matches_decides}
use Rattle.jselect.specs.Items.{item_count}
use Rattle.jselect.proofs.Copied.{too_large}
use Rattle.jsearch.specs.Classes.{new_places, class_at, classified}
use Rattle.jsearch.specs.Finding.{item, items, first_place, is_new, truth}
use Rattle.jsearch.proofs.KeyLists.{map-map}
use Rattle.jsearch.proofs.OneGrade.{range_more}

-- the first place is one that passes
found_passes : {K : Type 0} (p : K → Bool) (xs : List K) (d : K) → position_or_len p xs < length xs → p (get_or xs (position_or_len p xs) d) ≡ true
found_passes p [] d h = absurd (omega arith)
found_passes p (x ∷ xs) d h =
    elim (p x) as (λ b. p x ≡ b → cond (not b) (1 + position_or_len p xs) 0 < suc (length xs) → p (get_or (x ∷ xs) (cond (not b) (1 + position_or_len p xs) 0) d) ≡ true) [
      | true ↦ λ e below. e
      | false ↦ λ e below. (let one : 1 + position_or_len p xs ≡ suc (position_or_len p xs) = omega arith in
          ap (λ n. p (get_or (x ∷ xs) n d)) one ∙ found_passes p xs d (omega arith))
    ] refl h

-- items that match have one first place
same_first : (vs : List Noun) (v w : Noun) → IsMatch v w → first_place vs v ≡ first_place vs w
unfolding first_place
same_first vs v w e =
    let test : (u : Noun) → matches v u ≡ matches w u = λ u. same_from_decides (matches v u) (matches w u) (Decides-like (matches v u) (λ m. sym e ∙ m) (λ m. e ∙ m) (matches_decides v u)) (matches_decides w u) in
    (λ i. position_or_len (λ u. test u i) vs)

first_matches : (vs : List Noun) (v d : Noun) → first_place vs v < length vs → IsMatch v (get_or vs (first_place vs v) d)
unfolding first_place
first_matches vs v d h = (matches_decides v (get_or vs (position_or_len (matches v) vs) d)).0 (found_passes (matches v) vs d h)

-- a later item has a new item's place where they match
pub class_told : (y : Noun) (r j : ℕ) → r < item_count y → first_place (items y) (item y r) ≡ r → (first_place (items y) (item y j) == r) ≡ matches (item y r) (item y j)
class_told y r j below new =
    let v = item y r in
    let w = item y j in
    let all : length (items y) ≡ item_count y = length-map-range_with_len (item y) 0 (item_count y) in
    same_from_decides (first_place (items y) w == r) (matches v w)
    (Decides-like (first_place (items y) w == r)
    (λ e.
    let within : first_place (items y) w < length (items y) = omega (arith, e, all) in
    let at : get_or (items y) (first_place (items y) w) w ≡ v = ap (λ n. get_or (items y) n w) e ∙ get_or-map-range_with_len (item y) 0 (item_count y) r r w below (omega arith) in
    sym (first_matches (items y) w w within ∙ ap plain at))
    (λ m. sym (same_first (items y) v w m) ∙ new)
    (Decides-eqb (first_place (items y) w) r))
    (matches_decides v w)

-- places that are their own
pub own_more : (p : ℕ → Bool) (n : ℕ) → filter p (range_with_len 0 (n + 1)) ≡ filter p (range_with_len 0 n) ++ filter p (n ∷ [])
own_more p n = let one : n + 1 ≡ suc n = omega arith in ap (λ m. filter p (range_with_len 0 m)) one ∙ ap (filter p) (range_more n) ∙ filter-append p (range_with_len 0 n) (n ∷ [])

pub own_yes : (p : ℕ → Bool) (n : ℕ) (old new : List ℕ) → p n ≡ true → new ≡ old ++ n ∷ [] → old ≡ filter p (range_with_len 0 n) → new ≡ filter p (range_with_len 0 (n + 1))
own_yes p n old new pass e was = e ∙ (λ i. was i ++ cond (sym pass i) (n ∷ []) []) ∙ sym (own_more p n)

pub own_no : (p : ℕ → Bool) (n : ℕ) (old : List ℕ) → p n ≡ false → old ≡ filter p (range_with_len 0 n) → old ≡ filter p (range_with_len 0 (n + 1))
own_no p n old fail was = was ∙ sym (append_none (filter p (range_with_len 0 n))) ∙ (λ i. filter p (range_with_len 0 n) ++ cond (sym fail i) (n ∷ []) []) ∙ sym (own_more p n)
  where
    append_none : {A : Type 0} (l : List A) → l ++ [] ≡ l
    append_none [] = refl
    append_none (x ∷ l) = ap (λ r. x ∷ r) (append_none l)

same_filter : (p q : ℕ → Bool) (a n : ℕ) → ((i : ℕ) → a ≤ i → i < a + n → p i ≡ q i) → filter p (range_with_len a n) ≡ filter q (range_with_len a n)
same_filter p q a zero same = refl
same_filter p q a (suc n) same = λ i. cond (same a (omega arith) (omega arith) i) (a ∷ same_filter p q (a + 1) n (λ j low high. same j (omega arith) (omega arith)) i) (same_filter p q (a + 1) n (λ j low high. same j (omega arith) (omega arith)) i)

pub rows_are : (y : Noun) (places : List ℕ) → places ≡ map (λ j. first_place (items y) (item y j)) (range_with_len 0 (item_count y)) →
    filter (λ i. get_or places i 0 == i) (range_with_len 0 (length places)) ≡ new_places y
rows_are y places e =
    let f : ℕ → ℕ = λ j. first_place (items y) (item y j) in
    let n = item_count y in
    (λ k. filter (λ i. get_or (e k) i 0 == i) (range_with_len 0 (length (e k))))
    ∙ ap (λ m. filter (λ i. get_or (map f (range_with_len 0 n)) i 0 == i) (range_with_len 0 m)) (length-map-range_with_len f 0 n)
    ∙ same_filter (λ i. get_or (map f (range_with_len 0 n)) i 0 == i) (is_new y) 0 n (λ i low high. ap (λ v. v == i) (get_or-map-range_with_len f 0 n i i 0 (omega arith) (omega arith)))

map-flat_map : {A B C : Type 0} (f : B → C) (g : A → List B) (l : List A) → map f (flat_map g l) ≡ flat_map (λ x. map f (g x)) l
map-flat_map f g [] = refl
map-flat_map f g (x ∷ l) = map-append f (g x) (flat_map g l) ∙ ap (λ r. map f (g x) ++ r) (map-flat_map f g l)

same_rows : {A : Type 0} (p : ℕ → Bool) (g h : ℕ → List A) (a n : ℕ) → ((i : ℕ) → i < a + n → p i ≡ true → g i ≡ h i) → flat_map g (filter p (range_with_len a n)) ≡ flat_map h (filter p (range_with_len a n))
same_rows p g h a zero same = refl
same_rows p g h a (suc n) same =
    let rest = same_rows p g h (a + 1) n (λ i below pass. same i (omega arith) pass) in
    elim (p a) as (λ b. p a ≡ b → flat_map g (cond b (a ∷ filter p (range_with_len (a + 1) n)) (filter p (range_with_len (a + 1) n))) ≡ flat_map h (cond b (a ∷ filter p (range_with_len (a + 1) n)) (filter p (range_with_len (a + 1) n)))) [
      | true ↦ λ pass i. same a (omega arith) pass i ++ rest i
      | false ↦ λ fail. rest
    ] refl

pub rows_made : (y : Noun) (places rows : List ℕ) → places ≡ map (λ j. first_place (items y) (item y j)) (range_with_len 0 (item_count y)) → rows ≡ new_places y →
    map atom.Int (flat_map (λ r. map (λ p. truth (p == r)) places) rows) ≡ flat_map (class_at y) (new_places y)
rows_made y places rows e are =
    let f : ℕ → ℕ = λ j. first_place (items y) (item y j) in
    let n = item_count y in
    let row : ℕ → List Atom = λ r. map atom.Int (map (λ p. truth (p == r)) (map f (range_with_len 0 n))) in
    map-flat_map atom.Int (λ r. map (λ p. truth (p == r)) places) rows
    ∙ (λ i. flat_map (λ r. map atom.Int (map (λ p. truth (p == r)) (e i))) (are i))
    ∙ same_rows (is_new y) row (class_at y) 0 n
    (λ r below new.
    map-map atom.Int (λ p. truth (p == r)) (map f (range_with_len 0 n)) ∙ map-map (λ p. atom.Int (truth (p == r))) f (range_with_len 0 n)
    ∙ same_map (λ j. atom.Int (truth (f j == r))) (λ j. atom.Int (truth (matches (item y r) (item y j)))) n (atom.Int (pos 0))
    (λ j within. ap (λ b. atom.Int (truth b)) (class_told y r j (omega arith) ((Decides-eqb (f r) r).0 new))))

pub rows_long : {A : Type 0} (g : ℕ → List A) (n : ℕ) (rows : List ℕ) → ((r : ℕ) → length (g r) ≡ n) → length (flat_map g rows) ≡ length rows * n
rows_long g n [] each = omega arith
rows_long g n (r ∷ rows) each =
    let here = each r in
    let rest = rows_long g n rows each in
    length-append (g r) (flat_map g rows) ∙ omega (arith, here, rest)

-- the table, and when it is too large
pub table_too_large : (y : Noun) (rows places axes : List ℕ) → rows ≡ new_places y → length places ≡ item_count y → axes ≡ length rows ∷ length places ∷ [] → most_atoms < extent axes → classified y ≡ Err fault.Limit
unfolding classified
table_too_large y rows places axes are long same large =
    too_large (noun (length (new_places y) ∷ item_count y ∷ []) sort.Int (flat_map (class_at y) (new_places y)))
    (subst (λ s. most_atoms < extent s) (same ∙ (λ i. length (are i) ∷ long i ∷ [])) large)

pub table_made : (y : Noun) (rows places axes : List ℕ) (flags : List ℤ) → places ≡ map (λ j. first_place (items y) (item y j)) (range_with_len 0 (item_count y)) → rows ≡ new_places y →
    axes ≡ length rows ∷ length places ∷ [] → flags ≡ flat_map (λ r. map (λ p. truth (p == r)) places) rows → classified y ≡ limited (noun axes sort.Int (map atom.Int flags))
unfolding classified
table_made y rows places axes flags e are same told =
    let long : length places ≡ item_count y = ap length e ∙ length-map-range_with_len (λ j. first_place (items y) (item y j)) 0 (item_count y) in
    let atoms_are : map atom.Int flags ≡ flat_map (class_at y) (new_places y) = ap (map atom.Int) told ∙ rows_made y places rows e are in
    (λ i. limited (noun (length (sym are i) ∷ sym long i ∷ []) sort.Int (sym atoms_are i))) ∙ ap (λ s. limited (noun s sort.Int (map atom.Int flags))) (sym same)

pub table_whole : (rows places axes : List ℕ) (flags : List ℤ) → axes ≡ length rows ∷ length places ∷ [] → flags ≡ flat_map (λ r. map (λ p. truth (p == r)) places) rows → length (map atom.Int flags) ≡ product axes
table_whole rows places axes flags same told =
    let one : length places ≡ length places * 1 = omega arith in
    length-map flags atom.Int ∙ ap length told ∙ rows_long (λ r. map (λ p. truth (p == r)) places) (length places) rows (λ r. length-map places (λ p. truth (p == r)))
    ∙ ap (λ n. length rows * n) one ∙ ap product (sym same)

-- one more row
pub next_row : (g : ℕ → List ℤ) (rows : List ℕ) (i : ℕ) (old new : List ℤ) → i < length rows → new ≡ old ++ g (get_or rows i 0) → old ≡ flat_map g (take i rows) → new ≡ flat_map g (take (i + 1) rows)
next_row g rows i old new below e was =
    e ∙ (λ k. was k ++ append_none (g (get_or rows i 0)) k) ∙ sym (flat_map-append g (take i rows) (get_or rows i 0 ∷ [])) ∙ ap (flat_map g) (sym (take_more rows i 0 below))
  where
    append_none : {A : Type 0} (l : List A) → l ≡ l ++ []
    append_none [] = refl
    append_none (x ∷ l) = ap (λ r. x ∷ r) (append_none l)
