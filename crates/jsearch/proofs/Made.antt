-- What is made of integers.
use Rattle.std.specs.Prelude.{ℕ, suc, ◌+◌, ◌-◌, ◌*◌, ◌/◌, ◌%◌, ◌^◌, ◌<◌, ◌≤◌, ◌≡◌, ◌&&◌, min, ℤ, pos, Bool, true, false, Err, List, [], ◌∷◌, length, map, drop, get_or}
use Rattle.std.specs.List.{range_with_len, list_all}
use Rattle.std.proofs.Common.{arith, sym, ◌∙◌, ap, refl, subst}
use Rattle.std.proofs.lemmas.List.{length-map}
use Rattle.std.proofs.lemmas.List.FromFn.{length-map-range_with_len}
use Rattle.jdata.specs.Indexes.{index_at, place_at}
use Rattle.jdata.specs.Limits.{limited, most_atoms}
use Rattle.jdata.specs.Noun.{shape, atoms, noun, product, extent}
use Rattle.jdata.specs.declared.fault.Fault.TheVariants as fault
use Rattle.jdata.specs.declared.noun.Noun.{Noun}
use Rattle.jdata.specs.declared.noun.Kind.TheVariants as sort
use Rattle.jdata.specs.declared.noun.Atom.TheVariants as atom
use Rattle.std.proofs.lemmas.Nat.{div_below}
use Rattle.jdata.proofs.Extents.{product_at_most}
use Rattle.jdata.proofs.Indexing.{place_of_index}
use Rattle.jdata.proofs.Lists.{same_map, factor_some}
use Rattle.jarray.specs.Numbers.{is_integers}
use Rattle.jselect.specs.Arguments.{integers_in, is_count}
use Rattle.jselect.proofs.Choices.{chosen, otherwise, both, and_first, and_second}
use Rattle.jselect.proofs.Copied.{integers_are, too_large, capped_extent, not_capped}
use Rattle.jsearch.specs.Steps.{step, step_list, steps, steps_of, place_list, repeated_places, indices}
use Rattle.jsearch.specs.Turned.{magnitude, turned, place_turned, places_turned, integers}

map-map : {A B C : Type 0} (f : B → C) (h : A → B) (l : List A) → map f (map h l) ≡ map (λ x. f (h x)) l
map-map f h [] = refl
map-map f h (x ∷ l) = ap (λ r. f (h x) ∷ r) (map-map f h l)

not_both : (a b : Bool) → b ≡ false → a && b ≡ false
not_both true b e = e
not_both false b e = refl

not_first : (a b : Bool) → a ≡ false → a && b ≡ false
not_first true b e = cc
not_first false b e = refl

-- where no number is negative, nothing is turned
not_turned : (zs : List ℤ) (p : ℕ) → list_all is_count zs ≡ true → turned zs (index_at (map magnitude zs) p) ≡ index_at (map magnitude zs) p
not_turned [] p h = refl
not_turned (z ∷ zs) p h =
    let c = product (map magnitude zs) in
    let here = and_first (is_count z) (list_all is_count zs) h in
    let rest = and_second (is_count z) (list_all is_count zs) h in
    (λ i. chosen (is_count z) (p / c) (magnitude z - suc (p / c)) here i ∷ not_turned zs (p % c) rest i)

pub straight : (zs : List ℤ) (axes : List ℕ) (count : ℕ) → axes ≡ map magnitude zs → list_all is_count zs ≡ true → count ≡ product axes →
    map pos (range_with_len 0 count) ≡ map (λ p. pos (place_turned zs (index_at axes p))) (range_with_len 0 count)
straight zs axes count e counts all =
    same_map pos (λ p. pos (place_turned zs (index_at axes p))) count (pos 0)
    (λ p below. ap pos (sym (ap (λ a. place_turned zs (index_at a p)) e ∙ ap (place_at (map magnitude zs)) (not_turned zs p counts)
    ∙ place_of_index (map magnitude zs) p (subst (λ n. p < n) (all ∙ ap product e) below))))

-- places in the axes that numbers ask for
pub turned_made : (zs : List ℤ) (axes : List ℕ) (count : ℕ) (things : List ℤ) → axes ≡ map magnitude zs → count ≡ product axes →
    things ≡ map (λ p. pos (place_turned zs (index_at axes p))) (range_with_len 0 count) → places_turned zs ≡ noun axes sort.Int (map atom.Int things)
turned_made zs axes count things e all these =
    let at : ℕ → ℤ = λ p. pos (place_turned zs (index_at axes p)) in
    (λ i. noun (sym e i) sort.Int (map (λ p. atom.Int (pos (place_turned zs (index_at (sym e i) p)))) (range_with_len 0 (product (sym e i)))))
    ∙ ap (noun axes sort.Int)
    (ap (λ n. map (λ p. atom.Int (at p)) (range_with_len 0 n)) (sym all) ∙ sym (map-map atom.Int at (range_with_len 0 count)) ∙ ap (map atom.Int) (sym these))

pub turned_whole : (axes : List ℕ) (f : ℕ → ℤ) (count : ℕ) (things : List ℤ) → count ≡ product axes → things ≡ map f (range_with_len 0 count) →
    length (map atom.Int things) ≡ product axes
turned_whole axes f count things all these = length-map things atom.Int ∙ ap length these ∙ length-map-range_with_len f 0 count ∙ all

pub integers_by : (y : Noun) (l : List ℤ) → is_integers y ≡ true → map atom.Int l ≡ atoms y → limited (places_turned l) ≡ integers y
unfolding integers
integers_by y l whole e = sym (chosen (is_integers y) (limited (places_turned (integers_in y))) (Err fault.Domain) whole ∙ ap (λ n. limited (places_turned n)) (integers_are y l e))

pub no_integers : (y : Noun) → is_integers y ≡ false → integers y ≡ Err fault.Domain
unfolding integers
no_integers y e = otherwise (is_integers y) (limited (places_turned (integers_in y))) (Err fault.Domain) e

-- a list that is as long as the cap allows
pub list_too_long : (v : Noun) (n total : ℕ) (axes : List ℕ) → shape v ≡ n ∷ [] → total ≡ min n (2 ^ 64 - 1) → axes ≡ total ∷ [] → most_atoms < extent axes → limited v ≡ Err fault.Limit
list_too_long v n total axes s capped e large =
    let grows = capped_extent n total [] capped in
    let there : most_atoms < extent (total ∷ []) = subst (λ a. most_atoms < extent a) e large in
    too_large v (subst (λ a. most_atoms < extent a) (sym s) (omega (arith, grows, there)))

pub list_length : (n total : ℕ) (axes : List ℕ) → total ≡ min n (2 ^ 64 - 1) → axes ≡ total ∷ [] → extent axes ≤ most_atoms → total ≡ n
list_length n total axes capped e small = not_capped n total [] capped (subst (λ a. extent a ≤ most_atoms) e small)

pub one_axis : (n : ℕ) → product (n ∷ []) ≡ n
one_axis n = omega arith

-- places as often as numbers say
pub places_made : (places : List ℕ) (axes : List ℕ) (things : List ℤ) → axes ≡ length places ∷ [] → things ≡ map pos places → place_list places ≡ noun axes sort.Int (map atom.Int things)
places_made places axes things e these =
    (λ i. noun (sym e i) sort.Int ((sym (map-map atom.Int pos places) ∙ ap (map atom.Int) (sym these)) i))

pub places_whole : (places : List ℕ) (axes : List ℕ) (things : List ℤ) → axes ≡ length places ∷ [] → things ≡ map pos places → length (map atom.Int things) ≡ product axes
places_whole places axes things e these =
    length-map things atom.Int ∙ ap length these ∙ length-map places pos ∙ sym (one_axis (length places)) ∙ ap product (sym e)

pub indices_by : (y : Noun) (l : List ℤ) → is_integers y ≡ true → map atom.Int l ≡ atoms y → list_all is_count l ≡ true → limited (place_list (repeated_places l)) ≡ indices y
unfolding indices
indices_by y l whole e counts =
    let same = integers_are y l e in
    sym (chosen (is_integers y && list_all is_count (integers_in y)) (limited (place_list (repeated_places (integers_in y)))) (Err fault.Domain)
    (both (is_integers y) (list_all is_count (integers_in y)) whole (ap (list_all is_count) same ∙ counts))
    ∙ ap (λ n. limited (place_list (repeated_places n))) same)

pub no_indices : (y : Noun) → is_integers y ≡ false → indices y ≡ Err fault.Domain
unfolding indices
no_indices y e =
    otherwise (is_integers y && list_all is_count (integers_in y)) (limited (place_list (repeated_places (integers_in y)))) (Err fault.Domain)
    (not_first (is_integers y) (list_all is_count (integers_in y)) e)

pub no_counts : (y : Noun) (l : List ℤ) → map atom.Int l ≡ atoms y → list_all is_count l ≡ false → indices y ≡ Err fault.Domain
unfolding indices
no_counts y l e counts =
    otherwise (is_integers y && list_all is_count (integers_in y)) (limited (place_list (repeated_places (integers_in y)))) (Err fault.Domain)
    (not_both (is_integers y) (list_all is_count (integers_in y)) (ap (list_all is_count) (integers_are y l e) ∙ counts))

-- steps
pub steps_made : (z : ℤ) (count : ℕ) (axes : List ℕ) (things : List ℤ) → count ≡ 2 * magnitude z + 1 → axes ≡ count ∷ [] → things ≡ map (step z) (range_with_len 0 count) →
    step_list z ≡ noun axes sort.Int (map atom.Int things)
steps_made z count axes things all e these =
    (λ i. noun ((sym all i) ∷ []) sort.Int (map (λ p. atom.Int (step z p)) (range_with_len 0 (product ((sym all i) ∷ [])))))
    ∙ (λ i. noun (sym e i) sort.Int ((ap (λ n. map (λ p. atom.Int (step z p)) (range_with_len 0 n)) (one_axis count)
    ∙ sym (map-map atom.Int (step z) (range_with_len 0 count)) ∙ ap (map atom.Int) (sym these)) i))

pub steps_by : (y : Noun) (l : List ℤ) → is_integers y ≡ true → map atom.Int l ≡ atoms y → steps y ≡ steps_of l
unfolding steps
steps_by y l whole e = chosen (is_integers y) (steps_of (integers_in y)) (Err fault.Domain) whole ∙ ap steps_of (integers_are y l e)

pub no_steps : (y : Noun) → is_integers y ≡ false → steps y ≡ Err fault.Domain
unfolding steps
no_steps y e = otherwise (is_integers y) (steps_of (integers_in y)) (Err fault.Domain) e

pub first_steps : (l : List ℤ) → 1 ≤ length l → limited (step_list (get_or l 0 (pos 0))) ≡ steps_of l
first_steps [] some = absurd (omega arith)
first_steps (z ∷ l) some = refl

-- a place in the row that it stands in
pub row_below : (s : List ℕ) (p c : ℕ) → p < product s → 1 ≤ length s → c ≡ product (drop 1 s) → p / c < get_or s 0 0
row_below [] p c within some e = absurd (omega arith)
row_below (n ∷ ns) p c within some e =
    let inside : p < n * c = subst (λ k. p < n * k) (sym e) within in
    div_below p c n (factor_some p n c inside) inside

pub row_bound : (m : ℕ) (s : List ℕ) (c : ℕ) → extent s ≤ m → 1 ≤ length s → c ≡ product (drop 1 s) → get_or s 0 0 * c ≤ m
row_bound m [] c bound some e = absurd (omega arith)
row_bound m (n ∷ ns) c bound some e =
    let whole : n * c ≡ product (n ∷ ns) = ap (λ k. n * k) e in
    omega (arith, whole, product_at_most (n ∷ ns), bound)
