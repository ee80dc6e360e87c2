-- What is copied.
use Rattle.std.specs.Prelude.{ℕ, ◌-◌, ◌*◌, ◌^◌, ◌<◌, ◌≤◌, ◌≡◌, ◌==◌, ◌&&◌, min, max, nat_le, ℤ, Bool, true, false, if◌then◌else◌, Result, Ok, Err, List, [], ◌∷◌, length, map}
use Rattle.std.specs.List.{list_all, All}
use Rattle.std.proofs.Common.{arith, sym, ◌∙◌, ap, refl, subst}
use Rattle.std.proofs.lemmas.List.{length-map}
use Rattle.std.proofs.lemmas.List.Elements.{All-weaker}
use Rattle.std.proofs.lemmas.Bool.{lt-leb, eqb-true}
use Rattle.std.proofs.Math.Nat.{mul-le-mul_right, le-mul_of_pos_right}
use Rattle.jdata.specs.Limits.{limited, IsArray, most_axes, most_atoms, most_levels}
use Rattle.jdata.specs.Firsts.{and_then}
use Rattle.jdata.specs.Noun.{shape, kind, atoms, noun, product, extent, level}
use Rattle.jdata.specs.declared.fault.Fault.{Fault}
use Rattle.jdata.specs.declared.fault.Fault.TheVariants as fault
use Rattle.jdata.specs.declared.noun.Noun.{Noun}
use Rattle.jdata.specs.declared.noun.Kind.{Kind}
use Rattle.jdata.specs.declared.noun.Atom.{Atom, out-Atom}
use Rattle.jdata.specs.declared.noun.Atom.TheVariants as atom
use Rattle.jdata.proofs.Extents.{extent_some}
use Rattle.jarray.specs.Numbers.{is_integers}
use Rattle.jselect.specs.Copies.{shared_count, copied, count_at}
use Rattle.jselect.specs.Items.{first_axis, further_axes}
use Rattle.jselect.specs.Arguments.{integers_in, integer_of, is_count}
use Rattle.jselect.specs.Picking.{is_alone, served, repeated, runs, items_at}
use Rattle.jselect.proofs.Picked.{items_are_runs, item_fits}
use Rattle.jselect.proofs.Runs.{Fits, length-runs}

second : {A : Type 0} (a b c : Bool) (x y : A) → b ≡ false → (if a && (b && c) then x else y) ≡ y
second true true c x y h = cc
second true false c x y h = refl
second false b c x y h = refl

-- beyond the limit of atoms no array is made
pub too_large : (v : Noun) → most_atoms < extent (shape v) → limited v ≡ Err fault.Limit
too_large v h = second (nat_le (length (shape v)) most_axes) (nat_le (extent (shape v)) most_atoms) (nat_le (level v) most_levels) (Ok v) (Err fault.Limit) (lt-leb _ _ h)

same_integers : (l : List ℤ) → map (λ a. integer_of (out-Atom a)) (map atom.Int l) ≡ l
unfolding out-Atom denote.Hole.Carrier.out
same_integers [] = refl
same_integers (n ∷ l) = ap (λ r. n ∷ r) (same_integers l)

pub integers_are : (v : Noun) (l : List ℤ) → map atom.Int l ≡ atoms v → integers_in v ≡ l
integers_are v l e = ap (map (λ a. integer_of (out-Atom a))) (sym e) ∙ same_integers l

-- a place that is shared has a count and an item
abbrev choice : Bool → ℕ → Result ℕ Fault
choice b n = if b then Ok n else Err fault.Length

count_serves_by : (b : Bool) (m n k i : ℕ) → choice b m ≡ Ok k → i < k → i < m
count_serves_by true m n k i e h = let same : m ≡ k = cc in omega arith
count_serves_by false m n k i e h = cc

pub count_serves : (alone : Bool) (n : ℕ) (s : List ℕ) (k i : ℕ) → shared_count alone n s ≡ Ok k → (alone ≡ true → n ≡ 1) → i < k → served alone i < n
count_serves true n s k i e one h = let single : n ≡ 1 = one refl in omega arith
count_serves false n [] k i e one h = let same : n ≡ k = cc in omega arith
count_serves false n (m ∷ ms) k i e one h = count_serves_by (n == m) n m k i e h

item_serves_by : (m n k i : ℕ) (b : Bool) → (n == m) ≡ b → choice b n ≡ Ok k → i < k → i < m
item_serves_by m n k i true t e h = let same : n ≡ k = cc in let even : n ≡ m = eqb-true n m t in omega arith
item_serves_by m n k i false t e h = cc

pub item_serves : (alone : Bool) (n : ℕ) (s : List ℕ) (k i : ℕ) → shared_count alone n s ≡ Ok k → i < k → served (is_alone s) i < first_axis s
item_serves alone n [] k i e h = omega arith
item_serves true n (m ∷ ms) k i e h = let same : m ≡ k = cc in omega arith
item_serves false n (m ∷ ms) k i e h = item_serves_by m n k i (n == m) refl e h

-- a first axis that is beyond the limit, or its number of 64 bits
pub capped_extent : (l n : ℕ) (ns : List ℕ) → n ≡ min l (2 ^ 64 - 1) → extent (n ∷ ns) ≤ extent (l ∷ ns)
capped_extent l n ns e =
    let less : max n 1 ≤ max l 1 = omega arith in
    mul-le-mul_right (extent ns) less

pub not_capped : (l n : ℕ) (ns : List ℕ) → n ≡ min l (2 ^ 64 - 1) → extent (n ∷ ns) ≤ most_atoms → n ≡ l
not_capped l n ns e h =
    let up = le-mul_of_pos_right {m = extent ns} (max n 1) (omega (arith, extent_some ns)) in
    omega (arith, up)

-- what is copied, by the integers of x
pick : {A : Type 0} (a b : Bool) (x y : A) → a ≡ true → b ≡ true → (if a && b then x else y) ≡ x
pick a b x y e f = rw (e, f) refl

left_out : {A : Type 0} (a b : Bool) (x y : A) → a ≡ false → (if a && b then x else y) ≡ y
left_out a b x y e = rw e refl

right_out : {A : Type 0} (a b : Bool) (x y : A) → b ≡ false → (if a && b then x else y) ≡ y
right_out true b x y e = rw e refl
right_out false b x y e = refl

abbrev copies_with : Bool → List ℤ → Noun → ℕ → Result Noun Fault
copies_with alone l y n = limited (items_at (repeated (count_at alone l) (served (is_alone (shape y))) n) y)

copied_is : (x y : Noun) (l : List ℤ) → is_integers x ≡ true → map atom.Int l ≡ atoms x → list_all is_count l ≡ true →
    copied x y ≡ and_then (shared_count (is_alone (shape x)) (length l) (shape y)) (copies_with (is_alone (shape x)) l y)
unfolding copied
copied_is x y l integers e counts =
    let same = integers_are x l e in
    let long : length (atoms x) ≡ length l = ap length (sym e) ∙ length-map l atom.Int in
    pick (is_integers x) (list_all is_count (integers_in x)) _ (Err fault.Domain) integers (ap (list_all is_count) same ∙ counts)
    ∙ (λ i. and_then (shared_count (is_alone (shape x)) (long i) (shape y)) (copies_with (is_alone (shape x)) (same i) y))

pub copied_by : (x y : Noun) (l : List ℤ) (alone : Bool) (n : ℕ) → is_integers x ≡ true → map atom.Int l ≡ atoms x → list_all is_count l ≡ true →
    alone ≡ is_alone (shape x) → shared_count alone (length l) (shape y) ≡ Ok n →
    copied x y ≡ limited (items_at (repeated (count_at alone l) (served (is_alone (shape y))) n) y)
copied_by x y l alone n integers e counts one number =
    copied_is x y l integers e counts
    ∙ ap (λ b. and_then (shared_count b (length l) (shape y)) (copies_with b l y)) (sym one)
    ∙ ap (λ r. and_then r (copies_with alone l y)) number

pub not_copied : (x y : Noun) (l : List ℤ) (alone : Bool) (why : Fault) → is_integers x ≡ true → map atom.Int l ≡ atoms x → list_all is_count l ≡ true →
    alone ≡ is_alone (shape x) → shared_count alone (length l) (shape y) ≡ Err why → copied x y ≡ Err why
not_copied x y l alone why integers e counts one number =
    copied_is x y l integers e counts
    ∙ ap (λ b. and_then (shared_count b (length l) (shape y)) (copies_with b l y)) (sym one)
    ∙ ap (λ r. and_then r (copies_with alone l y)) number

pub no_integers : (x y : Noun) → is_integers x ≡ false → copied x y ≡ Err fault.Domain
unfolding copied
no_integers x y e = left_out (is_integers x) (list_all is_count (integers_in x)) _ (Err fault.Domain) e

pub no_counts : (x y : Noun) (l : List ℤ) → map atom.Int l ≡ atoms x → list_all is_count l ≡ false → copied x y ≡ Err fault.Domain
unfolding copied
no_counts x y l e counts =
    right_out (is_integers x) (list_all is_count (integers_in x)) _ (Err fault.Domain) (ap (list_all is_count) (integers_are x l e) ∙ counts)

-- the picked items, as they are made
pub picked_made : (y : Noun) (places : List ℕ) (total : ℕ) (axes : List ℕ) (k : Kind) (things : List Atom) → IsArray y →
    All (λ p. p < first_axis (shape y)) places → total ≡ min (length places) (2 ^ 64 - 1) → axes ≡ total ∷ further_axes (shape y) →
    extent axes ≤ most_atoms → k ≡ kind y → things ≡ runs (product (further_axes (shape y))) (atoms y) places →
    items_at places y ≡ noun axes k things
picked_made y places total axes k things a within capped e small same these =
    let all : total ≡ length places = not_capped (length places) total (further_axes (shape y)) capped (subst (λ s. extent s ≤ most_atoms) e small) in
    items_are_runs y places a within
    ∙ (λ i. noun (sym (e ∙ ap (λ n. n ∷ further_axes (shape y)) all) i) (sym same i) (sym these i))

pub picked_whole : (y : Noun) (places : List ℕ) (total : ℕ) (axes : List ℕ) (things : List Atom) → IsArray y →
    All (λ p. p < first_axis (shape y)) places → total ≡ min (length places) (2 ^ 64 - 1) → axes ≡ total ∷ further_axes (shape y) →
    extent axes ≤ most_atoms → things ≡ runs (product (further_axes (shape y))) (atoms y) places → length things ≡ product axes
picked_whole y places total axes things a within capped e small these =
    let c = product (further_axes (shape y)) in
    let all : total ≡ length places = not_capped (length places) total (further_axes (shape y)) capped (subst (λ s. extent s ≤ most_atoms) e small) in
    let fits : All (Fits c (length (atoms y))) places = All-weaker (λ p. p < first_axis (shape y)) (Fits c (length (atoms y))) (λ p below. item_fits y p a below) places within in
    ap length these ∙ length-runs c (atoms y) places fits ∙ ap (λ n. n * c) (sym all) ∙ ap product (sym e)

pub picked_too_many : (y : Noun) (places : List ℕ) (total : ℕ) (axes : List ℕ) → total ≡ min (length places) (2 ^ 64 - 1) →
    axes ≡ total ∷ further_axes (shape y) → most_atoms < extent axes → limited (items_at places y) ≡ Err fault.Limit
unfolding items_at
picked_too_many y places total axes capped e large =
    let grows = capped_extent (length places) total (further_axes (shape y)) capped in
    let there : most_atoms < extent (total ∷ further_axes (shape y)) = subst (λ s. most_atoms < extent s) e large in
    too_large (items_at places y) (omega (arith, grows, there))
