-- Numbers that are items, each picked where it is named.
use Rattle.std.specs.Prelude.{ℕ, ◌+◌, ◌*◌, ◌<◌, ◌≤◌, ◌≡◌, ◌++◌, ◌&&◌, ◌-◌, suc, ℤ, pos, negsuc, nat_lt, Bool, true, false, if◌then◌else◌, Result, Ok, Err, List, [], ◌∷◌, length, map, get_or}
use Rattle.std.specs.List.{All, list_all}
use Rattle.std.specs.Result.{is_ok, result_unwrap_or}
use Rattle.std.proofs.Common.{arith, sym, ◌∙◌, ap, refl}
use Rattle.std.proofs.lemmas.List.{length-map}
use Rattle.std.proofs.lemmas.List.Elements.{All-weaker}
use Rattle.jdata.specs.Firsts.{all_or_first, and_then, in_front}
use Rattle.jdata.specs.Limits.{limited, IsArray}
use Rattle.jdata.specs.Noun.{shape, kind, atoms, noun, product}
use Rattle.jdata.specs.declared.fault.Fault.{Fault}
use Rattle.jdata.specs.declared.fault.Fault.TheVariants as fault
use Rattle.jdata.specs.declared.noun.Noun.{Noun}
use Rattle.jdata.specs.declared.noun.Kind.TheVariants as sort
use Rattle.jdata.specs.declared.noun.Atom.TheVariants as atom
use Rattle.jselect.specs.Items.{item_axes, item_count}
use Rattle.jselect.specs.Listing.{items_named, number_named}
use Rattle.jselect.specs.Picking.{runs}
use Rattle.jselect.specs.Places.{place_in}
use Rattle.jselect.proofs.NamedItems.{each_after, front_is, places_are, single_runs}
use Rattle.jselect.proofs.Picked.{product_is}

-- ---- whether each has something

ok_step : (r : Result ℤ Fault) (rs : List (Result ℤ Fault)) (more : List ℤ) (b : Bool) → is_ok r && b ≡ true → (b ≡ true → all_or_first rs ≡ Ok more) →
    all_or_first (r ∷ rs) ≡ Ok (result_unwrap_or r (pos 0) ∷ more)
ok_step (Ok x) rs more b h rest = ap (in_front x) (rest h)
ok_step (Err why) rs more b h rest = cc

-- where each has something, that is all there is
all_ok : (f : ℤ → Result ℤ Fault) (l : List ℤ) → list_all (λ m. is_ok (f m)) l ≡ true → all_or_first (map f l) ≡ Ok (map (λ m. result_unwrap_or (f m) (pos 0)) l)
all_ok f [] h = refl
all_ok f (m ∷ l) h = ok_step (f m) (map f l) (map (λ n. result_unwrap_or (f n) (pos 0)) l) (list_all (λ n. is_ok (f n)) l) h (all_ok f l)

err_step : (r : Result ℤ Fault) (rs : List (Result ℤ Fault)) (w : Fault) (b : Bool) → is_ok r && b ≡ false → ((why : Fault) → r ≡ Err why → why ≡ w) →
    (b ≡ false → all_or_first rs ≡ Err w) → all_or_first (r ∷ rs) ≡ Err w
err_step (Ok x) rs w b h only rest = ap (in_front x) (rest h)
err_step (Err why) rs w b h only rest = ap (λ v. Err v) (only why refl)

-- where one has nothing, and there is but one fault, that is it
one_err : (f : ℤ → Result ℤ Fault) (w : Fault) → ((m : ℤ) (why : Fault) → f m ≡ Err why → why ≡ w) → (l : List ℤ) → list_all (λ m. is_ok (f m)) l ≡ false →
    all_or_first (map f l) ≡ Err w
one_err f w only [] h = cc
one_err f w only (m ∷ l) h = err_step (f m) (map f l) w (list_all (λ n. is_ok (f n)) l) h (only m) (one_err f w only l)

-- ---- numbers among numbers

ok_after : (h : ℕ → ℤ) (r : Result ℕ Fault) → is_ok r ≡ is_ok (and_then r (λ p. Ok (h p)))
ok_after h (Ok p) = refl
ok_after h (Err why) = refl

err_after : (h : ℕ → ℤ) (r : Result ℕ Fault) (why : Fault) → and_then r (λ p. Ok (h p)) ≡ Err why → r ≡ Err why
err_after h (Ok p) why e = cc
err_after h (Err v) why e = cc

if_index : (b : Bool) (p : ℕ) (why : Fault) → (if b then Ok p else Err fault.Index) ≡ Err why → why ≡ fault.Index
if_index true p why e = cc
if_index false p why e = cc

place_index : (n : ℕ) (m : ℤ) (why : Fault) → place_in n m ≡ Err why → why ≡ fault.Index
place_index n (pos i) why e = if_index (nat_lt i n) i why e
place_index n (negsuc i) why e = if_index (nat_lt i n) (n - suc i) why e

same_tests : (items l : List ℤ) → list_all (λ m. is_ok (place_in (length items) m)) l ≡ list_all (λ m. is_ok (number_named items m)) l
same_tests items l = λ i. list_all (λ m. ok_after (λ p. get_or items p (pos 0)) (place_in (length items) m) i) l

pub all_named : (items l : List ℤ) → list_all (λ m. is_ok (place_in (length items) m)) l ≡ true →
    all_or_first (map (number_named items) l) ≡ Ok (map (λ m. result_unwrap_or (number_named items m) (pos 0)) l)
all_named items l h = all_ok (number_named items) l (sym (same_tests items l) ∙ h)

pub one_not_named : (items l : List ℤ) → list_all (λ m. is_ok (place_in (length items) m)) l ≡ false → all_or_first (map (number_named items) l) ≡ Err fault.Index
one_not_named items l h =
    one_err (number_named items) fault.Index
    (λ m why e. place_index (length items) m why (err_after (λ p. get_or items p (pos 0)) (place_in (length items) m) why e))
    l
    (sym (same_tests items l) ∙ h)

-- ---- as many as there are numbers

many_step : (r : Result ℤ Fault) (s : Result (List ℤ) Fault) (n : ℕ) (picks : List ℤ) → ((qs : List ℤ) → s ≡ Ok qs → length qs ≡ n) →
    and_then r (λ x. in_front x s) ≡ Ok picks → length picks ≡ suc n
many_step (Ok x) (Ok qs) n picks rest e =
    let whole : x ∷ qs ≡ picks = cc in
    sym (ap length whole) ∙ ap suc (rest qs refl)
many_step (Ok x) (Err why) n picks rest e = cc
many_step (Err why) s n picks rest e = cc

pub as_many : (f : ℤ → Result ℤ Fault) (l picks : List ℤ) → all_or_first (map f l) ≡ Ok picks → length picks ≡ length l
as_many f [] picks e = let none : [] ≡ picks = cc in sym (ap length none)
as_many f (m ∷ l) picks e = many_step (f m) (all_or_first (map f l)) (length l) picks (as_many f l) (sym (front_is (f m) (map f l)) ∙ e)

-- ---- and the items

after_places : (h : ℕ → ℤ) (f : ℤ → Result ℕ Fault) (l : List ℤ) →
    all_or_first (map (λ m. and_then (f m) (λ p. Ok (h p))) l) ≡ and_then (all_or_first (map f l)) (λ ps. Ok (map h ps))
after_places h f [] = refl
after_places h f (m ∷ l) =
    let named : ℤ → Result ℤ Fault = λ n. and_then (f n) (λ p. Ok (h p)) in
    front_is (named m) (map named l)
    ∙ ap (λ s. and_then (named m) (λ v. in_front v s)) (after_places h f l)
    ∙ each_after h (f m) (all_or_first (map f l))
    ∙ ap (λ r. and_then r (λ ps. Ok (map h ps))) (sym (front_is (f m) (map f l)))

by_places : (axes : List ℕ) (l items : List ℤ) (y : Noun) (r : Result (List ℕ) Fault) → all_or_first (map (place_in (length items)) l) ≡ r →
    product (item_axes y) ≡ 1 → kind y ≡ sort.Int → atoms y ≡ map atom.Int items →
    and_then r (λ ps. limited (noun (axes ++ item_axes y) (kind y) (runs (product (item_axes y)) (atoms y) ps)))
    ≡ and_then (and_then r (λ ps. Ok (map (λ p. get_or items p (pos 0)) ps))) (λ picks. limited (noun (axes ++ item_axes y) sort.Int (map atom.Int picks)))
by_places axes l items y (Ok ps) e one k a =
    let below = (places_are (length items) l ps e).1 in
    let fits : All (λ p. p * 1 + 1 ≤ length items) ps = All-weaker (λ p. p < length items) (λ p. p * 1 + 1 ≤ length items) (λ p b. omega arith) ps below in
    let these = (λ i. runs (one i) (a i) ps) ∙ sym (single_runs atom.Int items (pos 0) ps fits) in
    ap limited (λ i. noun (axes ++ item_axes y) (k i) (these i))
by_places axes l items y (Err why) e one k a = refl

count_is : (items : List ℤ) (y : Noun) → IsArray y → product (item_axes y) ≡ 1 → atoms y ≡ map atom.Int items → item_count y ≡ length items
count_is items y array one a =
    let long : length (atoms y) ≡ length items = ap length a ∙ length-map items atom.Int in
    let whole : item_count y * product (item_axes y) ≡ item_count y * 1 = ap (λ c. item_count y * c) one in
    omega (arith, long, whole, array.whole, product_is (shape y))

pub single_items : (axes : List ℕ) (l items : List ℤ) (y : Noun) → IsArray y → product (item_axes y) ≡ 1 → kind y ≡ sort.Int → atoms y ≡ map atom.Int items →
    items_named axes l y ≡ and_then (all_or_first (map (number_named items) l)) (λ picks. limited (noun (axes ++ item_axes y) sort.Int (map atom.Int picks)))
unfolding items_named
single_items axes l items y array one k a =
    let n = count_is items y array one a in
    ap (λ m. and_then (all_or_first (map (place_in m) l)) (λ ps. limited (noun (axes ++ item_axes y) (kind y) (runs (product (item_axes y)) (atoms y) ps)))) n
    ∙ by_places axes l items y (all_or_first (map (place_in (length items)) l)) refl one k a
    ∙ ap (λ r. and_then r (λ picks. limited (noun (axes ++ item_axes y) sort.Int (map atom.Int picks))))
    (sym (after_places (λ p. get_or items p (pos 0)) (place_in (length items)) l))
