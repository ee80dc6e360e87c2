-- Items that integers name, one after another.
use Rattle.std.specs.Prelude.{ℕ, ◌+◌, ◌*◌, ◌<◌, ◌≤◌, ◌≡◌, ℤ, Result, Ok, Err, List, [], ◌∷◌, ◌++◌, length, map, drop, take, get_or}
use Rattle.std.specs.List.{All, flat_map}
use Rattle.std.proofs.Common.{arith, sym, ◌∙◌, ap, refl, subst}
use Rattle.std.proofs.lemmas.List.{append_assoc, append-nil, drop_more, drop_all, drop-map}
use Rattle.std.proofs.lemmas.List.Elements.{All-nil, All-cons, All-head, All-tail, All-weaker}
use Rattle.jdata.specs.Answers.{Answers}
use Rattle.jdata.specs.Firsts.{all_or_first, and_then, in_front}
use Rattle.jdata.specs.Indexes.{place_at}
use Rattle.jdata.specs.Limits.{limited, IsArray, IsShape, most_atoms}
use Rattle.jdata.specs.Noun.{shape, kind, atoms, noun, product, extent}
use Rattle.jdata.specs.declared.fault.Fault.{Fault}
use Rattle.jdata.specs.declared.fault.Fault.TheVariants as fault
use Rattle.jdata.specs.declared.fault.Trouble.{Trouble}
use Rattle.jdata.specs.declared.fault.Trouble.TheVariants as trouble
use Rattle.jdata.specs.declared.noun.Noun.{Noun}
use Rattle.jdata.proofs.Arrays.{range_is_array}
use Rattle.jdata.proofs.Extents.{product-append}
use Rattle.jselect.specs.From.{cell_named}
use Rattle.jselect.specs.Items.{as_list, list_axes, item_axes, item_count, further_axes}
use Rattle.jselect.specs.Listing.{items_named}
use Rattle.jselect.specs.Picking.{runs}
use Rattle.jselect.specs.Places.{place_in, places_in}
use Rattle.jselect.proofs.Cells.{place_in_below, number_named, named_is, not_named, list_is_array, rest_is_shape}
use Rattle.jselect.proofs.Copied.{too_large}
use Rattle.jselect.proofs.Picked.{item_fits, list_axes_is}
use Rattle.jselect.proofs.Runs.{Fits, length-runs}

-- what comes of the rest, behind what is there
abbrev pub behind : {A : Type 0} → List A → Result (List A) Fault → Result (List A) Fault
behind done rest = and_then rest (λ more. Ok (done ++ more))

after_one : {A : Type 0} (done : List A) (x : A) (r : Result (List A) Fault) → behind (done ++ x ∷ []) r ≡ behind done (in_front x r)
after_one done x (Ok more) = ap (λ l. Ok l) (append_assoc done (x ∷ []) more)
after_one done x (Err why) = refl

after_none : {A : Type 0} (r : Result (List A) Fault) → behind [] r ≡ r
after_none (Ok more) = refl
after_none (Err why) = refl

-- one after another: the rest of the list from the i-th on, behind the places that are there
abbrev pub rest_of : (ℤ → Result ℕ Fault) → List ℤ → ℕ → List ℕ → Result (List ℕ) Fault
rest_of f l i done = behind done (all_or_first (map f (drop i l)))

pub rest_first : (f : ℤ → Result ℕ Fault) (l : List ℤ) → rest_of f l 0 [] ≡ all_or_first (map f l)
rest_first f l = after_none (all_or_first (map f l))

pub rest_more : (f : ℤ → Result ℕ Fault) (l : List ℤ) (i : ℕ) (done : List ℕ) (d : ℤ) (p : ℕ) → i < length l → f (get_or l i d) ≡ Ok p →
    rest_of f l (i + 1) (done ++ p ∷ []) ≡ rest_of f l i done
rest_more f l i done d p h e =
    after_one done p (all_or_first (map f (drop (i + 1) l)))
    ∙ ap (λ r. behind done (all_or_first (r ∷ map f (drop (i + 1) l)))) (sym e)
    ∙ ap (λ q. behind done (all_or_first (map f q))) (sym (drop_more l i d h))

pub rest_fails : (f : ℤ → Result ℕ Fault) (l : List ℤ) (i : ℕ) (done : List ℕ) (d : ℤ) (why : Fault) → i < length l → f (get_or l i d) ≡ Err why →
    rest_of f l i done ≡ Err why
rest_fails f l i done d why h e =
    ap (λ q. behind done (all_or_first (map f q))) (drop_more l i d h)
    ∙ ap (λ r. behind done (all_or_first (r ∷ map f (drop (i + 1) l)))) e

pub rest_none : (f : ℤ → Result ℕ Fault) (l : List ℤ) (i : ℕ) (done : List ℕ) → length l ≤ i → rest_of f l i done ≡ Ok done
rest_none f l i done h =
    ap (λ q. behind done (all_or_first (map f q))) (drop_all i l h) ∙ ap (λ q. Ok q) (append-nil done)

-- places that numbers name are places of items
abbrev pub PlacesAre : ℕ → List ℤ → List ℕ → Type 0
PlacesAre n l ps = (length ps ≡ length l) × All (λ p. p < n) ps

places_step : (n : ℕ) (m : ℤ) (l : List ℤ) (r : Result ℕ Fault) (s : Result (List ℕ) Fault) (ps : List ℕ) → ((p : ℕ) → r ≡ Ok p → p < n) →
    ((qs : List ℕ) → s ≡ Ok qs → PlacesAre n l qs) → and_then r (λ p. in_front p s) ≡ Ok ps → PlacesAre n (m ∷ l) ps
places_step n m l (Ok p) (Ok qs) ps below rest e =
    let inner = rest qs refl in
    let whole : p ∷ qs ≡ ps = cc in
    subst (PlacesAre n (m ∷ l)) whole (omega (arith, inner.0), All-cons (λ q. q < n) p qs (below p refl) inner.1)
places_step n m l (Ok p) (Err why) ps below rest e = cc
places_step n m l (Err why) s ps below rest e = cc

pub front_is : {A : Type 0} (r : Result A Fault) (rs : List (Result A Fault)) → all_or_first (r ∷ rs) ≡ and_then r (λ x. in_front x (all_or_first rs))
front_is (Ok x) rs = refl
front_is (Err why) rs = refl

pub places_are : (n : ℕ) (l : List ℤ) (ps : List ℕ) → all_or_first (map (place_in n) l) ≡ Ok ps → PlacesAre n l ps
places_are n [] ps e = let none : [] ≡ ps = cc in subst (PlacesAre n []) none (refl, All-nil (λ p. p < n))
places_are n (m ∷ l) ps e =
    places_step n m l (place_in n m) (all_or_first (map (place_in n) l)) ps (place_in_below n m) (λ qs f. places_are n l qs f)
    (sym (front_is (place_in n m) (map (place_in n) l)) ∙ e)

pub places_fit : (y : Noun) (l : List ℤ) (ps : List ℕ) → IsArray y → PlacesAre (item_count y) l ps → All (Fits (product (item_axes y)) (length (atoms y))) ps
places_fit y l ps a h = All-weaker (λ p. p < item_count y) (Fits (product (item_axes y)) (length (atoms y))) (λ p below. item_fits y p a below) ps h.1

-- as many atoms as the axes want
pub atoms_whole : (y : Noun) (l : List ℤ) (ps axes : List ℕ) → IsArray y → PlacesAre (item_count y) l ps → length l ≡ product axes →
    length (runs (product (item_axes y)) (atoms y) ps) ≡ product (axes ++ item_axes y)
atoms_whole y l ps axes a h many =
    length-runs (product (item_axes y)) (atoms y) ps (places_fit y l ps a h)
    ∙ ap (λ n. n * product (item_axes y)) (h.0 ∙ many)
    ∙ sym (product-append axes (item_axes y))

pub named_made : (axes : List ℕ) (l : List ℤ) (y : Noun) (ps : List ℕ) → all_or_first (map (place_in (item_count y)) l) ≡ Ok ps →
    items_named axes l y ≡ limited (noun (axes ++ item_axes y) (kind y) (runs (product (item_axes y)) (atoms y) ps))
unfolding items_named
named_made axes l y ps e = ap (λ r. and_then r (λ places. limited (noun (axes ++ item_axes y) (kind y) (runs (product (item_axes y)) (atoms y) places)))) e

pub named_wrong : (axes : List ℕ) (l : List ℤ) (y : Noun) (why : Fault) → all_or_first (map (place_in (item_count y)) l) ≡ Err why → items_named axes l y ≡ Err why
unfolding items_named
named_wrong axes l y why e = ap (λ r. and_then r (λ places. limited (noun (axes ++ item_axes y) (kind y) (runs (product (item_axes y)) (atoms y) places)))) e

pub named_stops : (axes : List ℕ) (l : List ℤ) (y : Noun) (n : ℕ) (t : Trouble) → n ≡ item_count y →
    Answers {Value = List ℕ} (all_or_first (map (place_in n) l)) (Err t) → Answers {Value = Noun} (items_named axes l y) (Err t)
named_stops axes l y n (trouble.Fault why) e h = named_wrong axes l y why (ap (λ m. all_or_first (map (place_in m) l)) (sym e) ∙ h)
named_stops axes l y n trouble.NoMemory e h = tt

pub named_too_many : (axes : List ℕ) (l : List ℤ) (y : Noun) (ps : List ℕ) → all_or_first (map (place_in (item_count y)) l) ≡ Ok ps →
    most_atoms < extent (axes ++ item_axes y) → items_named axes l y ≡ Err fault.Limit
named_too_many axes l y ps e h = named_made axes l y ps e ∙ too_large (noun (axes ++ item_axes y) (kind y) (runs (product (item_axes y)) (atoms y) ps)) h

-- a run each
pub each_run : {A : Type 0} (c : ℕ) (xs : List A) (places : List ℕ) → flat_map (λ p. take c (drop (p * c) xs)) places ≡ runs c xs places
unfolding runs
each_run c xs places = refl

single_run : {A B : Type 0} (f : A → B) (xs : List A) (p : ℕ) (d : A) → p * 1 + 1 ≤ length xs → take 1 (drop (p * 1) (map f xs)) ≡ f (get_or xs p d) ∷ []
single_run f xs p d h =
    let there : p < length xs = omega arith in
    let same : p * 1 ≡ p = omega arith in
    ap (λ q. take 1 (drop q (map f xs))) same
    ∙ ap (take 1) (drop-map f p xs ∙ ap (map f) (drop_more xs p d there))

-- and where an item is one thing, the things at the places
pub single_runs : {A B : Type 0} (f : A → B) (xs : List A) (d : A) (places : List ℕ) → All (λ p. p * 1 + 1 ≤ length xs) places →
    map f (map (λ p. get_or xs p d) places) ≡ runs 1 (map f xs) places
unfolding runs
single_runs f xs d [] h = refl
single_runs f xs d (p ∷ places) h =
    let here = single_run f xs p d (All-head (λ q. q * 1 + 1 ≤ length xs) p places h) in
    let rest = single_runs f xs d places (All-tail (λ q. q * 1 + 1 ≤ length xs) p places h) in
    λ i. sym here i ++ rest i

-- the item at a place
abbrev pub item_of : Noun → ℕ → Noun
item_of y p = noun (item_axes y) (kind y) (take (product (item_axes y)) (drop (p * product (item_axes y)) (atoms y)))

none_left : (ns : List ℕ) → places_in ns [] ≡ Ok []
none_left [] = refl
none_left (n ∷ ns) = refl

abbrev numbered : ℕ → List ℕ → Result ℕ Fault → Result (List ℕ) Fault → Result ℕ Fault
numbered n ns r s = and_then (and_then r (λ p. in_front p s)) (λ ps. Ok (place_at (n ∷ []) ps))

numbered_first : (n : ℕ) (ns : List ℕ) (m : ℤ) (p : ℕ) → place_in n m ≡ Ok p → number_named (m ∷ []) (n ∷ ns) ≡ Ok p
numbered_first n ns m p e =
    let at : place_at (n ∷ []) (p ∷ []) ≡ p = omega arith in
    (λ i. numbered n ns (e i) (none_left ns i)) ∙ ap (λ q. Ok q) at

numbered_none : (n : ℕ) (ns : List ℕ) (m : ℤ) (why : Fault) → place_in n m ≡ Err why → number_named (m ∷ []) (n ∷ ns) ≡ Err why
numbered_none n ns m why e = (λ i. numbered n ns (e i) (none_left ns i))

one_axis_more : (y : Noun) → 1 ≤ length (list_axes (shape y))
one_axis_more y = omega (arith, ap length (list_axes_is (shape y)))

named_item_of : (y : Noun) (m : ℤ) (r : Result ℕ Fault) → IsArray y → place_in (item_count y) m ≡ r → cell_named (m ∷ []) (as_list y) ≡ and_then r (λ p. Ok (item_of y p))
named_item_of y m (Ok p) a e =
    let number = ap (number_named (m ∷ [])) (list_axes_is (shape y)) ∙ numbered_first (item_count y) (item_axes y) m p e in
    let rest : drop 1 (list_axes (shape y)) ≡ item_axes y = ap (drop 1) (list_axes_is (shape y)) in
    (named_is (m ∷ []) (as_list y) p (list_is_array y a) (one_axis_more y) number).value
    ∙ ap (λ axes. Ok (noun axes (kind y) (take (product axes) (drop (p * product axes) (atoms y))))) rest
named_item_of y m (Err why) a e =
    let number = ap (number_named (m ∷ [])) (list_axes_is (shape y)) ∙ numbered_none (item_count y) (item_axes y) m why e in
    not_named (m ∷ []) (as_list y) why (one_axis_more y) number

pub each_after : {A : Type 0} (g : ℕ → A) (r : Result ℕ Fault) (s : Result (List ℕ) Fault) →
    and_then (and_then r (λ p. Ok (g p))) (λ v. in_front v (and_then s (λ ps. Ok (map g ps)))) ≡ and_then (and_then r (λ p. in_front p s)) (λ ps. Ok (map g ps))
each_after g (Ok p) (Ok ps) = refl
each_after g (Ok p) (Err why) = refl
each_after g (Err why) s = refl

-- what integers name, one after another
pub each_named : (y : Noun) (l : List ℤ) → IsArray y →
    all_or_first (map (λ m. cell_named (m ∷ []) (as_list y)) l) ≡ and_then (all_or_first (map (place_in (item_count y)) l)) (λ ps. Ok (map (item_of y) ps))
each_named y [] a = refl
each_named y (m ∷ l) a =
    let named : ℤ → Result Noun Fault = λ n. cell_named (n ∷ []) (as_list y) in
    let place = place_in (item_count y) in
    front_is (named m) (map named l)
    ∙ (λ i. and_then (named_item_of y m (place m) a refl i) (λ v. in_front v (each_named y l a i)))
    ∙ each_after (item_of y) (place m) (all_or_first (map place l))
    ∙ ap (λ r. and_then r (λ ps. Ok (map (item_of y) ps))) (sym (front_is (place m) (map place l)))

item_is_shape : (s : List ℕ) → IsShape s → IsShape (further_axes s)
item_is_shape [] h = h
item_is_shape (n ∷ ns) h = rest_is_shape 1 (n ∷ ns) h

pub item_is_array : (y : Noun) (p : ℕ) → IsArray y → p < item_count y → IsArray (item_of y p)
item_is_array y p a h = range_is_array (item_axes y) y (p * product (item_axes y)) (item_fits y p a h) (item_is_shape (shape y) a.within) a.level_at_most
