-- What a sort of the items of an array answers.
use Rattle.std.specs.Prelude.{ℕ, ◌*◌, ◌<◌, ◌≤◌, ◌≡◌, ◌||◌, ℤ, pos, Bool, true, false, List, [], ◌∷◌, length, map, take, drop, Result, Ok, Err}
use Rattle.std.specs.List.{range_with_len}
use Rattle.std.specs.Cmp.Lexicographic.{slice_cmp}
use Rattle.std.specs.Ordering.{int_cmp, nat_cmp, ordering_then}
use Rattle.std.specs.declared.cmp.Ordering.{Ordering}
use Rattle.std.proofs.Common.{arith, sym, ◌∙◌, ap, refl, subst}
use Rattle.std.proofs.lemmas.List.{length-map, take-append-drop}
use Rattle.std.proofs.lemmas.List.FromFn.{length-range_with_len}
use Rattle.std.proofs.lemmas.List.Sorted.{length_permutation}
use Rattle.jdata.specs.Answers.{Answers}
use Rattle.jdata.specs.Firsts.{and_then}
use Rattle.jdata.specs.Kinds.{is_of_kind, kinds_match}
use Rattle.jdata.specs.Limits.{IsArray, IsShape, most_atoms}
use Rattle.jdata.specs.Noun.{noun, shape, kind, atoms, product}
use Rattle.jdata.specs.declared.fault.Fault.{Fault}
use Rattle.jdata.specs.declared.fault.Fault.TheVariants as fault
use Rattle.jdata.specs.declared.fault.Trouble.{Trouble}
use Rattle.jdata.specs.declared.fault.Trouble.TheVariants as trouble
use Rattle.jdata.specs.declared.noun.Noun.{Noun}
use Rattle.jdata.specs.declared.noun.Kind.{Kind}
use Rattle.jdata.specs.declared.noun.Kind.TheVariants as sort
use Rattle.jdata.specs.declared.noun.Atom.{Atom, out-Atom}
use Rattle.jdata.specs.declared.noun.Atom.TheVariants as atom
use Rattle.jdata.proofs.Extents.{product-append, product_at_most, parts_are_within}
use Rattle.jselect.specs.Items.{item_count, list_axes}
use Rattle.jselect.specs.Listing.{items_named}
use Rattle.jselect.proofs.Choices.{chosen, otherwise}
use Rattle.jsearch.specs.Finding.{item}
use Rattle.jsearch.specs.Grades.{in_order, numbers_graded, items_in, HasItems, GradedAs}
use Rattle.jsearch.specs.Listed.{whole, cell_count}
use Rattle.jsearch.specs.Order.{has_order, number_of, numbers_in, by_keys, in_direction, lists_in}
use Rattle.jsearch.specs.Steps.{place_list}
use Rattle.jsearch.specs.declared.cells.Cells.{Cells}
use Rattle.jsearch.specs.declared.ordering.Direction.{Direction}
use Rattle.jsearch.specs.declared.ordering.Direction.TheVariants.{Rising, Falling}
use Rattle.jsearch.proofs.Alike.{numbers_of_part}
use Rattle.jsearch.proofs.Made.{places_made}
use Rattle.jsearch.proofs.OneGrade.{graded_is}
use Rattle.jsearch.proofs.OrderLaws.{by_keys_strict, lists_in_total}

-- an order by the numbers of items is that by equal keys
same_order : (d : Direction) (y : Noun) (key : ℕ → List ℤ) → ((p : ℕ) → numbers_in (item y p) ≡ key p) → by_keys (lists_in d) key ≡ in_direction d y
same_order Rising y key same = λ i p q. ordering_then (slice_cmp int_cmp (sym (same p) i) (sym (same q) i)) (nat_cmp p q)
same_order Falling y key same = λ i p q. ordering_then (slice_cmp int_cmp (sym (same q) i) (sym (same p) i)) (nat_cmp p q)

grade_length : (d : Direction) (key : ℕ → List ℤ) (n : ℕ) → length (in_order (by_keys (lists_in d) key) n) ≡ n
grade_length d key n =
    let this = graded_is (by_keys (lists_in d) key) (by_keys_strict (lists_in d) key (lists_in_total d)).total n in
    length_permutation (range_with_len 0 n) (in_order (by_keys (lists_in d) key) n) this.all ∙ length-range_with_len 0 n

-- of an array in which atoms of one kind stand
pub graded_by : {T : Type 0} (kind_of : T → Atom) (number : T → ℤ) → ((t : T) → number_of (out-Atom (kind_of t)) ≡ number t) → (d : Direction) (y : Noun) (ts : List T) (size count : ℕ) (r : Result (List ℤ) Trouble) (l : List ℤ) →
    HasItems y size count → has_order y ≡ true → atoms y ≡ map kind_of ts → count ≤ most_atoms → r ≡ Ok l →
    l ≡ map pos (in_order (by_keys (lists_in d) (λ p. map number (take size (drop (p * size) ts)))) count) → GradedAs (in_direction d) y r
graded_by {T} kind_of number each d y ts size count r l has order these few ok are =
    let key : ℕ → List ℤ = λ p. map number (take size (drop (p * size) ts)) in
    let item_size = product (drop 1 (list_axes (shape y))) in
    let same : (p : ℕ) → numbers_in (item y p) ≡ key p =
    λ p. ap (λ a. map (λ b. number_of (out-Atom b)) (take item_size (drop (p * item_size) a))) these ∙ numbers_of_part kind_of number each ts item_size (p * item_size)
    ∙ (λ i. map number (take (sym has.size_is i) (drop (p * sym has.size_is i) ts))) in
    let meant : numbers_graded (in_direction d) y ≡ Ok l =
    ap (λ g. and_then g (λ places. Ok (map pos places))) (chosen (has_order y) (Ok (in_order (in_direction d y) (item_count y))) (Err fault.Nonce) order)
    ∙ ap Ok (sym (are ∙ (λ i. map pos (in_order (same_order d y key same i) (has.count_is i))))) in
    let long : length l ≡ count = ap length are ∙ length-map (in_order (by_keys (lists_in d) key) count) pos ∙ grade_length d key count in
    subst (GradedAs (in_direction d) y) (sym ok) (record { places = meant; few = subst (λ n. n ≤ most_atoms) (sym long) few })

pub not_graded : (order : Noun → ℕ → ℕ → Ordering) (y : Noun) (r : Result (List ℤ) Trouble) → has_order y ≡ false → r ≡ Err (trouble.Fault fault.Nonce) → GradedAs order y r
not_graded order y r none wrong =
    subst (GradedAs order y) (sym wrong)
    (record { places = ap (λ g. and_then g (λ places. Ok (map pos places))) (otherwise (has_order y) (Ok (in_order (order y) (item_count y))) (Err fault.Nonce) none); few = tt })

pub no_memory : (order : Noun → ℕ → ℕ → Ordering) (y : Noun) (r : Result (List ℤ) Trouble) → r ≡ Err trouble.NoMemory → GradedAs order y r
no_memory order y r e = subst (GradedAs order y) (sym e) (record { places = tt; few = tt })

-- which arrays have an order
either : (a b : Bool) → a ≡ true → a || b ≡ true
either true b e = refl
either false b e = cc

other : (a b : Bool) → b ≡ true → a || b ≡ true
other true b e = refl
other false b e = e

kind_matches : (k : Kind) (l : List Atom) → kinds_match sort.Int sort.Int l ≡ true
kind_matches k [] = refl
kind_matches k (a ∷ l) = refl

char_matches : (l : List Atom) → kinds_match sort.Char sort.Char l ≡ true
char_matches [] = refl
char_matches (a ∷ l) = refl

pub integers_have_order : (y : Noun) → kind y ≡ sort.Int → has_order y ≡ true
integers_have_order y e = either (is_of_kind sort.Int y) (is_of_kind sort.Char y) (ap (λ k. kinds_match k sort.Int (atoms y)) e ∙ kind_matches sort.Int (atoms y))

pub characters_have_order : (y : Noun) → kind y ≡ sort.Char → has_order y ≡ true
characters_have_order y e = other (is_of_kind sort.Int y) (is_of_kind sort.Char y) (ap (λ k. kinds_match k sort.Char (atoms y)) e ∙ char_matches (atoms y))

nothing_matches : (k m : Kind) (l : List Atom) → length l ≡ 0 → kinds_match k m l ≡ true
nothing_matches k m [] e = refl
nothing_matches k m (a ∷ l) e = absurd (omega arith)

pub nothing_has_order : (y : Noun) → length (atoms y) ≡ 0 → has_order y ≡ true
nothing_has_order y e = either (is_of_kind sort.Int y) (is_of_kind sort.Char y) (nothing_matches (kind y) sort.Int (atoms y) e)

neither : (l : List Atom) → 0 < length l → kinds_match sort.Boxed sort.Int l || kinds_match sort.Boxed sort.Char l ≡ false
neither [] e = absurd (omega arith)
neither (a ∷ l) e = refl

pub boxes_have_none : (y : Noun) → kind y ≡ sort.Boxed → 0 < length (atoms y) → has_order y ≡ false
boxes_have_none y e some = ap (λ k. kinds_match k sort.Int (atoms y) || kinds_match k sort.Char (atoms y)) e ∙ neither (atoms y) some

pub nothing_is : {T : Type 0} (kind_of : T → Atom) (y : Noun) (n : ℕ) → length (atoms y) ≡ n → n ≡ 0 → atoms y ≡ map kind_of []
nothing_is kind_of y n e none = empty (atoms y) (e ∙ none)
  where
    empty : (l : List Atom) → length l ≡ 0 → l ≡ []
    empty [] h = refl
    empty (a ∷ l) h = absurd (omega arith)

-- the answers of grade and sort
pub grade_refused : {B C : Type 0} (h : List ℕ → B) (g : List ℕ → Result C Fault) (r : Result (List ℕ) Fault) (t : Trouble) → Answers (and_then r (λ l. Ok (h l))) (Err t) → Answers (and_then r g) (Err t)
grade_refused h g r trouble.NoMemory a = tt
grade_refused h g (Ok l) (trouble.Fault f) a = cc
grade_refused h g (Err e) (trouble.Fault f) a = let same : e ≡ f = cc in ap Err same

pub grade_given : (r : Result (List ℕ) Fault) (l : List ℤ) (axes : List ℕ) (t : Noun) → and_then r (λ places. Ok (map pos places)) ≡ Ok l → axes ≡ length l ∷ [] → t ≡ noun axes sort.Int (map atom.Int l) → and_then r (λ places. Ok (place_list places)) ≡ Ok t
grade_given (Ok places) l axes t e shape_is is =
    let same : map pos places ≡ l = cc in
    let long : length l ≡ length places = ap length (sym same) ∙ length-map places pos in
    ap Ok (places_made places axes l (shape_is ∙ ap (λ n. n ∷ []) long) (sym same) ∙ sym is)
grade_given (Err why) l axes t e shape_is is = cc

pub sort_given : (x : Noun) (r : Result (List ℕ) Fault) (l : List ℤ) → and_then r (λ places. Ok (map pos places)) ≡ Ok l → and_then r (items_in x) ≡ items_named (length l ∷ []) l x
sort_given x (Ok places) l e =
    let same : map pos places ≡ l = cc in
    let long : length places ≡ length l = sym (length-map places pos) ∙ ap length same in
    (λ i. items_named (long i ∷ []) (same i) x)
sort_given x (Err why) l e = cc

pub one_axis_is_shape : (n : ℕ) → n ≤ most_atoms → IsShape (n ∷ [])
one_axis_is_shape n few = record { rank = omega arith; extent_at_most = omega arith }

-- the atoms of cells
pub cells_whole : (c : Cells) (size count : ℕ) → IsArray (whole c) → count ≡ cell_count c → size ≡ product (drop c.frame c.axes.now) → count * size ≡ length (atoms (whole c))
cells_whole c size count array counted sized =
    (λ i. counted i * sized i) ∙ sym (product-append (take c.frame c.axes.now) (drop c.frame c.axes.now)) ∙ ap product (take-append-drop c.frame c.axes.now) ∙ sym array.whole

pub cells_few : (c : Cells) (count : ℕ) → IsArray (whole c) → count ≡ cell_count c → count ≤ most_atoms
cells_few c count array counted =
    let small = (parts_are_within c.frame c.axes.now).0 in
    let most = product_at_most (take c.frame c.axes.now) in
    let bound = array.within.extent_at_most in
    omega (arith, counted, small, most, bound)
