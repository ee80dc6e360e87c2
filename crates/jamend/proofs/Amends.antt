-- What amending gives, case by case in the order of refusals.
use Rattle.std.specs.Prelude.{ℕ, ℤ, ◌<◌, ◌≤◌, ◌≡◌, nat_lt, if◌then◌else◌, Bool, true, false, Option, Some, None, Result, Ok, Err, List, [], ◌∷◌, ◌++◌, length, map, drop}
use Rattle.std.proofs.Common.{sym, ◌∙◌, ap, refl}
use Rattle.std.proofs.lemmas.Bool.{lt-ltb, le-ltb}
use Rattle.jdata.specs.Answers.{Answers}
use Rattle.jdata.specs.Firsts.{all_or_first, and_then}
use Rattle.jdata.specs.Noun.{shape, atoms, product}
use Rattle.jdata.specs.declared.fault.Fault.{Fault}
use Rattle.jdata.specs.declared.fault.Fault.TheVariants as fault
use Rattle.jdata.specs.declared.fault.Trouble.{Trouble}
use Rattle.jdata.specs.declared.fault.Trouble.TheVariants as trouble
use Rattle.jdata.specs.declared.noun.Noun.{Noun}
use Rattle.jdata.specs.declared.noun.Atom.TheVariants as atom
use Rattle.jarray.specs.Numbers.{is_integers}
use Rattle.jselect.specs.Arguments.{integers_in}
use Rattle.jselect.specs.Items.{item_axes, item_count}
use Rattle.jselect.specs.Places.{place_in}
use Rattle.jselect.proofs.Choices.{chosen, otherwise}
use Rattle.jselect.proofs.Copied.{integers_are}
use Rattle.jamend.specs.Amended.{kinds_agree, shape_fault, or_fault, with_cells, items_amended, cell_number, cell_amended, amended}
use Rattle.jamend.specs.Naming.{cell_numbers}

-- what m is
pub by_items : (x m y : Noun) (l : List ℤ) → is_integers m ≡ true → map atom.Int l ≡ atoms m → amended x m y ≡ items_amended x (shape m) l y
unfolding amended
by_items x m y l integers e =
    chosen (is_integers m) (items_amended x (shape m) (integers_in m) y) _ integers ∙ ap (λ n. items_amended x (shape m) n y) (integers_are m l e)

by_cell : (x m y : Noun) (r : Result (List ℤ) Fault) → is_integers m ≡ false → cell_numbers (shape m) (atoms m) ≡ r → amended x m y ≡ and_then r (λ numbers. cell_amended x numbers y)
unfolding amended
by_cell x m y r integers e =
    otherwise (is_integers m) (items_amended x (shape m) (integers_in m) y) _ integers ∙ ap (λ n. and_then n (λ numbers. cell_amended x numbers y)) e

pub by_one_cell : (x m y : Noun) (l : List ℤ) → is_integers m ≡ false → cell_numbers (shape m) (atoms m) ≡ Ok l → amended x m y ≡ cell_amended x l y
by_one_cell x m y l integers e = by_cell x m y (Ok l) integers e

pub by_nothing : (x m y : Noun) (why : Fault) → is_integers m ≡ false → cell_numbers (shape m) (atoms m) ≡ Err why → amended x m y ≡ Err why
by_nothing x m y why integers e = by_cell x m y (Err why) integers e

-- items
pub items_of_kinds : (x y : Noun) (axes : List ℕ) (l : List ℤ) → kinds_agree x y ≡ false → items_amended x axes l y ≡ Err fault.Domain
unfolding items_amended
items_of_kinds x y axes l h = otherwise (kinds_agree x y) _ (Err fault.Domain) h

abbrev items_made : Noun → Noun → Result (List ℕ) Fault → Result Noun Fault
items_made x y r = and_then r (λ cells. Ok (with_cells x y (product (item_axes y)) cells))

items_by : (x y : Noun) (axes : List ℕ) (l : List ℤ) (o : Option Fault) (r : Result (List ℕ) Fault) → kinds_agree x y ≡ true → shape_fault (axes ++ item_axes y) (shape x) ≡ o →
    all_or_first (map (place_in (item_count y)) l) ≡ r → items_amended x axes l y ≡ or_fault o (items_made x y r)
unfolding items_amended
items_by x y axes l o r h e f =
    chosen (kinds_agree x y) (or_fault (shape_fault (axes ++ item_axes y) (shape x)) (items_made x y (all_or_first (map (place_in (item_count y)) l)))) (Err fault.Domain) h
    ∙ (λ i. or_fault (e i) (items_made x y (f i)))

pub items_of_shape : (x y : Noun) (axes : List ℕ) (l : List ℤ) (why : Fault) → kinds_agree x y ≡ true → shape_fault (axes ++ item_axes y) (shape x) ≡ Some why →
    items_amended x axes l y ≡ Err why
items_of_shape x y axes l why h e = items_by x y axes l (Some why) (all_or_first (map (place_in (item_count y)) l)) h e refl

pub items_replaced : (x y : Noun) (axes : List ℕ) (l : List ℤ) (cells : List ℕ) → kinds_agree x y ≡ true → shape_fault (axes ++ item_axes y) (shape x) ≡ None →
    all_or_first (map (place_in (item_count y)) l) ≡ Ok cells → items_amended x axes l y ≡ Ok (with_cells x y (product (item_axes y)) cells)
items_replaced x y axes l cells h e f = items_by x y axes l None (Ok cells) h e f

pub items_stop : (x y : Noun) (axes : List ℕ) (l : List ℤ) (n : ℕ) (t : Trouble) → kinds_agree x y ≡ true → shape_fault (axes ++ item_axes y) (shape x) ≡ None → n ≡ item_count y →
    Answers {Value = List ℕ} (all_or_first (map (place_in n) l)) (Err t) → Answers {Value = Noun} (items_amended x axes l y) (Err t)
items_stop x y axes l n (trouble.Fault why) h e m f = items_by x y axes l None (Err why) h e (ap (λ k. all_or_first (map (place_in k) l)) (sym m) ∙ f)
items_stop x y axes l n trouble.NoMemory h e m f = tt

-- one cell
pub cell_of_kinds : (x y : Noun) (l : List ℤ) → kinds_agree x y ≡ false → cell_amended x l y ≡ Err fault.Domain
unfolding cell_amended
cell_of_kinds x y l h = otherwise (kinds_agree x y) _ (Err fault.Domain) h

abbrev cell_made : Noun → Noun → List ℤ → Result ℕ Fault → Result Noun Fault
cell_made x y l r = and_then r (λ cell. Ok (with_cells x y (product (drop (length l) (shape y))) (cell ∷ [])))

abbrev cell_fitted : Noun → Noun → List ℤ → Bool → Option Fault → Result ℕ Fault → Result Noun Fault
cell_fitted x y l b o r = if b then Err fault.Length else or_fault o (cell_made x y l r)

cell_by : (x y : Noun) (l : List ℤ) (b : Bool) (o : Option Fault) (r : Result ℕ Fault) → kinds_agree x y ≡ true → nat_lt (length (shape y)) (length l) ≡ b →
    shape_fault (drop (length l) (shape y)) (shape x) ≡ o → cell_number (shape y) l ≡ r → cell_amended x l y ≡ cell_fitted x y l b o r
unfolding cell_amended
cell_by x y l b o r h t e f =
    chosen (kinds_agree x y) (cell_fitted x y l (nat_lt (length (shape y)) (length l)) (shape_fault (drop (length l) (shape y)) (shape x)) (cell_number (shape y) l)) (Err fault.Domain) h
    ∙ (λ i. cell_fitted x y l (t i) (e i) (f i))

pub cell_too_many : (x y : Noun) (l : List ℤ) → kinds_agree x y ≡ true → length (shape y) < length l → cell_amended x l y ≡ Err fault.Length
cell_too_many x y l h many =
    cell_by x y l true (shape_fault (drop (length l) (shape y)) (shape x)) (cell_number (shape y) l) h (lt-ltb (length (shape y)) (length l) many) refl refl

pub cell_of_shape : (x y : Noun) (l : List ℤ) (why : Fault) → kinds_agree x y ≡ true → length l ≤ length (shape y) → shape_fault (drop (length l) (shape y)) (shape x) ≡ Some why →
    cell_amended x l y ≡ Err why
cell_of_shape x y l why h few e = cell_by x y l false (Some why) (cell_number (shape y) l) h (le-ltb (length (shape y)) (length l) few) e refl

pub cell_not_there : (x y : Noun) (l : List ℤ) (why : Fault) → kinds_agree x y ≡ true → length l ≤ length (shape y) → shape_fault (drop (length l) (shape y)) (shape x) ≡ None →
    cell_number (shape y) l ≡ Err why → cell_amended x l y ≡ Err why
cell_not_there x y l why h few e f = cell_by x y l false None (Err why) h (le-ltb (length (shape y)) (length l) few) e f

pub cell_replaced : (x y : Noun) (l : List ℤ) (cell : ℕ) → kinds_agree x y ≡ true → length l ≤ length (shape y) → shape_fault (drop (length l) (shape y)) (shape x) ≡ None →
    cell_number (shape y) l ≡ Ok cell → cell_amended x l y ≡ Ok (with_cells x y (product (drop (length l) (shape y))) (cell ∷ []))
cell_replaced x y l cell h few e f = cell_by x y l false None (Ok cell) h (le-ltb (length (shape y)) (length l) few) e f
