-- What integers name, cell by cell, is their items at once.
use Rattle.std.proofs.Common.{◌≡◌, ◌≢◌, ℕ, ◌+◌, ◌-◌, ◌*◌, ◌<◌, ◌≤◌, ℤ, pos, List, [], ◌∷◌, ◌++◌, map, length, take, drop, get_or, Option, Some, None, Result, Ok, Err, refl, sym, ap, subst, ◌∙◌, arith}
use Rattle.std.specs.List.{All, flat_map, range_with_len}
use Rattle.std.proofs.lemmas.List.{get_or-map, length-map, take_all, drop_all}
use Rattle.std.proofs.lemmas.List.Elements.{All-head, All-tail}
use Rattle.std.proofs.lemmas.List.FromFn.{fill_by_all}
use Rattle.jdata.specs.Fills.{fill_of}
use Rattle.jdata.specs.Firsts.{all_or_first, and_then}
use Rattle.jdata.specs.Limits.{limited, IsArray}
use Rattle.jdata.specs.Noun.{shape, kind, atoms, noun, product}
use Rattle.jdata.specs.declared.fault.Fault.{Fault}
use Rattle.jdata.specs.declared.noun.Noun.{Noun}
use Rattle.jdata.specs.declared.noun.Atom.{Atom}
use Rattle.jdata.specs.declared.noun.Atom.TheVariants as atom
use Rattle.jframe.specs.Assembly.{assembled}
use Rattle.jframe.specs.Cells.{Parted, parted, nth_cell}
use Rattle.jframe.specs.Ranks.{at_ranks}
use Rattle.jframe.proofs.Alike.{AreAlike, assembled_alike}
use Rattle.jselect.specs.From.{selected, named_by_first, cell_named}
use Rattle.jselect.specs.Items.{as_list, item_axes, item_count}
use Rattle.jselect.specs.Listing.{items_named}
use Rattle.jselect.specs.Picking.{runs}
use Rattle.jselect.specs.Places.{place_in}
use Rattle.jselect.proofs.Named.{by_integer}
use Rattle.jselect.proofs.NamedItems.{item_of, item_is_array, each_named, places_are, PlacesAre, named_made, named_wrong}
use Rattle.jprim.proofs.WithWhole.{look_is, same_places, of_each}

-- a cell of rank 0 of integers is one of them
alone_at : (x : Noun) (l : List ℤ) (i : ℕ) → map atom.Int l ≡ atoms x → i < length l → atoms (nth_cell [] x i) ≡ map atom.Int (get_or l i (pos 0) ∷ [])
unfolding nth_cell
alone_at x l i e h =
    let place : i * 1 + 0 ≡ i = omega arith in
    ap (λ p. get_or (atoms x) p (fill_of (kind x)) ∷ []) place
    ∙ ap (λ a. get_or a i (fill_of (kind x)) ∷ []) (sym e)
    ∙ ap (λ a. a ∷ []) (get_or-map atom.Int l i (pos 0) (fill_of (kind x)) h)

one_named : (x y : Noun) (l : List ℤ) (i : ℕ) → map atom.Int l ≡ atoms x → i < length l → selected (nth_cell [] x i) y ≡ cell_named (get_or l i (pos 0) ∷ []) (as_list y)
unfolding selected
one_named x y l i e h = ap (λ a. named_by_first a y) (alone_at x l i e h) ∙ by_integer (get_or l i (pos 0) ∷ []) y (omega arith)

-- one after another
all_named : (x y : Noun) (l : List ℤ) → map atom.Int l ≡ atoms x → of_each selected [] x y (length l) ≡ all_or_first (map (λ m. cell_named (m ∷ []) (as_list y)) l)
all_named x y l e =
    let named : ℤ → Result Noun Fault = λ m. cell_named (m ∷ []) (as_list y) in
    let at : ℕ → Result Noun Fault = λ i. named (get_or l i (pos 0)) in
    let whole = fill_by_all at (map named l) (length l) (named (pos 0)) (length-map l named) (λ i below. get_or-map named l i (pos 0) (named (pos 0)) (omega (arith, below, length-map l named))) in
    ap all_or_first (same_places (λ i. selected (nth_cell [] x i) y) at 0 (length l) (λ i low high. one_named x y l i e (omega arith)) ∙ sym whole)

alike_items : (y : Noun) (ps : List ℕ) → IsArray y → All (λ p. p < item_count y) ps → AreAlike (item_axes y) (kind y) (map (item_of y) ps)
alike_items y [] a h = tt
alike_items y (p ∷ ps) a h =
    (refl, refl, item_is_array y p a (All-head (λ q. q < item_count y) p ps h), alike_items y ps a (All-tail (λ q. q < item_count y) p ps h))

all_runs : (y : Noun) (ps : List ℕ) → flat_map (λ v. atoms v) (map (item_of y) ps) ≡ runs (product (item_axes y)) (atoms y) ps
unfolding runs
all_runs y [] = refl
all_runs y (p ∷ ps) = ap (λ l. take (product (item_axes y)) (drop (p * product (item_axes y)) (atoms y)) ++ l) (all_runs y ps)

assembled_items : (y : Noun) (frame ps : List ℕ) → IsArray y → All (λ p. p < item_count y) ps → product frame ≡ length ps → 1 ≤ length ps →
    assembled frame (map (item_of y) ps) ≡ limited (noun (frame ++ item_axes y) (kind y) (runs (product (item_axes y)) (atoms y) ps))
assembled_items y frame [] a h many some = absurd (omega arith)
assembled_items y frame (p ∷ ps) a h many some =
    assembled_alike frame (item_axes y) (kind y) (item_of y p) (map (item_of y) ps) (alike_items y (p ∷ ps) a h) (omega (arith, many, length-map ps (item_of y)))
    ∙ ap (λ l. limited (noun (frame ++ item_axes y) (kind y) l)) (all_runs y (p ∷ ps))

assembled_named : (y : Noun) (frame : List ℕ) (l : List ℤ) (r : Result (List ℕ) Fault) → IsArray y → all_or_first (map (place_in (item_count y)) l) ≡ r →
    product frame ≡ length l → 1 ≤ length l → and_then (and_then r (λ ps. Ok (map (item_of y) ps))) (assembled frame) ≡ items_named frame l y
assembled_named y frame l (Ok ps) a e many some =
    let are : PlacesAre (item_count y) l ps = places_are (item_count y) l ps e in
    assembled_items y frame ps a are.1 (omega (arith, many, are.0)) (omega (arith, some, are.0)) ∙ sym (named_made frame l y ps e)
assembled_named y frame l (Err why) a e many some = sym (named_wrong frame l y why e)

whole_frame : (x : Noun) → record { frame = shape x; cell = [] } ≡ parted (Some (pos 0)) (shape x)
whole_frame x =
    let all : length (shape x) - 0 ≡ length (shape x) = omega arith in
    λ i. record {
      frame = sym (ap (λ n. take n (shape x)) all ∙ take_all (length (shape x)) (shape x) (omega arith)) i;
      cell = sym (ap (λ n. drop n (shape x)) all ∙ drop_all (length (shape x)) (shape x) (omega arith)) i;
    }

pub items_are : (x y : Noun) (l : List ℤ) → IsArray x → IsArray y → map atom.Int l ≡ atoms x → 1 ≤ length l →
    at_ranks (Some (pos 0)) None selected x y ≡ items_named (shape x) l y
items_are x y l a b e some =
    let many : product (shape x) ≡ length l = omega (arith, a.whole, ap length e, length-map l atom.Int) in
    let filled : product (shape x) ≢ 0 = λ z. omega (arith, some, many, z) in
    look_is (Some (pos 0)) selected x y (record { frame = shape x; cell = [] }) (whole_frame x) b filled
    ∙ ap (λ n. and_then (of_each selected [] x y n) (assembled (shape x))) many
    ∙ ap (λ r. and_then r (assembled (shape x))) (all_named x y l e ∙ each_named y l b)
    ∙ assembled_named y (shape x) l (all_or_first (map (place_in (item_count y)) l)) b refl many some
