-- The answers of an interval index.
use Rattle.std.specs.Prelude.{ℕ, ◌≡◌, ◌&&◌, ◌||◌, nat_le, ℤ, pos, Bool, true, false, List, length, map, Ok, Err}
use Rattle.std.proofs.Common.{sym, ◌∙◌, ap, refl}
use Rattle.std.proofs.lemmas.List.{length-map}
use Rattle.jdata.specs.Limits.{IsArray}
use Rattle.jdata.specs.Noun.{noun, shape, atoms, product}
use Rattle.jdata.specs.declared.fault.Fault.TheVariants as fault
use Rattle.jdata.specs.declared.noun.Noun.{Noun}
use Rattle.jdata.specs.declared.noun.Kind.TheVariants as sort
use Rattle.jdata.specs.declared.noun.Atom.TheVariants as atom
use Rattle.jarray.specs.Numbers.{is_integers}
use Rattle.jselect.specs.Arguments.{integers_in}
use Rattle.jselect.proofs.Choices.{chosen, otherwise, both}
use Rattle.jselect.proofs.Copied.{integers_are}
use Rattle.jsearch.specs.Intervals.{before, rises, falls, is_in_order, interval_index}
use Rattle.jsearch.proofs.KeyLists.{map-map}

not_both : (a b : Bool) → b ≡ false → a && b ≡ false
not_both true b e = e
not_both false b e = refl

not_first : (a b : Bool) → a ≡ false → a && b ≡ false
not_first true b e = cc
not_first false b e = refl

pub no_bounds : (x y : Noun) → is_in_order x ≡ false → interval_index x y ≡ Err fault.Domain
unfolding interval_index
no_bounds x y e = otherwise (is_integers y && is_in_order x) _ (Err fault.Domain) (not_both (is_integers y) (is_in_order x) e)

pub no_numbers : (x y : Noun) → is_integers y ≡ false → interval_index x y ≡ Err fault.Domain
unfolding interval_index
no_numbers x y e = otherwise (is_integers y && is_in_order x) _ (Err fault.Domain) (not_first (is_integers y) (is_in_order x) e)

-- whether a list is in order, by its numbers
pub in_order_by : (x : Noun) (axes : List ℕ) (l : List ℤ) → axes ≡ shape x → is_integers x ≡ true → map atom.Int l ≡ atoms x → (nat_le (length axes) 1 && (rises l || falls l)) ≡ is_in_order x
in_order_by x axes l same ints e =
    (λ i. nat_le (length (same i)) 1 && (rises (sym (integers_are x l e) i) || falls (sym (integers_are x l e) i)))
    ∙ ap (λ b. b && (nat_le (length (shape x)) 1 && (rises (integers_in x) || falls (integers_in x)))) (sym ints)

pub never_in_order : (x : Noun) → is_integers x ≡ false → is_in_order x ≡ false
never_in_order x e = not_first (is_integers x) (nat_le (length (shape x)) 1 && (rises (integers_in x) || falls (integers_in x))) e

pub counts_made : (x y t : Noun) (xs ys counts : List ℤ) (axes : List ℕ) → is_in_order x ≡ true → is_integers y ≡ true → map atom.Int xs ≡ atoms x → map atom.Int ys ≡ atoms y → axes ≡ shape y →
    counts ≡ map (λ n. pos (before xs n)) ys → t ≡ noun axes sort.Int (map atom.Int counts) → interval_index x y ≡ Ok t
unfolding interval_index
counts_made x y t xs ys counts axes ordered ints these those same are is =
    chosen (is_integers y && is_in_order x) (Ok (noun (shape y) sort.Int (map (λ n. atom.Int (pos (before (integers_in x) n))) (integers_in y)))) (Err fault.Domain) (both (is_integers y) (is_in_order x) ints ordered)
    ∙ ap Ok
    ((λ i. noun (sym same i) sort.Int (map (λ n. atom.Int (pos (before (integers_are x xs these i) n))) (integers_are y ys those i)))
    ∙ ap (noun axes sort.Int) (sym (map-map atom.Int (λ n. pos (before xs n)) ys) ∙ ap (map atom.Int) (sym are)) ∙ sym is)

pub counts_whole : (y : Noun) (ys counts : List ℤ) (axes : List ℕ) (f : ℤ → ℤ) → IsArray y → map atom.Int ys ≡ atoms y → counts ≡ map f ys → axes ≡ shape y → length counts ≡ product axes
counts_whole y ys counts axes f array those are same =
    ap length are ∙ length-map ys f ∙ sym (length-map ys atom.Int) ∙ ap length those ∙ array.whole ∙ ap product (sym same)
