-- Binary digits place by place.
use Rattle.std.specs.Prelude.{ℕ, ◌+◌, ◌*◌, ◌<◌, ◌≡◌, max, ℤ, pos, true, false, Err, List, [], ◌∷◌, ◌++◌, length, map, take, get_or}
use Rattle.std.specs.List.{range_with_len, list_all}
use Rattle.std.proofs.Common.{arith, sym, ◌∙◌, ap, refl, w64, of_z, to_z}
use mir.Val.{SFits}
use Rattle.std.proofs.lemmas.Int.{to_z-of_z}
use Rattle.std.proofs.lemmas.List.{map-append, length-map, take_more}
use Rattle.std.proofs.lemmas.List.FromFn.{map-range_with_len_more, length-map-range_with_len}
use Rattle.jdata.specs.Limits.{limited}
use Rattle.jdata.specs.Noun.{noun, shape, atoms, product, greatest}
use Rattle.jdata.specs.declared.fault.Fault.TheVariants as fault
use Rattle.jdata.specs.declared.noun.Noun.{Noun}
use Rattle.jdata.specs.declared.noun.Kind.TheVariants as sort
use Rattle.jdata.specs.declared.noun.Atom.TheVariants as atom
use Rattle.jdata.proofs.Extents.{product-append}
use Rattle.jarray.specs.Numbers.{is_integers}
use Rattle.jselect.specs.Arguments.{is_count, count_of}
use Rattle.jselect.proofs.Copied.{integers_are}
use Rattle.jradix.specs.Digits.{bits, width, bit_of, bit_table, binary}

-- the number at the next place
pub pushed : (f : ℕ → ℤ) (k : ℕ) (n : ℤ) (l longer : List ℤ) → SFits w64 n → longer ≡ l ++ to_z w64 (of_z w64 n) ∷ [] → n ≡ f k →
    l ≡ map f (range_with_len 0 k) → longer ≡ map f (range_with_len 0 (k + 1))
pushed f k n l longer fits e at was =
    e ∙ (λ i. was i ++ (to_z-of_z w64 n fits ∙ at) i ∷ []) ∙ sym (map-range_with_len_more f 0 k k (omega arith))

greatest_last : (l : List ℕ) (x : ℕ) → greatest (l ++ x ∷ []) ≡ max (greatest l) x
greatest_last [] x = omega arith
greatest_last (y ∷ l) x = omega (arith, greatest_last l x)

abbrev bits_in : List ℤ → List ℕ
bits_in = map (λ z. bits (count_of z))

-- the width with one number more
pub wider_by : (numbers : List ℤ) (i before here after : ℕ) → i < length numbers → before ≡ max 1 (greatest (bits_in (take i numbers))) → here ≡ bits (count_of (get_or numbers i (pos 0)))
    → after ≡ max before here → after ≡ max 1 (greatest (bits_in (take (i + 1) numbers)))
wider_by numbers i before here after below was this e =
    let last : greatest (bits_in (take (i + 1) numbers)) ≡ max (greatest (bits_in (take i numbers))) (bits (count_of (get_or numbers i (pos 0)))) =
    ap (λ l. greatest (bits_in l)) (take_more numbers i (pos 0) below)
    ∙ ap greatest (map-append (λ z. bits (count_of z)) (take i numbers) (get_or numbers i (pos 0) ∷ []))
    ∙ greatest_last (bits_in (take i numbers)) (bits (count_of (get_or numbers i (pos 0)))) in
    omega (arith, last, was, this, e)

pub one_more_axis : (axes : List ℕ) (k : ℕ) → product (axes ++ k ∷ []) ≡ product axes * k
one_more_axis axes k =
    let one : product (k ∷ []) ≡ k = omega arith in
    product-append axes (k ∷ []) ∙ ap (λ n. product axes * n) one

map-map : {A B C : Type 0} (f : B → C) (h : A → B) (l : List A) → map f (map h l) ≡ map (λ x. f (h x)) l
map-map f h [] = refl
map-map f h (x ∷ l) = ap (λ r. f (h x) ∷ r) (map-map f h l)

-- the table by its digits
pub table_made : (axes : List ℕ) (numbers : List ℤ) (k kept count : ℕ) (s : List ℕ) (things : List ℤ) → kept ≡ k → s ≡ axes ++ kept ∷ [] → count ≡ product s → things ≡ map (bit_of numbers kept) (range_with_len 0 count) →
    bit_table axes numbers k ≡ noun s sort.Int (map atom.Int things)
table_made axes numbers k kept count s things same e all these =
    ap (bit_table axes numbers) (sym same)
    ∙ (λ i. noun (sym e i) sort.Int (map (λ p. atom.Int (bit_of numbers kept p)) (range_with_len 0 (product (sym e i)))))
    ∙ ap (noun s sort.Int)
    (ap (λ n. map (λ p. atom.Int (bit_of numbers kept p)) (range_with_len 0 n)) (sym all) ∙ sym (map-map atom.Int (bit_of numbers kept) (range_with_len 0 count)) ∙ ap (map atom.Int) (sym these))

pub table_whole : (f : ℕ → ℤ) (count : ℕ) (s : List ℕ) (things : List ℤ) → count ≡ product s → things ≡ map f (range_with_len 0 count) → length (map atom.Int things) ≡ product s
table_whole f count s things all these = length-map things atom.Int ∙ ap length these ∙ length-map-range_with_len f 0 count ∙ all

pub table_count : (axes : List ℕ) (numbers : List ℤ) (kept count : ℕ) (s : List ℕ) → s ≡ axes ++ kept ∷ [] → count ≡ product s → length numbers ≡ product axes → count ≡ length numbers * kept
table_count axes numbers kept count s e all whole = all ∙ ap product e ∙ one_more_axis axes kept ∙ ap (λ n. n * kept) (sym whole)

-- what the numbers of an argument give
pub binary_by : (y : Noun) (numbers : List ℤ) (axes : List ℕ) → is_integers y ≡ true → map atom.Int numbers ≡ atoms y → list_all is_count numbers ≡ true → axes ≡ shape y →
    limited (bit_table axes numbers (width numbers)) ≡ binary y
unfolding binary
binary_by y numbers axes whole these counts e = rw (whole, integers_are y numbers these, counts, sym e) refl

pub no_counts : (y : Noun) (numbers : List ℤ) → is_integers y ≡ true → map atom.Int numbers ≡ atoms y → list_all is_count numbers ≡ false → binary y ≡ Err fault.Nonce
unfolding binary
no_counts y numbers whole these counts = rw (whole, integers_are y numbers these, counts) refl

pub no_binary : (y : Noun) → is_integers y ≡ false → binary y ≡ Err fault.Domain
unfolding binary
no_binary y e = rw e refl

pub numbers_whole : (y : Noun) (numbers : List ℤ) (axes : List ℕ) → map atom.Int numbers ≡ atoms y → length (atoms y) ≡ product (shape y) → axes ≡ shape y → length numbers ≡ product axes
numbers_whole y numbers axes these whole e = sym (length-map numbers atom.Int) ∙ ap length these ∙ whole ∙ ap product (sym e)
