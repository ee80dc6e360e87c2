-- A verb between numbers and one more in front of them all.
use Rattle.std.proofs.Common.{◌≡◌, ℕ, ◌<◌, List, [], ◌∷◌, ◌++◌, length, map, get_or, Some, None, Option, Result, Ok, Err, refl, sym, ap, ◌∙◌, arith, pos}
use Rattle.std.specs.List.{Contains, range_with_len}
use Rattle.std.proofs.lemmas.List.{length-map, get_or-map}
use Rattle.std.proofs.lemmas.List.FromFn.{get_or-map-range_with_len, length-map-range_with_len, fill_by_all}
use Rattle.std.specs.Prelude.{ℤ}
use Rattle.jdata.specs.declared.fault.Fault.{Fault}
use Rattle.jfold.specs.Folded.{on_number, between, of_back}

abbrev pub value_of : Result ℤ Fault → Option ℤ
value_of (Ok n) = Some n
value_of (Err fault) = None

at_last : (meant : ℤ → ℤ → Result ℤ Fault) (made : Result ℤ Fault) → on_number (between meant []) made ≡ value_of made
at_last meant (Ok n) = refl
at_last meant (Err fault) = refl

on_more : (meant : ℤ → ℤ → Result ℤ Fault) (ns : List ℤ) (n : ℤ) (made : Result ℤ Fault) (value : ℤ) → ((last : ℤ) → between meant ns last ≡ Some value → between meant (ns ++ n ∷ []) last ≡ value_of (meant n value)) → on_number (between meant ns) made ≡ Some value → on_number (between meant (ns ++ n ∷ [])) made ≡ value_of (meant n value)
on_more meant ns n (Ok m) value more e = more m e
on_more meant ns n (Err fault) value more e = absurd (cc)

between_more : (meant : ℤ → ℤ → Result ℤ Fault) (ns : List ℤ) (n last value : ℤ) → between meant ns last ≡ Some value → between meant (ns ++ n ∷ []) last ≡ value_of (meant n value)
between_more meant [] n last value e =
    let same : last ≡ value = cc in
    ap (λ v. on_number (between meant []) (meant n v)) same ∙ at_last meant (meant n value)
between_more meant (m ∷ ms) n last value e = on_more meant ms n (meant m last) value (λ l h. between_more meant ms n l value h) e

pub one_more : (meant : ℤ → ℤ → Result ℤ Fault) (back : List ℤ) (n value : ℤ) → of_back meant back ≡ Some value → of_back meant (back ++ n ∷ []) ≡ value_of (meant n value)
one_more meant [] n value e = absurd (cc)
one_more meant (m ∷ ms) n value e = between_more meant ms n m value e

-- a list by place that has a value at each place
pub all_some : (at : ℕ → Option ℤ) (n : ℕ) (values : List ℤ) → length values ≡ n → ((k : ℕ) → k < n → at k ≡ Some (get_or values k (pos 0))) → map at (range_with_len 0 n) ≡ map Some values
all_some at n values long each =
    sym (fill_by_all at (map Some values) n None (length-map values Some ∙ long)
    (λ k below. let within : k < length values = omega arith in get_or-map Some values k (pos 0) None within ∙ sym (each k below)))

pub has_none : (at : ℕ → Option ℤ) (k n : ℕ) → k < n → at k ≡ None → Contains (map at (range_with_len 0 n)) None
has_none at k n below e = (k, omega (arith, length-map-range_with_len at 0 n), get_or-map-range_with_len at 0 n k k None below (omega arith) ∙ e)
