-- The test of a number's value and the reading of its run agree.
use Rattle.std.proofs.Common.{◌≡◌, ◌&&◌, ℕ, ◌<◌, ℤ, pos, negsuc, true, false, List, [], ◌∷◌, ap, length, arith, refl, sym, subst, inl, inr, FitsSigned, ◌∙◌, nat_eq}
use Rattle.std.proofs.lemmas.Bool.{cases_Bool}
use Rattle.std.proofs.lemmas.Bool.Decides.{nat_tests}
use mir.Syntax.{w64}
use mir.Val.{of_z}
use Rattle.std.specs.List.{list_all}
use Rattle.std.specs.Str.Parse.{AllDigits}
use Rattle.jnumber.specs.Spelling.{Spells, digits_in, number_in}
use Rattle.jnumber.specs.Reading.{IsReading}
use Rattle.jnumber.specs.declared.reading.Read.TheVariants.{Wide, Not}
use Rattle.jdata.specs.Fits.{is_within_64_bits}
use Rattle.jwords.specs.Numbers.{is_decimal, is_number}
use Rattle.jexplicit.specs.Needs.{is_pos, is_value}

fits_from : (z : ℤ) → FitsSigned w64 z → is_within_64_bits z ≡ true
unfolding is_within_64_bits
fits_from (pos n) h = grind (arith, nat_tests)
fits_from (negsuc n) h = grind (arith, nat_tests)

fits_to : (z : ℤ) → is_within_64_bits z ≡ true → FitsSigned w64 z
unfolding is_within_64_bits
fits_to (pos n) h = grind (arith, nat_tests)
fits_to (negsuc n) h = grind (arith, nat_tests)

digits_from : (ds : List ℕ) → AllDigits 10 ds → list_all is_decimal ds ≡ true
digits_from [] h = refl
digits_from (d ∷ ds) h = grind (arith, nat_tests, digits_from ds h.1)

digits_to : (ds : List ℕ) → list_all is_decimal ds ≡ true → AllDigits 10 ds
digits_to [] h = tt
digits_to (d ∷ ds) h = (grind (arith, nat_tests), digits_to ds (grind (arith, nat_tests)))

is_number_from : (run : List ℕ) (number : ℤ) → Spells run number → is_number run ≡ true
is_number_from run number h =
    let all = digits_from (digits_in run) h.digits.1 in
    let P : ℤ → Type 0 = λ z. is_within_64_bits z ≡ true in
    let inside = subst P h.value (fits_from number h.in_range) in
    let some : 0 < length (digits_in run) = h.digits.0 in
    grind (arith, nat_tests)

spells_from : (run : List ℕ) → is_number run ≡ true → Spells run (number_in run)
spells_from run h = record {
  digits = (grind (arith, nat_tests), digits_to (digits_in run) (grind (arith, nat_tests)));
  value = refl;
  in_range = fits_to (number_in run) (grind (arith, nat_tests));
}

not_number : (run : List ℕ) → IsReading run Not → is_number run ≡ false
not_number run h = elim (cases_Bool (is_number run)) [ inl is ↦ absurd (h.1 (number_in run) (spells_from run is)) | inr not_so ↦ not_so ]

wide_is_no_number : (run : List ℕ) → IsReading run Wide → is_number run ≡ false
wide_is_no_number run h = let P : List ℕ → Type 0 = λ r. is_number r ≡ false in subst P (sym h) refl

pub value_is : (run : List ℕ) (z : ℤ) (n : ℕ) → Spells run z → is_pos n z ≡ is_value n run
value_is run z n h = let is = is_number_from run z h in ap (is_pos n) h.value ∙ ap (λ b. b && is_pos n (number_in run)) (sym is)

pub no_value_not : (run : List ℕ) (n : ℕ) → IsReading run Not → false ≡ is_value n run
no_value_not run n h = ap (λ b. b && is_pos n (number_in run)) (sym (not_number run h))

pub no_value_wide : (run : List ℕ) (n : ℕ) → IsReading run Wide → false ≡ is_value n run
no_value_wide run n h = ap (λ b. b && is_pos n (number_in run)) (sym (wide_is_no_number run h))

-- the test of a signed number against a small one
pub same_pos : (z : ℤ) (n : ℕ) → FitsSigned w64 z → n < 256 → nat_eq (of_z w64 z) n ≡ is_pos n z
same_pos (pos m) n h few = refl
same_pos (negsuc m) n h few = grind (arith, nat_tests)
