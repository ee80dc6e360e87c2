-- Blanks at the ends of a line.
use Rattle.std.proofs.Common.{◌≡◌, ℕ, zero, suc, ◌+◌, ◌-◌, ◌<◌, ◌≤◌, ◌⊎◌, inl, inr, ◌&&◌, Bool, true, false, List, [], ◌∷◌, length, take, drop, slice_index, arith, refl, ap, sym, ◌∙◌}
use Rattle.std.specs.List.{list_all}
use Rattle.std.proofs.lemmas.Bool.{cases_Bool}
use Rattle.std.proofs.lemmas.Grind.{common_steps}
use Rattle.std.proofs.lemmas.Bool.Decides.{nat_tests}
use Rattle.jwords.specs.Alphabet.{is_blank}
use Rattle.jwords.specs.Trim.{without_leading, without_trailing}

-- a byte that is no blank isn't among blanks
pub not_all : (n : ℕ) (text : List ℕ) → n < length text → is_blank (slice_index text n) ≡ false → list_all is_blank text ≡ false
not_all n [] inside black = absurd (omega (arith, inside))
not_all zero (b ∷ rest) inside black = rw black refl
not_all (suc n) (b ∷ rest) inside black = elim (cases_Bool (is_blank b)) [ inl h ↦ rw h (not_all n rest (omega (arith, inside)) black) | inr h ↦ rw h refl ]

pub blanks_before : (n : ℕ) (text : List ℕ) → n < length text → is_blank (slice_index text n) ≡ true → list_all is_blank (drop (suc n) text) ≡ true → list_all is_blank (drop n text) ≡ true
blanks_before n [] inside blank after = absurd (omega (arith, inside))
blanks_before zero (b ∷ rest) inside blank after = rw blank after
blanks_before (suc n) (b ∷ rest) inside blank after = blanks_before n rest (omega (arith, inside)) blank after

pub trailing_zero : (text : List ℕ) → list_all is_blank text ≡ true → without_trailing text ≡ []
trailing_zero [] blanks = refl
trailing_zero (b ∷ rest) blanks = rw blanks refl

-- the line ends after its last byte that is no blank
pub trailing_is : (n : ℕ) (text : List ℕ) → n < length text → is_blank (slice_index text n) ≡ false → list_all is_blank (drop (suc n) text) ≡ true → without_trailing text ≡ take (suc n) text
trailing_is n [] inside black after = absurd (omega (arith, inside))
trailing_is zero (b ∷ rest) inside black after = rw black (ap (λ more. b ∷ more) (trailing_zero rest after))
trailing_is (suc n) (b ∷ rest) inside black after =
    let some = not_all n rest (omega (arith, inside)) black in
    let more = trailing_is n rest (omega (arith, inside)) black after in
    elim (cases_Bool (is_blank b)) [ inl h ↦ rw (h, some) (ap (λ xs. b ∷ xs) more) | inr h ↦ rw h (ap (λ xs. b ∷ xs) more) ]

-- the same, with the place after the byte
pub trailing_before : (end : ℕ) (text : List ℕ) → 0 < end → end ≤ length text → is_blank (slice_index text (end - 1)) ≡ false → list_all is_blank (drop end text) ≡ true → without_trailing text ≡ take end text
trailing_before zero text some inside black after = absurd (omega (arith, some))
trailing_before (suc n) text some inside black after =
    let e : suc n - 1 ≡ n = omega arith in
    trailing_is n text (omega (arith, inside)) (sym (ap (λ k. is_blank (slice_index text k)) e) ∙ black) after
