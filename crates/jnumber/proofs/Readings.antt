-- The laws of reading and writing: one reading for each run, and what is written is read again.
use Rattle.std.proofs.Common.{◌≡◌, ◌≢◌, ℕ, ◌^◌, ◌<◌, ◌≤◌, ◌⊎◌, inl, inr, Bool, true, false, eqb, List, [], ◌∷◌, length, refl, sym, arith, ◌∙◌, ap, suc, zero, subst}
use Rattle.std.specs.Prelude.{ℤ, pos, negsuc, neg_ℤ, decimal, FitsSigned}
use Rattle.std.proofs.lemmas.Fmt.{decimal_is_IsNumeral, length-decimal-le}
use Rattle.std.proofs.lemmas.Int.Digits.{digits_value-lt}
use Rattle.std.proofs.lemmas.Bool.Decides.{nat_tests}
use Rattle.std.proofs.lemmas.Bool.{cases_eq, cases_lt}
use Rattle.std.specs.Char.{digit_value}
use Rattle.std.specs.Str.Parse.{AllDigits, IsNumeral, digits_value}
use mir.Syntax.{w64}
use lib.Signed.{mag}
use Rattle.jnumber.specs.declared.reading.Read.{Read}
use Rattle.jnumber.specs.declared.reading.Read.TheVariants.{Number, Wide, Not}
use Rattle.jnumber.specs.Spelling.{Spells, written, digits_in, number_in, underscore}
use Rattle.jnumber.specs.Reading.{IsReading}
use Rattle.jnumber.specs.Laws.{EachRunHasOneReading, WrittenIsRead, ReadIsSpelled, WrittenIsShortest}
use Rattle.jnumber.proofs.Digits.{digit_in_range}

-- a run is a spelling of one number at most
pub one_number : (run : List ℕ) (y z : ℤ) → Spells run y → Spells run z → y ≡ z
one_number run y z p q = p.value ∙ sym q.value

-- the underscore alone is never spelling
pub wide_is_no_number : (run : List ℕ) (z : ℤ) → run ≡ underscore ∷ [] → Spells run z → ⊥
wide_is_no_number run z e p =
    let q = rw e at p.digits in absurd (omega (arith, q.0))

pub one_reading : (run : List ℕ) (r s : Read) → IsReading run r → IsReading run s → r ≡ s
one_reading run (Number y) (Number z) p q = ap Number (one_number run y z p q)
one_reading run (Number y) Wide p q = absurd (wide_is_no_number run y q p)
one_reading run (Number y) Not p q = absurd (q.1 y p)
one_reading run Wide (Number z) p q = absurd (wide_is_no_number run z p q)
one_reading run Wide Wide p q = refl
one_reading run Wide Not p q = absurd (q.0 p)
one_reading run Not (Number z) p q = absurd (p.1 z q)
one_reading run Not Wide p q = absurd (p.0 q)
one_reading run Not Not p q = refl

-- whether bytes are digits can be told
pub all_digits_or_not : (ds : List ℕ) → AllDigits 10 ds ⊎ (AllDigits 10 ds → ⊥)
all_digits_or_not [] = inl tt
all_digits_or_not (c ∷ cs) =
    elim (cases_lt (digit_value c) 10) [
      | inl d ↦ elim (all_digits_or_not cs) [ inl h ↦ inl (d, h) | inr never ↦ inr (λ all. never all.1) ]
      | inr never ↦ inr (λ all. absurd (omega (arith, all.0)))
    ]

pub numeral_or_not : (ds : List ℕ) → IsNumeral 10 ds ⊎ (IsNumeral 10 ds → ⊥)
numeral_or_not [] = inr (λ h. absurd (omega (arith, h.0)))
numeral_or_not (c ∷ cs) =
    elim (all_digits_or_not (c ∷ cs)) [ inl h ↦ inl ((omega arith), h) | inr never ↦ inr (λ h. never h.1) ]

pub fits_or_not : (z : ℤ) → FitsSigned w64 z ⊎ (FitsSigned w64 z → ⊥)
fits_or_not z =
    elim (cases_lt (mag z) (2 ^ 63)) [ inl h ↦ inl (record { sfits = h }) | inr never ↦ inr (λ f. absurd (omega (arith, never, f.sfits))) ]

-- whether a run is the underscore alone
pub wide_or_not : (run : List ℕ) → (run ≡ underscore ∷ []) ⊎ (run ≢ underscore ∷ [])
wide_or_not [] = inr (λ e. cc)
wide_or_not (c ∷ []) = elim (cases_eq c underscore) [ inl e ↦ inl (ap (λ b. b ∷ []) e) | inr never ↦ inr (λ e. never (cc)) ]
wide_or_not (c ∷ d ∷ cs) = inr (λ e. cc)

-- each run has a reading
pub has_reading : (run : List ℕ) → (r : Read) × IsReading run r
has_reading run =
    elim (numeral_or_not (digits_in run)) [
      | inl digits ↦ elim (fits_or_not (number_in run)) [
        | inl fits ↦ (Number (number_in run), record { digits = digits; value = refl; in_range = fits })
        | inr never ↦ elim (wide_or_not run) [
          | inl wide ↦ (Wide, wide)
          | inr not_wide ↦ (Not, (not_wide, λ z p. never (subst (FitsSigned w64) p.value p.in_range)))
        ]
      ]
      | inr never ↦ elim (wide_or_not run) [
        | inl wide ↦ (Wide, wide)
        | inr not_wide ↦ (Not, (not_wide, λ z p. never p.digits))
      ]
    ]

pub each_run_has_one_reading : EachRunHasOneReading
each_run_has_one_reading run =
    let r : (r : Read) × IsReading run r = has_reading run in
    (r.0, r.1, λ other p. one_reading run other r.0 p r.1)

pub read_is_spelled : ReadIsSpelled
read_is_spelled run z p = (p, λ other q. one_number run other z q p)

-- digits do not begin with an underscore
pub first_is_digit : (ds : List ℕ) → IsNumeral 10 ds → (digits_in ds ≡ ds) × (number_in ds ≡ pos (digits_value 10 ds))
first_is_digit [] h = absurd (omega (arith, h.0))
first_is_digit (c ∷ cs) h =
    let range : (48 ≤ c) × (c ≤ 57) = digit_in_range c h.1.0 in
    let other : eqb c underscore ≡ false = grind (arith, nat_tests) in
    (rw other refl, rw other refl)

pub written_spells : (z : ℤ) → FitsSigned w64 z → Spells (written z) z
written_spells (pos n) fits =
    let small : n < 2 ^ 64 = omega (arith, fits.sfits) in
    let is = decimal_is_IsNumeral n small in
    let plain = first_is_digit (decimal n) is.0 in
    record { digits = rw plain.0 is.0; value = sym (plain.1 ∙ ap pos is.1); in_range = fits }
written_spells (negsuc n) fits =
    let small : suc n < 2 ^ 64 = omega (arith, fits.sfits) in
    let is = decimal_is_IsNumeral (suc n) small in
    record { digits = is.0; value = sym (ap (λ m. neg_ℤ (pos m)) is.1); in_range = fits }

pub written_is_read : WrittenIsRead
written_is_read z fits =
    (written_spells z fits, λ other p. one_reading (written z) other (Number z) p (written_spells z fits))

-- a number behind the digits that write it is written in no more of them
pub decimal_is_shortest : (ds : List ℕ) → IsNumeral 10 ds → digits_value 10 ds < 2 ^ 64 → length (decimal (digits_value 10 ds)) ≤ length ds
decimal_is_shortest ds h small = length-decimal-le (length ds) (digits_value 10 ds) h.0 (digits_value-lt 10 ds h.1) small

pub negative_is_shortest : (n : ℕ) (ds : List ℕ) → digits_value 10 ds ≡ n → IsNumeral 10 ds → mag (neg_ℤ (pos n)) < 2 ^ 63 → length (written (neg_ℤ (pos n))) ≤ suc (length ds)
negative_is_shortest zero ds e h fits =
    let k : length (decimal (digits_value 10 ds)) ≤ length ds = decimal_is_shortest ds h (omega (arith, e)) in
    omega (arith, rw e at k)
negative_is_shortest (suc n) ds e h fits =
    let k : length (decimal (digits_value 10 ds)) ≤ length ds = decimal_is_shortest ds h (omega (arith, e)) in
    omega (arith, rw e at k)

plain_is_shortest : (n : ℕ) (ds : List ℕ) → digits_value 10 ds ≡ n → IsNumeral 10 ds → n < 2 ^ 63 → length (written (pos n)) ≤ length ds
plain_is_shortest n ds e h fits =
    let k : length (decimal (digits_value 10 ds)) ≤ length ds = decimal_is_shortest ds h (omega (arith, e)) in
    rw e at k

pub written_is_shortest : WrittenIsShortest
written_is_shortest [] z p = absurd (omega (arith, p.digits.0))
written_is_shortest (c ∷ cs) z p = shortest_by (eqb c underscore) refl
  where
    shortest_by : (b : Bool) → eqb c underscore ≡ b → length (written z) ≤ suc (length cs)
    shortest_by true e =
        let v : z ≡ neg_ℤ (pos (digits_value 10 cs)) = rw e at p.value in
        let h : IsNumeral 10 cs = rw e at p.digits in
        let f : FitsSigned w64 (neg_ℤ (pos (digits_value 10 cs))) = rw v at p.in_range in
        rw v (negative_is_shortest _ cs refl h f.sfits)
    shortest_by false e =
        let v : z ≡ pos (digits_value 10 (c ∷ cs)) = rw e at p.value in
        let h : IsNumeral 10 (c ∷ cs) = rw e at p.digits in
        let f : FitsSigned w64 (pos (digits_value 10 (c ∷ cs))) = rw v at p.in_range in
        rw v (plain_is_shortest _ (c ∷ cs) refl h f.sfits)
