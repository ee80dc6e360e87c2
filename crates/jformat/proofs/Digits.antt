-- How many digits a number is written with.
use Rattle.std.specs.Prelude.{ℕ, zero, suc, decimal}
use Rattle.std.proofs.Common.{◌≡◌, ◌+◌, ◌/◌, ◌<◌, ◌≤◌, ◌^◌, length, ap, ◌∙◌, arith}
use Rattle.std.specs.Int.Digits.{digits_of}
use Rattle.std.proofs.lemmas.Fmt.{decimal-digits_of, decimal_digit}
use Rattle.std.proofs.lemmas.Int.Digits.{length-digits_of_step, length-digits_of-le}
use Rattle.std.proofs.lemmas.List.{length-map}

as_digits : (n : ℕ) → 0 < n → n < 2 ^ 64 → length (decimal n) ≡ length (digits_of 10 n)
as_digits n some fits = ap length (decimal-digits_of n some fits) ∙ length-map (digits_of 10 n) (λ d. 48 + d)

-- the last digit, and those before it
pub first_step : (n : ℕ) → n < 2 ^ 64 → length (decimal n) ≡ 1 + length (digits_of 10 (n / 10))
first_step zero fits = ap length (decimal_digit 0 (omega arith))
first_step (suc m) fits =
    let some : 0 < suc m = omega arith in
    let e = as_digits (suc m) some fits in
    let f = length-digits_of_step 10 (suc m) (omega arith) some in
    omega (arith, e, f)

pub next_step : (n : ℕ) → 0 < n → length (digits_of 10 n) ≡ length (digits_of 10 (n / 10)) + 1
next_step n some = length-digits_of_step 10 n (omega arith) some

pub few : (n : ℕ) → n < 2 ^ 64 → length (decimal n) ≤ 20
few zero fits = let e = ap length (decimal_digit 0 (omega arith)) in omega (arith, e)
few (suc m) fits =
    let some : 0 < suc m = omega arith in
    let e = as_digits (suc m) some fits in
    let f = length-digits_of-le 10 20 (suc m) (omega arith) (omega arith) in
    omega (arith, e, f)
