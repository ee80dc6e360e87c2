-- Lemmas on factorials and on the ways to choose.
use Rattle.std.proofs.Common.{◌≡◌, true≢false, ℕ, zero, suc, ◌+◌, ◌-◌, ◌*◌, ◌/◌, ◌^◌, ◌<◌, ◌≤◌, true, false, Ok, Err, refl, sym, ap, ◌∙◌, add-one, arith}
use Rattle.std.proofs.lemmas.Bool.Decides.{nat_tests}
use Rattle.std.proofs.Math.Nat.{mul-suc, add-mul, mul_comm, mul-div_cancel, le_refl}
use Rattle.std.specs.Prelude.{ℤ, pos, negsuc, int_lt, unsigned_abs, FitsSigned}
use mir.Syntax.{w64}
use Rattle.jdata.specs.declared.fault.Fault.TheVariants.{Nonce}
use Rattle.jscalar.specs.Fitted.{fitted}
use Rattle.jscalar.specs.Choices.{factorial, ways, factorial_of, out_of}

-- ---- factorials

pub factorial_next : (n : ℕ) → factorial (suc n) ≡ factorial n * suc n
unfolding factorial
factorial_next n = mul_comm (suc n) (factorial n)

factorial_up : (n : ℕ) → factorial n ≤ factorial (suc n)
factorial_up n = omega (arith, factorial_next n, mul-suc (factorial n) n)

factorial_rises : (m k : ℕ) → factorial m ≤ factorial (m + k)
factorial_rises m zero = let e : m + 0 ≡ m = omega arith in rw e (le_refl (factorial m))
factorial_rises m (suc k) =
    let e : m + suc k ≡ suc (m + k) = omega arith in
    rw e (omega (arith, factorial_rises m k, factorial_up (m + k)))

factorial_of_20 : factorial 20 ≡ 2432902008176640000
unfolding factorial
factorial_of_20 = refl

factorial_of_21 : factorial 21 ≡ 51090942171709440000
unfolding factorial
factorial_of_21 = refl

pub factorial_small : (n : ℕ) → n ≤ 20 → factorial n < 2 ^ 63
factorial_small n h =
    let e : n + (20 - n) ≡ 20 = omega arith in
    let k = rw e at (factorial_rises n (20 - n)) in
    omega (arith, k, factorial_of_20)

pub factorial_great : (n : ℕ) → 20 < n → ¬ FitsSigned w64 (pos (factorial n))
factorial_great n h f =
    let e : 21 + (n - 21) ≡ n = omega arith in
    let k = rw e at (factorial_rises 21 (n - 21)) in
    omega (arith, k, factorial_of_21, f.sfits)

pub no_factorial : (y : ℤ) → int_lt y (pos 0) ≡ true → Err Nonce ≡ factorial_of y
unfolding factorial_of
no_factorial (pos n) h = absurd (grind (arith, nat_tests))
no_factorial (negsuc n) h = refl

pub whole_factorial : (y : ℤ) → int_lt y (pos 0) ≡ false → fitted (pos (factorial (unsigned_abs y))) ≡ factorial_of y
unfolding factorial_of
whole_factorial (pos n) h = refl
whole_factorial (negsuc n) h = absurd (true≢false h)

-- ---- ways to choose

pub ways_of_none : (n : ℕ) → ways 0 n ≡ 1
unfolding ways
ways_of_none zero = refl
ways_of_none (suc n) = refl

pascal : (k n : ℕ) → ways (suc k) (suc n) ≡ ways k n + ways (suc k) n
unfolding ways
pascal k n = refl

none_of_none : (k : ℕ) → ways (suc k) 0 ≡ 0
unfolding ways
none_of_none k = refl

pub too_many : (k n : ℕ) → n < k → ways k n ≡ 0
too_many zero n h = absurd (omega arith)
too_many (suc k) zero h = none_of_none k
too_many (suc k) (suc n) h = omega (arith, pascal k n, too_many k n (omega arith), too_many (suc k) n (omega arith))

all_of : (n : ℕ) → ways n n ≡ 1
all_of zero = ways_of_none 0
all_of (suc n) = omega (arith, pascal n n, all_of n, too_many (suc n) n (omega arith))

-- to take is to leave the others
pub take_or_leave : (n a b : ℕ) → a + b ≡ n → ways a n ≡ ways b n
take_or_leave zero a b e = let p : a ≡ b = omega arith in ap (λ k. ways k 0) p
take_or_leave (suc n) zero b e = let p : b ≡ suc n = omega arith in rw p (ways_of_none (suc n) ∙ sym (all_of (suc n)))
take_or_leave (suc n) (suc a) zero e = let p : suc a ≡ suc n = omega arith in rw p (all_of (suc n) ∙ sym (ways_of_none (suc n)))
take_or_leave (suc n) (suc a) (suc b) e =
    omega (arith, pascal a n, pascal b n, take_or_leave n a (suc b) (omega arith), take_or_leave n (suc a) b (omega arith))

absorb_step : (p q r a b k n : ℕ) → p ≡ q + r → q ≡ a + b → r * suc (suc k) ≡ b * suc n → q * suc k ≡ a * suc n → p * suc (suc k) ≡ q * suc (suc n)
absorb_step p q r a b k n hp hq hr hs =
    let e : p * suc (suc k) ≡ q * suc (suc k) + r * suc (suc k) = ap (λ x. x * suc (suc k)) hp ∙ add-mul q r (suc (suc k)) in
    let f : q * suc n ≡ a * suc n + b * suc n = ap (λ x. x * suc n) hq ∙ add-mul a b (suc n) in
    omega (arith, e, f, mul-suc q (suc k), mul-suc q (suc n), hr, hs)

-- one more of one more, times how many are taken
pub absorbed : (n k : ℕ) → ways (suc k) (suc n) * suc k ≡ ways k n * suc n
absorbed zero zero = omega (arith, all_of 1, ways_of_none 0)
absorbed zero (suc k) = rw (too_many (suc (suc k)) 1 (omega arith), too_many (suc k) 0 (omega arith)) (omega arith)
absorbed (suc n) zero =
    let before : ways 1 (suc n) * 1 ≡ 1 * suc n = absorbed n 0 ∙ ap (λ x. x * suc n) (ways_of_none n) in
    rw (ways_of_none (suc n)) (omega (arith, pascal 0 (suc n), ways_of_none (suc n), before))
absorbed (suc n) (suc k) =
    absorb_step (ways (suc (suc k)) (suc (suc n))) (ways (suc k) (suc n)) (ways (suc (suc k)) (suc n)) (ways k n) (ways (suc k) n) k n
    (pascal (suc k) (suc n)) (pascal k n) (absorbed n (suc k)) (absorbed n k)

pub more_is : (n k : ℕ) → ways k n * (n + 1) / (k + 1) ≡ ways (k + 1) (n + 1)
more_is n k =
    rw (add-one n, add-one k) (ap (λ x. x / suc k) (sym (absorbed n k)) ∙ mul-div_cancel (ways (suc k) (suc n)) {n = suc k} (omega arith))

-- with as many left, there are no fewer ways to take more
ways_rise : (m i k : ℕ) → ways i (m + i) ≤ ways (i + k) (m + (i + k))
ways_rise m i zero = let e : i + 0 ≡ i = omega arith in rw e (le_refl (ways i (m + i)))
ways_rise m i (suc k) =
    let e : i + suc k ≡ suc (i + k) = omega arith in
    let f : m + suc (i + k) ≡ suc (m + (i + k)) = omega arith in
    rw (e, f) (omega (arith, ways_rise m i k, pascal (i + k) (m + (i + k))))

pub more_ways_later : (m i k : ℕ) → i ≤ k → ways i (m + i) ≤ ways k (m + k)
more_ways_later m i k h = let e : i + (k - i) ≡ k = omega arith in rw e at (ways_rise m i (k - i))

pub no_ways_of_negative : (x y : ℤ) → int_lt y (pos 0) ≡ true → Err Nonce ≡ out_of x y
unfolding out_of
no_ways_of_negative x (pos n) h = absurd (grind (arith, nat_tests))
no_ways_of_negative (pos k) (negsuc n) h = refl
no_ways_of_negative (negsuc k) (negsuc n) h = refl

pub no_way_to_take_negative : (x y : ℤ) → int_lt y (pos 0) ≡ false → int_lt x (pos 0) ≡ true → Ok (pos 0) ≡ out_of x y
unfolding out_of
no_way_to_take_negative x (negsuc n) h k = absurd (true≢false h)
no_way_to_take_negative (pos k) (pos n) h p = absurd (grind (arith, nat_tests))
no_way_to_take_negative (negsuc k) (pos n) h p = refl

pub out_of_is : (x y : ℤ) → int_lt y (pos 0) ≡ false → int_lt x (pos 0) ≡ false → fitted (pos (ways (unsigned_abs x) (unsigned_abs y))) ≡ out_of x y
unfolding out_of
out_of_is x (negsuc n) h k = absurd (true≢false h)
out_of_is (pos k) (pos n) h p = refl
out_of_is (negsuc k) (pos n) h p = absurd (true≢false p)

-- one turn of the product
pub factorial_step : (p n : ℕ) → p ≡ factorial n → p * (n + 1) ≡ factorial (n + 1)
factorial_step p n e = rw (e, add-one) (sym (factorial_next n))

pub factorial_of_none : factorial 0 ≡ 1
unfolding factorial
factorial_of_none = refl

-- one turn of the count
pub ways_step : (count left done : ℕ) → count ≡ ways done (left + done) → count * (left + done + 1) / (done + 1) ≡ ways (done + 1) (left + (done + 1))
ways_step count left done e =
    let turned : left + done + 1 ≡ left + (done + 1) = omega arith in
    ap (λ n. n * (left + done + 1) / (done + 1)) e ∙ more_is (left + done) done ∙ ap (ways (done + 1)) turned

-- where the next count is beyond 64 bits, so is the last
pub ways_beyond : (count left done taken : ℕ) → count ≡ ways done (left + done) → done < taken → ¬ (count * (left + done + 1) / (done + 1) < 2 ^ 63) → ¬ FitsSigned w64 (pos (ways taken (left + taken)))
ways_beyond count left done taken e l never f =
    let later : ways (done + 1) (left + (done + 1)) ≤ ways taken (left + taken) = more_ways_later left (done + 1) taken (omega arith) in
    let small : ways taken (left + taken) < 2 ^ 63 = f.sfits in
    never (rw (ways_step count left done e) (omega (arith, later, small)))
