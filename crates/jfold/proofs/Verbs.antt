-- The verbs that may be grouped either way.
use Rattle.std.proofs.Common.{◌≡◌, ◌+◌, ◌-◌, ◌<◌, ◌≤◌, ◌^◌, List, [], ◌∷◌, Some, refl, arith}
use Rattle.std.specs.Prelude.{ℤ, pos, negsuc, ◌+ℤ◌, unsigned_abs, FitsSigned}
use Rattle.std.specs.Int.{int_min, int_max}
use Rattle.std.specs.List.{sum_by}
use mir.Syntax.{w64}
use Rattle.std.proofs.lemmas.Int.{ints, clamps, fits_signed_from_abs}
use Rattle.std.proofs.lemmas.List.Sums.{sum_by-cons}
use Rattle.jscalar.specs.Dyads.{plus, lesser, larger}
use Rattle.jscalar.proofs.Bounds.{fitted_within}
use Rattle.jfold.specs.Folded.{prefixes_by}
use Rattle.jfold.specs.Running.{running, magnitudes}
use Rattle.jfold.proofs.Laws.{Joins, prefixes_run}

pub least_either_way : (x y z : ℤ) → int_min (int_min x y) z ≡ int_min x (int_min y z)
least_either_way x y z = omega (arith, ints, clamps)

pub greatest_either_way : (x y z : ℤ) → int_max (int_max x y) z ≡ int_max x (int_max y z)
greatest_either_way x y z = omega (arith, ints, clamps)

sum_either_way : (x y z : ℤ) → (x +ℤ y) +ℤ z ≡ x +ℤ (y +ℤ z)
sum_either_way x y z = omega (arith, ints)

magnitude_of_sum : (x y : ℤ) → unsigned_abs (x +ℤ y) ≤ unsigned_abs x + unsigned_abs y
magnitude_of_sum (pos x) (pos y) = omega arith
magnitude_of_sum (pos x) (negsuc y) = grind (arith, ints)
magnitude_of_sum (negsuc x) (pos y) = grind (arith, ints)
magnitude_of_sum (negsuc x) (negsuc y) = omega arith

weightless : (l : List ℤ) → sum_by (λ n. 0) l ≤ 0
weightless [] = omega arith
weightless (n ∷ l) = omega (arith, sum_by-cons (λ (m : ℤ). 0) n l, weightless l)

lesser_joins : Joins (λ n. 0) 0 lesser int_min
lesser_joins = record { gives = λ x y h. refl; keeps = λ x y h. omega arith; joins = λ x y z h. least_either_way x y z }

larger_joins : Joins (λ n. 0) 0 larger int_max
larger_joins = record { gives = λ x y h. refl; keeps = λ x y h. omega arith; joins = λ x y z h. greatest_either_way x y z }

sum_fits : (x y : ℤ) → unsigned_abs x + unsigned_abs y ≤ 2 ^ 63 - 1 → FitsSigned w64 (x +ℤ y)
sum_fits x y h = fits_signed_from_abs w64 (x +ℤ y) (omega (arith, magnitude_of_sum x y))

plus_joins : Joins unsigned_abs (2 ^ 63 - 1) plus (λ x y. x +ℤ y)
plus_joins = record { gives = λ x y h. fitted_within (x +ℤ y) (sum_fits x y h); keeps = λ x y h. magnitude_of_sum x y; joins = λ x y z h. sum_either_way x y z }

pub least_runs : (l : List ℤ) → prefixes_by (Some lesser) l ≡ running lesser l
least_runs l = prefixes_run _ _ _ _ lesser_joins l (weightless l)

pub greatest_runs : (l : List ℤ) → prefixes_by (Some larger) l ≡ running larger l
greatest_runs l = prefixes_run _ _ _ _ larger_joins l (weightless l)

pub sums_run : (l : List ℤ) → magnitudes l < 2 ^ 63 → prefixes_by (Some plus) l ≡ running plus l
sums_run l h = prefixes_run _ _ _ _ plus_joins l (omega arith)
