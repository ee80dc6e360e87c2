-- What holds of the scalar verbs altogether.
use Rattle.std.specs.Prelude.{◌≡◌, ℕ, ◌+◌, ◌*◌, ◌^◌, ◌<◌, ℤ, pos, ◌≤ℤ◌, ◌<ℤ◌, Ok}
use Rattle.std.specs.Int.{IsGcd}
use Rattle.jscalar.specs.Divisors.{greatest_common_divisor}
use Rattle.jscalar.specs.Powers.{root}
use Rattle.jscalar.specs.Choices.{factorial, ways}
use Rattle.jscalar.specs.Quotients.{residue}

-- it divides both, and each common divisor divides it
abbrev pub DivisorIsGreatest : Type 0
DivisorIsGreatest = (a b : ℕ) → IsGcd a b (greatest_common_divisor a b)

-- the ways to choose, times the orders of those taken and of those left, are the orders of all
abbrev pub WaysAreByFactorials : Type 0
WaysAreByFactorials = (taken left : ℕ) → ways taken (left + taken) * (factorial taken * factorial left) ≡ factorial (left + taken)

-- the root of a power is its base, and what is a root has this power
abbrev pub RootsUndoPowers : Type 0
RootsUndoPowers =
    (degree base : ℕ) → 0 < degree → (root (pos degree) (pos (base ^ degree)) ≡ Ok (pos base))
    × ((y : ℕ) → root (pos degree) (pos y) ≡ Ok (pos base) → base ^ degree ≡ y)

-- from 0 up to a positive left argument, and from a negative one up to 0
abbrev pub ResidueIsWithin : Type 0
ResidueIsWithin =
    (x y : ℤ) → (pos 0 <ℤ x → (pos 0 ≤ℤ residue x y) × (residue x y <ℤ x))
    × (x <ℤ pos 0 → (x <ℤ residue x y) × (residue x y ≤ℤ pos 0))
