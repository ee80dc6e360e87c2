-- Interval Index (NuVoc "I.", the dyad): how many numbers of a list in order stand before each number.
use Rattle.std.specs.Prelude.{ℕ, ◌-◌, ◌&&◌, ◌||◌, nat_le, ℤ, pos, int_lt, int_le, Bool, true, if◌then◌else◌, List, ◌∷◌, length, map, count_by, slice_index_or, Result, Ok, Err}
use Rattle.jdata.specs.Noun.{noun, shape}
use Rattle.jdata.specs.declared.fault.Fault.{Fault}
use Rattle.jdata.specs.declared.fault.Fault.TheVariants as fault
use Rattle.jdata.specs.declared.noun.Noun.{Noun}
use Rattle.jdata.specs.declared.noun.Kind.TheVariants as sort
use Rattle.jdata.specs.declared.noun.Atom.TheVariants as atom
use Rattle.jarray.specs.Numbers.{is_integers}
use Rattle.jselect.specs.Arguments.{integers_in}

-- whether each number and the next pass a test
abbrev pub each_next : (ℤ → ℤ → Bool) → List ℤ → Bool
each_next test (a ∷ b ∷ rest) = test a b && each_next test (b ∷ rest)
each_next test few = true

-- no number is less than the one before it, or none is greater
abbrev pub rises : List ℤ → Bool
rises = each_next int_le

abbrev pub falls : List ℤ → Bool
falls = each_next (λ a b. int_le b a)

-- whether the first is greater than the last
abbrev pub is_turned : List ℤ → Bool
is_turned x = int_lt (slice_index_or x (length x - 1) (pos 0)) (slice_index_or x 0 (pos 0))

-- how many are less than a number or, where the list is turned, how many are greater
abbrev pub before : List ℤ → ℤ → ℕ
before x n = if is_turned x then count_by (λ a. int_lt n a) x else count_by (λ a. int_lt a n) x

-- a list of integers in rising or in falling order; an atom is a list of one
abbrev pub is_in_order : Noun → Bool
is_in_order x = is_integers x && (nat_le (length (shape x)) 1 && (rises (integers_in x) || falls (integers_in x)))

-- for each atom of y how many of x stand before it
unfoldable pub interval_index : Noun → Noun → Result Noun Fault
interval_index x y =
    if is_integers y && is_in_order x
    then Ok (noun (shape y) sort.Int (map (λ n. atom.Int (pos (before (integers_in x) n))) (integers_in y)))
    else Err fault.Domain
