-- A path as the list of its numbers, and how the code keeps it: four places, the free ones 0.
use Rattle.std.specs.Prelude.{◌≡◌, ℕ, ◌-◌, ◌≤◌, List, ◌++◌, length, take, replicate}
use Rattle.jdata.specs.declared.path.Path.TheInside.{Inside}

abbrev pub numbers_of : Inside → List ℕ
numbers_of a = take a.depth a.numbers

-- four places, with this list in the first of them
abbrev pub in_four : List ℕ → List ℕ
in_four l = l ++ replicate (4 - length l) 0

abbrev pub padded : List ℕ → Inside
padded l = record { numbers = in_four l; depth = length l }

pub record IsPadded (a : Inside) : Type 0 where
  pub within : a.depth ≤ 4
  pub long : length (numbers_of a) ≡ a.depth
  pub free : in_four (numbers_of a) ≡ a.numbers

pub padded_back : (a : Inside) → IsPadded a → padded (numbers_of a) ≡ a
padded_back a h = λ i. record { numbers = h.free i; depth = h.long i }
