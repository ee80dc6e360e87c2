-- A verb between the numbers of a list, from the last on (NuVoc, "/"), where it has no fault.
use Rattle.std.specs.Prelude.{ℤ, ◌+◌, List, [], ◌∷◌, length, map, take, drop, reverse, Option, Some, None, Result, Ok, Err}
use Rattle.std.specs.List.{range_with_len}
use Rattle.jdata.specs.declared.fault.Fault.{Fault}
use Rattle.jdata.specs.declared.primitive.Primitive.{Primitive}
use Rattle.jscalar.specs.Dyads.{dyad_on}

abbrev pub on_number : (ℤ → Option ℤ) → Result ℤ Fault → Option ℤ
on_number next (Ok n) = next n
on_number next (Err fault) = None

-- between these numbers, the next in front, and a value: `.. (n_1 v (n_2 v value))`
abbrev pub between : (ℤ → ℤ → Result ℤ Fault) → List ℤ → ℤ → Option ℤ
between meant [] value = Some value
between meant (n ∷ ns) value = on_number (between meant ns) (meant n value)

-- between numbers, the last in front; of one number it is the number
abbrev pub of_back : (ℤ → ℤ → Result ℤ Fault) → List ℤ → Option ℤ
of_back meant [] = None
of_back meant (n ∷ ns) = between meant ns n

abbrev pub by_row : Option (ℤ → ℤ → Result ℤ Fault) → List ℤ → Option ℤ
by_row (Some meant) back = of_back meant back
by_row None back = None

-- `v/ numbers`
abbrev pub inserted : Primitive → List ℤ → Option ℤ
inserted verb numbers = by_row (dyad_on verb) (reverse numbers)

abbrev pub suffixes_by : Option (ℤ → ℤ → Result ℤ Fault) → List ℤ → List (Option ℤ)
suffixes_by row numbers = map (λ n. by_row row (reverse (drop n numbers))) (range_with_len 0 (length numbers))

-- `v/\. numbers` (NuVoc, "\."): `v/` on the numbers from each place on
abbrev pub each_suffix : Primitive → List ℤ → List (Option ℤ)
each_suffix verb numbers = suffixes_by (dyad_on verb) numbers

abbrev pub prefixes_by : Option (ℤ → ℤ → Result ℤ Fault) → List ℤ → List (Option ℤ)
prefixes_by row numbers = map (λ n. by_row row (reverse (take (n + 1) numbers))) (range_with_len 0 (length numbers))

-- `v/\ numbers` (NuVoc, "\"): `v/` on the numbers up to each place
abbrev pub each_prefix : Primitive → List ℤ → List (Option ℤ)
each_prefix verb numbers = prefixes_by (dyad_on verb) numbers
