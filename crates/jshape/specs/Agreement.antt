-- Agreement of two frames, or of two shapes (J Dictionary, "Verbs"; NuVoc, "Agreement"): one is a prefix of the other, and
-- the cells of the argument with the shorter frame are repeated along those of the other.
use Rattle.std.specs.Prelude.{ℕ, ◌==◌, ◌&&◌, Bool, true, false, if◌then◌else◌, Option, Some, None, Result, Ok, Err, List, [], ◌∷◌, length, drop}
use Rattle.jdata.specs.Noun.{product}
use Rattle.jdata.specs.declared.fault.Fault.{Fault}
use Rattle.jdata.specs.declared.fault.Fault.TheVariants as fault

-- whether the first axes of the second shape are those of the first
abbrev pub is_prefix : List ℕ → List ℕ → Bool
is_prefix [] long = true
is_prefix (n ∷ ns) [] = false
is_prefix (n ∷ ns) (m ∷ ms) = (n == m) && is_prefix ns ms

-- the longer one, where they agree
abbrev pub longer : List ℕ → List ℕ → Option (List ℕ)
longer left right = if is_prefix left right then Some right else (if is_prefix right left then Some left else None)

abbrev pub or_length : Option (List ℕ) → Result (List ℕ) Fault
or_length (Some axes) = Ok axes
or_length None = Err fault.Length

-- the longer one, or the fault of two that don't agree
abbrev pub agreed : List ℕ → List ℕ → Result (List ℕ) Fault
agreed left right = or_length (longer left right)

-- how many atoms of the whole use the same atom of a part: the product of the axes that the whole alone has
abbrev pub repeated : List ℕ → List ℕ → ℕ
repeated part whole = product (drop (length part) whole)
