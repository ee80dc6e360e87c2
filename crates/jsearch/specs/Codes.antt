-- Codes: a list of numbers for each array, by which arrays are looked up. Two arrays match exactly where their codes are equal
-- (proofs/Coding.antt), so a code is match (NuVoc "-:") as a key.
use Rattle.std.specs.Prelude.{ℕ, zero, suc, ℤ, pos, List, [], ◌∷◌, ◌++◌, length, map}
use Rattle.std.specs.List.{flat_map}
use Rattle.jdata.specs.declared.noun.Noun.{Noun, Noun-F, fold-Noun}
use Rattle.jdata.specs.declared.noun.Kind.{Kind}
use Rattle.jdata.specs.declared.noun.Kind.TheVariants as sort
use Rattle.jdata.specs.declared.noun.Atom.{Atom, Atom-F, fold-Atom}
use Rattle.jdata.specs.declared.noun.Atom.TheOpen as one

-- the number of a kind, where there are atoms: without any no kind counts
abbrev pub kind_number : Kind → ℕ → ℕ
kind_number kind zero = 0
kind_number sort.Int (suc n) = 0
kind_number sort.Char (suc n) = 1
kind_number sort.Boxed (suc n) = 2

-- a list of numbers, with its length in front
abbrev pub counted_code : List ℕ → List ℤ
counted_code numbers = pos (length numbers) ∷ map pos numbers

-- what stands in front of the atoms: the shape, the kind and how many they are
abbrev pub head_code : List ℕ → Kind → ℕ → List ℤ
head_code axes kind count = counted_code axes ++ pos (kind_number kind count) ∷ pos count ∷ []

-- an atom, with its own kind in front
abbrev pub atom_code_step : Atom-F (List ℤ) (List ℤ) → List ℤ
atom_code_step (one.Int n) = pos 0 ∷ n ∷ []
atom_code_step (one.Char c) = pos 1 ∷ pos c ∷ []
atom_code_step (one.Box code) = pos 2 ∷ code
atom_code_step (one.Pyx p) = pos 3 ∷ pos p.number ∷ counted_code p.path

-- one code after the other
abbrev pub joined : List (List ℤ) → List ℤ
joined = flat_map (λ c. c)

abbrev pub code_step : Noun-F (List ℤ) (List ℤ) → List ℤ
code_step v = head_code v.shape v.kind (length v.atoms) ++ joined v.atoms

abbrev pub code : Noun → List ℤ
code = fold-Noun (List ℤ) (List ℤ) atom_code_step code_step

abbrev pub atom_code : Atom → List ℤ
atom_code = fold-Atom (List ℤ) (List ℤ) atom_code_step code_step
