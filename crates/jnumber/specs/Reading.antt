-- What a run of letters, digits, underscores and points means where it stands for a number
-- (J Dictionary, "Constants").
use Rattle.std.specs.Prelude.{◌≡◌, ◌≢◌, ℕ, List, [], ◌∷◌, ℤ}
use Rattle.jnumber.specs.declared.reading.Read.{Read}
use Rattle.jnumber.specs.declared.reading.Read.TheVariants.{Number, Wide, Not}
use Rattle.jnumber.specs.Spelling.{Spells, underscore}

-- the number that the run spells; for the underscore alone "no limit"; for every other run nothing
abbrev pub IsReading : List ℕ → Read → Type 0
IsReading run (Number number) = Spells run number
IsReading run Wide = run ≡ underscore ∷ []
IsReading run Not = (run ≢ underscore ∷ []) × ((number : ℤ) → ¬ Spells run number)
