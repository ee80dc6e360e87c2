-- What holds of the spellings of numbers altogether.
use Rattle.std.specs.Prelude.{◌≡◌, ℕ, ◌≤◌, List, length, ℤ, FitsSigned}
use mir.Syntax.{w64}
use Rattle.jnumber.specs.declared.reading.Read.{Read}
use Rattle.jnumber.specs.declared.reading.Read.TheVariants.{Number}
use Rattle.jnumber.specs.Spelling.{Spells, written}
use Rattle.jnumber.specs.Reading.{IsReading}

-- each run has a reading, and no other
abbrev pub EachRunHasOneReading : Type 0
EachRunHasOneReading =
    (run : List ℕ) → (reading : Read) × IsReading run reading × ((other : Read) → IsReading run other → other ≡ reading)

-- what is written of a number is read as this number and as nothing else
abbrev pub WrittenIsRead : Type 0
WrittenIsRead =
    (number : ℤ) → FitsSigned w64 number →
    IsReading (written number) (Number number) × ((other : Read) → IsReading (written number) other → other ≡ Number number)

-- a run that is read as a number is a spelling of this number, and of no other
abbrev pub ReadIsSpelled : Type 0
ReadIsSpelled =
    (run : List ℕ) (number : ℤ) → IsReading run (Number number) →
    Spells run number × ((other : ℤ) → Spells run other → other ≡ number)

-- of all spellings of a number none is shorter than the one that is written
abbrev pub WrittenIsShortest : Type 0
WrittenIsShortest = (run : List ℕ) (number : ℤ) → Spells run number → length (written number) ≤ length run
