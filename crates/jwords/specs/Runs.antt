-- How far words reach that are told by their bytes: runs, inflections and lists of numbers
-- (J Dictionary, "Words": numbers that stand next to each other are one word).
use Rattle.std.specs.Prelude.{◌≡◌, ◌≢◌, ℕ, ◌+◌, true, ◌⊎◌, ℤ, List, drop, take, slice_index}
use Rattle.std.specs.List.{prefix_len}
use Rattle.jnumber.specs.declared.reading.Read.{Read}
use Rattle.jnumber.specs.declared.reading.Read.TheVariants.{Not}
use Rattle.jnumber.specs.Reading.{IsReading}
use Rattle.jwords.specs.Alphabet.{colon, first, is_blank, is_name_byte, is_number_byte, is_number_start, is_inflection}

-- how many of the first bytes are of a name; the same with all points and colons directly after it
abbrev pub name_length : List ℕ → ℕ
name_length bytes = prefix_len is_name_byte bytes

abbrev pub inflected_length : List ℕ → ℕ
inflected_length bytes = name_length bytes + prefix_len is_inflection (drop (name_length bytes) bytes)

-- how many of the first bytes are of a number's run, and where the next word after it would start
abbrev pub run_length : List ℕ → ℕ
run_length bytes = prefix_len is_number_byte bytes

abbrev pub after_run : List ℕ → ℕ
after_run bytes = run_length bytes + prefix_len is_blank (drop (run_length bytes) bytes)

-- how many of the first bytes are a symbol with all points and colons directly after it
abbrev pub symbol_length : List ℕ → ℕ
symbol_length bytes = 1 + prefix_len is_inflection (drop 1 bytes)

-- the bytes begin with a run that no colon follows
pub record BeginsRun (bytes : List ℕ) : Type 0 where
  pub starts : is_number_start (first bytes) ≡ true
  pub ends : slice_index bytes (run_length bytes) ≢ colon

-- the run with which the bytes begin is no number
abbrev pub IsNoNumber : List ℕ → Type 0
IsNoNumber bytes = IsReading (take (run_length bytes) bytes) Not

-- the bytes begin with a number: a run that no colon follows, and that is one
pub record BeginsNumber (bytes : List ℕ) : Type 0 where
  pub run : BeginsRun bytes
  pub number : ¬ IsNoNumber bytes

-- the bytes begin with a list of these runs that takes so many bytes: the runs are parted by blanks alone,
-- and none follows the last
pub data IsList (begins : List ℕ → Type 0) : List ℕ → ℕ → Type 0 where
  last : (bytes : List ℕ) → begins bytes → ¬ begins (drop (after_run bytes) bytes) →
      IsList begins bytes (run_length bytes)
  more : (bytes : List ℕ) (rest : ℕ) → begins bytes → IsList begins (drop (after_run bytes) bytes) rest →
      IsList begins bytes (after_run bytes + rest)
