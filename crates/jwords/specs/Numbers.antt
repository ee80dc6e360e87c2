-- Whether a run of bytes spells a number (J Dictionary, "Constants"), as a test.
use Rattle.std.specs.Prelude.{ℕ, Bool, nat_lt, ◌&&◌, if◌then◌else◌, List, length}
use Rattle.std.specs.List.{list_all}
use Rattle.jdata.specs.Fits.{is_within_64_bits}
use Rattle.jnumber.specs.Spelling.{digits_in, number_in}
use Rattle.std.specs.Char.{digit_value}

abbrev pub is_decimal : ℕ → Bool
is_decimal byte = nat_lt (digit_value byte) 10

-- digits with at most one underscore before them, within 64 signed bits
abbrev pub is_number : List ℕ → Bool
is_number run = nat_lt 0 (length (digits_in run)) && list_all is_decimal (digits_in run) && is_within_64_bits (number_in run)
