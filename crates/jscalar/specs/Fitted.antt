-- Whole numbers without bound, and those that an atom can hold (J Dictionary, "Constants").
use Rattle.std.specs.Prelude.{ℤ, if◌then◌else◌, Result, Ok, Err}
use Rattle.jdata.specs.Fits.{is_within_64_bits}
use Rattle.jdata.specs.declared.fault.Fault.{Fault}
use Rattle.jdata.specs.declared.fault.Fault.TheVariants.{Nonce}

-- a number within 64 signed bits; one beyond is left out of this language
unfoldable pub fitted : ℤ → Result ℤ Fault
fitted number = if is_within_64_bits number then Ok number else Err Nonce
