-- The integers of the language: those of 64 bits with a sign.
use Rattle.std.specs.Prelude.{ℤ, pos, negsuc, ◌^◌, nat_lt, Bool}

unfoldable pub is_within_64_bits : ℤ → Bool
is_within_64_bits (pos n) = nat_lt n (2 ^ 63)
is_within_64_bits (negsuc n) = nat_lt n (2 ^ 63)
