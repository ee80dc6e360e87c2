-- The bytes that word formation tells apart (J Dictionary, "Alphabet").
use Rattle.std.specs.Prelude.{ℕ, Bool, ◌==◌, nat_le, ◌&&◌, ◌||◌, List, slice_index}

abbrev pub tab : ℕ
tab = 9

abbrev pub line_feed : ℕ
line_feed = 10

abbrev pub carriage_return : ℕ
carriage_return = 13

abbrev pub space : ℕ
space = 32

abbrev pub quote : ℕ
quote = 39

abbrev pub underscore : ℕ
underscore = 95

abbrev pub plus_sign : ℕ
plus_sign = 43

abbrev pub minus_sign : ℕ
minus_sign = 45

abbrev pub point : ℕ
point = 46

abbrev pub colon : ℕ
colon = 58

unfoldable pub is_blank : ℕ → Bool
is_blank byte = byte == space || byte == tab

unfoldable pub is_digit : ℕ → Bool
is_digit byte = nat_le 48 byte && nat_le byte 57

unfoldable pub is_letter : ℕ → Bool
is_letter byte = (nat_le 65 byte && nat_le byte 90) || (nat_le 97 byte && nat_le byte 122)

unfoldable pub is_alphanumeric : ℕ → Bool
is_alphanumeric byte = is_letter byte || is_digit byte

-- what a name is made of
unfoldable pub is_name_byte : ℕ → Bool
is_name_byte byte = is_alphanumeric byte || byte == underscore

-- what starts a number
unfoldable pub is_number_start : ℕ → Bool
is_number_start byte = is_digit byte || byte == underscore

-- what a number's run is made of
unfoldable pub is_number_byte : ℕ → Bool
is_number_byte byte = is_name_byte byte || byte == point

-- what inflects a word
unfoldable pub is_inflection : ℕ → Bool
is_inflection byte = byte == point || byte == colon

-- the first byte, or 0 where there is none
abbrev pub first : List ℕ → ℕ
first bytes = slice_index bytes 0
