-- The places between the bytes of names that two underscores join: where one more byte leads.
use Rattle.std.specs.Prelude.{ℕ, ◌==◌, if◌then◌else◌, Option, Some, None}
use Rattle.jwords.specs.declared.naming.Place.{Place}
use Rattle.jwords.specs.declared.naming.Place.TheVariants.{Start, Inside, Underscore}
use Rattle.jwords.specs.Alphabet.{underscore, is_letter, is_alphanumeric}

abbrev pub place_after : Place → ℕ → Option Place
place_after Start byte = if is_letter byte then Some Inside else None
place_after Inside byte =
    if is_alphanumeric byte then Some Inside else (if byte == underscore then Some Underscore else None)
place_after Underscore byte =
    if is_alphanumeric byte then Some Inside else (if byte == underscore then Some Start else None)

-- how many names start at a place
abbrev pub started : Place → ℕ
started Start = 1
started Inside = 0
started Underscore = 0
