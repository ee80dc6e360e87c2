-- The words of the language that are no names, numbers, texts or comments (NuVoc, "Vocabulary";
-- J Dictionary, "Vocabulary" and "Control Structures").
use Rattle.std.specs.Prelude.{◌≡◌, ℕ, Bool, true, false, ◌==◌, ◌&&◌, ◌||◌, ◌⊎◌, not, if◌then◌else◌, List, [], ◌∷◌, ◌++◌, codes, is_some}
use Rattle.std.specs.List.{list_any}
use Rattle.std.specs.Str.{bytes_eq}
use Rattle.jdata.specs.Spelling.{verb_of}
use Rattle.jwords.specs.Alphabet.{point, colon, underscore, is_digit}
use Rattle.jwords.specs.Names.{IsPlain}

-- the byte is among those of a text
abbrev pub is_among : List ℕ → ℕ → Bool
is_among bytes byte = list_any (λ other. other == byte) bytes

-- the word is among these
abbrev pub is_one_of : List (List ℕ) → List ℕ → Bool
is_one_of words word = list_any (λ other. bytes_eq other word) words

-- the adverbs, conjunctions and nouns, the copulas and the parentheses
abbrev pub other_words : List (List ℕ)
other_words =
    codes "/" ∷ codes "/." ∷ codes "\\" ∷ codes "\\." ∷ codes "~" ∷ codes "}"
    ∷ codes "\"" ∷ codes "^:" ∷ codes "@" ∷ codes "@:" ∷ codes "&" ∷ codes "&:" ∷ codes "&." ∷ codes "&.:"
    ∷ codes ":" ∷ codes "::" ∷ codes ";." ∷ codes "!:" ∷ codes "t."
    ∷ codes "a." ∷ codes "a:" ∷ codes "=." ∷ codes "=:" ∷ codes "(" ∷ codes ")" ∷ []

-- a word that spells a verb, or one of the others
unfoldable pub is_listed : List ℕ → Bool
is_listed word = is_some (verb_of word) || is_one_of other_words word

-- the control words but those that name a loop's variable
abbrev pub control_words : List (List ℕ)
control_words =
    codes "assert." ∷ codes "break." ∷ codes "case." ∷ codes "catch." ∷ codes "continue." ∷ codes "do." ∷ codes "else."
    ∷ codes "elseif." ∷ codes "end." ∷ codes "fcase." ∷ codes "for." ∷ codes "if." ∷ codes "return." ∷ codes "select."
    ∷ codes "try." ∷ codes "while." ∷ codes "whilst." ∷ []

-- `for_name.`, with a plain name
pub record IsNamedLoop (word : List ℕ) : Type 0 where
  pub name : List ℕ
  pub parts : word ≡ codes "for_" ++ (name ++ point ∷ [])
  pub plain : IsPlain name

-- a word that starts with a letter and is inflected
abbrev pub IsInflectedWord : List ℕ → Type 0
IsInflectedWord word =
    (is_listed word ≡ true) ⊎ ((is_one_of control_words word ≡ true) ⊎ IsNamedLoop word)

-- a constant verb, `_9:` to `9:` without `_0:`: a digit and a colon, perhaps behind an underscore
abbrev pub is_plain_constant : ℕ → ℕ → Bool
is_plain_constant digit mark = is_digit digit && mark == colon

abbrev pub is_signed_constant : ℕ → ℕ → ℕ → Bool
is_signed_constant sign digit mark = sign == underscore && (not (digit == 48) && is_plain_constant digit mark)

unfoldable pub is_constant : List ℕ → Bool
is_constant [] = false
is_constant (digit ∷ []) = false
is_constant (digit ∷ mark ∷ []) = is_plain_constant digit mark
is_constant (sign ∷ digit ∷ mark ∷ []) = is_signed_constant sign digit mark
is_constant (sign ∷ digit ∷ mark ∷ other ∷ rest) = false
