-- How each primitive verb is spelled (NuVoc, "Vocabulary").
use Rattle.std.specs.Prelude.{◌≡◌, ◌↔◌, ℕ, List, codes, Option, Some}
use Rattle.std.specs.List.{find}
use Rattle.std.specs.Str.{bytes_eq}
use Rattle.jdata.specs.declared.primitive.Primitive.{Primitive}
use Rattle.jdata.specs.declared.spelling.TheConstants.{ALL}
use Rattle.jdata.specs.declared.primitive.Primitive.TheVariants as verb

unfoldable pub spelling_of : Primitive → List ℕ
spelling_of verb.Equal = codes "="
spelling_of verb.Less = codes "<"
spelling_of verb.LessDot = codes "<."
spelling_of verb.LessColon = codes "<:"
spelling_of verb.Greater = codes ">"
spelling_of verb.GreaterDot = codes ">."
spelling_of verb.GreaterColon = codes ">:"
spelling_of verb.Plus = codes "+"
spelling_of verb.PlusDot = codes "+."
spelling_of verb.PlusColon = codes "+:"
spelling_of verb.Times = codes "*"
spelling_of verb.TimesDot = codes "*."
spelling_of verb.TimesColon = codes "*:"
spelling_of verb.Minus = codes "-"
spelling_of verb.MinusDot = codes "-."
spelling_of verb.MinusColon = codes "-:"
spelling_of verb.Divide = codes "%"
spelling_of verb.DivideColon = codes "%:"
spelling_of verb.Power = codes "^"
spelling_of verb.Bar = codes "|"
spelling_of verb.BarDot = codes "|."
spelling_of verb.BarColon = codes "|:"
spelling_of verb.TildeDot = codes "~."
spelling_of verb.TildeColon = codes "~:"
spelling_of verb.Comma = codes ","
spelling_of verb.CommaDot = codes ",."
spelling_of verb.CommaColon = codes ",:"
spelling_of verb.Semicolon = codes ";"
spelling_of verb.SemicolonColon = codes ";:"
spelling_of verb.Hash = codes "#"
spelling_of verb.HashDot = codes "#."
spelling_of verb.HashColon = codes "#:"
spelling_of verb.Bang = codes "!"
spelling_of verb.Dollar = codes "$"
spelling_of verb.SlashColon = codes "/:"
spelling_of verb.BackslashColon = codes "\\:"
spelling_of verb.LeftBracket = codes "["
spelling_of verb.RightBracket = codes "]"
spelling_of verb.LeftBracketColon = codes "[:"
spelling_of verb.LeftBrace = codes "{"
spelling_of verb.LeftBraceDot = codes "{."
spelling_of verb.LeftBraceColon = codes "{:"
spelling_of verb.LeftBraceColonColon = codes "{::"
spelling_of verb.RightBraceDot = codes "}."
spelling_of verb.RightBraceColon = codes "}:"
spelling_of verb.QuoteColon = codes "\":"
spelling_of verb.EDot = codes "e."
spelling_of verb.IDot = codes "i."
spelling_of verb.IColon = codes "i:"
spelling_of verb.CapitalIDot = codes "I."
spelling_of verb.CapitalLDot = codes "L."
spelling_of verb.CapitalTDot = codes "T."

-- the first of these verbs that is spelled so
abbrev pub first_spelled : List Primitive → List ℕ → Option Primitive
first_spelled verbs word = find (λ verb. bytes_eq (spelling_of verb) word) verbs

-- the verb that a word spells, if it spells one
unfoldable pub verb_of : List ℕ → Option Primitive
verb_of word = first_spelled ALL.now word

-- it is the one whose spelling the word is
abbrev pub WordsTellVerbs : Type 0
WordsTellVerbs = (word : List ℕ) (v : Primitive) → (verb_of word ≡ Some v) ↔ (word ≡ spelling_of v)

-- no two verbs are spelled alike
abbrev pub SpellingsDiffer : Type 0
SpellingsDiffer = (v w : Primitive) → spelling_of v ≡ spelling_of w → v ≡ w
