-- The spelling of each primitive verb is one word.
use Rattle.std.proofs.Common.{refl}
use Rattle.jdata.specs.Spelling.{spelling_of, verb_of}
use Rattle.jdata.specs.declared.primitive.Primitive.TheVariants as verb
use Rattle.jwords.specs.declared.word.WordKind.TheVariants.{Graphic, Inflected}
use Rattle.jwords.specs.Alphabet.{is_blank, is_letter, is_digit, is_alphanumeric, is_name_byte, is_number_start, is_inflection}
use Rattle.jwords.specs.Listed.{is_listed}
use Rattle.jwords.specs.Formed.{words_of, cut_from, find_word, find_symbol, find_name, is_listed_inflected}
use Rattle.jwords.specs.Laws.{EachVerbIsAWord}

pub each_is_a_word : EachVerbIsAWord
unfolding spelling_of verb_of is_blank is_letter is_digit is_alphanumeric is_name_byte is_number_start is_inflection is_listed words_of cut_from find_word find_symbol find_name is_listed_inflected
each_is_a_word verb.Equal = (Graphic, refl)
each_is_a_word verb.Less = (Graphic, refl)
each_is_a_word verb.LessDot = (Graphic, refl)
each_is_a_word verb.LessColon = (Graphic, refl)
each_is_a_word verb.Greater = (Graphic, refl)
each_is_a_word verb.GreaterDot = (Graphic, refl)
each_is_a_word verb.GreaterColon = (Graphic, refl)
each_is_a_word verb.Plus = (Graphic, refl)
each_is_a_word verb.PlusDot = (Graphic, refl)
each_is_a_word verb.PlusColon = (Graphic, refl)
each_is_a_word verb.Times = (Graphic, refl)
each_is_a_word verb.TimesDot = (Graphic, refl)
each_is_a_word verb.TimesColon = (Graphic, refl)
each_is_a_word verb.Minus = (Graphic, refl)
each_is_a_word verb.MinusDot = (Graphic, refl)
each_is_a_word verb.MinusColon = (Graphic, refl)
each_is_a_word verb.Divide = (Graphic, refl)
each_is_a_word verb.DivideColon = (Graphic, refl)
each_is_a_word verb.Power = (Graphic, refl)
each_is_a_word verb.Bar = (Graphic, refl)
each_is_a_word verb.BarDot = (Graphic, refl)
each_is_a_word verb.BarColon = (Graphic, refl)
each_is_a_word verb.TildeDot = (Graphic, refl)
each_is_a_word verb.TildeColon = (Graphic, refl)
each_is_a_word verb.Comma = (Graphic, refl)
each_is_a_word verb.CommaDot = (Graphic, refl)
each_is_a_word verb.CommaColon = (Graphic, refl)
each_is_a_word verb.Semicolon = (Graphic, refl)
each_is_a_word verb.SemicolonColon = (Graphic, refl)
each_is_a_word verb.Hash = (Graphic, refl)
each_is_a_word verb.HashDot = (Graphic, refl)
each_is_a_word verb.HashColon = (Graphic, refl)
each_is_a_word verb.Bang = (Graphic, refl)
each_is_a_word verb.Dollar = (Graphic, refl)
each_is_a_word verb.SlashColon = (Graphic, refl)
each_is_a_word verb.BackslashColon = (Graphic, refl)
each_is_a_word verb.LeftBracket = (Graphic, refl)
each_is_a_word verb.RightBracket = (Graphic, refl)
each_is_a_word verb.LeftBracketColon = (Graphic, refl)
each_is_a_word verb.LeftBrace = (Graphic, refl)
each_is_a_word verb.LeftBraceDot = (Graphic, refl)
each_is_a_word verb.LeftBraceColon = (Graphic, refl)
each_is_a_word verb.LeftBraceColonColon = (Graphic, refl)
each_is_a_word verb.RightBraceDot = (Graphic, refl)
each_is_a_word verb.RightBraceColon = (Graphic, refl)
each_is_a_word verb.QuoteColon = (Graphic, refl)
each_is_a_word verb.EDot = (Inflected, refl)
each_is_a_word verb.IDot = (Inflected, refl)
each_is_a_word verb.IColon = (Inflected, refl)
each_is_a_word verb.CapitalIDot = (Inflected, refl)
each_is_a_word verb.CapitalLDot = (Inflected, refl)
each_is_a_word verb.CapitalTDot = (Inflected, refl)
