-- How the adverbs and the conjunctions are spelled (NuVoc, "Vocabulary").
use Rattle.std.specs.Prelude.{ℕ, List, codes, Option, Some, None, if◌then◌else◌}
use Rattle.std.specs.Str.{bytes_eq}
use Rattle.jterm.specs.declared.words.Adv.{Adv}
use Rattle.jterm.specs.declared.words.Adv.TheVariants as adv
use Rattle.jterm.specs.declared.words.Con.{Con}
use Rattle.jterm.specs.declared.words.Con.TheVariants as con

-- the adverb that a word spells, if it spells one
abbrev pub adverb_of : List ℕ → Option Adv
adverb_of word =
    if bytes_eq word (codes "/") then Some adv.Slash else
    if bytes_eq word (codes "/.") then Some adv.SlashDot else
    if bytes_eq word (codes "\\") then Some adv.Backslash else
    if bytes_eq word (codes "\\.") then Some adv.BackslashDot else
    if bytes_eq word (codes "~") then Some adv.Tilde else
    if bytes_eq word (codes "}") then Some adv.RightBrace else None

-- the conjunction that a word spells, if it spells one
abbrev pub conj_of : List ℕ → Option Con
conj_of word =
    if bytes_eq word (codes "\"") then Some con.Quote else
    if bytes_eq word (codes "^:") then Some con.PowerColon else
    if bytes_eq word (codes "@") then Some con.At else
    if bytes_eq word (codes "@:") then Some con.AtColon else
    if bytes_eq word (codes "&") then Some con.Ampersand else
    if bytes_eq word (codes "&:") then Some con.AmpersandColon else
    if bytes_eq word (codes "&.") then Some con.AmpersandDot else
    if bytes_eq word (codes "&.:") then Some con.AmpersandDotColon else
    if bytes_eq word (codes ":") then Some con.Colon else
    if bytes_eq word (codes "::") then Some con.ColonColon else
    if bytes_eq word (codes ";.") then Some con.SemicolonDot else
    if bytes_eq word (codes "!:") then Some con.BangColon else
    if bytes_eq word (codes "t.") then Some con.TDot else None
