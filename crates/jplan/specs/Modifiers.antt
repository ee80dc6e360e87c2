-- What adverbs and conjunctions make of verbs and nouns, on one cell of the ranks of the derived verb (NuVoc, "Modifiers").
use Rattle.std.specs.Prelude.{Option, Some, None, Result, Ok, Err}
use Rattle.jdata.specs.declared.fault.Fault.TheVariants.{Nonce, Domain}
use Rattle.jdata.specs.declared.fault.Fault.{Fault}
use Rattle.jdata.specs.declared.noun.Noun.{Noun}
use Rattle.jamend.specs.Amended.{amended}
use Rattle.jsplit.specs.Undoing.{obverse}
use Rattle.jterm.specs.declared.term.Term.{Term, Term-F, out-Term}
use Rattle.jterm.specs.declared.term.Term.TheOpen as one
use Rattle.jterm.specs.declared.words.Adv.{Adv}
use Rattle.jterm.specs.declared.words.Adv.TheVariants as adv
use Rattle.jterm.specs.declared.words.Con.{Con}
use Rattle.jterm.specs.declared.words.Con.TheVariants as con
use Rattle.juses.specs.Program.{Return, Ask}
use Rattle.jplan.specs.Derivations.{Derivation, on, on_fault, applying, applying_last, refused}
use Rattle.jplan.specs.Inserting.{insert}
use Rattle.jplan.specs.Pieces.{cut, keyed, prefixed, suffixed}
use Rattle.jplan.specs.Repeating.{power}
use Rattle.jplan.specs.Trains.{hook, fork, left_or, noun_in}

-- `u~`: `y u y`, and `y u x`
abbrev pub reflex : Term → Option Noun → Noun → Derivation
reflex u x y = applying_last u (Some y) (left_or x y)

-- `u@v` and `u@:v`: `u (v y)`, and `u (x v y)`
abbrev pub atop : Term → Term → Option Noun → Noun → Derivation
atop u v x y = applying v x y (λ a. applying_last u None a)

-- `u&v` and `u&:v`: `u (v y)`, and `(v x) u (v y)`, where `v y` comes first
abbrev pub compose : Term → Term → Option Noun → Noun → Derivation
compose u v None y = atop u v None y
compose u v (Some x) y = applying v None y (λ b. applying v None x (λ a. applying_last u (Some a) b))

-- `u&.v` and `u&.:v`: `u&v`, and then `w`, which undoes `v`
abbrev pub under : Term → Term → Term → Option Noun → Noun → Derivation
under u v w None y = applying v None y (λ a. applying u None a (λ b. applying_last w None b))
under u v w (Some x) y = applying v None y (λ b. applying v None x (λ a. applying u (Some a) b (λ c. applying_last w None c)))

abbrev pub under_by : Result Term Fault → Term → Term → Option Noun → Noun → Derivation
under_by (Ok w) u v x y = under u v w x y
under_by (Err fault) u v x y = refused fault

-- `m&v y` is `m v y`
abbrev pub bond_left : Noun → Term → Option Noun → Noun → Derivation
bond_left m v None y = applying_last v (Some m) y
bond_left m v (Some x) y = refused Nonce

-- `u&n y` is `y u n`
abbrev pub bond_right : Term → Noun → Option Noun → Noun → Derivation
bond_right u n None y = applying_last u (Some y) n
bond_right u n (Some x) y = refused Nonce

-- `m&v`, `u&n` or `u&v`
abbrev pub bond : Option Noun → Option Noun → Term → Term → Option Noun → Noun → Derivation
bond (Some m) n u v x y = bond_left m v x y
bond None (Some n) u v x y = bond_right u n x y
bond None None u v x y = compose u v x y

-- `m"n` is `m`, and `u"n` is `u` on each cell
abbrev pub ranked : Option Noun → Term → Option Noun → Noun → Derivation
ranked (Some m) u x y = Return (Ok m)
ranked None u x y = applying_last u x y

-- `x m} y`, which nothing else makes
abbrev pub amend : Option Noun → Option Noun → Noun → Derivation
amend (Some m) (Some x) y = Return (amended x m y)
amend m x y = refused Nonce

-- `u : v` is `u` with one argument and `v` with two
abbrev pub ambivalent : Term → Term → Option Noun → Noun → Derivation
ambivalent u v None y = applying_last u None y
ambivalent u v (Some x) y = applying_last v (Some x) y

-- `u :: v` is `u` and, where that has a fault, `v`
abbrev pub adverse : Term → Term → Option Noun → Noun → Derivation
adverse u v x y = Ask (on u x y) (on_fault (applying_last v x y))

-- an adverb with its operand
abbrev pub modified : Adv → Term → Option Noun → Noun → Derivation
modified adv.Slash u x y = insert u x y
modified adv.Tilde u x y = reflex u x y
modified adv.Backslash u x y = prefixed u x y
modified adv.BackslashDot u x y = suffixed u x y
modified adv.SlashDot u x y = keyed u x y
modified adv.RightBrace u x y = amend (noun_in u) x y

-- a conjunction with its operands; others aren't built
abbrev pub joined : Con → Term → Term → Option Noun → Noun → Derivation
joined con.Quote u n x y = ranked (noun_in u) u x y
joined con.PowerColon u v x y = power u v x y
joined con.At u v x y = atop u v x y
joined con.AtColon u v x y = atop u v x y
joined con.Ampersand u v x y = bond (noun_in u) (noun_in v) u v x y
joined con.AmpersandColon u v x y = compose u v x y
joined con.AmpersandDot u v x y = under_by (obverse v) u v x y
joined con.AmpersandDotColon u v x y = under_by (obverse v) u v x y
joined con.Colon u v x y = ambivalent u v x y
joined con.ColonColon u v x y = adverse u v x y
joined con.SemicolonDot u k x y = cut u k x y
joined other u v x y = refused Nonce

-- what a verb that is made of others does on one cell
abbrev pub derived_of : Term-F Term → Option Noun → Noun → Derivation
derived_of (one.With1 word u) x y = modified word u x y
derived_of (one.With2 word u v) x y = joined word u v x y
derived_of (one.Hook left right) x y = hook left right x y
derived_of (one.Fork left mid right) x y = fork left mid right x y
derived_of other x y = refused Domain

abbrev pub derived : Term → Option Noun → Noun → Derivation
derived t x y = derived_of (out-Term t) x y
