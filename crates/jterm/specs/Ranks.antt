-- The ranks of verbs (J Dictionary, "Verbs", and NuVoc, "Vocabulary"): of the monad, and of the dyad's left and right
-- arguments. None is no limit, as it is for a valence that is left out.
use Rattle.std.specs.Prelude.{ℤ, pos, List, [], ◌∷◌, map, Option, Some, None}
use Rattle.jdata.specs.Noun.{atoms}
use Rattle.jdata.specs.declared.noun.Atom.{Atom}
use Rattle.jdata.specs.declared.noun.Atom.TheVariants as atom
use Rattle.jdata.specs.declared.primitive.Primitive.{Primitive}
use Rattle.jdata.specs.declared.primitive.Primitive.TheVariants as verb
use Rattle.jterm.specs.Speeches.{speech_of}
use Rattle.jterm.specs.declared.ranking.VerbRanks.{VerbRanks}
use Rattle.jterm.specs.declared.speech.Speech.{Speech}
use Rattle.jterm.specs.declared.speech.Speech.TheVariants as speech
use Rattle.jterm.specs.declared.term.Term.{Term, Term-F, para-Term}
use Rattle.jterm.specs.declared.term.Term.TheVariants as term
use Rattle.jterm.specs.declared.term.Term.TheOpen as one
use Rattle.jterm.specs.declared.words.Adv.{Adv}
use Rattle.jterm.specs.declared.words.Adv.TheVariants as adv
use Rattle.jterm.specs.declared.words.Con.{Con}
use Rattle.jterm.specs.declared.words.Con.TheVariants as con

abbrev pub Rank : Type 0
Rank = Option ℤ

abbrev pub at : ℤ → Rank
at n = Some n

abbrev pub these : Rank → Rank → Rank → VerbRanks
these m l r = record { monad = m; left = l; right = r }

abbrev pub unbounded : VerbRanks
unbounded = these None None None

abbrev pub each : Rank → VerbRanks
each r = these r r r

-- the monads of rank 0 and of rank 1
unfoldable pub monad_rank : Primitive → Rank
monad_rank verb.Plus = at (pos 0)
monad_rank verb.LessDot = at (pos 0)
monad_rank verb.GreaterDot = at (pos 0)
monad_rank verb.Minus = at (pos 0)
monad_rank verb.Bar = at (pos 0)
monad_rank verb.Times = at (pos 0)
monad_rank verb.Divide = at (pos 0)
monad_rank verb.PlusColon = at (pos 0)
monad_rank verb.TimesColon = at (pos 0)
monad_rank verb.LessColon = at (pos 0)
monad_rank verb.GreaterColon = at (pos 0)
monad_rank verb.MinusDot = at (pos 0)
monad_rank verb.MinusColon = at (pos 0)
monad_rank verb.Bang = at (pos 0)
monad_rank verb.Power = at (pos 0)
monad_rank verb.DivideColon = at (pos 0)
monad_rank verb.IColon = at (pos 0)
monad_rank verb.Greater = at (pos 0)
monad_rank verb.IDot = at (pos 1)
monad_rank verb.CapitalIDot = at (pos 1)
monad_rank verb.HashDot = at (pos 1)
monad_rank verb.SemicolonColon = at (pos 1)
monad_rank other = None

-- the dyads whose left argument has rank 0 or 1
unfoldable pub left_rank : Primitive → Rank
left_rank verb.Plus = at (pos 0)
left_rank verb.Minus = at (pos 0)
left_rank verb.Times = at (pos 0)
left_rank verb.Divide = at (pos 0)
left_rank verb.Bar = at (pos 0)
left_rank verb.Power = at (pos 0)
left_rank verb.DivideColon = at (pos 0)
left_rank verb.Bang = at (pos 0)
left_rank verb.LessDot = at (pos 0)
left_rank verb.GreaterDot = at (pos 0)
left_rank verb.Less = at (pos 0)
left_rank verb.LessColon = at (pos 0)
left_rank verb.Greater = at (pos 0)
left_rank verb.GreaterColon = at (pos 0)
left_rank verb.Equal = at (pos 0)
left_rank verb.TildeColon = at (pos 0)
left_rank verb.PlusDot = at (pos 0)
left_rank verb.TimesDot = at (pos 0)
left_rank verb.PlusColon = at (pos 0)
left_rank verb.TimesColon = at (pos 0)
left_rank verb.LeftBrace = at (pos 0)
left_rank verb.Dollar = at (pos 1)
left_rank verb.BarColon = at (pos 1)
left_rank verb.BarDot = at (pos 1)
left_rank verb.LeftBraceDot = at (pos 1)
left_rank verb.RightBraceDot = at (pos 1)
left_rank verb.Hash = at (pos 1)
left_rank verb.LeftBraceColonColon = at (pos 1)
left_rank verb.HashDot = at (pos 1)
left_rank verb.HashColon = at (pos 1)
left_rank other = None

-- the dyads whose right argument has rank 0 or 1
unfoldable pub right_rank : Primitive → Rank
right_rank verb.Plus = at (pos 0)
right_rank verb.Minus = at (pos 0)
right_rank verb.Times = at (pos 0)
right_rank verb.Divide = at (pos 0)
right_rank verb.Bar = at (pos 0)
right_rank verb.Power = at (pos 0)
right_rank verb.DivideColon = at (pos 0)
right_rank verb.Bang = at (pos 0)
right_rank verb.LessDot = at (pos 0)
right_rank verb.GreaterDot = at (pos 0)
right_rank verb.Less = at (pos 0)
right_rank verb.LessColon = at (pos 0)
right_rank verb.Greater = at (pos 0)
right_rank verb.GreaterColon = at (pos 0)
right_rank verb.Equal = at (pos 0)
right_rank verb.TildeColon = at (pos 0)
right_rank verb.PlusDot = at (pos 0)
right_rank verb.TimesDot = at (pos 0)
right_rank verb.PlusColon = at (pos 0)
right_rank verb.TimesColon = at (pos 0)
right_rank verb.HashColon = at (pos 0)
right_rank verb.HashDot = at (pos 1)
right_rank other = None

abbrev pub primitive_ranks : Primitive → VerbRanks
primitive_ranks v = these (monad_rank v) (left_rank v) (right_rank v)

abbrev pub rank_in : Atom → Rank
rank_in (atom.Int n) = Some n
rank_in other = None

-- the numbers of a noun to the right of `"`, or those of a number word with `_`
abbrev pub numbers : Term → List Rank
numbers (term.Noun v) = map rank_in (atoms v)
numbers (term.Ranks l) = l
numbers other = []

-- one number is all three ranks, two are left and right and the monad's is the right one, three are in order
abbrev pub spread : List Rank → VerbRanks
spread (r ∷ []) = each r
spread (l ∷ r ∷ []) = these r l r
spread (m ∷ l ∷ r ∷ []) = these m l r
spread other = unbounded

-- a verb under an adverb: infixes and outfixes take one number at a time, and `~` exchanges the arguments
abbrev pub with1_ranks : Adv → VerbRanks → VerbRanks
with1_ranks adv.Backslash u = these None (at (pos 0)) None
with1_ranks adv.BackslashDot u = these None (at (pos 0)) None
with1_ranks adv.Tilde u = these None u.right u.left
with1_ranks other u = unbounded

-- `u&v` has the monadic rank of `v`; with a noun on one side there is no limit
abbrev pub compose_ranks : Speech → Speech → VerbRanks → VerbRanks
compose_ranks speech.Verb speech.Verb v = each v.monad
compose_ranks l r v = unbounded

-- a conjunction with its operands, each beside its ranks
abbrev pub with2_ranks : Con → Term × VerbRanks → Term × VerbRanks → VerbRanks
with2_ranks con.Quote u n = spread (numbers n.0)
with2_ranks con.At u v = v.1
with2_ranks con.Ampersand u v = compose_ranks (speech_of u.0) (speech_of v.0) v.1
with2_ranks con.AmpersandDot u v = each v.1.monad
with2_ranks con.Colon u v = these u.1.monad v.1.left v.1.right
with2_ranks con.SemicolonDot u k = these None (at (pos 1)) None
with2_ranks other u v = unbounded

-- a name and a train have no limit
abbrev pub rank_step : Term-F (Term × VerbRanks) → VerbRanks
rank_step (one.Verb v) = primitive_ranks v
rank_step (one.With1 word u) = with1_ranks word u.1
rank_step (one.With2 word u v) = with2_ranks word u v
rank_step other = unbounded

unfoldable pub ranks_of : Term → VerbRanks
ranks_of = para-Term VerbRanks rank_step

-- the monad's, the left and the right
abbrev pub listed : VerbRanks → List Rank
listed r = r.monad ∷ r.left ∷ r.right ∷ []
