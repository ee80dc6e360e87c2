-- Which verbs have an obverse (NuVoc, "Obverse"): a verb that undoes what they do.
use Rattle.std.specs.Prelude.{Bool, true, false, ◌&&◌, ◌||◌}
use Rattle.jdata.specs.declared.primitive.Primitive.{Primitive}
use Rattle.jdata.specs.declared.primitive.Primitive.TheVariants as verb
use Rattle.jterm.specs.declared.term.Term.{Term, Term-F, para-Term}
use Rattle.jterm.specs.declared.term.Term.TheVariants as term
use Rattle.jterm.specs.declared.term.Term.TheOpen as one
use Rattle.jterm.specs.declared.words.Con.{Con}
use Rattle.jterm.specs.declared.words.Con.TheVariants as con

-- each of a pair undoes the other, and some verbs undo themselves
unfoldable pub is_undone : Primitive → Bool
is_undone verb.Less = true
is_undone verb.Greater = true
is_undone verb.PlusColon = true
is_undone verb.MinusColon = true
is_undone verb.LessColon = true
is_undone verb.GreaterColon = true
is_undone verb.TimesColon = true
is_undone verb.DivideColon = true
is_undone verb.HashDot = true
is_undone verb.HashColon = true
is_undone verb.Minus = true
is_undone verb.Divide = true
is_undone verb.MinusDot = true
is_undone verb.BarDot = true
is_undone verb.BarColon = true
is_undone verb.LeftBracket = true
is_undone verb.RightBracket = true
is_undone other = false

-- `m&+`, `m&-`, `m&*`
abbrev pub is_undone_bonded_left : Primitive → Bool
is_undone_bonded_left verb.Plus = true
is_undone_bonded_left verb.Minus = true
is_undone_bonded_left verb.Times = true
is_undone_bonded_left other = false

-- `+&m`, `-&m`, `*&m`, `%&m`
abbrev pub is_undone_bonded_right : Primitive → Bool
is_undone_bonded_right verb.Plus = true
is_undone_bonded_right verb.Minus = true
is_undone_bonded_right verb.Times = true
is_undone_bonded_right verb.Divide = true
is_undone_bonded_right other = false

-- a noun bonded with one of these verbs
abbrev pub is_undone_bond : Term → Term → Bool
is_undone_bond (term.Noun m) (term.Verb v) = is_undone_bonded_left v
is_undone_bond (term.Verb u) (term.Noun n) = is_undone_bonded_right u
is_undone_bond l r = false

-- `u@v`, `u@:v`, `u&v`, `u&:v` where both are undone
abbrev pub is_undone_with2 : Con → Term × Bool → Term × Bool → Bool
is_undone_with2 con.At u v = u.1 && v.1
is_undone_with2 con.AtColon u v = u.1 && v.1
is_undone_with2 con.AmpersandColon u v = u.1 && v.1
is_undone_with2 con.Ampersand u v = is_undone_bond u.0 v.0 || (u.1 && v.1)
is_undone_with2 other u v = false

abbrev pub obverse_step : Term-F (Term × Bool) → Bool
obverse_step (one.Verb v) = is_undone v
obverse_step (one.With2 word u v) = is_undone_with2 word u v
obverse_step other = false

-- no other term has one, and a name hasn't, whatever it stands for
unfoldable pub has_obverse : Term → Bool
has_obverse = para-Term Bool obverse_step
