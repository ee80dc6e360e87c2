-- Obverses (NuVoc "^:", "Obverse"): the verb that undoes a verb.
use Rattle.std.specs.Prelude.{Option, Some, None, Result, Ok, Err}
use Rattle.jdata.specs.Firsts.{and_then}
use Rattle.jdata.specs.declared.fault.Fault.{Fault}
use Rattle.jdata.specs.declared.fault.Fault.TheVariants as fault
use Rattle.jdata.specs.declared.noun.Noun.{Noun}
use Rattle.jdata.specs.declared.primitive.Primitive.{Primitive}
use Rattle.jdata.specs.declared.primitive.Primitive.TheVariants as verb
use Rattle.jterm.specs.Acts.{conj_of}
use Rattle.jterm.specs.declared.term.Term.{Term, Term-F, para-Term}
use Rattle.jterm.specs.declared.term.Term.TheVariants as term
use Rattle.jterm.specs.declared.term.Term.TheOpen as one
use Rattle.jterm.specs.declared.words.Con.{Con}
use Rattle.jterm.specs.declared.words.Con.TheVariants as con
use Rattle.jsplit.specs.declared.bond.Bond.{Bond}
use Rattle.jsplit.specs.declared.bond.Bond.TheVariants as bond

-- each of a pair undoes the other, and some verbs undo themselves
unfoldable pub undone_by : Primitive → Option Primitive
undone_by verb.Less = Some verb.Greater
undone_by verb.Greater = Some verb.Less
undone_by verb.PlusColon = Some verb.MinusColon
undone_by verb.MinusColon = Some verb.PlusColon
undone_by verb.LessColon = Some verb.GreaterColon
undone_by verb.GreaterColon = Some verb.LessColon
undone_by verb.TimesColon = Some verb.DivideColon
undone_by verb.DivideColon = Some verb.TimesColon
undone_by verb.HashDot = Some verb.HashColon
undone_by verb.HashColon = Some verb.HashDot
undone_by verb.Minus = Some verb.Minus
undone_by verb.Divide = Some verb.Divide
undone_by verb.MinusDot = Some verb.MinusDot
undone_by verb.BarDot = Some verb.BarDot
undone_by verb.BarColon = Some verb.BarColon
undone_by verb.LeftBracket = Some verb.LeftBracket
undone_by verb.RightBracket = Some verb.RightBracket
undone_by other = None

abbrev pub verb_or_fault : Option Primitive → Result Term Fault
verb_or_fault (Some v) = Ok (term.Verb v)
verb_or_fault None = Err fault.Domain

-- `m&+` by `-&m`, `m&-` by itself, `m&*` by `%&m`
abbrev pub left_undone_by : Primitive → Option Bond
left_undone_by verb.Plus = Some (bond.Right verb.Minus)
left_undone_by verb.Minus = Some (bond.Left verb.Minus)
left_undone_by verb.Times = Some (bond.Right verb.Divide)
left_undone_by other = None

-- `+&m` by `-&m`, `-&m` by `+&m`, `*&m` by `%&m`, `%&m` by `*&m`
abbrev pub right_undone_by : Primitive → Option Bond
right_undone_by verb.Plus = Some (bond.Right verb.Minus)
right_undone_by verb.Minus = Some (bond.Right verb.Plus)
right_undone_by verb.Times = Some (bond.Right verb.Divide)
right_undone_by verb.Divide = Some (bond.Right verb.Times)
right_undone_by other = None

-- `m&v` or `v&m`
abbrev pub bonded : Bond → Noun → Term
bonded (bond.Left v) m = term.With2 con.Ampersand (term.Noun m) (term.Verb v)
bonded (bond.Right v) m = term.With2 con.Ampersand (term.Verb v) (term.Noun m)

abbrev pub bond_or : Option Bond → Noun → Result Term Fault → Result Term Fault
bond_or (Some b) m other = Ok (bonded b m)
bond_or None m other = other

-- a verb bonded with a noun, or what else there is
abbrev pub unbonded : Term → Term → Result Term Fault → Result Term Fault
unbonded (term.Noun m) (term.Verb v) other = bond_or (left_undone_by v) m other
unbonded (term.Verb u) (term.Noun m) other = bond_or (right_undone_by u) m other
unbonded u v other = other

-- the obverse of v after that of u, with `@:`
abbrev pub undone_in_turn : Result Term Fault → Result Term Fault → Result Term Fault
undone_in_turn u v = and_then u (λ s. and_then v (λ t. conj_of con.AtColon t s))

-- a conjunction with its operands, each beside its obverse: `u@v`, `u@:v`, `u&v`, `u&:v` and bonds
abbrev pub with2_undone : Con → Term × Result Term Fault → Term × Result Term Fault → Result Term Fault
with2_undone con.At u v = undone_in_turn u.1 v.1
with2_undone con.AtColon u v = undone_in_turn u.1 v.1
with2_undone con.AmpersandColon u v = undone_in_turn u.1 v.1
with2_undone con.Ampersand u v = unbonded u.0 v.0 (undone_in_turn u.1 v.1)
with2_undone other u v = Err fault.Domain

abbrev pub obverse_step : Term-F (Term × Result Term Fault) → Result Term Fault
obverse_step (one.Verb v) = verb_or_fault (undone_by v)
obverse_step (one.With2 word u v) = with2_undone word u v
obverse_step other = Err fault.Domain

-- no other term has one
unfoldable pub obverse : Term → Result Term Fault
obverse = para-Term (Result Term Fault) obverse_step

-- the fault, if there is one
abbrev pub refusal : {Value : Type 0} → Result Value Fault → Option Fault
refusal (Ok value) = None
refusal (Err fault) = Some fault
