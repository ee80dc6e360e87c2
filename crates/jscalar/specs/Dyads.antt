-- The scalar dyads on two integers (NuVoc, the dyads of ranks 0 0 on numbers): what each gives, or its fault.
use Rattle.std.specs.Prelude.{Bool, not, is_some, ℤ, pos, ◌+ℤ◌, ◌-ℤ◌, ◌*ℤ◌, unsigned_abs, int_lt, int_le, Option, Some, None, Result, Ok, Err}
use Rattle.std.specs.Int.{int_min, int_max}
use Rattle.std.specs.Ordering.{int_eq}
use Rattle.jdata.specs.declared.fault.Fault.{Fault}
use Rattle.jdata.specs.declared.fault.Fault.TheVariants.{Nonce}
use Rattle.jdata.specs.declared.primitive.Primitive.{Primitive}
use Rattle.jdata.specs.declared.primitive.Primitive.TheVariants.{Plus, Minus, Times, Divide, Bar, Power, DivideColon, Bang, LessDot, GreaterDot, Less, LessColon, Greater, GreaterColon, Equal, TildeColon, PlusDot, TimesDot, PlusColon, TimesColon}
use Rattle.jscalar.specs.Fitted.{fitted}
use Rattle.jscalar.specs.Truths.{truth, not_or, not_and}
use Rattle.jscalar.specs.Quotients.{whole_quotient, residue}
use Rattle.jscalar.specs.Divisors as divisors
use Rattle.jscalar.specs.Powers.{power, root}
use Rattle.jscalar.specs.Choices.{out_of}

abbrev pub plus : ℤ → ℤ → Result ℤ Fault
plus x y = fitted (x +ℤ y)

abbrev pub minus : ℤ → ℤ → Result ℤ Fault
minus x y = fitted (x -ℤ y)

abbrev pub times : ℤ → ℤ → Result ℤ Fault
times x y = fitted (x *ℤ y)

abbrev pub residue_of : ℤ → ℤ → Result ℤ Fault
residue_of x y = Ok (residue x y)

abbrev pub lesser : ℤ → ℤ → Result ℤ Fault
lesser x y = Ok (int_min x y)

abbrev pub larger : ℤ → ℤ → Result ℤ Fault
larger x y = Ok (int_max x y)

abbrev pub less_than : ℤ → ℤ → Result ℤ Fault
less_than x y = Ok (truth (int_lt x y))

abbrev pub less_or_equal : ℤ → ℤ → Result ℤ Fault
less_or_equal x y = Ok (truth (int_le x y))

abbrev pub larger_than : ℤ → ℤ → Result ℤ Fault
larger_than x y = Ok (truth (int_lt y x))

abbrev pub larger_or_equal : ℤ → ℤ → Result ℤ Fault
larger_or_equal x y = Ok (truth (int_le y x))

abbrev pub equal : ℤ → ℤ → Result ℤ Fault
equal x y = Ok (truth (int_eq x y))

abbrev pub not_equal : ℤ → ℤ → Result ℤ Fault
not_equal x y = Ok (truth (not (int_eq x y)))

abbrev pub common_divisor : ℤ → ℤ → Result ℤ Fault
common_divisor x y = fitted (pos (divisors.greatest_common_divisor (unsigned_abs x) (unsigned_abs y)))

abbrev pub common_multiple : ℤ → ℤ → Result ℤ Fault
common_multiple x y = fitted (divisors.common_multiple x y)

-- the scalar dyads, and nothing for each other verb
unfoldable pub dyad_on : Primitive → Option (ℤ → ℤ → Result ℤ Fault)
dyad_on Plus = Some plus
dyad_on Minus = Some minus
dyad_on Times = Some times
dyad_on Divide = Some whole_quotient
dyad_on Bar = Some residue_of
dyad_on Power = Some power
dyad_on DivideColon = Some root
dyad_on Bang = Some out_of
dyad_on LessDot = Some lesser
dyad_on GreaterDot = Some larger
dyad_on Less = Some less_than
dyad_on LessColon = Some less_or_equal
dyad_on Greater = Some larger_than
dyad_on GreaterColon = Some larger_or_equal
dyad_on Equal = Some equal
dyad_on TildeColon = Some not_equal
dyad_on PlusDot = Some common_divisor
dyad_on TimesDot = Some common_multiple
dyad_on PlusColon = Some not_or
dyad_on TimesColon = Some not_and
dyad_on other = None

abbrev pub on_two : Option (ℤ → ℤ → Result ℤ Fault) → ℤ → ℤ → Result ℤ Fault
on_two (Some meant) x y = meant x y
on_two None x y = Err Nonce

-- a verb that is no scalar dyad is Nonce
abbrev pub two_of : Primitive → ℤ → ℤ → Result ℤ Fault
two_of verb x y = on_two (dyad_on verb) x y

abbrev pub is_scalar_dyad : Primitive → Bool
is_scalar_dyad verb = is_some (dyad_on verb)
