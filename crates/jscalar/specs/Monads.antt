-- The scalar monads on one integer (NuVoc, the monads of rank 0 on numbers): what each gives, or its fault.
use Rattle.std.specs.Prelude.{ℤ, pos, ◌+ℤ◌, ◌-ℤ◌, ◌*ℤ◌, neg_ℤ, unsigned_abs, Option, Some, None, Result, Ok, Err}
use Rattle.std.specs.Int.{int_signum}
use Rattle.jdata.specs.declared.fault.Fault.{Fault}
use Rattle.jdata.specs.declared.fault.Fault.TheVariants.{Nonce}
use Rattle.jdata.specs.declared.primitive.Primitive.{Primitive}
use Rattle.jdata.specs.declared.primitive.Primitive.TheVariants.{Plus, LessDot, GreaterDot, Minus, Bar, Times, Divide, PlusColon, TimesColon, LessColon, GreaterColon, MinusDot, MinusColon, Bang, Power, DivideColon}
use Rattle.jscalar.specs.Fitted.{fitted}
use Rattle.jscalar.specs.Quotients.{whole_quotient, reciprocal}
use Rattle.jscalar.specs.Choices.{factorial_of}
use Rattle.jscalar.specs.Powers.{exponential, root}

abbrev pub same : ℤ → Result ℤ Fault
same y = Ok y

abbrev pub negate : ℤ → Result ℤ Fault
negate y = fitted (neg_ℤ y)

abbrev pub magnitude : ℤ → Result ℤ Fault
magnitude y = fitted (pos (unsigned_abs y))

abbrev pub signum : ℤ → Result ℤ Fault
signum y = Ok (int_signum y)

abbrev pub double : ℤ → Result ℤ Fault
double y = fitted (pos 2 *ℤ y)

abbrev pub square : ℤ → Result ℤ Fault
square y = fitted (y *ℤ y)

abbrev pub decrement : ℤ → Result ℤ Fault
decrement y = fitted (y -ℤ pos 1)

abbrev pub increment : ℤ → Result ℤ Fault
increment y = fitted (y +ℤ pos 1)

abbrev pub one_minus : ℤ → Result ℤ Fault
one_minus y = fitted (pos 1 -ℤ y)

abbrev pub halve : ℤ → Result ℤ Fault
halve y = whole_quotient y (pos 2)

abbrev pub square_root : ℤ → Result ℤ Fault
square_root y = root (pos 2) y

-- the scalar monads, and nothing for each other verb
unfoldable pub monad_on : Primitive → Option (ℤ → Result ℤ Fault)
monad_on Plus = Some same
monad_on LessDot = Some same
monad_on GreaterDot = Some same
monad_on Minus = Some negate
monad_on Bar = Some magnitude
monad_on Times = Some signum
monad_on Divide = Some reciprocal
monad_on PlusColon = Some double
monad_on TimesColon = Some square
monad_on LessColon = Some decrement
monad_on GreaterColon = Some increment
monad_on MinusDot = Some one_minus
monad_on MinusColon = Some halve
monad_on Bang = Some factorial_of
monad_on Power = Some exponential
monad_on DivideColon = Some square_root
monad_on other = None

abbrev pub on_one : Option (ℤ → Result ℤ Fault) → ℤ → Result ℤ Fault
on_one (Some meant) y = meant y
on_one None y = Err Nonce

-- a verb that is no scalar monad is Nonce
abbrev pub one_of : Primitive → ℤ → Result ℤ Fault
one_of verb y = on_one (monad_on verb) y
