use Rattle.std.proofs.Common.{◌≡◌, ◌<◌, ◌-◌, get_or, arith}
use Rattle.std.specs.Char.{digit_value}
use Rattle.std.specs.Str.Parse.{AllDigits, digits_value}
use Rattle.jnumber.proofs.Digits.{digit_is, same_all, too_great}
use Rattle.jnumber.proofs.reader.magnitude.Goals as goal

pub returns-in_default : goal.returns-in_default
returns-in_default c = λ h.
    let d : (digit_value (get_or c.args.digits.now c.loop-byte.byte-index 0) < 10) × (digit_value (get_or c.args.digits.now c.loop-byte.byte-index 0) ≡ get_or c.args.digits.now c.loop-byte.byte-index 0 - 48) =
    digit_is _ (grind arith) (grind arith) in
    too_great c.loop-byte.value c.args.digits.now c.args.digits.now c.loop-byte.byte-index (omega arith) c.loop-byte.invariant
    (λ small. c.in_default.ensures (omega (arith, small, d))) h.1

pub returns : goal.returns
returns c =
    let e : AllDigits 10 c.args.digits.now × (c.loop-byte.value ≡ digits_value 10 c.args.digits.now) =
    same_all c.loop-byte.value c.args.digits.now c.args.digits.now c.loop-byte.byte-index (omega arith) c.loop-byte.invariant in
    ((((grind arith), e.0), (omega (arith, c.loop-byte.invariant.fits, e.1))), e.1)
