-- What the numbers of two arguments give.
use Rattle.std.proofs.Common.{◌≡◌, refl, ◌&&◌, ℤ, Bool, true, false, List, map, Err}
use Rattle.jdata.specs.Noun.{shape, atoms}
use Rattle.jdata.specs.declared.fault.Fault.TheVariants as fault
use Rattle.jdata.specs.declared.noun.Noun.{Noun}
use Rattle.jdata.specs.declared.noun.Atom.TheVariants as atom
use Rattle.jarray.specs.Numbers.{is_integers}
use Rattle.jselect.specs.Picking.{is_alone}
use Rattle.jselect.proofs.Copied.{integers_are}
use Rattle.jradix.specs.Bases.{value_of, value_in}
use Rattle.jradix.specs.Digits.{digits, digits_of}

pub value_by_numbers : (x y : Noun) (bases digits : List ℤ) → is_integers x ≡ true → is_integers y ≡ true → map atom.Int bases ≡ atoms x → map atom.Int digits ≡ atoms y
    → value_in (is_alone (shape x)) bases (is_alone (shape y)) digits ≡ value_of x y
unfolding value_of
value_by_numbers x y bases digits whole_x whole_y these those =
    rw (whole_x, whole_y, integers_are x bases these, integers_are y digits those) refl

pub no_value : (x y : Noun) → is_integers x ≡ false → Err fault.Domain ≡ value_of x y
unfolding value_of
no_value x y e = rw e refl

not_both : (a : Bool) → a && false ≡ false
not_both true = refl
not_both false = refl

pub no_value_right : (x y : Noun) → is_integers y ≡ false → Err fault.Domain ≡ value_of x y
unfolding value_of
no_value_right x y e = rw (e, not_both (is_integers x)) refl

pub digits_by_numbers : (x y : Noun) (bases numbers : List ℤ) → is_integers x ≡ true → is_integers y ≡ true → map atom.Int bases ≡ atoms x → map atom.Int numbers ≡ atoms y
    → digits_of bases numbers ≡ digits x y
unfolding digits
digits_by_numbers x y bases numbers whole_x whole_y these those =
    rw (whole_x, whole_y, integers_are x bases these, integers_are y numbers those) refl

pub no_digits : (x y : Noun) → is_integers x ≡ false → digits x y ≡ Err fault.Domain
unfolding digits
no_digits x y e = rw e refl

pub no_digits_right : (x y : Noun) → is_integers y ≡ false → digits x y ≡ Err fault.Domain
unfolding digits
no_digits_right x y e = rw (e, not_both (is_integers x)) refl
