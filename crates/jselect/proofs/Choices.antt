-- Choices by a test that is known.
use Rattle.std.specs.Prelude.{◌≡◌, ◌&&◌, Bool, true, false, if◌then◌else◌}
use Rattle.std.proofs.Common.{refl}

pub chosen : {A : Type 0} (b : Bool) (x y : A) → b ≡ true → (if b then x else y) ≡ x
chosen true x y e = refl
chosen false x y e = cc

pub otherwise : {A : Type 0} (b : Bool) (x y : A) → b ≡ false → (if b then x else y) ≡ y
otherwise true x y e = cc
otherwise false x y e = refl

pub and_first : (a b : Bool) → a && b ≡ true → a ≡ true
and_first true b e = refl
and_first false b e = cc

pub and_second : (a b : Bool) → a && b ≡ true → b ≡ true
and_second true b e = e
and_second false b e = cc

pub both : (a b : Bool) → a ≡ true → b ≡ true → a && b ≡ true
both a b e f = rw (e, f) refl
