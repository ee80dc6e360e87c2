-- Numbers that say how many, one after the other.
use Rattle.std.specs.Prelude.{ℕ, zero, suc, ◌+◌, ◌<◌, ◌≤◌, ◌≡◌, int_lt, ◌&&◌, ℤ, pos, negsuc, Bool, true, false, List, [], ◌∷◌, length, map, max, Ok, Err, if◌then◌else◌}
use Rattle.std.specs.List.{list_all}
use Rattle.std.proofs.Common.{arith, sym, ◌∙◌, ap, refl, drop, get_or}
use Rattle.std.proofs.Math.Nat.{le-mul_of_pos_right, mul-le-mul_right}
use Rattle.std.proofs.lemmas.Int.{ints}
use Rattle.std.proofs.lemmas.List.{at_drop_more}
use Rattle.jdata.specs.Noun.{extent, atoms}
use Rattle.jdata.specs.declared.fault.Fault.TheVariants as fault
use Rattle.jdata.specs.declared.noun.Noun.{Noun}
use Rattle.jdata.specs.declared.noun.Atom.{out-Atom}
use Rattle.jdata.specs.declared.noun.Atom.TheVariants as atom
use Rattle.jarray.specs.Numbers.{is_integers}
use Rattle.jdata.proofs.Extents.{extent_some}
use Rattle.jstruct.specs.Arguments.{is_count, count_of, integers_in, integer_of}
use Rattle.jstruct.specs.Shaping.{counts}

pub count_some : (n : ℤ) → int_lt n (pos 0) ≡ false → is_count n ≡ true
count_some (pos n) h = refl
count_some (negsuc n) h = cc

pub count_none : (n : ℤ) → int_lt n (pos 0) ≡ true → is_count n ≡ false
count_none (pos n) h = absurd (grind (arith, ints))
count_none (negsuc n) h = refl

pub all_more : (ns : List ℤ) (i : ℕ) (n d : ℤ) → i < length ns → get_or ns i d ≡ n → is_count n ≡ true →
    list_all is_count (drop i ns) ≡ list_all is_count (drop (i + 1) ns)
all_more ns i n d h at e = at_drop_more (list_all is_count) ns i d h ∙ ap (λ b. b && list_all is_count (drop (i + 1) ns)) (ap is_count at ∙ e)

pub all_none : (ns : List ℤ) (i : ℕ) (n d : ℤ) → i < length ns → get_or ns i d ≡ n → is_count n ≡ false → list_all is_count (drop i ns) ≡ false
all_none ns i n d h at e = at_drop_more (list_all is_count) ns i d h ∙ ap (λ b. b && list_all is_count (drop (i + 1) ns)) (ap is_count at ∙ e)

-- no axis is longer than the extent of all
pub axis_at_most : (axes : List ℕ) (i : ℕ) → get_or axes i 0 ≤ extent axes
axis_at_most [] i = omega arith
axis_at_most (n ∷ ns) zero =
    let grow = le-mul_of_pos_right {m = extent ns} (max n 1) (omega (arith, extent_some ns)) in
    omega (arith, grow)
axis_at_most (n ∷ ns) (suc i) =
    let some : 1 ≤ max n 1 = omega arith in
    let grow = mul-le-mul_right (extent ns) some in
    let rest = axis_at_most ns i in
    omega (arith, grow, rest)

-- the integers of an array whose atoms are these
ints_back : (l : List ℤ) → map (λ a. integer_of (out-Atom a)) (map atom.Int l) ≡ l
ints_back [] = refl
ints_back (n ∷ ns) = λ i. ap integer_of (atom.outs-Int n) i ∷ ints_back ns i

pub integers_seen : (x : Noun) (l : List ℤ) → map atom.Int l ≡ atoms x → integers_in x ≡ l
integers_seen x l e = ap (map (λ a. integer_of (out-Atom a))) (sym e) ∙ ints_back l

pick : {A : Type 0} (a b : Bool) (u v : A) → a ≡ true → b ≡ true → (if a && b then u else v) ≡ u
pick a b u v e f = rw (e, f) refl

skip : {A : Type 0} (a b : Bool) (u v : A) → a ≡ true → b ≡ false → (if a && b then u else v) ≡ v
skip a b u v e f = rw (e, f) refl

pub they_count : (x : Noun) (l : List ℤ) → map atom.Int l ≡ atoms x → is_integers x ≡ true → list_all is_count l ≡ true → counts x ≡ Ok (map count_of l)
they_count x l seen ints all =
    let same = integers_seen x l seen in
    pick (is_integers x) (list_all is_count (integers_in x)) (Ok (map count_of (integers_in x))) (Err fault.Domain) ints (ap (list_all is_count) same ∙ all)
    ∙ ap (λ r. Ok (map count_of r)) same

pub they_count_not : (x : Noun) (l : List ℤ) → map atom.Int l ≡ atoms x → is_integers x ≡ true → list_all is_count l ≡ false → counts x ≡ Err fault.Domain
they_count_not x l seen ints all =
    skip (is_integers x) (list_all is_count (integers_in x)) (Ok (map count_of (integers_in x))) (Err fault.Domain) ints (ap (list_all is_count) (integers_seen x l seen) ∙ all)
