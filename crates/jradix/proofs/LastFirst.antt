-- Digits taken one after another, the last first.
use Rattle.std.proofs.Common.{◌≡◌, ◌++◌, ◌∙◌, ap, sym, refl, arith, ℕ, zero, suc, ◌+◌, ◌-◌, ◌<◌, ℤ, pos, List, [], ◌∷◌, drop, length, get_or, Option, Some, None, Result, Ok, Err, FitsSigned, SomeIff}
use Rattle.std.specs.Prelude.{int_div, ◌-ℤ◌}
use Rattle.std.specs.Prelude.{reverse}
use Rattle.std.proofs.lemmas.List.{reverse-append}
use Rattle.std.specs.Int.{CanDivide}
use Rattle.std.proofs.lemmas.Grind.{common_steps}
use Rattle.jdata.specs.Firsts.{and_then}
use Rattle.jdata.specs.declared.fault.Fault.{Fault}
use Rattle.jdata.specs.declared.primitive.Primitive.TheVariants.{Bar}
use Rattle.jscalar.specs.Dyads.{two_of, dyad_on}
use Rattle.jscalar.specs.Quotients.{residue}
use Rattle.jradix.specs.Digits.{taken, digits_taken, digit_and_rest, whole_part}
use mir.Syntax.{w128}
use mir.Val.{of_z}

pub wide_quotient : (o : Option ℤ) (x y : ℤ) → (of_z w128 y ≡ 0 → ⊥) → SomeIff o (CanDivide w128 x y) (int_div x y) → SomeIff o (FitsSigned w128 (int_div x y)) (int_div x y)
wide_quotient (Some n) x y h k = (k.0.1, k.1)
wide_quotient None x y h k = λ f. k ((omega (arith, h), f))

pub two_is_residue : (base rest : ℤ) → two_of Bar base rest ≡ Ok (residue base rest)
unfolding dyad_on
two_is_residue base rest = refl

pub last_drop : (bases : List ℤ) (n k : ℕ) → n ≡ length bases → k < n → drop (n - (k + 1)) bases ≡ get_or bases (n - 1 - k) (pos 0) ∷ drop (n - k) bases
last_drop bases n k all below =
    let inside : n - 1 - k < length bases = omega (arith, all, below) in
    let here : n - (k + 1) ≡ n - 1 - k = omega arith in
    let behind : n - k ≡ (n - 1 - k) + 1 = omega (arith, below) in
    rw (here, behind) (grind (arith, common_steps, inside))

-- with one digit more
pub takes_on : (bases : List ℤ) (number rest left digit : ℤ) (digits : List ℤ) (n k : ℕ) → n ≡ length bases → k < n → taken (drop (n - k) bases) number ≡ Ok (rest, digits)
    → digit_and_rest (get_or bases (n - 1 - k) (pos 0)) rest ≡ Ok (left, digit) → taken (drop (n - (k + 1)) bases) number ≡ Ok (left, digit ∷ digits)
takes_on bases number rest left digit digits n k all below so_far next = rw (last_drop bases n k all below, so_far, next) refl

pub takes_fault : (bases : List ℤ) (number rest : ℤ) (why : Fault) (digits : List ℤ) (n k : ℕ) → n ≡ length bases → k < n → taken (drop (n - k) bases) number ≡ Ok (rest, digits)
    → digit_and_rest (get_or bases (n - 1 - k) (pos 0)) rest ≡ Err why → taken (drop (n - (k + 1)) bases) number ≡ Err why
takes_fault bases number rest why digits n k all below so_far next = rw (last_drop bases n k all below, so_far, next) refl

pub fault_stays : (bases : List ℤ) (number : ℤ) (why : Fault) (j : ℕ) → taken (drop j bases) number ≡ Err why → taken bases number ≡ Err why
fault_stays bases number why zero e = e
fault_stays [] number why (suc j) e = e
fault_stays (base ∷ bases) number why (suc j) e = rw (fault_stays bases number why j e) refl

pub digit_by : (base rest digit : ℤ) → two_of Bar base rest ≡ Ok digit → and_then (whole_part base (rest -ℤ digit)) (λ left. Ok (left, digit)) ≡ digit_and_rest base rest
digit_by base rest digit e =
    let whole : Ok (residue base rest) ≡ Ok digit = sym (two_is_residue base rest) ∙ e in
    let same : residue base rest ≡ digit = cc in
    rw same refl

pub digit_never : (base rest : ℤ) (why : Fault) → two_of Bar base rest ≡ Err why → ⊥
digit_never base rest why e =
    let never : ◌≡◌ {A = Result ℤ Fault} (Ok (residue base rest)) (Err why) = sym (two_is_residue base rest) ∙ e in cc

-- the digits so far stand in reverse, and one is pushed behind them
pub next_taken : (bases : List ℤ) (number rest left digit base : ℤ) (items more : List ℤ) (k : ℕ) → k < length bases → base ≡ get_or bases (length bases - 1 - k) (pos 0)
    → taken (drop (length bases - k) bases) number ≡ Ok (rest, reverse items) → digit_and_rest base rest ≡ Ok (left, digit) → more ≡ items ++ digit ∷ []
    → taken (drop (length bases - (k + 1)) bases) number ≡ Ok (left, reverse more)
next_taken bases number rest left digit base items more k below here so_far next longer =
    takes_on bases number rest left digit (reverse items) (length bases) k refl below so_far (ap (λ b. digit_and_rest b rest) (sym here) ∙ next)
    ∙ ap (λ l. Ok (left, l)) (sym (ap reverse longer ∙ reverse-append items (digit ∷ [])))

pub none_taken : (bases : List ℤ) (number rest base : ℤ) (why : Fault) (items : List ℤ) (k : ℕ) → k < length bases → base ≡ get_or bases (length bases - 1 - k) (pos 0)
    → taken (drop (length bases - k) bases) number ≡ Ok (rest, reverse items) → digit_and_rest base rest ≡ Err why → digits_taken bases number ≡ Err why
none_taken bases number rest base why items k below here so_far next =
    ap (λ t. and_then t (λ t. Ok t.1)) (fault_stays bases number why (length bases - (k + 1))
    (takes_fault bases number rest why (reverse items) (length bases) k refl below so_far (ap (λ b. digit_and_rest b rest) (sym here) ∙ next)))
