-- Where lines end.
use Rattle.std.proofs.Common.{◌≡◌, ◌≢◌, ℕ, zero, suc, ◌+◌, ◌-◌, ◌<◌, ◌==◌, Bool, true, false, List, [], ◌∷◌, length, take, drop, slice_index, arith, refl, ap, sym, ◌∙◌, subst, inl, inr}
use Rattle.std.specs.Str.Lines.{strip_carriage_return}
use Rattle.std.proofs.lemmas.Bool.{cases_Bool}
use Rattle.std.proofs.lemmas.Bool.Decides.{nat_tests}
use Rattle.jwords.specs.Lines.{lines_of, onto_first, begins_with_end}

-- a byte that ends no line begins the first one of the rest
pub line_begins : (b : ℕ) (rest : List ℕ) → b ≢ 10 → begins_with_end rest ≡ false → lines_of (b ∷ rest) ≡ onto_first b (lines_of rest)
line_begins b rest other none = let n : (b == 10) ≡ false = grind (arith, nat_tests) in
    rw (n, none) (elim (cases_Bool (b == 13)) [ inl h ↦ rw h refl | inr h ↦ rw h refl ])

pub line_goes_on : (b : ℕ) (rest : List ℕ) → b ≢ 10 → b ≢ 13 → lines_of (b ∷ rest) ≡ onto_first b (lines_of rest)
line_goes_on b rest other kept = let n : (b == 10) ≡ false = grind (arith, nat_tests) in let m : (b == 13) ≡ false = grind (arith, nat_tests) in rw (n, m) refl

pub no_end : (rest : List ℕ) → ((k : ℕ) → k < length rest → slice_index rest k ≢ 10) → begins_with_end rest ≡ false
no_end [] none = refl
no_end (b ∷ rest) none = let n : b ≢ 10 = none 0 (omega arith) in grind (arith, nat_tests)

-- a script without a line feed is one line
pub one_line : (script : List ℕ) → 0 < length script → ((k : ℕ) → k < length script → slice_index script k ≢ 10) → lines_of script ≡ script ∷ []
one_line [] some none = absurd (omega (arith, some))
one_line (b ∷ []) some none = line_begins b [] (none 0 (omega arith)) refl
one_line (b ∷ c ∷ rest) some none =
    let later : (k : ℕ) → k < length (c ∷ rest) → slice_index (c ∷ rest) k ≢ 10 = λ k h. none (suc k) (omega (arith, h)) in
    line_begins b (c ∷ rest) (none 0 (omega arith)) (no_end (c ∷ rest) later) ∙ ap (onto_first b) (one_line (c ∷ rest) (omega arith) later)

pub strips_later : (b c : ℕ) (rest : List ℕ) → strip_carriage_return (b ∷ c ∷ rest) ≡ b ∷ strip_carriage_return (c ∷ rest)
strips_later b c rest =
    let outer : suc (suc (length rest)) - 1 ≡ suc (length rest) = omega arith in
    let inner : suc (length rest) - 1 ≡ length rest = omega arith in
    rw (outer, inner) (elim (cases_Bool (slice_index (c ∷ rest) (length rest) == 13)) [ inl h ↦ rw h refl | inr h ↦ rw h refl ])

-- a line of one byte, or of a carriage return alone, which is dropped
first_short : (b c : ℕ) (rest : List ℕ) → b ≢ 10 → c ≡ 10 → lines_of (b ∷ c ∷ rest) ≡ strip_carriage_return (b ∷ []) ∷ lines_of rest
first_short b c rest other ends =
    let n : (b == 10) ≡ false = grind (arith, nat_tests) in
    let m : (c == 10) ≡ true = grind (arith, nat_tests) in
    elim (cases_Bool (b == 13)) [ inl h ↦ rw (n, m, h) refl | inr h ↦ rw (n, m, h) refl ]

-- the first line of a script whose first line feed is at this place
pub first_line : (n : ℕ) (script : List ℕ) → n < length script → slice_index script n ≡ 10 → ((k : ℕ) → k < n → slice_index script k ≢ 10)
    → lines_of script ≡ strip_carriage_return (take n script) ∷ lines_of (drop (suc n) script)
first_line n [] inside ends none = absurd (omega (arith, inside))
first_line zero (b ∷ rest) inside ends none = rw ends refl
first_line (suc n) (b ∷ []) inside ends none = absurd (omega (arith, inside))
first_line (suc zero) (b ∷ c ∷ rest) inside ends none = first_short b c rest (none 0 (omega arith)) ends
first_line (suc (suc m)) (b ∷ c ∷ rest) inside ends none =
    let d : c ≢ 10 = none 1 (omega arith) in
    let e : (c == 10) ≡ false = grind (arith, nat_tests) in
    line_begins b (c ∷ rest) (none 0 (omega arith)) e
    ∙ ap (onto_first b) (first_line (suc m) (c ∷ rest) (omega (arith, inside)) ends (λ k h. none (suc k) (omega (arith, h))))
    ∙ ap (λ line. line ∷ lines_of (drop (suc m) rest)) (sym (strips_later b c (take m rest)))
