-- How the repetitions of a verb go on.
use Rattle.std.proofs.Common.{◌≡◌, ◌≢◌, ◌-◌, ℕ, zero, suc, ℤ, Bool, true, false, IsTrue, if◌then◌else◌, List, Ok, refl, sym, ap, ◌∙◌, arith, ◌↔◌, [], ◌∷◌}
use Rattle.std.specs.Prelude.{pos, negsuc, unsigned_abs, None, length, map}
use Rattle.std.specs.List.{list_all}
use Rattle.std.specs.Int.Signed.{lt_z}
use Rattle.std.proofs.lemmas.Bool.{ltb-true}
use Rattle.std.proofs.lemmas.Bool.Decides.{same_from_decides}
use Rattle.jarray.specs.Matches.{matches}
use Rattle.jarray.proofs.Equality.{matches_decides}
use Rattle.jdata.specs.Match.{IsMatch}
use Rattle.jarray.specs.Numbers.{is_integers}
use Rattle.jdata.specs.Noun.{shape, atoms}
use Rattle.jdata.specs.declared.fault.Fault.TheVariants.{Domain}
use Rattle.jdata.specs.declared.noun.Atom.TheVariants as atom
use Rattle.jselect.specs.Arguments.{integers_in, is_count, count_of}
use Rattle.jselect.proofs.Copied.{integers_are}
use Rattle.jdata.specs.declared.noun.Noun.{Noun}
use Rattle.jterm.specs.declared.term.Term.{Term}
use Rattle.juses.specs.Program.{Return, Ask}
use Rattle.jsplit.specs.Undoing.{obverse}
use Rattle.jplan.specs.Derivations.{Derivation, again, given, on_value, refused}
use Rattle.jplan.specs.Repeating.{times, number_of_times, until_match, climb, listed, list_of_times, picked, powered_by, with_value}

pub once_more : (u : Term) (n : ℕ) (y : Noun) → n ≢ 0 → Ask (again u y) (on_value (times u (n - 1))) ≡ times u n y
once_more u zero y some = absurd (some refl)
once_more u (suc n) y some = let less : suc n - 1 ≡ n = omega arith in ap (λ m. Ask (again u y) (on_value (times u m))) less

pub once_compared : (u : Term) (n : ℕ) (y : Noun) → n ≢ 0
    → Ask (again u y) (on_value (λ v. if matches v y then Return (Ok v) else until_match u (n - 1) v)) ≡ until_match u n y
once_compared u zero y some = absurd (some refl)
once_compared u (suc n) y some =
    let less : suc n - 1 ≡ n = omega arith in
    ap (λ m. Ask (again u y) (on_value (λ v. if matches v y then Return (Ok v) else until_match u m v))) less

pub one_step : (u : Term) (frame counts : List ℕ) (n : ℕ) (values : List Noun) (y : Noun) → n ≢ 0
    → Ask (again u y) (on_value (climb u frame counts (n - 1) (with_value counts values y))) ≡ climb u frame counts n values y
one_step u frame counts zero values y some = absurd (some refl)
one_step u frame counts (suc n) values y some =
    let less : suc n - 1 ≡ n = omega arith in
    ap (λ m. Ask (again u y) (on_value (climb u frame counts m (with_value counts values y)))) less

pub no_step : (u : Term) (frame counts : List ℕ) (n : ℕ) (values : List Noun) (y : Noun) → n ≡ 0
    → Return (picked frame counts (with_value counts values y)) ≡ climb u frame counts n values y
no_step u frame counts n values y none = sym (ap (λ m. climb u frame counts m values y) none)

-- the value that matches the one before is the last
pub chosen : (b : Bool) (same : b ≡ true) (last next : Derivation) → last ≡ (if b then last else next)
chosen b same last next = sym (ap (λ c. if c then last else next) same)

pub not_chosen : (b : Bool) (other : b ≡ false) (last next : Derivation) → next ≡ (if b then last else next)
not_chosen b other last next = sym (ap (λ c. if c then last else next) other)

pub same_test : (b : Bool) (v w : Noun) → (IsTrue b ↔ IsMatch v w) → b ≡ matches v w
same_test b v w h = same_from_decides b (matches v w) (h.0, h.1) (matches_decides v w)

-- a number below 0 counts repetitions of what undoes the verb
pub below_0 : (u : Term) (k : ℤ) (y : Noun) → lt_z k (pos 0) ≡ true → given (obverse u) (λ v. times v (unsigned_abs k) y) ≡ number_of_times u k y
below_0 u (pos n) y below = absurd (omega (arith, ltb-true n 0 below))
below_0 u (negsuc n) y below = refl

-- the integers that stand to the right of `^:`
not_a_list : (u : Term) (axes : List ℕ) (l : List ℤ) (y : Noun) → length axes ≢ 1 → refused Domain ≡ list_of_times u axes l y
not_a_list u [] l y h = refl
not_a_list u (n ∷ []) l y h = absurd (h refl)
not_a_list u (n ∷ m ∷ rest) l y h = refl

no_counts : (u : Term) (axes : List ℕ) (l : List ℤ) (y : Noun) → list_all is_count l ≡ false → refused Domain ≡ list_of_times u axes l y
no_counts u [] l y h = refl
no_counts u (n ∷ []) l y h = sym (ap (λ b. if b then listed u (n ∷ []) (map count_of l) y else refused Domain) h)
no_counts u (n ∷ m ∷ rest) l y h = refl

are_listed : (u : Term) (axes : List ℕ) (l : List ℤ) (y : Noun) → length axes ≡ 1 → list_all is_count l ≡ true → listed u axes (map count_of l) y ≡ list_of_times u axes l y
are_listed u [] l y one h = absurd (omega (arith, one))
are_listed u (n ∷ []) l y one h = sym (ap (λ b. if b then listed u (n ∷ []) (map count_of l) y else refused Domain) h)
are_listed u (n ∷ m ∷ rest) l y one h = absurd (omega (arith, one))

by_integers : (u : Term) (v y : Noun) → is_integers v ≡ true → list_of_times u (shape v) (integers_in v) y ≡ powered_by u None v y
by_integers u v y h = sym (ap (λ b. if b then list_of_times u (shape v) (integers_in v) y else refused Domain) h)

pub shape_refused : (u : Term) (v y : Noun) → is_integers v ≡ true → length (shape v) ≢ 1 → refused Domain ≡ powered_by u None v y
shape_refused u v y h some = not_a_list u (shape v) (integers_in v) y some ∙ by_integers u v y h

pub numbers_refused : (u : Term) (v y : Noun) (l : List ℤ) → is_integers v ≡ true → map atom.Int l ≡ atoms v → list_all is_count l ≡ false → refused Domain ≡ powered_by u None v y
numbers_refused u v y l h is none = no_counts u (shape v) (integers_in v) y (ap (list_all is_count) (integers_are v l is) ∙ none) ∙ by_integers u v y h

pub list_given : (u : Term) (v y : Noun) (l : List ℤ) → is_integers v ≡ true → map atom.Int l ≡ atoms v → length (shape v) ≡ 1 → list_all is_count l ≡ true
    → listed u (shape v) (map count_of l) y ≡ powered_by u None v y
list_given u v y l h is one all =
    are_listed u (shape v) l y one all ∙ ap (λ m. list_of_times u (shape v) m y) (sym (integers_are v l is)) ∙ by_integers u v y h
