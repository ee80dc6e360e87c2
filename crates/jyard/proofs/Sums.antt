-- What a log says of its word: the plain sum over all seats ever made.
use Rattle.std.proofs.Common.{◌≡◌, ◌⊎◌, inl, inr, ℕ, zero, suc, ◌+◌, ◌-◌, ◌<◌, ◌≤◌, List, [], ◌∷◌, ◌++◌, set, refl, sym, ap, ◌∙◌, subst, arith}
use mathlib.Core.Option.{some, some-injective, some-ne-none}
use lib.ListN.{get_elem?}
use Rattle.jyard.specs.Counts.{most}
use Rattle.jyard.specs.Logs.{Kind, taking, looking, sharing, leaving, clearing, counting, Entry, Sitter, sitter, sitter_at, stepped, after_take, units_taken, empties_from, IsListed, MayStep, StandsAt, IsLog, word_after, seats_after, seats_by, total, all_units, all_empties, IsCounted, given_by, given, given_back_by, given_back}

total-append : {A : Type 0} (f : A → ℕ) (xs ys : List A) → total f (xs ++ ys) ≡ total f xs + total f ys
total-append f [] ys = omega arith
total-append f (x ∷ xs) ys = let rest = total-append f xs ys in omega (arith, rest)

-- the sum after a change of one
changed : (f : Sitter → ℕ) (vs : List Sitter) (i : ℕ) (v u : Sitter) → get_elem? vs i ≡ some v → total f (set vs i u) + f v ≡ total f vs + f u
changed f [] i v u e = absurd (some-ne-none v (sym e))
changed f (x ∷ xs) zero v u e = let same : f x ≡ f v = ap f (some-injective x v e) in let a : total f (set (x ∷ xs) zero u) ≡ f u + total f xs = refl in let b : total f (x ∷ xs) ≡ f x + total f xs = refl in omega (arith, same, a, b)
changed f (x ∷ xs) (suc i) v u e = let rest = changed f xs i v u e in let a : total f (set (x ∷ xs) (suc i) u) ≡ f x + total f (set xs i u) = refl in let b : total f (x ∷ xs) ≡ f x + total f xs = refl in omega (arith, rest, a, b)

counted_same : (w m U U' E E' : ℕ) → m ≡ w → U' ≡ U → E' ≡ E → IsCounted w U E → IsCounted m U' E'
counted_same w m U U' E E' a b c h = subst (λ (t : ℕ × ℕ × ℕ). IsCounted t.0 t.1 t.2) (λ i. (sym a i, sym b i, sym c i)) h

taken : (n m w U E : ℕ) → n ≡ w → m ≡ after_take n → IsCounted w U E → IsCounted m (U + units_taken n) E
taken zero m w U E e is (inl h) = let u = h.1 in let r = h.2 in inr (inr (omega (arith, is, u), omega (arith, u), omega (arith, u), r))
taken zero m w U E e is (inr (inl h)) = absurd (omega (arith, e, h.0))
taken zero m w U E e is (inr (inr h)) = absurd (omega (arith, e, h.0))
taken (suc k) m w U E e is h = counted_same w m U (U + 0) E E (is ∙ e) (omega arith) refl h

shared : (n m w U E : ℕ) → n ≡ w → 2 ≤ n → (m ≡ n) ⊎ (n < most) × (m ≡ n + 1) → IsCounted w U E → IsCounted m (U + (m - n)) E
shared n m w U E e some_ how (inl h) = absurd (omega (arith, e, some_, h.0))
shared n m w U E e some_ how (inr (inl h)) = absurd (omega (arith, e, some_, h.0))
shared n m w U E e some_ (inl is) (inr (inr h)) = inr (inr (omega (arith, e, is, h.0), omega (arith, h.1), omega (arith, h.2, is), h.3))
shared n m w U E e some_ (inr is) (inr (inr h)) = let low = is.0 in inr (inr (omega (arith, e, is.1, h.0), omega (arith, h.1), omega (arith, e, low, is.1, h.0), h.3))

left_one : (n m w U E U' E' : ℕ) → n ≡ w → 2 ≤ n → m + 1 ≡ n → U' + 1 ≡ U → E' ≡ E + empties_from n → IsCounted w U E → IsCounted m U' E'
left_one n m w U E U' E' e some_ one u r (inl h) = absurd (omega (arith, e, some_, h.0))
left_one n m w U E U' E' e some_ one u r (inr (inl h)) = absurd (omega (arith, e, some_, h.0))
left_one zero m w U E U' E' e some_ one u r (inr (inr h)) = absurd (omega (arith, some_))
left_one (suc zero) m w U E U' E' e some_ one u r (inr (inr h)) = absurd (omega (arith, some_))
left_one (suc (suc zero)) m w U E U' E' e some_ one u r (inr (inr h)) = inr (inl (omega (arith, one), omega (arith, e, u, h.0), omega (arith, r, h.3)))
left_one (suc (suc (suc k))) m w U E U' E' e some_ one u r (inr (inr h)) = inr (inr (omega (arith, e, one, u, h.0), omega (arith, e, u, h.0), omega (arith, u, h.2), omega (arith, r, h.3)))

cleared : (n m w U E U' E' : ℕ) → n ≡ w → n ≡ 1 → m ≡ 0 → U' ≡ U → E' + 1 ≡ E → IsCounted w U E → IsCounted m U' E'
cleared n m w U E U' E' e one is u r (inl h) = absurd (omega (arith, e, one, h.0))
cleared n m w U E U' E' e one is u r (inr (inl h)) = inl (is, omega (arith, u, h.1), omega (arith, r, h.2))
cleared n m w U E U' E' e one is u r (inr (inr h)) = absurd (omega (arith, e, one, h.0, h.1))

abbrev Sums : Kind → Entry → List Sitter → Type 0
Sums k e seats = IsCounted e.left (all_units (seats_by k e seats)) (all_empties (seats_by k e seats)) × (all_units (seats_by k e seats) + given_back_by k ≡ all_units seats + given_by k e.found e.left)

one_more : (seats : List Sitter) (v : Sitter) → (all_units (seats ++ v ∷ []) ≡ all_units seats + v.units) × (all_empties (seats ++ v ∷ []) ≡ all_empties seats + v.empties)
one_more seats v = (omega (arith, total-append (λ (x : Sitter). x.units) seats (v ∷ [])), omega (arith, total-append (λ (x : Sitter). x.empties) seats (v ∷ [])))

-- the sums after a step of a seat that stands there
moved : (seats : List Sitter) (e : Entry) (u r u' r' : ℕ) → StandsAt seats e.seat u r
    → (all_units (set seats e.seat (stepped (sitter_at seats e.seat) e u' r')) + u ≡ all_units seats + u') × (all_empties (set seats e.seat (stepped (sitter_at seats e.seat) e u' r')) + r ≡ all_empties seats + r')
moved seats e u r u' r' h = let v : Sitter = h.0 in let w : Sitter = stepped (sitter_at seats e.seat) e u' r' in
    let a = changed (λ (x : Sitter). x.units) seats e.seat v w h.1 in let b = changed (λ (x : Sitter). x.empties) seats e.seat v w h.1 in
    (omega (arith, a, h.2), omega (arith, b, h.3))

by_kind : (k : Kind) (e : Entry) (seats : List Sitter) (w : ℕ) → IsCounted w (all_units seats) (all_empties seats) → e.found ≡ w → IsListed k e.found e.left → MayStep k e.seat e.makes seats → Sums k e seats
by_kind taking e seats w h is listed may =
    let pass : Sitter = sitter 0 0 (e ∷ []) in let hold : Sitter = sitter (units_taken e.found) 0 [] in let a = one_more seats pass in let b = one_more (seats ++ pass ∷ []) hold in
    let U = all_units seats in let E = all_empties seats in let U' = all_units (seats_by taking e seats) in let E' = all_empties (seats_by taking e seats) in
    let units : U' ≡ U + units_taken e.found = omega (arith, a.0, b.0) in let empties : E' ≡ E = omega (arith, a.1, b.1) in
    (counted_same e.left e.left (U + units_taken e.found) U' E E' refl units empties (taken e.found e.left w U E is listed h), omega (arith, units))
by_kind looking e seats w h is listed may =
    let a = moved seats e 1 0 1 0 may in let U = all_units seats in let E = all_empties seats in let U' = all_units (seats_by looking e seats) in let E' = all_empties (seats_by looking e seats) in
    (counted_same w e.left U U' E E' (listed.1 ∙ is) (omega (arith, a.0)) (omega (arith, a.1)) h, omega (arith, a.0))
by_kind sharing e seats w h is listed may =
    let a = moved seats e 1 0 1 0 may.0 in let on : List Sitter = set seats e.seat (stepped (sitter_at seats e.seat) e 1 0) in let b = one_more on (sitter (e.left - e.found) 0 []) in
    let U = all_units seats in let E = all_empties seats in let U' = all_units (seats_by sharing e seats) in let E' = all_empties (seats_by sharing e seats) in
    let units : U' ≡ U + (e.left - e.found) = omega (arith, a.0, b.0) in let empties : E' ≡ E = omega (arith, a.1, b.1) in
    (counted_same e.left e.left (U + (e.left - e.found)) U' E E' refl units empties (shared e.found e.left w U E is listed.0 listed.1 h), omega (arith, units))
by_kind leaving e seats w h is listed may =
    let a = moved seats e 1 0 0 (empties_from e.found) may in let U = all_units seats in let E = all_empties seats in let U' = all_units (seats_by leaving e seats) in let E' = all_empties (seats_by leaving e seats) in
    (left_one e.found e.left w U E U' E' is listed.0 listed.1 (omega (arith, a.0)) (omega (arith, a.1)) h, omega (arith, a.0))
by_kind clearing e seats w h is listed may =
    let a = moved seats e 0 1 0 0 may in let U = all_units seats in let E = all_empties seats in let U' = all_units (seats_by clearing e seats) in let E' = all_empties (seats_by clearing e seats) in
    (cleared e.found e.left w U E U' E' is listed.0 listed.1 (omega (arith, a.0)) (omega (arith, a.1)) h, omega (arith, a.0))
by_kind counting e seats w h is listed may =
    let a = one_more seats (sitter 0 0 (e ∷ [])) in let U = all_units seats in let E = all_empties seats in let U' = all_units (seats_by counting e seats) in let E' = all_empties (seats_by counting e seats) in
    (counted_same w e.left U U' E E' (listed ∙ is) (omega (arith, a.0)) (omega (arith, a.1)) h, omega (arith, a.0))

-- The law of counts, of every log. Its units are those that its takes and shares gave, less those given back
pub law_of_counts : (log : List Entry) → IsLog log → IsCounted (word_after log) (all_units (seats_after log)) (all_empties (seats_after log)) × (all_units (seats_after log) + given_back log ≡ given log)
law_of_counts [] ok = (inl (refl, refl, refl), refl)
law_of_counts (e ∷ log) ok = let before = law_of_counts log ok.0 in let now = by_kind e.kind e (seats_after log) (word_after log) before.0 ok.1 ok.2 ok.3 in (now.0, (let a = now.1 in let b = before.1 in omega (arith, a, b)))

-- a held block's word is the units of all seats and one
pub held_sum : (w U E : ℕ) → 2 ≤ w → IsCounted w U E → w ≡ U + 1
held_sum w U E some_ (inl h) = absurd (omega (arith, some_, h.0))
held_sum w U E some_ (inr (inl h)) = absurd (omega (arith, some_, h.0))
held_sum w U E some_ (inr (inr h)) = h.0
