-- The log of a block: what its steps left behind. No public standard has it: it is this crate's own.
--
-- Each atomic step on a block's word is an entry: its kind, the seat that made it, the word that it found and the word that it left.
-- Seats are numbered by block, in the order in which they were made. A take makes two: one for the pass that takes, which has that one step, and one for the hold. A share makes one, for the new hold. A count makes one for the pass that counts.
-- The log begins empty, over the word 0, and stands newest first. A seat has all entries that it made, in their order: so each entry of the log is one step of one seat, and no seat has a step that isn't there.
use Rattle.std.specs.Prelude.{◌≡◌, ℕ, zero, suc, ◌+◌, ◌-◌, ◌<◌, ◌≤◌, ◌⊎◌, List, [], ◌∷◌, ◌++◌, length, refl}
use Rattle.std.proofs.Common.{sym, ap, ◌∙◌, get_or, set, eqb}
use prog.Atomic.{either}
use mathlib.Core.Option.{some}
use lib.ListN.{get_elem?}
use base.Stored.{Coded, coded×, coded_ℕ, coded_via, coded_list}
use Rattle.jyard.specs.Counts.{most, IsFree, IsEmptied, IsHeld}

pub data Kind : Type 0 where
  -- a compare-exchange of 0 for 2
  taking : Kind
  -- a load by a hold
  looking : Kind
  -- a compare-exchange of a word for the next one
  sharing : Kind
  -- a subtraction of 1
  leaving : Kind
  -- a store of 0
  clearing : Kind
  -- a load by a pass
  counting : Kind

pub record Entry : Type 0 where
  pub kind : Kind
  pub seat : ℕ
  pub found : ℕ
  pub left : ℕ
  -- the hold's seat that the step made, where it is a take or a share
  pub makes : ℕ

abbrev pub entry : Kind → (seat found left makes : ℕ) → Entry
entry k i n m j = record { kind = k; seat = i; found = n; left = m; makes = j }

-- what a block knows of one of its seats: its units, whether it is emptying the block (1 or 0), and all entries that it made, in their order
pub record Sitter : Type 0 where
  pub units : ℕ
  pub empties : ℕ
  pub steps : List Entry

abbrev pub sitter : ℕ → ℕ → List Entry → Sitter
sitter u e s = record { units = u; empties = e; steps = s }

-- A take that finds 0 leaves 2, and gives its hold a unit
abbrev pub after_take : ℕ → ℕ
after_take zero = 2
after_take (suc k) = suc k

abbrev pub units_taken : ℕ → ℕ
units_taken zero = 1
units_taken (suc k) = 0

-- a share leaves one more where it finds the word that it expects
abbrev pub after_share : (expected found : ℕ) → ℕ
after_share expected found = either (eqb found expected) (expected + 1) found

-- whoever leaves at the word 2 empties the block
abbrev pub empties_from : ℕ → ℕ
empties_from zero = 0
empties_from (suc zero) = 0
empties_from (suc (suc zero)) = 1
empties_from (suc (suc (suc k))) = 0

-- What a step of a kind may leave where it found a word
abbrev pub IsListed : Kind → (found left : ℕ) → Type 0
IsListed taking found left = left ≡ after_take found
IsListed looking found left = (2 ≤ found) × (left ≡ found)
IsListed sharing found left = (2 ≤ found) × ((left ≡ found) ⊎ (found < most) × (left ≡ found + 1))
IsListed leaving found left = (2 ≤ found) × (left + 1 ≡ found)
IsListed clearing found left = (found ≡ 1) × (left ≡ 0)
IsListed counting found left = left ≡ found

abbrev pub no_sitter : Sitter
no_sitter = sitter 0 0 []

abbrev pub sitter_at : List Sitter → ℕ → Sitter
sitter_at seats i = get_or seats i no_sitter

-- the seat has made one step more, and has these units and this right to empty
abbrev pub stepped : Sitter → Entry → (units empties : ℕ) → Sitter
stepped v e u r = sitter u r (v.steps ++ e ∷ [])

-- what a step of a kind makes of the seats
abbrev pub seats_by : Kind → Entry → List Sitter → List Sitter
seats_by taking e seats = (seats ++ sitter 0 0 (e ∷ []) ∷ []) ++ sitter (units_taken e.found) 0 [] ∷ []
seats_by looking e seats = set seats e.seat (stepped (sitter_at seats e.seat) e 1 0)
seats_by sharing e seats = set seats e.seat (stepped (sitter_at seats e.seat) e 1 0) ++ sitter (e.left - e.found) 0 [] ∷ []
seats_by leaving e seats = set seats e.seat (stepped (sitter_at seats e.seat) e 0 (empties_from e.found))
seats_by clearing e seats = set seats e.seat (stepped (sitter_at seats e.seat) e 0 0)
seats_by counting e seats = seats ++ sitter 0 0 (e ∷ []) ∷ []

-- there is such a seat, with these units and this right to empty
abbrev pub StandsAt : List Sitter → ℕ → (units empties : ℕ) → Type 0
StandsAt seats i u r = (v : Sitter) × (get_elem? seats i ≡ some v) × (v.units ≡ u) × (v.empties ≡ r)

-- who may make a step of a kind: a hold looks, shares and leaves, who emptied ends it, and a pass takes and counts by a seat that the step makes
abbrev pub MayStep : Kind → (seat makes : ℕ) → List Sitter → Type 0
MayStep taking i j seats = (i ≡ length seats) × (j ≡ i + 1)
MayStep looking i j seats = StandsAt seats i 1 0
MayStep sharing i j seats = StandsAt seats i 1 0 × (j ≡ length seats)
MayStep leaving i j seats = StandsAt seats i 1 0
MayStep clearing i j seats = StandsAt seats i 0 1
MayStep counting i j seats = i ≡ length seats

-- the word is the last one left
abbrev pub word_after : List Entry → ℕ
word_after [] = 0
word_after (e ∷ log) = e.left

-- the seats ever made, as the log leaves them
abbrev pub seats_after : List Entry → List Sitter
seats_after [] = []
seats_after (e ∷ log) = seats_by e.kind e (seats_after log)

-- each entry found the word that the one before it left, and is one of the steps
abbrev pub IsLog : List Entry → Type 0
IsLog [] = Unit {0}
IsLog (e ∷ log) = IsLog log × (e.found ≡ word_after log) × IsListed e.kind e.found e.left × MayStep e.kind e.seat e.makes (seats_after log)

abbrev pub total : {A : Type 0} → (A → ℕ) → List A → ℕ
total f [] = 0
total f (x ∷ xs) = f x + total f xs

-- the plain sums over all seats ever made
abbrev pub all_units : List Sitter → ℕ
all_units seats = total (λ (v : Sitter). v.units) seats

abbrev pub all_empties : List Sitter → ℕ
all_empties seats = total (λ (v : Sitter). v.empties) seats

-- The law of counts: a block is free, being emptied, or held, and its word is then 0, 1, or the units of all seats and one
abbrev pub IsCounted : (word units empties : ℕ) → Type 0
IsCounted word units empties = IsFree word units empties ⊎ (IsEmptied word units empties ⊎ IsHeld word units empties)

-- how many units the steps gave: one for each take that hit and each share that hit
abbrev pub given_by : Kind → (found left : ℕ) → ℕ
given_by taking found left = units_taken found
given_by looking found left = 0
given_by sharing found left = left - found
given_by leaving found left = 0
given_by clearing found left = 0
given_by counting found left = 0

abbrev pub given : List Entry → ℕ
given log = total (λ (e : Entry). given_by e.kind e.found e.left) log

-- how many were given back: one for each leave
abbrev pub given_back_by : Kind → ℕ
given_back_by taking = 0
given_back_by looking = 0
given_back_by sharing = 0
given_back_by leaving = 1
given_back_by clearing = 0
given_back_by counting = 0

abbrev pub given_back : List Entry → ℕ
given_back log = total (λ (e : Entry). given_back_by e.kind) log

-- ---- codes, by which the logic stores what it is told
abbrev pub kind_number : Kind → ℕ
kind_number taking = 0
kind_number looking = 1
kind_number sharing = 2
kind_number leaving = 3
kind_number clearing = 4
kind_number counting = 5

abbrev pub kind_of : ℕ → Kind
kind_of zero = taking
kind_of (suc zero) = looking
kind_of (suc (suc zero)) = sharing
kind_of (suc (suc (suc zero))) = leaving
kind_of (suc (suc (suc (suc zero)))) = clearing
kind_of (suc (suc (suc (suc (suc k))))) = counting

abbrev pub kind_back : (k : Kind) → kind_of (kind_number k) ≡ k
kind_back taking = refl
kind_back looking = refl
kind_back sharing = refl
kind_back leaving = refl
kind_back clearing = refl
kind_back counting = refl

abbrev pub kind_coded : Coded Kind
kind_coded = coded_via coded_ℕ kind_number (λ x y e. sym (kind_back x) ∙ ap kind_of e ∙ kind_back y)

abbrev pub entry_coded : Coded Entry
entry_coded = coded_via (coded× kind_coded (coded× coded_ℕ (coded× coded_ℕ (coded× coded_ℕ coded_ℕ)))) (λ (e : Entry). (e.kind, (e.seat, (e.found, (e.left, e.makes)))))
    (λ x y p i. record { kind = (p i).0; seat = (p i).1.0; found = (p i).1.1.0; left = (p i).1.1.1.0; makes = (p i).1.1.1.1 })

abbrev pub steps_coded : Coded (List Entry)
steps_coded = coded_list entry_coded

abbrev pub sitter_coded : Coded Sitter
sitter_coded = coded_via (coded× coded_ℕ (coded× coded_ℕ steps_coded)) (λ (v : Sitter). (v.units, (v.empties, v.steps))) (λ x y p i. record { units = (p i).0; empties = (p i).1.0; steps = (p i).1.1 })
