-- What holds of a turn between any two of its steps.
-- A turn has one state, kept in a slot, and passes, each with what it knows. A pass that wants the state draws a ticket, and waits until this is served. It then takes the state out, changes it, puts it back, and serves the next.
-- Tickets are counted on past 2 ^ 64, and a word has the remainder. The history is not stored: it is the longest list that a pass has seen.
use Rattle.std.specs.Prelude.{◌≡◌, ◌⊎◌, ℕ, ◌+◌, ◌%◌, ◌^◌, ◌<◌, ◌≤◌, Bool, true, false, eqb, List, [], ◌∷◌, length}
use mathlib.Core.Option.{some, none}
use mathlib.Core.Option as maybe
use lib.ListN.{get_elem?}
use Rattle.atomic_table.specs.Table.{State}
use Rattle.std.specs.declared.snapshot.Snapshot.{Snapshot}
use Rattle.jturn.specs.declared.board.View.{View}
use Rattle.jturn.specs.declared.board.Slot.{Slot}
use Rattle.jturn.specs.declared.board.Slot.TheVariants.{Away, Same, Added}
use Rattle.jturn.specs.declared.board.Stage.{Stage}
use Rattle.jturn.specs.declared.board.Stage.TheVariants.{Idle, Waiting, Holding}
use Rattle.jturn.specs.Pass.{StartsWith}

-- the numbers that f gives, added up
abbrev pub total : {A : Type 0} → (A → ℕ) → List A → ℕ
total f [] = 0
total f (x ∷ xs) = f x + total f xs

abbrev pub one_if : Bool → ℕ
one_if true = 1
one_if false = 0

-- how often p stands in the list
abbrev pub times : ℕ → List ℕ → ℕ
times p [] = 0
times p (x ∷ xs) = one_if (eqb x p) + times p xs

-- 1 for a pass that has a ticket
abbrev pub queued : Stage → ℕ
queued Idle = 0
queued (Waiting t) = 1
queued (Holding t) = 1

-- 1 for the pass that has the ticket t
abbrev pub has_ticket : ℕ → Stage → ℕ
has_ticket t Idle = 0
has_ticket t (Waiting u) = one_if (eqb u t)
has_ticket t (Holding u) = one_if (eqb u t)

-- 1 for a pass that has the state
abbrev pub holding : Stage → ℕ
holding (Holding t) = 1
holding _ = 0

-- n passes have the ticket t: one, if it was drawn and its turn is not over, and else none
abbrev pub IsOneTicket : ℕ → ℕ → ℕ → ℕ → Type 0
IsOneTicket served drawn t n = (t < served → n ≡ 0) × (served ≤ t → t < drawn → n ≡ 1) × (drawn ≤ t → n ≡ 0)

-- n passes have the position p of a history of this length: one, or none where the history has no such position
abbrev pub IsOneEntry : ℕ → ℕ → ℕ → Type 0
IsOneEntry len p n = (p < len → n ≡ 1) × (len ≤ p → n ≡ 0)

-- its own positions are within what it has seen
abbrev pub IsInside : {E : Type 0} → View E → Type 0
IsInside v = (p : ℕ) → length v.seen ≤ p → times p v.own ≡ 0

-- What holds of each pass, where the history is `log` and the ticket `now` is served. A pass that was joined away has no part
pub record Knows {E : Type 0} (log : List E) (now : ℕ) (mark : ℕ × ℕ) (constant : List ℕ) (v : View E) : Type 0 where
  -- what it has seen is a beginning of the history
  pub begins : StartsWith log v.seen
  pub heard : StartsWith v.seen v.told
  pub inside : IsInside v
  -- the marker's mark is the state's, and every pass knows the constant
  pub marks : 0 < v.marks → v.mark ≡ mark
  pub fixed : 0 < v.parts → v.constant ≡ constant
  -- one that was joined away has no ticket, has seen nothing and owns nothing
  pub gone : v.parts ≡ 0 → (v.stage ≡ Idle) × (v.seen ≡ []) × (v.own ≡ []) × (v.marks ≡ 0)
  -- who has the state has the ticket that is served, and has seen the whole history
  pub turn : (t : ℕ) → v.stage ≡ Holding t → (t ≡ now) × (v.seen ≡ log) × (v.mark ≡ mark)

-- the slot has a state, of which P holds
abbrev pub InSlot : {S N : Type 0} → (S → Type 0) → Slot S N → Type 0
InSlot P Away = ⊥
InSlot P (Same x) = P x
InSlot P (Added x e) = P x

module _ {S E : Type 0} (stands : S → List E → Type 0) (mark : S → ℕ × ℕ) (constant : S → List ℕ) where
  -- the state stands for the history, and has this mark and this constant
  abbrev pub Fits : List E → ℕ × ℕ → List ℕ → S → Type 0
  Fits log marked fixed x = stands x log × (mark x ≡ marked) × (constant x ≡ fixed)

  -- The slot is out with the one pass that has the state, or no pass has the state and it is at home and fits
  abbrev pub Home : List E → ℕ × ℕ → List ℕ → ℕ → List (maybe.Option (Slot S (Snapshot E))) → Type 0
  Home log marked fixed holders homes = ((homes ≡ none ∷ []) × (holders ≡ 1))
      ⊎ ((y : Slot S (Snapshot E)) × (homes ≡ some y ∷ []) × (holders ≡ 0) × InSlot (Fits log marked fixed) y)

  pub record Turned (parts : ℕ) (s : State (Slot S (Snapshot E)) (View E)) : Type 0 where
    -- the history, the tickets served and drawn so far, and the state's mark and constant
    pub log : List E
    pub served : ℕ
    pub drawn : ℕ
    pub marked : ℕ × ℕ
    pub fixed : List ℕ
    -- two counts for those that sleep, of which nothing is said
    pub changes : ℕ
    pub sleepers : ℕ
    pub words : s.words ≡ drawn % 2 ^ 64 ∷ served % 2 ^ 64 ∷ changes ∷ sleepers ∷ []
    -- the parts of all passes add up
    pub few : parts < 2 ^ 32
    pub all_parts : total (λ v. v.parts) s.views ≡ parts
    -- the ticket served and the passes with a ticket make the next ticket, and each ticket between stands once
    pub in_line : served + total (λ v. queued v.stage) s.views ≡ drawn
    pub each_ticket : (t : ℕ) → IsOneTicket served drawn t (total (λ v. has_ticket t v.stage) s.views)
    -- each position of the history is one pass's own
    pub each_entry : (p : ℕ) → IsOneEntry (length log) p (total (λ v. times p v.own) s.views)
    pub one_marker : total (λ v. v.marks) s.views ≡ 1
    pub each_view : (j : ℕ) (v : View E) → get_elem? s.views j ≡ some v → Knows log served marked fixed v
    -- some pass has seen the whole history
    pub longest : (j : ℕ) × ((v : View E) × (get_elem? s.views j ≡ some v) × (v.seen ≡ log))
    pub home : Home log marked fixed (total (λ v. holding v.stage) s.views) s.homes
