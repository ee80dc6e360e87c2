-- What each step on a turn's table makes of the pass that takes it, and what it tells.
use Rattle.std.specs.Prelude.{◌≡◌, ◌≢◌, ℕ, ◌+◌, ◌-◌, ◌%◌, ◌^◌, ◌<◌, Bool, true, false, cond, eqb, ltb, List, [], ◌∷◌, ◌++◌, length}
use Rattle.atomic_table.specs.Table.{Me, Step}
use Rattle.atomic_table.specs.Seated.{TableId}
use Rattle.atomic_table.specs.declared.shared.Seat.{Seat}
use Rattle.std.specs.declared.snapshot.Snapshot.{Snapshot}
use Rattle.jturn.specs.declared.board.View.{View}
use Rattle.jturn.specs.declared.board.Slot.{Slot}
use Rattle.jturn.specs.declared.board.Slot.TheVariants.{Away, Same, Added}
use Rattle.jturn.specs.declared.board.Stage.{Stage}
use Rattle.jturn.specs.declared.board.Stage.TheVariants.{Idle, Waiting, Holding}
use Rattle.jturn.specs.Pass.{Pass, StartsWith}
use Rattle.jturn.specs.Turned.{Fits, InSlot, IsInside}

abbrev pub is_idle : Stage → Bool
is_idle Idle = true
is_idle _ = false

abbrev pub is_holding : Stage → Bool
is_holding (Holding t) = true
is_holding _ = false

abbrev pub is_away : {S N : Type 0} → Slot S N → Bool
is_away Away = true
is_away (Same x) = false
is_away (Added x e) = false

-- just the empty slot is held
abbrev pub is_bare : {S N : Type 0} → List (ℕ × Slot S N) → Bool
is_bare [] = false
is_bare (x ∷ []) = cond (eqb x.0 0) (is_away x.1) false
is_bare (x ∷ y ∷ zs) = false

module _ {E : Type 0} where
  -- what callers see of it
  abbrev pub known : TableId → View E → Pass E
  known name v = record { turn = name; seen = v.seen; own = v.own; parts = v.parts; is_marker = ltb 0 v.marks; mark = v.mark; constant = v.constant }

  -- the first view
  abbrev pub opened : ℕ × ℕ → List ℕ → ℕ → View E
  opened mark constant parts = record { seen = []; told = []; own = []; parts = parts; marks = 1; mark = mark; constant = constant; stage = Idle }

  abbrev pub waits : ℕ → View E → View E
  waits t v = record v { stage = Waiting t }

  abbrev pub enters : List E → ℕ × ℕ → ℕ → View E → View E
  enters log mark t v = record v { seen = log; told = []; mark = mark; stage = Holding t }

  abbrev pub cut_left : View E → View E
  cut_left v = record v { parts = v.parts - 1 }

  abbrev pub cut_right : View E → View E
  cut_right v = record v { own = []; parts = 1; marks = 0; stage = Idle }

  abbrev pub is_shorter : List E → List E → Bool
  is_shorter xs ys = ltb (length xs) (length ys)

  abbrev pub glued : View E → View E → View E
  glued v w = record v {
    seen = cond (is_shorter v.seen w.seen) w.seen v.seen;
    told = cond (is_shorter v.seen w.seen) v.seen w.seen;
    own = v.own ++ w.own;
    parts = v.parts + w.parts;
    marks = v.marks + w.marks;
    mark = cond (ltb 0 w.marks) w.mark v.mark;
  }

  -- the view of a pass that was joined away
  abbrev pub spent : View E
  spent = record { seen = []; told = []; own = []; parts = 0; marks = 0; mark = (0, 0); constant = []; stage = Idle }

module _ {S E : Type 0} where
  -- a pass that has no ticket
  abbrev pub IsAtRest : Seat (Slot S (Snapshot E)) (View E) → Type 0
  IsAtRest s = (s.me.1 ≡ []) × (is_idle s.me.0.stage ≡ true) × (0 < s.me.0.parts) × IsInside s.me.0

  -- the seat is one of the table z, its ticket is served, and it has the empty slot
  abbrev pub IsHeld : TableId → Seat (Slot S (Snapshot E)) (View E) → Type 0
  IsHeld z s = (s.table_id ≡ z) × (is_holding s.me.0.stage ≡ true) × (0 < s.me.0.parts) × (is_bare s.me.1 ≡ true)

  abbrev pub drew : Step (Slot S (Snapshot E)) → Me (Slot S (Snapshot E)) (View E) → ℕ → Me (Slot S (Snapshot E)) (View E) → Type 0
  drew st m r m' = (t : ℕ) × (r ≡ t % 2 ^ 64) × (m' ≡ (waits t m.0, m.1))

  abbrev pub compared : Step (Slot S (Snapshot E)) → Me (Slot S (Snapshot E)) (View E) → ℕ → Me (Slot S (Snapshot E)) (View E) → Type 0
  compared st m r m' = (m' ≡ m) × StartsWith m.0.seen m.0.told × IsInside m.0

  abbrev pub stayed : Step (Slot S (Snapshot E)) → Me (Slot S (Snapshot E)) (View E) → ℕ → Me (Slot S (Snapshot E)) (View E) → Type 0
  stayed st m r m' = m' ≡ m

module _ {S E : Type 0} (stands : S → List E → Type 0) (mark : S → ℕ × ℕ) (constant : S → List ℕ) where
  -- it has taken the slot, with a state that fits the history
  abbrev pub Entered : ℕ → Me (Slot S (Snapshot E)) (View E) → Me (Slot S (Snapshot E)) (View E) → Type 0
  Entered t m m' = (log : List E) × ((marked : ℕ × ℕ) × ((y : Slot S (Snapshot E)) × (m' ≡ (enters log marked t m.0, (0, y) ∷ m.1)) × StartsWith log m.0.seen
      × (0 < m.0.marks → marked ≡ m.0.mark) × InSlot (Fits stands mark constant log marked m.0.constant) y))

  abbrev pub looked : Step (Slot S (Snapshot E)) → Me (Slot S (Snapshot E)) (View E) → ℕ → Me (Slot S (Snapshot E)) (View E) → Type 0
  looked st m r m' = (t : ℕ) → m.0.stage ≡ Waiting t → (r ≡ t % 2 ^ 64 → Entered t m m') × (r ≢ t % 2 ^ 64 → m' ≡ m)

  -- what the state that goes back has to be
  abbrev pub Right : View E → Slot S (Snapshot E) → Type 0
  Right v Away = ⊥
  Right v (Same x) = stands x v.seen × (v.marks ≡ 0 → mark x ≡ v.mark) × (constant x ≡ v.constant)
  Right v (Added x e) = stands x (v.seen ++ e.value ∷ []) × (v.marks ≡ 0 → mark x ≡ v.mark) × (constant x ≡ v.constant)

module _ {S E : Type 0} (mark : S → ℕ × ℕ) where
  abbrev pub leaves : View E → Slot S (Snapshot E) → View E
  leaves v Away = v
  leaves v (Same x) = record v { told = []; mark = mark x; stage = Idle }
  leaves v (Added x e) = record v { seen = v.seen ++ e.value ∷ []; told = []; own = v.own ++ length v.seen ∷ []; mark = mark x; stage = Idle }

  abbrev pub served : Step (Slot S (Snapshot E)) → Me (Slot S (Snapshot E)) (View E) → ℕ → Me (Slot S (Snapshot E)) (View E) → Type 0
  served st m r m' = (y : Slot S (Snapshot E)) → m.1 ≡ (0, y) ∷ [] → (m' ≡ (leaves m.0 y, [])) × IsInside (leaves m.0 y)
