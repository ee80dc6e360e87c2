-- What a turn and a pass are to their callers, and what the calls make of a pass.
use Rattle.std.specs.Prelude.{◌≡◌, ℕ, zero, suc, ◌+◌, ◌-◌, Bool, true, false, ◌||◌, if◌then◌else◌, nat_lt, List, [], ◌∷◌, ◌++◌, length}
use Rattle.atomic_table.specs.Seated.{TableId}

-- the name that a turn shares with its passes, and the number of its parts
pub record Terms : Type 0 where
  pub name : TableId
  pub parts : ℕ

-- A pass has seen a beginning of the history, and some positions of it are its own. Positions are counted from 0.
pub record Pass (E : Type 0) : Type 0 where
  -- the name of its turn
  pub turn : TableId
  pub seen : List E
  pub own : List ℕ
  pub parts : ℕ
  pub is_marker : Bool
  -- the two numbers of the state that only the marker changes
  pub mark : ℕ × ℕ
  -- what no one changes
  pub constant : List ℕ

-- a guard's pass, and the state while the guard has it
pub record Held (S E : Type 0) : Type 0 where
  pub pass : Pass E
  pub state : S

-- the list begins with these
abbrev pub StartsWith : {E : Type 0} → List E → List E → Type 0
StartsWith {E} log seen = (rest : List E) × (log ≡ seen ++ rest)

-- the entry at a position, if there is one
abbrev pub entry_at : {E : Type 0} → List E → ℕ → List E
entry_at [] p = []
entry_at (x ∷ xs) zero = x ∷ []
entry_at (x ∷ xs) (suc p) = entry_at xs p

-- the entries at these positions, in this order
abbrev pub entries_at : {E : Type 0} → List E → List ℕ → List E
entries_at log [] = []
entries_at log (p ∷ ps) = entry_at log p ++ entries_at log ps

module _ {E : Type 0} where
  -- the entries that a pass has made, and those of the passes that were joined into it
  abbrev pub entries : Pass E → List E
  entries pass = entries_at pass.seen pass.own

  -- the pass of a new turn has all parts, and is the marker
  abbrev pub first_pass : Terms → ℕ × ℕ → List ℕ → Pass E
  first_pass terms mark constant = record { turn = terms.name; seen = []; own = []; parts = terms.parts; is_marker = true; mark = mark; constant = constant }

  -- What entering makes of a pass: it sees more, and its entries are as before. The mark is the state's, and the marker knew it
  pub record Enters (before after : Pass E) : Type 0 where
    pub turn : after.turn ≡ before.turn
    pub seen : StartsWith after.seen before.seen
    pub own : after.own ≡ before.own
    pub entries : entries_at after.seen after.own ≡ entries_at before.seen before.own
    pub parts : after.parts ≡ before.parts
    pub is_marker : after.is_marker ≡ before.is_marker
    pub mark : before.is_marker ≡ true → after.mark ≡ before.mark
    pub constant : after.constant ≡ before.constant

  -- a pass that has made one entry more, the last of the history
  abbrev pub with_entry : Pass E → E → Pass E
  with_entry pass entry = record pass { seen = pass.seen ++ entry ∷ []; own = pass.own ++ length pass.seen ∷ [] }

  -- the first pass of a split, and the second
  abbrev pub split_first : Pass E → Pass E
  split_first pass = record pass { parts = pass.parts - 1 }

  abbrev pub split_second : Pass E → Pass E
  split_second pass = record pass { own = []; parts = 1; is_marker = false }

  abbrev pub longer : List E → List E → List E
  longer xs ys = if nat_lt (length xs) (length ys) then ys else xs

  -- one pass in place of two
  abbrev pub joined : Pass E → Pass E → Pass E
  joined one other = record one {
    seen = longer one.seen other.seen;
    own = one.own ++ other.own;
    parts = one.parts + other.parts;
    is_marker = one.is_marker || other.is_marker;
    mark = if other.is_marker then other.mark else one.mark;
  }

  -- These entries were added at these positions, in this order, between two histories: each stands right after a history that begins with all that stood before it
  abbrev pub Placed : List E → List E → List ℕ → List E → Type 0
  Placed from [] places to = (places ≡ []) × StartsWith to from
  Placed from (e ∷ es) places to =
      (log : List E) × (rest : List ℕ) × (places ≡ length log ∷ rest) × StartsWith log from × Placed (log ++ e ∷ []) es rest to

  -- What turns make of a pass that make these entries: its positions are those before and then the places of these, in their order. The mark is not told: the marker's own turns may change it
  pub record Grew (before : Pass E) (made : List E) (after : Pass E) : Type 0 where
    pub turn : after.turn ≡ before.turn
    pub seen : StartsWith after.seen before.seen
    pub own : (places : List ℕ) × (after.own ≡ before.own ++ places) × Placed before.seen made places after.seen
    pub entries : entries_at after.seen after.own ≡ entries_at before.seen before.own ++ made
    pub parts : after.parts ≡ before.parts
    pub is_marker : after.is_marker ≡ before.is_marker
    pub constant : after.constant ≡ before.constant
