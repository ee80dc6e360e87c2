-- What a `Table` of blocks and a `Seat` own: how `Counts` is said by ownership, which nobody can make or lose.
-- A unit is what its seat owns, so no list of seats is kept. The block keeps all but u of the parts, and each unit comes with one part: the parts of all seats and of the block are the whole right, so the units of all seats are u.
-- While several seats have a part, the payload is lent for a lifetime of its own, the round. A part is a share of the round's token, and the same share of a name that says the round and the value.
-- The name `alone` is out with the seat that has the payload whole at word 2, and `emptying` with the one that has it at word 1; they are in the block where no seat has it whole so.
use Rattle.std.specs.Prelude.{◌≡◌, ℕ, zero, suc, ◌+◌, ◌*◌, ◌^◌, ◌<◌, ◌≤◌, List, [], ◌∷◌, length}
use mathlib.Core.Option.{some}
use lib.ListN.{get_elem?}
use base.Fraction.{full_share}
use base.FractionLaws.{Counts}
use base.Stored.{Gv, Coded, coded×, coded_ℕ, coded_via, coded_list}
use base.Fml.{Lft, Share, Fml, ftrue, fsep, fex, flft, fbor, flent, finv, fown}
use types.Na.{out}
use denote.RattleType.{RattleType}
use denote.Memory.{mem}
use denote.RawPtr.{Ptr, InBlock, block_ptr, block_of, count_of, lies_at}
use denote.Sharing.{beside, nothing, one, said, held}
use denote.Struct.Lending.{lent_at}
use Rattle.jyard.specs.Counts.{units_of, emptying_of, IsFree, IsEmptied, IsHeld, kept}
use Rattle.jyard.specs.Logs.{Entry, Sitter, sitter, IsLog, word_after, seats_after, steps_coded, sitter_coded}
use base.Share.{three_quarters}
use Rattle.atomic_table.specs.Seated.{word, fact, halved, seen, roster}

-- A seat that has a unit: with a part of the payload, or with the payload whole
abbrev pub IsHolding : ℕ → Type 0
IsHolding right = (0 < right) × (right ≤ 2)

-- Which block it is: the lifetime for which it lends its memory, its names, and where its value is
pub record BlockId : Type 0 where
  pub atom : ℕ
  pub parts_name : ℕ
  pub alone_name : ℕ
  pub emptying_name : ℕ
  pub log_name : ℕ
  pub block : ℕ
  pub offset : ℕ

abbrev pub block_id_coded : Coded BlockId
block_id_coded = coded_via (coded× coded_ℕ (coded× coded_ℕ (coded× coded_ℕ (coded× coded_ℕ (coded× coded_ℕ (coded× coded_ℕ coded_ℕ))))))
    (λ (z : BlockId). (z.atom, (z.parts_name, (z.alone_name, (z.emptying_name, (z.log_name, (z.block, z.offset)))))))
    (λ x y e i. record { atom = (e i).0; parts_name = (e i).1.0; alone_name = (e i).1.1.0; emptying_name = (e i).1.1.1.0; log_name = (e i).1.1.1.1.0; block = (e i).1.1.1.1.1.0; offset = (e i).1.1.1.1.1.1 })

abbrev pub ids_coded : Coded (List BlockId)
ids_coded = coded_list block_id_coded

-- A seat that a pass has: of which block it is, its number there, and its steps. It has no unit
pub record Spent : Type 0 where
  pub id : BlockId
  pub seat : ℕ
  pub steps : List Entry

abbrev pub spents_coded : Coded (List Spent)
spents_coded = coded_list (coded_via (coded× block_id_coded (coded× coded_ℕ steps_coded)) (λ (s : Spent). (s.id, (s.seat, s.steps)))
    (λ x y p i. record { id = (p i).0; seat = (p i).1.0; steps = (p i).1.1 }))

-- which block is number i
unfoldable pub id_at : List BlockId → ℕ → BlockId
id_at [] i = record { atom = 0; parts_name = 0; alone_name = 0; emptying_name = 0; log_name = 0; block = 0; offset = 0 }
id_at (z ∷ zs) zero = z
id_at (z ∷ zs) (suc i) = id_at zs i

abbrev pub age : BlockId → Lft
age z = z.atom ∷ []

-- where its value is
abbrev pub place : BlockId → Ptr
place z = block_ptr z.block z.offset

-- The shares are counted in 2 ^ 63 pieces. A part is one piece, and the pieces beyond `most` always stay with the block.
abbrev pub spare : ℕ
spare = 9223372032559808513

-- k pieces of a's token
abbrev pub tokens : ℕ → ℕ → Fml
tokens a k = fex Share (λ e. fex (Counts 63 e k) (λ _. flft (a ∷ []) e))

abbrev pub mark : ℕ → Share → Gv → Fml
mark γ e g = fown halved γ (e, g)

abbrev pub marks : ℕ → Gv → ℕ → Fml
marks γ g k = fex Share (λ e. fex (Counts 63 e k) (λ _. mark γ e g))

abbrev pub idle : ℕ → Fml
idle γ = fex Gv (mark γ full_share)

-- How a block stands: free; being emptied; with one seat that has the payload whole; or with u units, in the round a, over the payload x
pub data Phase (X : Type 0) : Type 0 where
  free : Phase X
  emptying : Phase X
  alone : Phase X
  shared : (u a : ℕ) → X → Phase X

-- The log of a block over its word, with a quarter of each of its seats. The other three are with whoever has the seat
abbrev pub holds_log : BlockId → ℕ → List Entry → Fml
holds_log z w log = fsep (roster sitter_coded.code z.log_name 0 (seats_after log)) (fact (IsLog log × (word_after log ≡ w)))

abbrev pub history : BlockId → ℕ → Fml
history z w = fex (List Entry) (holds_log z w)

-- a seat of the block, which nobody else has
abbrev pub sits : BlockId → ℕ → Sitter → Fml
sits z k v = seen sitter_coded.code z.log_name k three_quarters v

-- the seat of somebody with this right
abbrev pub holder : ℕ → List Entry → Sitter
holder right steps = sitter (units_of right) (emptying_of right) steps

abbrev pub spents_own : List Spent → Fml
spents_own [] = ftrue
spents_own (s ∷ ss) = fsep (sits s.id s.seat (sitter 0 0 s.steps)) (spents_own ss)

module _ (R : RattleType) (p : Ptr) (z : BlockId) where
  abbrev pub whole : R.Denot → Fml
  whole x = lies_at R full_share p x

  abbrev pub shown : R.Denot → Lft → Fml
  shown x = lent_at R p x

  abbrev pub stamp : ℕ → R.Denot → Gv
  stamp a x = (coded× coded_ℕ R.coded).code (a, x)

  -- k pieces of the round a, and what they show
  abbrev pub parts : ℕ → R.Denot → ℕ → Fml
  parts a x k = fsep (marks z.parts_name (stamp a x) k) (fsep (tokens a k) (shown x (a ∷ [])))

  abbrev pub both_in : Fml
  both_in = fsep (out z.alone_name) (out z.emptying_name)

  module _ (empty : R.Denot) where
    abbrev pub state : ℕ → Phase R.Denot → Fml
    state w free = fsep (fact (IsFree w 0 0)) (fsep (idle z.parts_name) (fsep both_in (whole empty)))
    state w emptying = fsep (fact (IsEmptied w 0 1)) (fsep (idle z.parts_name) (out z.alone_name))
    state w alone = fsep (fact (IsHeld w 1 0)) (fsep (idle z.parts_name) (out z.emptying_name))
    state w (shared u a x) = fsep (fact (IsHeld w u 0)) (fsep (parts a x (spare + kept u)) (fsep both_in (flent (a ∷ []) (whole x))))

    abbrev pub State : ℕ → Fml
    State w = fex (Phase R.Denot) (state w)

    abbrev pub Inv : ℕ → ℕ → Fml
    Inv b o = fex ℕ (λ w. fsep (word b o w) (fsep (State w) (history z w)))

  -- what a seat with the right has: nothing, a part, or the value whole
  abbrev pub seat_owns : ℕ → ℕ → R.Denot → Fml
  seat_owns zero a x = ftrue
  seat_owns (suc zero) a x = parts a x 1
  seat_owns (suc (suc zero)) a x = fsep (out z.alone_name) (whole x)
  seat_owns (suc (suc (suc k))) a x = fsep (out z.emptying_name) (whole x)

  -- and its place among the block's seats, with its steps
  abbrev pub seat_has : ℕ → ℕ → R.Denot → ℕ → List Entry → Fml
  seat_has right a x k steps = fsep (seat_owns right a x) (sits z k (holder right steps))

  -- what a `&` to a part holds
  abbrev pub part_shares : ℕ → R.Denot → Lft → Fml
  part_shares a x = beside nothing (beside (one (λ q. flft (a ∷ []) q)) (held (a ∷ []) (shown x)))

  abbrev pub seat_shares : ℕ → ℕ → R.Denot → Lft → Fml
  seat_shares zero a x = nothing
  seat_shares (suc zero) a x = part_shares a x
  seat_shares (suc (suc k)) a x = beside nothing (shown x)

  abbrev pub seat_shows : ℕ → ℕ → R.Denot → Lft → Fml
  seat_shows right a x = beside (seat_shares right a x) nothing

-- A table has its words from w on and its values from p on.
module _ (R : RattleType) (p w : Ptr) (empty : R.Denot) where
  -- the word and the value of its block k
  abbrev pub Placed : ℕ → BlockId → Type 0
  Placed k z = InBlock w × InBlock p × (k * 8 < 2 ^ 63) × (k * (mem R).size < 2 ^ 63) × (place z ≡ block_ptr (block_of p) (k * (mem R).size + count_of p))

  abbrev pub inner : ℕ → BlockId → Fml
  inner k z = Inv R (place z) z empty (block_of w) (k * 8 + count_of w)

  abbrev pub common : ℕ → BlockId → Fml
  common k z = fsep (fact (Placed k z)) (finv (fbor (age z) (inner k z)))

  abbrev pub block_owns : ℕ → BlockId → Fml
  block_owns k z = fsep (flft (age z) full_share) (fsep (common k z) (flent (age z) (inner k z)))

  abbrev pub block_shares : ℕ → BlockId → Lft → Fml
  block_shares k z = beside (one (λ q. flft (age z) q)) (said (common k z))

  abbrev pub blocks_own : ℕ → List BlockId → Fml
  blocks_own k [] = ftrue
  blocks_own k (z ∷ zs) = fsep (block_owns k z) (blocks_own (suc k) zs)

  abbrev pub blocks_share : ℕ → List BlockId → Lft → Fml
  blocks_share k [] = nothing
  blocks_share k (z ∷ zs) = beside (block_shares k z) (blocks_share (suc k) zs)

  abbrev pub Spans : List BlockId → Type 0
  Spans zs = InBlock w × InBlock p × (length zs * 8 < 2 ^ 63) × (length zs * (mem R).size < 2 ^ 63)

  abbrev pub table_owns : List BlockId → Fml
  table_owns zs = fsep (fact (Spans zs)) (blocks_own 0 zs)

  abbrev pub table_shares : List BlockId → Lft → Fml
  table_shares zs = beside nothing (blocks_share 0 zs)

-- A seat that is brought together with others
pub record SeatOf (X : Type 0) : Type 0 where
  pub id : BlockId
  pub right : ℕ
  pub round : ℕ
  pub value : X
  pub seat : ℕ
  pub steps : List Entry

abbrev pub seats_coded : {X : Type 0} → Coded X → Coded (List (SeatOf X))
seats_coded {X} c = coded_list (coded_via (coded× block_id_coded (coded× coded_ℕ (coded× coded_ℕ (coded× c (coded× coded_ℕ steps_coded)))))
    (λ (s : SeatOf X). (s.id, (s.right, (s.round, (s.value, (s.seat, s.steps))))))
    (λ x y e i. record { id = (e i).0; right = (e i).1.0; round = (e i).1.1.0; value = (e i).1.1.1.0; seat = (e i).1.1.1.1.0; steps = (e i).1.1.1.1.1 }))

abbrev pub seats_own : (R : RattleType) → List (SeatOf R.Denot) → Fml
seats_own R [] = ftrue
seats_own R (s ∷ ss) = fsep (seat_has R (place s.id) s.id s.right s.round s.value s.seat s.steps) (seats_own R ss)

-- the units that they have, in all
abbrev pub units_in : {X : Type 0} → List (SeatOf X) → ℕ
units_in [] = 0
units_in (s ∷ ss) = units_of s.right + units_in ss

-- they stand among these seats of their block, with all their steps
abbrev pub StandIn : {X : Type 0} → List (SeatOf X) → List Sitter → Type 0
StandIn [] seats = Unit {0}
StandIn (s ∷ ss) seats = (get_elem? seats s.seat ≡ some (holder s.right s.steps)) × StandIn ss seats

-- a log that leaves this word, in which they stand
abbrev pub IsLogWith : {X : Type 0} → List (SeatOf X) → ℕ → List Entry → Type 0
IsLogWith ss word log = IsLog log × (word_after log ≡ word) × StandIn ss (seats_after log)

-- each of them is of this block
abbrev pub AllHere : {X : Type 0} → BlockId → List (SeatOf X) → Type 0
AllHere z [] = Unit {0}
AllHere z (s ∷ ss) = (s.id ≡ z) × AllHere z ss
