-- The counts of a yard's blocks, as they stand before and after every atomic step. No public standard has them: they are this crate's own.
--
-- A block has a word, and seats have units of it. The seat of a hold has one unit; it has a second only within the step that shares it. Nobody else has any.
-- The seat that gave back the last unit is emptying the block, until it has taken the payload out.
-- Each block is in one of three cases. They say its word, the units that all seats have of it together, and the number of the seats that are emptying it.
use Rattle.std.specs.Prelude.{◌≡◌, ℕ, zero, suc, ◌+◌, ◌-◌, ◌<◌, ◌≤◌}

-- The largest word, and the number of equal parts that the right to one payload has
abbrev pub most : ℕ
most = 4294967295

-- Nobody has a unit of it, and nobody is emptying it.
abbrev pub IsFree : (word units emptying : ℕ) → Type 0
IsFree word units emptying = (word ≡ 0) × (units ≡ 0) × (emptying ≡ 0)

-- Nobody has a unit of it, and exactly one seat is emptying it.
abbrev pub IsEmptied : (word units emptying : ℕ) → Type 0
IsEmptied word units emptying = (word ≡ 1) × (units ≡ 0) × (emptying ≡ 1)

-- The units of all seats add up to one less than its word, and nobody is emptying it.
abbrev pub IsHeld : (word units emptying : ℕ) → Type 0
IsHeld word units emptying = (word ≡ units + 1) × (1 ≤ units) × (units < most) × (emptying ≡ 0)

-- The count of a block, from its word: the units of all seats. The 1 by which a word is more is the block's own, so that a block is not taken again before its payload is out.
abbrev pub block_count : ℕ → ℕ
block_count word = word - 1

-- What a seat has is told by its right: 0 for nothing, 1 for a unit with one part of the payload, 2 for the only unit with the payload whole, and 3 for the payload whole in a block that it is emptying.
abbrev pub units_of : ℕ → ℕ
units_of zero = 0
units_of (suc zero) = 1
units_of (suc (suc zero)) = 1
units_of (suc (suc (suc k))) = 0

-- whether it is emptying the block, as 1 or 0
abbrev pub emptying_of : ℕ → ℕ
emptying_of zero = 0
emptying_of (suc zero) = 0
emptying_of (suc (suc zero)) = 0
emptying_of (suc (suc (suc k))) = 1

-- Its parts of the right to the payload. With one it may read the payload; only with all may it write it, put it or take it out.
abbrev pub parts_of : ℕ → ℕ
parts_of zero = 0
parts_of (suc zero) = 1
parts_of (suc (suc k)) = most

-- The parts that the block keeps while its seats have u units and none of them has the payload whole: one part goes with each unit
abbrev pub kept : ℕ → ℕ
kept u = most - u
