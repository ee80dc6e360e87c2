-- Steps that no log has: what a wrong step would leave is none of the entries.
use Rattle.std.proofs.Common.{◌≡◌, inl, inr, ℕ, suc, ◌+◌, ◌≤◌, arith}
use Rattle.jyard.specs.Logs.{taking, looking, sharing, leaving, clearing, counting, IsListed}

-- a take that finds a block free and leaves it so, or that says so without a step on the word
pub no_idle_take : (n : ℕ) → IsListed taking 0 n → n ≡ 0 → ⊥
no_idle_take n h e = omega (arith, h, e)

-- a take that takes a block from somebody
pub no_theft : (n : ℕ) → IsListed taking (suc n) 2 → 2 ≤ n → ⊥
no_theft n h low = omega (arith, h, low)

-- a share that raises the word by two
pub no_double_share : (n : ℕ) → IsListed sharing n (n + 2) → ⊥
no_double_share n h = elim h.1 [ inl e ↦ omega (arith, e) | inr e ↦ omega (arith, e.1) ]

-- a share past the largest word
pub no_overflow : (n : ℕ) → IsListed sharing 4294967295 (4294967295 + 1) → ⊥
no_overflow n h = elim h.1 [ inl e ↦ omega (arith, e) | inr e ↦ omega (arith, e.0) ]

-- a look or a count that changes the word
pub no_writing_look : (n : ℕ) → IsListed looking n (n + 1) → ⊥
no_writing_look n h = omega (arith, h.1)

pub no_writing_count : (n : ℕ) → IsListed counting n (n + 1) → ⊥
no_writing_count n h = omega (arith, h)

-- a leave that gives back two units, or none
pub no_double_leave : (n : ℕ) → IsListed leaving (n + 2) n → ⊥
no_double_leave n h = omega (arith, h.1)

pub no_idle_leave : (n : ℕ) → IsListed leaving n n → ⊥
no_idle_leave n h = omega (arith, h.1)

-- a block that is freed while it is held
pub no_early_clear : (n : ℕ) → 2 ≤ n → IsListed clearing n 0 → ⊥
no_early_clear n low h = omega (arith, h.0, low)
