-- Lemmas on listed words: what the tests say of a word by its length.
use Rattle.std.proofs.Common.{◌≡◌, ℕ, ◌<◌, ◌≤◌, Bool, false, List, [], ◌∷◌, length, get_or, refl, arith}
use Rattle.jwords.specs.Listed.{is_constant, is_plain_constant, is_signed_constant}

pub constant_plain : (word : List ℕ) → length word ≡ 2 → is_constant word ≡ is_plain_constant (get_or word 0 0) (get_or word 1 0)
unfolding is_constant
constant_plain [] l = absurd (omega arith)
constant_plain (b ∷ []) l = absurd (omega arith)
constant_plain (b ∷ c ∷ []) l = refl
constant_plain (b ∷ c ∷ d ∷ w) l = absurd (omega arith)

pub constant_signed : (word : List ℕ) → length word ≡ 3 → is_constant word ≡ is_signed_constant (get_or word 0 0) (get_or word 1 0) (get_or word 2 0)
unfolding is_constant
constant_signed [] l = absurd (omega arith)
constant_signed (b ∷ []) l = absurd (omega arith)
constant_signed (b ∷ c ∷ []) l = absurd (omega arith)
constant_signed (b ∷ c ∷ d ∷ []) l = refl
constant_signed (b ∷ c ∷ d ∷ e ∷ w) l = absurd (omega arith)

pub constant_short : (word : List ℕ) → length word < 2 → is_constant word ≡ false
unfolding is_constant
constant_short [] l = refl
constant_short (b ∷ []) l = refl
constant_short (b ∷ c ∷ w) l = absurd (omega arith)

pub constant_long : (word : List ℕ) → 4 ≤ length word → is_constant word ≡ false
unfolding is_constant
constant_long [] l = refl
constant_long (b ∷ []) l = refl
constant_long (b ∷ c ∷ []) l = absurd (omega arith)
constant_long (b ∷ c ∷ d ∷ []) l = absurd (omega arith)
constant_long (b ∷ c ∷ d ∷ e ∷ w) l = refl

pub ruleset constants = (constant_plain, constant_signed, constant_short, constant_long)
