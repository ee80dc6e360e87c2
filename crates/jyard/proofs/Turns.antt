-- Going round the blocks of a yard.
use Rattle.std.proofs.Common.{◌≡◌, ℕ, suc, ◌+◌, ◌%◌, List, length, MatchResult, Result, Err, ap, ◌∙◌, subst, arith}
use Rattle.std.proofs.Math.Nat.{mod-add-mod}
use Rattle.jyard.specs.Units.{BlockId, Spent, id_at}
use Rattle.jyard.specs.Reads.{ReadTaken, EachTaken}

-- one step further round
pub further : (b start k n : ℕ) → b ≡ (start + k) % n → (b + 1) % n ≡ (start + (k + 1)) % n
further b start k n e = ap (λ (j : ℕ). (j + 1) % n) e ∙ mod-add-mod (start + k) n 1 ∙ ap (λ (j : ℕ). j % n) (let same : (start + k) + 1 ≡ start + (k + 1) = omega arith in same)

pub one_more_taken : (ids : List BlockId) (start k b : ℕ) (before mid after : List Spent) → b ≡ (start + k) % length ids → EachTaken ids start k before mid → ReadTaken mid after (id_at ids b) → EachTaken ids start (k + 1) before after
unfolding EachTaken
one_more_taken ids start k b before mid after e h r = subst (λ (j : ℕ). EachTaken ids start j before after) is (mid, h, subst (λ (j : ℕ). ReadTaken mid after (id_at ids j)) e r) where
  is : suc k ≡ k + 1
  is = omega arith

pub at_err : {H : Type 0} {T : Type 0} (P : H → Type 0) (Q : T → Type 0) (r : Result H T) (b : T) → r ≡ Err b → MatchResult r P Q → Q b
at_err P Q r b e h = subst (λ s. MatchResult s P Q) e h
