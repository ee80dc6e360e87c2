-- How bodies are counted on over one word.
use Rattle.std.proofs.Common.{◌≡◌, ℕ, zero, suc, ◌+◌, ◌-◌, ◌<◌, ◌==◌, ◌&&◌, Bool, true, false, cond, List, [], ◌∷◌, length, drop, get_or, sym, ap, ◌∙◌, arith}
use Rattle.jwords.specs.declared.word.Word.{Word}
use Rattle.jexplicit.specs.Needs.{begins_body, bodies}
use Rattle.jexplicit.specs.Parting.{depth_after, role_of}

-- a word of a body that was counted
pub goes_on : (line : List ℕ) (words : List Word) (at depth behind : ℕ) → at < length words → 0 < behind
    → bodies line (drop at words) depth behind ≡ bodies line (drop (at + 1) words) depth (behind - 1)
goes_on line [] at depth behind inside more = absurd (omega (arith, inside))
goes_on line (w ∷ ws) zero depth zero inside more = absurd (omega (arith, more))
goes_on line (w ∷ ws) zero depth (suc behind) inside more = let e : suc behind - 1 ≡ behind = omega arith in ap (bodies line ws depth) (sym e)
goes_on line (w ∷ ws) (suc at) depth behind inside more =
    let e : suc (at + 1) ≡ suc at + 1 = omega arith in
    goes_on line ws at depth behind (omega (arith, inside)) more ∙ ap (λ n. bodies line (drop n (w ∷ ws)) depth (behind - 1)) e

starts : (b : Bool) (m n : ℕ) → b ≡ true → cond b m n ≡ m
starts b m n e = ap (λ c. cond c m n) e

passes : (b : Bool) (m n : ℕ) → b ≡ false → cond b m n ≡ n
passes b m n e = ap (λ c. cond c m n) e

-- the first word of a body
pub takes_body : (line : List ℕ) (words : List Word) (at depth behind : ℕ) → at < length words → behind ≡ 0 → (depth == 0 && begins_body line (drop at words)) ≡ true
    → bodies line (drop at words) depth behind ≡ 1 + bodies line (drop (at + 1) words) depth 2
takes_body line [] at depth behind inside none begins = absurd (omega (arith, inside))
takes_body line (w ∷ ws) zero depth behind inside none begins =
    ap (bodies line (w ∷ ws) depth) none ∙ starts (depth == 0 && begins_body line (w ∷ ws)) (1 + bodies line ws depth 2) _ begins
takes_body line (w ∷ ws) (suc at) depth behind inside none begins =
    let e : suc (at + 1) ≡ suc at + 1 = omega arith in
    takes_body line ws at depth behind (omega (arith, inside)) none begins ∙ ap (λ n. 1 + bodies line (drop n (w ∷ ws)) depth 2) e

-- any other word
pub goes_past : (line : List ℕ) (words : List Word) (at depth behind : ℕ) (d : Word) → at < length words → behind ≡ 0 → (depth == 0 && begins_body line (drop at words)) ≡ false
    → bodies line (drop at words) depth behind ≡ bodies line (drop (at + 1) words) (depth_after (role_of line (get_or words at d)) depth) 0
goes_past line [] at depth behind d inside none begins = absurd (omega (arith, inside))
goes_past line (w ∷ ws) zero depth behind d inside none begins =
    ap (bodies line (w ∷ ws) depth) none ∙ passes (depth == 0 && begins_body line (w ∷ ws)) _ (bodies line ws (depth_after (role_of line w) depth) 0) begins
goes_past line (w ∷ ws) (suc at) depth behind d inside none begins =
    let e : suc (at + 1) ≡ suc at + 1 = omega arith in
    goes_past line ws at depth behind d (omega (arith, inside)) none begins ∙ ap (λ n. bodies line (drop n (w ∷ ws)) (depth_after (role_of line (get_or ws at d)) depth) 0) e
