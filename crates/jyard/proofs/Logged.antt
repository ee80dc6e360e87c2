-- A step adds its entry to the block's log, and the seats follow. Assumes `Logic`.
use Rattle.std.proofs.Common.{◌≡◌, ◌⊎◌, ℕ, zero, suc, ◌+◌, ◌-◌, ◌<◌, ◌≤◌, List, [], ◌∷◌, ◌++◌, length, length-append, length-set, get_or, set, sym, refl, ap, arith}
use mathlib.Core.Option.{some, some-injective, some-ne-none}
use lib.ListN.{get_elem?}
use seplogic.Ra.Ura.{Ura}
use base.Fraction.{full_share}
use base.Share.{quarter}
use base.Logic.{SProp, ent, sep, all, upd, all_e, upd_i}
use base.Fml.{Fml, ftrue, fsep, fex}
use types.Logic.{Logic, sem}
use types.Keyed.{entries_take}
use types.Kit.{‵, raw, ◌⊛◌, given, ◌$◌, ◌∵◌, !, qed, move, drop, split, join, fsplit, fjoin, fpick, fpack, learn, suffices, settle, done, use1, use2, rewrite}
use denote.Steps.{nothing}
use Rattle.atomic_table.specs.Seated.{halved, seen, unused, roster}
use Rattle.atomic_table.proofs.Roster.{Moved, moves, resets}
use Rattle.jyard.specs.Counts.{most}
use Rattle.jyard.specs.Logs.{taking, looking, sharing, leaving, clearing, counting, Entry, entry, Sitter, sitter, no_sitter, stepped, after_take, units_taken, empties_from, IsLog, word_after, seats_after, seats_by, sitter_coded}
use Rattle.jyard.specs.Units.{BlockId, holds_log, history, sits}

pub read_at : {A : Type 0} (l : List A) (i : ℕ) (a d : A) → get_elem? l i ≡ some a → get_or l i d ≡ a
read_at [] i a d e = absurd (some-ne-none a (sym e))
read_at (x ∷ xs) zero a d e = some-injective x a e
read_at (x ∷ xs) (suc i) a d e = read_at xs i a d e

module _ {M : Type 1} {𝓤 : Ura M} (𝓛 : Logic 𝓤) (z : BlockId) where
  abbrev Pr : Type 2
  Pr = SProp 𝓤

  abbrev ◌⊢◌ : Pr → Pr → Type 1
  P ⊢ Q = ent 𝓤 P Q

  abbrev ◌∗◌ : Pr → Pr → Pr
  P ∗ Q = sep 𝓤 P Q

  abbrev ⟦◌⟧ : Fml → Pr
  ⟦ P ⟧ = sem 𝓛 P

  infix 26 ◌⊢◌
  infixr 35 ◌∗◌
  abbrev γ : ℕ
  γ = z.log_name

  abbrev Ro : ℕ → List Sitter → Fml
  Ro k vs = roster sitter_coded.code γ k vs

  abbrev Si : ℕ → Sitter → Fml
  Si = sits z

  -- a new seat has the next number
  enters_from : (vs : List Sitter) (k n : ℕ) (u : Sitter) → n ≡ k + length vs → ⟦ Ro k vs ⟧ ⊢ upd 𝓤 (⟦ Ro k (vs ++ u ∷ []) ⟧ ∗ ⟦ Si n u ⟧)
  enters_from [] k n u e = let is : k ≡ n = omega arith in let Z : Pr = ⟦ Ro k (u ∷ []) ⟧ ∗ ⟦ Si n u ⟧ in
      qed 𝓛 (‵ (Ro k []) ∷ []) ∵ fpick ! (λ d. use1 𝓛 (‵ (seen sitter_coded.code γ k full_share d) ⊛ ‵ (unused sitter_coded.code γ (suc k) d)) (entries_take halved 𝓛 γ k (λ _. (full_share, sitter_coded.code d))) $ split ! $
      use1 𝓛 (raw (upd 𝓤 (⟦ seen sitter_coded.code γ k quarter u ⟧ ∗ ⟦ Si k u ⟧))) (resets 𝓛 sitter_coded γ k d u) $ settle 𝓛 Z (‵ (seen sitter_coded.code γ k quarter u) ⊛ ‵ (Si k u)) $ split ! $ suffices ! _ (upd_i 𝓤 Z) $
      rewrite ! 1 (λ (j : ℕ). ‵ (Si j u)) is refl $ move ! (2 ∷ []) $ fpack ! Sitter (unused sitter_coded.code γ (suc k)) d $ move ! (1 ∷ 0 ∷ []) $ join ! $ done !)
  enters_from (w ∷ ws) k n u e = let Z : Pr = ⟦ Ro k ((w ∷ ws) ++ u ∷ []) ⟧ ∗ ⟦ Si n u ⟧ in
      qed 𝓛 (‵ (seen sitter_coded.code γ k quarter w) ∷ ‵ (Ro (suc k) ws) ∷ []) ∵ move ! (1 ∷ []) $
      use1 𝓛 (raw (upd 𝓤 (⟦ Ro (suc k) (ws ++ u ∷ []) ⟧ ∗ ⟦ Si n u ⟧))) (enters_from ws (suc k) n u (omega (arith, e))) $
      settle 𝓛 Z (‵ (Ro (suc k) (ws ++ u ∷ [])) ⊛ ‵ (Si n u)) $ split ! $ suffices ! _ (upd_i 𝓤 Z) $ move ! (2 ∷ 0 ∷ []) $ join ! $ done !

  pub enters : (vs : List Sitter) (u : Sitter) → ⟦ Ro 0 vs ⟧ ⊢ upd 𝓤 (⟦ Ro 0 (vs ++ u ∷ []) ⟧ ∗ ⟦ Si (length vs) u ⟧)
  enters vs u = enters_from vs 0 (length vs) u (omega arith)

  shut : (e : Entry) (log : List Entry) (m : ℕ) (vs : List Sitter) → e.left ≡ m → seats_by e.kind e (seats_after log) ≡ vs → IsLog (e ∷ log) → ⟦ Ro 0 vs ⟧ ⊢ ⟦ history z m ⟧
  shut e log m vs is same ok = qed 𝓛 (‵ (Ro 0 vs) ∷ []) ∵ rewrite ! 0 (λ (l : List Sitter). ‵ (Ro 0 l)) (sym same) refl $ nothing ! $ fpack ! (IsLog (e ∷ log) × (e.left ≡ m)) (λ _. ftrue) (ok, is) $ move ! (1 ∷ 0 ∷ []) $ fjoin ! $
      fpack ! (List Entry) (holds_log z m) (e ∷ log) $ done !

  -- ---- a step of a seat that is there
  module _ (e : Entry) (v u : Sitter) (n m : ℕ)
      (law : (log : List Entry) → IsLog log → word_after log ≡ n → get_elem? (seats_after log) e.seat ≡ some v
      → IsLog (e ∷ log) × (seats_by e.kind e (seats_after log) ≡ set (seats_after log) e.seat u)) (is : e.left ≡ m) where
    steps_on : ⟦ history z n ⟧ ∗ ⟦ Si e.seat v ⟧ ⊢ upd 𝓤 (⟦ history z m ⟧ ∗ ⟦ Si e.seat u ⟧)
    steps_on = let i : ℕ = e.seat in let Z : Pr = ⟦ history z m ⟧ ∗ ⟦ Si i u ⟧ in
        qed 𝓛 (‵ (history z n) ∷ ‵ (Si i v) ∷ []) ∵ fpick ! (λ log. fsplit ! $ move ! (1 ∷ []) $ fpick ! (λ ok. drop ! $ let vs : List Sitter = seats_after log in
        use2 𝓛 (given (get_elem? vs i ≡ some v) (raw (all 𝓤 (Moved 𝓛 sitter_coded γ 0 vs i i)))) (moves 𝓛 sitter_coded γ vs 0 i i v (omega arith)) $ learn ! (λ there. let told = law log ok.0 ok.1 there in
        use1 𝓛 (raw (Moved 𝓛 sitter_coded γ 0 vs i i u)) (all_e 𝓤 (Moved 𝓛 sitter_coded γ 0 vs i i) u) $ settle 𝓛 Z (‵ (Ro 0 (set vs i u)) ⊛ ‵ (Si i u)) $ split ! $ suffices ! _ (upd_i 𝓤 Z) $
        use1 𝓛 (‵ (history z m)) (shut e log m (set vs i u) is told.1 told.0) $ done !)))

  -- ---- a share, which makes another seat
  abbrev pub shared_at : ℕ → ℕ → ℕ → List Entry → ℕ → Fml
  shared_at i n m steps j = fsep (Si i (sitter 1 0 (steps ++ entry sharing i n m j ∷ []))) (Si j (sitter (m - n) 0 []))

  abbrev pub Shared : ℕ → ℕ → ℕ → List Entry → Fml
  Shared i n m steps = fex ℕ (shared_at i n m steps)

  pub shares_on : (i n m : ℕ) (steps : List Entry) → 2 ≤ n → (m ≡ n) ⊎ (n < most) × (m ≡ n + 1) → ⟦ history z n ⟧ ∗ ⟦ Si i (sitter 1 0 steps) ⟧ ⊢ upd 𝓤 (⟦ history z m ⟧ ∗ ⟦ Shared i n m steps ⟧)
  shares_on i n m steps some_ how = let v : Sitter = sitter 1 0 steps in let w : Sitter = sitter (m - n) 0 [] in let Z : Pr = ⟦ history z m ⟧ ∗ ⟦ Shared i n m steps ⟧ in
      qed 𝓛 (‵ (history z n) ∷ ‵ (Si i v) ∷ []) ∵ fpick ! (λ log. fsplit ! $ move ! (1 ∷ []) $ fpick ! (λ ok. drop ! $ let vs : List Sitter = seats_after log in let j : ℕ = length vs in let e : Entry = entry sharing i n m j in let u : Sitter = stepped v e 1 0 in
      use2 𝓛 (given (get_elem? vs i ≡ some v) (raw (all 𝓤 (Moved 𝓛 sitter_coded γ 0 vs i i)))) (moves 𝓛 sitter_coded γ vs 0 i i v (omega arith)) $ learn ! (λ there.
      use1 𝓛 (raw (Moved 𝓛 sitter_coded γ 0 vs i i u)) (all_e 𝓤 (Moved 𝓛 sitter_coded γ 0 vs i i) u) $ settle 𝓛 Z (‵ (Ro 0 (set vs i u)) ⊛ ‵ (Si i u)) $ split ! $ let ws : List Sitter = set vs i u in
      use1 𝓛 (raw (upd 𝓤 (⟦ Ro 0 (ws ++ w ∷ []) ⟧ ∗ ⟦ Si (length ws) w ⟧))) (enters ws w) $ settle 𝓛 Z (‵ (Ro 0 (ws ++ w ∷ [])) ⊛ ‵ (Si (length ws) w)) $ split ! $ suffices ! _ (upd_i 𝓤 Z) $
      use1 𝓛 (‵ (history z m)) (shut e log m (ws ++ w ∷ []) refl (ap (λ (x : Sitter). set vs i (stepped x e 1 0) ++ w ∷ []) (read_at vs i v no_sitter there)) (ok.0, sym ok.1, (some_, how), ((v, there, refl, refl), refl))) $
      move ! (1 ∷ []) $ rewrite ! 0 (λ (k : ℕ). ‵ (Si k w)) (length-set vs i u) refl $ move ! (2 ∷ 0 ∷ []) $ fjoin ! $ fpack ! ℕ (shared_at i n m steps) j $ move ! (1 ∷ 0 ∷ []) $ done !)))

  -- ---- a step of a pass, by a seat that the step makes
  abbrev pub counted_at : ℕ → ℕ → Fml
  counted_at n i = Si i (sitter 0 0 (entry counting i n n 0 ∷ []))

  abbrev pub Counted : ℕ → Fml
  Counted n = fex ℕ (counted_at n)

  pub counts_on : (n : ℕ) → ⟦ history z n ⟧ ⊢ upd 𝓤 (⟦ history z n ⟧ ∗ ⟦ Counted n ⟧)
  counts_on n = let Z : Pr = ⟦ history z n ⟧ ∗ ⟦ Counted n ⟧ in
      qed 𝓛 (‵ (history z n) ∷ []) ∵ fpick ! (λ log. fsplit ! $ move ! (1 ∷ []) $ fpick ! (λ ok. drop ! $ let vs : List Sitter = seats_after log in let i : ℕ = length vs in let e : Entry = entry counting i n n 0 in let u : Sitter = sitter 0 0 (e ∷ []) in
      use1 𝓛 (raw (upd 𝓤 (⟦ Ro 0 (vs ++ u ∷ []) ⟧ ∗ ⟦ Si i u ⟧))) (enters vs u) $ settle 𝓛 Z (‵ (Ro 0 (vs ++ u ∷ [])) ⊛ ‵ (Si i u)) $ split ! $ suffices ! _ (upd_i 𝓤 Z) $
      use1 𝓛 (‵ (history z n)) (shut e log n (vs ++ u ∷ []) refl refl (ok.0, sym ok.1, refl, refl)) $ move ! (1 ∷ []) $ fpack ! ℕ (counted_at n) i $ move ! (1 ∷ 0 ∷ []) $ done !))

  -- ---- a take
  abbrev pub tried_at : ℕ → ℕ → Fml
  tried_at n i = fsep (Si i (sitter 0 0 (entry taking i n (after_take n) (i + 1) ∷ []))) (Si (i + 1) (sitter (units_taken n) 0 []))

  abbrev pub Tried : ℕ → Fml
  Tried n = fex ℕ (tried_at n)

  length_more : (vs : List Sitter) (u : Sitter) → length (vs ++ u ∷ []) ≡ length vs + 1
  length_more vs u = length-append vs (u ∷ [])

  pub takes_on : (n : ℕ) → ⟦ history z n ⟧ ⊢ upd 𝓤 (⟦ history z (after_take n) ⟧ ∗ ⟦ Tried n ⟧)
  takes_on n = let m : ℕ = after_take n in let Z : Pr = ⟦ history z m ⟧ ∗ ⟦ Tried n ⟧ in
      qed 𝓛 (‵ (history z n) ∷ []) ∵ fpick ! (λ log. fsplit ! $ move ! (1 ∷ []) $ fpick ! (λ ok. drop ! $ let vs : List Sitter = seats_after log in let i : ℕ = length vs in let e : Entry = entry taking i n m (i + 1) in
      let u : Sitter = sitter 0 0 (e ∷ []) in let w : Sitter = sitter (units_taken n) 0 [] in
      use1 𝓛 (raw (upd 𝓤 (⟦ Ro 0 (vs ++ u ∷ []) ⟧ ∗ ⟦ Si i u ⟧))) (enters vs u) $ settle 𝓛 Z (‵ (Ro 0 (vs ++ u ∷ [])) ⊛ ‵ (Si i u)) $ split ! $ let ws : List Sitter = vs ++ u ∷ [] in
      use1 𝓛 (raw (upd 𝓤 (⟦ Ro 0 (ws ++ w ∷ []) ⟧ ∗ ⟦ Si (length ws) w ⟧))) (enters ws w) $ settle 𝓛 Z (‵ (Ro 0 (ws ++ w ∷ [])) ⊛ ‵ (Si (length ws) w)) $ split ! $ suffices ! _ (upd_i 𝓤 Z) $
      use1 𝓛 (‵ (history z m)) (shut e log m (ws ++ w ∷ []) refl refl (ok.0, sym ok.1, refl, (refl, refl))) $ move ! (1 ∷ []) $ rewrite ! 0 (λ (j : ℕ). ‵ (Si j w)) (length_more vs u) refl $
      move ! (2 ∷ 0 ∷ []) $ fjoin ! $ fpack ! ℕ (tried_at n) i $ move ! (1 ∷ 0 ∷ []) $ done !))

  -- ---- the steps of a hold
  pub looks_on : (i n : ℕ) (steps : List Entry) → 2 ≤ n → ⟦ history z n ⟧ ∗ ⟦ Si i (sitter 1 0 steps) ⟧ ⊢ upd 𝓤 (⟦ history z n ⟧ ∗ ⟦ Si i (sitter 1 0 (steps ++ entry looking i n n 0 ∷ [])) ⟧)
  looks_on i n steps some_ = let e : Entry = entry looking i n n 0 in let v : Sitter = sitter 1 0 steps in steps_on e v (stepped v e 1 0) n n (λ log ok is there. (
    (ok, sym is, (some_, refl), (v, there, refl, refl)),
    ap (λ (x : Sitter). set (seats_after log) i (stepped x e 1 0)) (read_at (seats_after log) i v no_sitter there),
  )) refl

  pub leaves_on : (i n m : ℕ) (steps : List Entry) → 2 ≤ n → m + 1 ≡ n
      → ⟦ history z n ⟧ ∗ ⟦ Si i (sitter 1 0 steps) ⟧ ⊢ upd 𝓤 (⟦ history z m ⟧ ∗ ⟦ Si i (sitter 0 (empties_from n) (steps ++ entry leaving i n m 0 ∷ [])) ⟧)
  leaves_on i n m steps some_ one = let e : Entry = entry leaving i n m 0 in let v : Sitter = sitter 1 0 steps in steps_on e v (stepped v e 0 (empties_from n)) n m (λ log ok is there. (
    (ok, sym is, (some_, one), (v, there, refl, refl)),
    ap (λ (x : Sitter). set (seats_after log) i (stepped x e 0 (empties_from n))) (read_at (seats_after log) i v no_sitter there),
  )) refl

  pub clears_on : (i n : ℕ) (steps : List Entry) → n ≡ 1
      → ⟦ history z n ⟧ ∗ ⟦ Si i (sitter 0 1 steps) ⟧ ⊢ upd 𝓤 (⟦ history z 0 ⟧ ∗ ⟦ Si i (sitter 0 0 (steps ++ entry clearing i n 0 0 ∷ [])) ⟧)
  clears_on i n steps one = let e : Entry = entry clearing i n 0 0 in let v : Sitter = sitter 0 1 steps in steps_on e v (stepped v e 0 0) n 0 (λ log ok is there. (
    (ok, sym is, (one, refl), (v, there, refl, refl)),
    ap (λ (x : Sitter). set (seats_after log) i (stepped x e 0 0)) (read_at (seats_after log) i v no_sitter there),
  )) refl
