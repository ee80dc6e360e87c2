-- Rows of words and of values in memory become a table of blocks that are free, and a table becomes rows again. Assumes `Logic`.
use Rattle.std.proofs.Common.{◌≡◌, ◌≢◌, ℕ, zero, suc, ◌+◌, ◌*◌, ◌^◌, ◌<◌, ◌≤◌, List, [], ◌∷◌, length, replicate, Bool, true, false, refl, sym, ap, subst, arith, mul-le-mul_right, suc-mul, zero-mul}
use Rattle.std.proofs.lemmas.Bool.{true≢false}
use lib.ListN.{length-replicate}
use seplogic.Ra.Ura.{Ura}
use base.Fraction.{full_share}
use base.Stored.{Gv, gnum}
use base.Logic.{SProp, ent, sep, ex, emp, guard, via}
use base.Fml.{Fml, ftrue, fsep, fbor, finv}
use types.Logic.{Logic, sem}
use types.Kit.{‵, ◌⊛◌, some, given, learn, later, ◌$◌, ◌∵◌, !, qed, move, keep, drop, split, fsplit, fsplit3, fjoin, fjoin3, fpick, fpack, pick, show, check, use0, use1, use2, updating, await, now, rewrite, done}
use types.SemTy.{cells}
use types.Tokens.{lft_new, lft_end, name_new, bor_new, lent_back}
use types.Owned.{basic, own_new}
use denote.RattleType.{RattleType}
use denote.Builtin.{u64}
use denote.Memory.{mem, part_at}
use denote.RawPtr.{Ptr, block_ptr, block_of, count_of, InBlock, lies_at}
use denote.Steps.{nothing}
use Rattle.core.proofs.tally.Steps.{word_out, word_in}
use types.Keyed.{entries_new}
use Rattle.atomic_table.specs.Seated.{word, strip, halved, unused, roster}
use Rattle.jyard.specs.Logs.{Entry, Sitter, no_sitter, sitter_coded, IsLog, word_after}
use Rattle.jyard.specs.Counts.{IsFree}
use Rattle.jyard.specs.Units.{BlockId, age, place, mark, Phase, free, emptying, alone, shared, state, State, holds_log, history, inner, Placed, Spans, block_owns, blocks_own, table_owns}

module _ {M : Type 1} {𝓤 : Ura M} (𝓛 : Logic 𝓤) (R : RattleType) (w p : Ptr) (x : R.Denot) where
  open 𝓛 use {H, A}

  abbrev Pr : Type 2
  Pr = SProp 𝓤

  abbrev ◌⊢◌ : Pr → Pr → Type 1
  P ⊢ Q = ent 𝓤 P Q

  abbrev ◌∗◌ : Pr → Pr → Pr
  P ∗ Q = sep 𝓤 P Q

  abbrev ⟦◌⟧ : Fml → Pr
  ⟦ P ⟧ = sem 𝓛 P

  infix 26 ◌⊢◌
  infixr 35 ◌∗◌
  abbrev s : ℕ
  s = (mem R).size

  abbrev b : ℕ
  b = block_of w

  abbrev c : ℕ
  c = block_of p

  -- where the k-th word and the k-th value are
  abbrev word_at : ℕ → ℕ
  word_at k = k * 8 + count_of w

  abbrev cell_at : ℕ → ℕ
  cell_at k = k * s + count_of p

  abbrev Within : ℕ → Type 0
  Within k = InBlock w × InBlock p × (k * 8 < 2 ^ 63) × (k * s < 2 ^ 63)

  rosters : emp 𝓤 ⊢ H.⇛ (ex 𝓤 (λ (η : ℕ). ⟦ roster sitter_coded.code η 0 [] ⟧))
  rosters = qed 𝓛 [] ∵ updating ! $ use0 𝓛 (later (some (λ (η : ℕ). ‵ (unused sitter_coded.code η 0 no_sitter)))) (via 𝓤 _ (entries_new halved 𝓛 0 (λ _. (full_share, sitter_coded.code no_sitter))) (basic 𝓛 _)) $ await ! tt $ pick ! (λ η.
      fpack ! Sitter (unused sitter_coded.code η 0) no_sitter $ now ! $ show ! (λ (ν : ℕ). ⟦ roster sitter_coded.code ν 0 [] ⟧) η $ done !)

  lays_one : (k : ℕ) → Within k → ⟦ word b (word_at k) 0 ⟧ ∗ ⟦ part_at R full_share x c (cell_at k) ⟧ ⊢ H.⇛ (ex 𝓤 (λ (z : BlockId). ⟦ block_owns R p w x k z ⟧))
  lays_one k inside = qed 𝓛 (‵ (word b (word_at k) 0) ∷ ‵ (part_at R full_share x c (cell_at k)) ∷ []) ∵ updating ! $
      use0 𝓛 (later (some (λ (η : ℕ). ‵ (roster sitter_coded.code η 0 [])))) rosters $ await ! tt $ pick ! (λ η. let none_yet : List Entry = [] in nothing ! $ fpack ! (IsLog none_yet × (word_after none_yet ≡ 0)) (λ _. ftrue) (tt, refl) $ move ! (1 ∷ 0 ∷ []) $ fjoin ! $ move ! (1 ∷ 2 ∷ 0 ∷ []) $
      lft_new ! tt (λ a. let g : Gv = gnum 0 in
      use0 𝓛 (later (some (λ (γ : ℕ). ‵ (mark γ full_share g)))) (via 𝓤 _ (own_new 𝓛 halved (full_share, g)) (basic 𝓛 (ex 𝓤 (λ (γ : ℕ). ⟦ mark γ full_share g ⟧)))) $ await ! tt $ pick ! (λ γ. fpack ! Gv (mark γ full_share) g $
      name_new ! tt (gnum 0) (λ ε. fjoin ! $ name_new ! tt (gnum 0) (λ δ. fjoin ! $
      let z : BlockId = record { atom = a; parts_name = γ; alone_name = δ; emptying_name = ε; log_name = η; block = c; offset = cell_at k } in let J : Fml = fbor (age z) (inner R p w x k z) in
      -- [out alone; out emptying; idle; the token; the word; the value]
      fjoin ! $ move ! (0 ∷ 4 ∷ []) $ fjoin ! $ move ! (1 ∷ 0 ∷ []) $ nothing ! $ fpack ! (IsFree 0 0 0) (λ _. ftrue) (refl, refl, refl) $ fjoin3 ! $ fpack ! (Phase R.Denot) (state R (place z) z x 0) free $
      -- [the case; the token; the word; the log]
      move ! (3 ∷ 0 ∷ []) $ fpack ! (List Entry) (holds_log z 0) none_yet $ move ! (1 ∷ 0 ∷ []) $ fjoin ! $
      move ! (2 ∷ 0 ∷ []) $ fjoin ! $ fpack ! ℕ (λ n. fsep (word b (word_at k) n) (fsep (State R (place z) z x n) (history z n))) 0 $ bor_new ! tt (age z) $
      use1 𝓛 (later (‵ (finv J))) (𝓛.invs.inv_new J) $ await ! tt $ nothing ! $ fpack ! (Placed R p w x k z) (λ _. ftrue) (inside.0, inside.1, inside.2, inside.3, refl) $ fjoin ! $ move ! (2 ∷ 0 ∷ 1 ∷ []) $ fjoin3 ! $
      now ! $ show ! (λ (y : BlockId). ⟦ block_owns R p w x k y ⟧) z $ keep ! (0 ∷ []) $ done !)))))

  abbrev Laid : ℕ → ℕ → List BlockId → Pr
  Laid n k zs = guard 𝓤 (length zs ≡ n) ⟦ blocks_own R p w x k zs ⟧

  lays_from : (n k m : ℕ) → k + n ≡ m → ((j : ℕ) → j < m → Within j) → (e f : ℕ) → e ≡ word_at k → f ≡ cell_at k
      → ⟦ cells (mem u64) (replicate n 0) b e ⟧ ∗ ⟦ cells (mem R) (replicate n x) c f ⟧ ⊢ H.⇛ (ex 𝓤 (Laid n k))
  lays_from zero k m all inside e f is at = qed 𝓛 (‵ ftrue ∷ ‵ ftrue ∷ []) ∵ updating ! $ now ! $ show ! (Laid 0 k) [] $ check ! refl $ keep ! (0 ∷ []) $ done !
  lays_from (suc n) k m all inside e f is at = qed 𝓛 (‵ (cells (mem u64) (0 ∷ replicate n 0) b e) ∷ ‵ (cells (mem R) (x ∷ replicate n x) c f) ∷ []) ∵ updating ! $ fsplit ! $
      use1 𝓛 (‵ (word b e 0)) (word_out 𝓛 b e 0) $ rewrite ! 0 (λ (i : ℕ). ‵ (word b i 0)) is refl $ move ! (2 ∷ []) $ fsplit ! $ rewrite ! 0 (λ (i : ℕ). ‵ (part_at R full_share x c i)) at refl $ move ! (2 ∷ 0 ∷ []) $
      use2 𝓛 (later (some (λ (z : BlockId). ‵ (block_owns R p w x k z)))) (lays_one k (inside k (omega (arith, all)))) $ await ! tt $ pick ! (λ z. move ! (2 ∷ 1 ∷ []) $
      use2 𝓛 (later (some (λ (zs : List BlockId). given (length zs ≡ n) (‵ (blocks_own R p w x (suc k) zs))))) (lays_from n (suc k) m (omega (arith, all)) inside (e + 8) (f + s) (omega (arith, is)) (omega (arith, at, suc-mul k s))) $ await ! tt $ pick ! (λ zs. learn ! (λ long.
      now ! $ show ! (Laid (suc n) k) (z ∷ zs) $ check ! (ap suc long) $ move ! (1 ∷ 0 ∷ []) $ done !)))

  abbrev pub Tabled : ℕ → List BlockId → Pr
  Tabled n zs = guard 𝓤 ((length zs ≡ n) × InBlock w × InBlock p) ⟦ table_owns R p w x zs ⟧

  pub lays : (n : ℕ) → ⟦ strip u64 w (replicate n 0) ⟧ ∗ ⟦ strip R p (replicate n x) ⟧ ⊢ H.⇛ (ex 𝓤 (Tabled n))
  lays n = qed 𝓛 (‵ (strip u64 w (replicate n 0)) ∷ ‵ (strip R p (replicate n x)) ∷ []) ∵ updating ! $ fsplit ! $ fpick ! (λ fw. drop ! $ move ! (1 ∷ []) $ fsplit ! $ fpick ! (λ fp. drop ! $
      let low : n * 8 < 2 ^ 63 = subst (λ (m : ℕ). m * 8 < 2 ^ 63) (length-replicate n 0) fw.1 in let high : n * s < 2 ^ 63 = subst (λ (m : ℕ). m * s < 2 ^ 63) (length-replicate n x) fp.1 in
      let inside : (j : ℕ) → j < n → Within j = λ j h. (fw.0, fp.0, omega (arith, low, h), (let le : j * s ≤ n * s = mul-le-mul_right s (omega (arith, h)) in omega (arith, le, high))) in move ! (1 ∷ []) $
      use2 𝓛 (later (some (λ (zs : List BlockId). given (length zs ≡ n) (‵ (blocks_own R p w x 0 zs))))) (lays_from n 0 n (omega arith) inside (count_of w) (count_of p) (omega arith) (omega (arith, zero-mul s))) $ await ! tt $ pick ! (λ zs. learn ! (λ long.
      nothing ! $ fpack ! (Spans R p w x zs) (λ _. ftrue) (fw.0, fp.0, subst (λ (m : ℕ). m * 8 < 2 ^ 63) (sym long) low, subst (λ (m : ℕ). m * s < 2 ^ 63) (sym long) high) $ fjoin ! $
      now ! $ show ! (Tabled n) zs $ check ! (long, fw.0, fp.0) $ keep ! (0 ∷ []) $ done !))))

  -- ---- and back

  -- what is left of one block: its word, and its value where that is 0
  abbrev Value : ℕ → Bool → Fml
  Value k true = part_at R full_share x c (cell_at k)
  Value k false = ftrue

  abbrev Left : ℕ → ℕ → Bool → Pr
  Left n k y = guard 𝓤 (y ≡ false → n ≢ 0) ⟦ Value k y ⟧

  left : (k : ℕ) (z : BlockId) → place z ≡ block_ptr c (cell_at k) → (n : ℕ) (ph : Phase R.Denot) → ⟦ state R (place z) z x n ph ⟧ ⊢ ex 𝓤 (Left n k)
  left k z at n free = qed 𝓛 (‵ (state R (place z) z x n free) ∷ []) ∵ fsplit3 ! $ move ! (2 ∷ []) $ fsplit ! $ keep ! (1 ∷ []) $ rewrite ! 0 (λ (q : Ptr). ‵ (lies_at R full_share q x)) at refl $
      show ! (Left n k) true $ check ! (λ e. absurd (true≢false e)) $ done !
  left k z at n emptying = qed 𝓛 (‵ (state R (place z) z x n emptying) ∷ []) ∵ fsplit ! $ fpick ! (λ h. keep ! [] $ nothing ! $ show ! (Left n k) false $ check ! (λ _ e. absurd (omega (arith, h.0, e))) $ done !)
  left k z at n alone = qed 𝓛 (‵ (state R (place z) z x n alone) ∷ []) ∵ fsplit ! $ fpick ! (λ h. keep ! [] $ nothing ! $ show ! (Left n k) false $ check ! (λ _ e. absurd (omega (arith, h.0, e))) $ done !)
  left k z at n (shared u a y) = qed 𝓛 (‵ (state R (place z) z x n (shared u a y)) ∷ []) ∵ fsplit ! $ fpick ! (λ h. keep ! [] $ nothing ! $ show ! (Left n k) false $ check ! (λ _ e. absurd (omega (arith, h.0, e))) $ done !)

  abbrev One : ℕ → ℕ × Bool → Pr
  One k t = guard 𝓤 (t.1 ≡ false → t.0 ≢ 0) (⟦ word b (word_at k) t.0 ⟧ ∗ ⟦ Value k t.1 ⟧)

  ends_one : (k : ℕ) (z : BlockId) → ⟦ block_owns R p w x k z ⟧ ⊢ H.⇛ (ex 𝓤 (One k))
  ends_one k z = qed 𝓛 (‵ (block_owns R p w x k z) ∷ []) ∵ updating ! $ fsplit3 ! $ lft_end ! tt $ move ! (1 ∷ []) $ fsplit ! $ fpick ! (λ at. drop ! $ drop ! $ lent_back ! tt $ fpick ! (λ n. fsplit ! $ move ! (1 ∷ []) $ fsplit ! $ move ! (1 ∷ []) $ drop ! $ fpick ! (λ ph.
      use1 𝓛 (some (λ (y : Bool). given (y ≡ false → n ≢ 0) (‵ (Value k y)))) (left k z at.4 n ph) $ pick ! (λ y. learn ! (λ told.
      now ! $ show ! (One k) (n, y) $ check ! told $ move ! (1 ∷ 0 ∷ []) $ done !)))))

  -- what is left of n blocks: their words, and their values where all of these are 0
  abbrev Values : Bool → ℕ → ℕ → Fml
  Values true n f = cells (mem R) (replicate n x) c f
  Values false n f = ftrue

  abbrev Told : ℕ → List ℕ × Bool → Type 0
  Told n t = (length t.0 ≡ n) × (t.1 ≡ false → t.0 ≢ replicate n 0)

  abbrev Back : ℕ → ℕ → ℕ → List ℕ × Bool → Pr
  Back n e f t = guard 𝓤 (Told n t) (⟦ cells (mem u64) t.0 b e ⟧ ∗ ⟦ Values t.1 n f ⟧)

  heads : (m n : ℕ) (ms ns : List ℕ) → m ∷ ms ≡ n ∷ ns → m ≡ n
  heads m n ms ns e = ap (λ l. lib.ListN.get_or l 0 0) e

  tails : (m n : ℕ) (ms ns : List ℕ) → m ∷ ms ≡ n ∷ ns → ms ≡ ns
  tails m n ms ns e = ap (λ l. lib.ListN.drop 1 l) e

  both : (y v : Bool) (k n i f : ℕ) (ns : List ℕ) → f ≡ cell_at k → (y ≡ false → i ≢ 0) → Told n (ns, v) → ⟦ Value k y ⟧ ∗ ⟦ Values v n (f + s) ⟧ ⊢ ex 𝓤 (λ (u : Bool). guard 𝓤 (Told (suc n) (i ∷ ns, u)) ⟦ Values u (suc n) f ⟧)
  both true true k n i f ns at one all = qed 𝓛 (‵ (part_at R full_share x c (cell_at k)) ∷ ‵ (cells (mem R) (replicate n x) c (f + s)) ∷ []) ∵ rewrite ! 0 (λ (j : ℕ). ‵ (part_at R full_share x c j)) (sym at) refl $
      show ! (λ (u : Bool). guard 𝓤 (Told (suc n) (i ∷ ns, u)) ⟦ Values u (suc n) f ⟧) true $ check ! (ap suc all.0, λ e. absurd (true≢false e)) $ done !
  both true false k n i f ns at one all = qed 𝓛 (‵ (part_at R full_share x c (cell_at k)) ∷ ‵ ftrue ∷ []) ∵
      show ! (λ (u : Bool). guard 𝓤 (Told (suc n) (i ∷ ns, u)) ⟦ Values u (suc n) f ⟧) false $ check ! (ap suc all.0, λ _ e. all.1 refl (tails i 0 ns (replicate n 0) e)) $ keep ! (1 ∷ []) $ done !
  both false v k n i f ns at one all = qed 𝓛 (‵ ftrue ∷ ‵ (Values v n (f + s)) ∷ []) ∵
      show ! (λ (u : Bool). guard 𝓤 (Told (suc n) (i ∷ ns, u)) ⟦ Values u (suc n) f ⟧) false $ check ! (ap suc all.0, λ _ e. one refl (heads i 0 ns (replicate n 0) e)) $ keep ! (0 ∷ []) $ done !

  ends_from : (zs : List BlockId) (k e f : ℕ) → e ≡ word_at k → f ≡ cell_at k → ⟦ blocks_own R p w x k zs ⟧ ⊢ H.⇛ (ex 𝓤 (Back (length zs) e f))
  ends_from [] k e f is at = qed 𝓛 (‵ ftrue ∷ []) ∵ updating ! $ now ! $ nothing ! $ show ! (Back 0 e f) ([], true) $ check ! (refl, λ h. absurd (true≢false h)) $ done !
  ends_from (z ∷ zs) k e f is at = let n : ℕ = length zs in qed 𝓛 (‵ (block_owns R p w x k z) ∷ ‵ (blocks_own R p w x (suc k) zs) ∷ []) ∵ updating ! $
      use1 𝓛 (later (some (λ (t : ℕ × Bool). given (t.1 ≡ false → t.0 ≢ 0) (‵ (word b (word_at k) t.0) ⊛ ‵ (Value k t.1))))) (ends_one k z) $ await ! tt $ pick ! (λ t. learn ! (λ one. split ! $
      rewrite ! 0 (λ (i : ℕ). ‵ (word b i t.0)) (sym is) refl $ use1 𝓛 (‵ (part_at u64 full_share t.0 b e)) (word_in 𝓛 b e t.0) $ move ! (2 ∷ []) $
      use1 𝓛 (later (some (λ (u : List ℕ × Bool). given (Told n u) (‵ (cells (mem u64) u.0 b (e + 8)) ⊛ ‵ (Values u.1 n (f + s)))))) (ends_from zs (suc k) (e + 8) (f + s) (omega (arith, is)) (omega (arith, at, suc-mul k s))) $ await ! tt $ pick ! (λ u. learn ! (λ all. split ! $
      -- [their words; their values; its word; its value]
      move ! (3 ∷ 1 ∷ []) $ use2 𝓛 (some (λ (v : Bool). given (Told (suc n) (t.0 ∷ u.0, v)) (‵ (Values v (suc n) f)))) (both t.1 u.1 k n t.0 f u.0 at one all) $ pick ! (λ v. learn ! (λ told.
      move ! (2 ∷ 1 ∷ []) $ fjoin ! $ now ! $ show ! (Back (suc n) e f) (t.0 ∷ u.0, v) $ check ! told $ keep ! (0 ∷ 1 ∷ []) $ done !))))))

  abbrev pub Ended : ℕ → List ℕ × List R.Denot → Pr
  Ended n t = guard 𝓤 ((length t.0 ≡ n) × (t.0 ≡ replicate n 0 → t.1 ≡ replicate n x)) (⟦ strip u64 w t.0 ⟧ ∗ ⟦ strip R p t.1 ⟧)

  whole_row : (y : Bool) (n : ℕ) (ns : List ℕ) → InBlock p → n * s < 2 ^ 63 → Told n (ns, y) → ⟦ Values y n (count_of p) ⟧ ⊢ ex 𝓤 (λ (xs : List R.Denot). guard 𝓤 (ns ≡ replicate n 0 → xs ≡ replicate n x) ⟦ strip R p xs ⟧)
  whole_row true n ns inp fits told = qed 𝓛 (‵ (cells (mem R) (replicate n x) c (count_of p)) ∷ []) ∵ nothing ! $ fpack ! (InBlock p × (length (replicate n x) * s < 2 ^ 63)) (λ _. ftrue) (inp, subst (λ (m : ℕ). m * s < 2 ^ 63) (sym (length-replicate n x)) fits) $ fjoin ! $
      show ! (λ (xs : List R.Denot). guard 𝓤 (ns ≡ replicate n 0 → xs ≡ replicate n x) ⟦ strip R p xs ⟧) (replicate n x) $ check ! (λ _. refl) $ done !
  whole_row false n ns inp fits told = qed 𝓛 (‵ ftrue ∷ []) ∵ nothing ! $ fpack ! (InBlock p × (0 * s < 2 ^ 63)) (λ _. ftrue) (inp, (let none = zero-mul s in omega (arith, none))) $ fjoin ! $
      show ! (λ (xs : List R.Denot). guard 𝓤 (ns ≡ replicate n 0 → xs ≡ replicate n x) ⟦ strip R p xs ⟧) [] $ check ! (λ e. absurd (told.1 refl e)) $ done !

  pub ends : (zs : List BlockId) → ⟦ table_owns R p w x zs ⟧ ⊢ H.⇛ (ex 𝓤 (Ended (length zs)))
  ends zs = let n : ℕ = length zs in qed 𝓛 (‵ (table_owns R p w x zs) ∷ []) ∵ updating ! $ fsplit ! $ fpick ! (λ at. drop ! $
      use1 𝓛 (later (some (λ (t : List ℕ × Bool). given (Told n t) (‵ (cells (mem u64) t.0 b (count_of w)) ⊛ ‵ (Values t.1 n (count_of p)))))) (ends_from zs 0 (count_of w) (count_of p) (omega arith) (omega (arith, zero-mul s))) $ await ! tt $ pick ! (λ t. learn ! (λ told. split ! $
      nothing ! $ fpack ! (InBlock w × (length t.0 * 8 < 2 ^ 63)) (λ _. ftrue) (at.0, subst (λ (m : ℕ). m * 8 < 2 ^ 63) (sym told.0) at.2) $ move ! (0 ∷ 1 ∷ []) $ fjoin ! $ move ! (1 ∷ []) $
      use1 𝓛 (some (λ (xs : List R.Denot). given (t.0 ≡ replicate n 0 → xs ≡ replicate n x) (‵ (strip R p xs)))) (whole_row t.1 n t.0 at.1 at.3 told) $ pick ! (λ xs. learn ! (λ same.
      now ! $ show ! (Ended n) (t.0, xs) $ check ! (told.0, same) $ move ! (1 ∷ 0 ∷ []) $ done !)))))
