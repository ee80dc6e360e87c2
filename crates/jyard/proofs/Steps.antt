-- One step on a block's word, under its invariant. Assumes `Logic`.
use Rattle.std.proofs.Common.{◌≢◌, ◌≡◌, ◌⊎◌, inl, inr, ℕ, zero, suc, ◌+◌, ◌-◌, ◌%◌, ◌^◌, ◌<◌, ◌≤◌, eqb, Bool, List, [], ◌∷◌, ◌++◌, sym, refl, ap, ◌∙◌, subst, arith, eq-eqb, ne_eqb, w64}
use mathlib.Core.Logic.{dite}
use native.Mathlib.Decide.{ℕ_discrete}
use seplogic.Ra.Ura.{Ura}
use mir.Syntax.{ty_int}
use mir.Val.{vint, has_ty, WT}
use base.Fraction.{full_share}
use base.Stored.{Gv}
use base.Logic.{SProp, ent, sep, wand, ex, guard, guard_i, upd, upd_i, via, fst∗}
use base.Fml.{Lft, Share, Incl, Fml, ftrue, fsep, fex, fbor, flent, flft}
use prog.Atomic.{either}
use types.Logic.{Logic, sem}
use types.Kit.{‵, raw, ◌⊛◌, given, later, ◌$◌, ◌∵◌, !, qed, by, move, keep, drop, split, group, fsplit, fsplit3, fjoin, fjoin3, fpick, fpack, learn, check, show, frame, each, assume, suffices, settle, use1, use2, rewrite, updating, await, now, done}
use types.Na.{out, out_once}
use denote.RattleType.{RattleType, RowLaws}
use denote.RawPtr.{Ptr, block_ptr}
use denote.Steps.{nothing}
use denote.Struct.Lending.{Lends}
use Rattle.core.specs.Sync.RawAtomic.{asks, always, word}
use Rattle.core.proofs.raw_atomic.Asked.{borrowed, Lies, Again}
use Rattle.atomic_table.specs.Seated.{fact}
use Rattle.jyard.specs.Counts.{kept, IsFree, IsEmptied, IsHeld}
use Rattle.jyard.specs.Units.{spare, BlockId, age, mark, marks, idle, tokens, Phase, free, emptying, alone, shared, whole, shown, stamp, parts, both_in, state, State, Inv, seat_owns, seat_has, history, sits, holder}
use Rattle.jyard.specs.Logs.{Entry, entry, Sitter, sitter, taking, looking, sharing, leaving, clearing, after_take, units_taken, empties_from}
use Rattle.jyard.proofs.Logged as log
use Rattle.jyard.proofs.Marks as name
use Rattle.jyard.proofs.Parts as part

-- what a step leaves its seat: nothing, a part, the value whole, or all parts of a round that may end
pub data Won : Type 0 where
  none : Won
  unit : Won
  home : Won
  last : Won

pub one_or_two : (r : ℕ) → (0 < r) × (r ≤ 2) → (r ≡ 1) ⊎ (r ≡ 2)
one_or_two zero h = absurd (omega (arith, h.0))
one_or_two (suc zero) h = inl refl
one_or_two (suc (suc zero)) h = inr refl
one_or_two (suc (suc (suc k))) h = absurd (omega (arith, h.1))

pub one_or_first : (r count : ℕ) → (0 < r) × (r ≤ 2) → (r ≡ 2 → count ≡ 2) → (r ≡ 1) ⊎ (r ≡ 2) × (count ≡ 2)
one_or_first r count h f = elim (one_or_two r h) [ inl e ↦ inl e | inr e ↦ inr (e, f e) ]

pub one_unit : (r : ℕ) (steps : List Entry) → (0 < r) × (r ≤ 2) → holder r steps ≡ sitter 1 0 steps
one_unit r steps h = elim (one_or_two r h) [ inl e ↦ ap (λ (k : ℕ). holder k steps) e | inr e ↦ ap (λ (k : ℕ). holder k steps) e ]

module _ {M : Type 1} {𝓤 : Ura M} (𝓛 : Logic 𝓤) (R : RattleType) (L : RowLaws R) (p : Ptr) (z : BlockId) (empty : R.Denot) (b o : ℕ) where
  open 𝓛 use {H, A}

  abbrev Pr : Type 2
  Pr = SProp 𝓤

  abbrev ◌⊢◌ : Pr → Pr → Type 1
  P ⊢ Q = ent 𝓤 P Q

  abbrev ◌∗◌ : Pr → Pr → Pr
  P ∗ Q = sep 𝓤 P Q

  abbrev ◌-∗◌ : Pr → Pr → Pr
  P -∗ Q = wand 𝓤 P Q

  abbrev ⟦◌⟧ : Fml → Pr
  ⟦ P ⟧ = sem 𝓛 P

  infix 26 ◌⊢◌
  infixr 35 ◌∗◌
  infixr 30 ◌-∗◌
  abbrev α : Lft
  α = age z

  abbrev γ : ℕ
  γ = z.parts_name

  abbrev outA : Fml
  outA = out z.alone_name

  abbrev outE : Fml
  outE = out z.emptying_name

  abbrev I : Fml
  I = Inv R p z empty b o

  abbrev St : ℕ → Fml
  St = State R p z empty

  abbrev st : ℕ → Phase R.Denot → Fml
  st = state R p z empty

  abbrev Ps : ℕ → R.Denot → ℕ → Fml
  Ps = parts R p z

  abbrev Wh : R.Denot → Fml
  Wh = whole R p z

  -- the right to have the value back when the round a ends, with all of its parts
  abbrev pub over : ℕ → R.Denot → Fml
  over a x = fsep (flent (a ∷ []) (Wh x)) (tokens a (2 ^ 63))

  -- A step opens the block's invariant. What it does to the word's case, and what it adds to the log, are shown apart
  module _ (q : Share) where
    pub opened : (f : ℕ → ℕ) (after told out : ℕ → Fml) (P : ℕ → Type 0) (K S : Fml)
        → ((n : ℕ) → n < 2 ^ 64 → (ph : Phase R.Denot) → ⟦ st n ph ⟧ ∗ ⟦ K ⟧ ⊢ upd 𝓤 (⟦ St (f n) ⟧ ∗ ⟦ after n ⟧))
        → ((n : ℕ) → ⟦ after n ⟧ ⊢ guard 𝓤 (P n) ⟦ after n ⟧)
        → ((n : ℕ) → P n → ⟦ history z n ⟧ ∗ ⟦ S ⟧ ⊢ upd 𝓤 (⟦ history z (f n) ⟧ ∗ ⟦ told n ⟧))
        → ((n : ℕ) → ⟦ after n ⟧ ∗ ⟦ told n ⟧ ⊢ ⟦ out n ⟧)
        → A.inv (fbor α I) ∗ (A.lft α q ∗ ⟦ fsep K S ⟧) ⊢ asks 𝓛 (block_ptr b o) f always (λ n. fsep (flft α q) (out n))
    opened f after told out P K S law says logs packs = let G : Pr = ex 𝓤 (Lies 𝓛 α q I b o f always out) in borrowed 𝓛 α q I b o f always out ⟦ fsep K S ⟧ (
        qed 𝓛 (‵ I ∷ ‵ (fsep K S) ∷ []) ∵ suffices ! _ (upd_i 𝓤 G) $ fpick ! (λ n. fsplit ! $
        use1 𝓛 (given (lib.Dec.T (has_ty (ty_int w64) (vint w64 n)) × WT (vint w64 n)) (‵ (word b o n))) (𝓛.laws.at_wt full_share (ty_int w64) b o (vint w64 n)) $ learn ! (λ g.
        show ! (Lies 𝓛 α q I b o f always out) n $ frame ! $ each ! (λ (_ : Unit {0}). Again 𝓛 α q I b o f always out n) (λ _. assume ! (‵ (word b o (f n))) $ move ! (1 ∷ []) $ fsplit ! $ fpick ! (λ ph.
        let Z : Pr = ⟦ I ⟧ ∗ ⟦ out n ⟧ in move ! (3 ∷ []) $ fsplit ! $ move ! (2 ∷ 0 ∷ []) $
        use2 𝓛 (raw (upd 𝓤 (⟦ St (f n) ⟧ ∗ ⟦ after n ⟧))) (law n g.1.fits ph) $ settle 𝓛 Z (‵ (St (f n)) ⊛ ‵ (after n)) $ split ! $ move ! (1 ∷ []) $
        use1 𝓛 (given (P n) (‵ (after n))) (says n) $ learn ! (λ pn. move ! (3 ∷ 2 ∷ []) $
        use2 𝓛 (raw (upd 𝓤 (⟦ history z (f n) ⟧ ∗ ⟦ told n ⟧))) (logs n pn) $ settle 𝓛 Z (‵ (history z (f n)) ⊛ ‵ (told n)) $ split ! $ suffices ! _ (upd_i 𝓤 Z) $
        move ! (2 ∷ 1 ∷ []) $ use2 𝓛 (‵ (out n)) (packs n) $ move ! (2 ∷ 1 ∷ []) $ fjoin ! $ move ! (2 ∷ 0 ∷ []) $ fjoin ! $ fpack ! ℕ (λ m. fsep (word b o m) (fsep (St m) (history z m))) (f n) $ done !))))))

  pub lands : (n : ℕ) (ph : Phase R.Denot) (K : Fml) → ⟦ st n ph ⟧ ∗ ⟦ K ⟧ ⊢ upd 𝓤 (⟦ St n ⟧ ∗ ⟦ K ⟧)
  lands n ph K = qed 𝓛 (‵ (st n ph) ∷ ‵ K ∷ []) ∵ suffices ! _ (upd_i 𝓤 (⟦ St n ⟧ ∗ ⟦ K ⟧)) $ fpack ! (Phase R.Denot) (st n) ph $ done !

  -- a seat that has a part meets a block that is shared, at its own round and value
  with_part : (a : ℕ) (x : R.Denot) (n : ℕ) (Z : Pr)
      → ((2 ≤ n) × (n ≤ 4294967295) → ⟦ Ps a x (2 ^ 63 - (n - 1)) ⟧ ∗ ⟦ Ps a x 1 ⟧ ∗ ⟦ both_in R p z ⟧ ∗ ⟦ flent (a ∷ []) (Wh x) ⟧ ⊢ upd 𝓤 Z)
      → (ph : Phase R.Denot) → ⟦ st n ph ⟧ ∗ ⟦ Ps a x 1 ⟧ ⊢ upd 𝓤 Z
  with_part a x n Z go free = qed 𝓛 (‵ (st n free) ∷ ‵ (Ps a x 1) ∷ []) ∵ fsplit3 ! $ keep ! (1 ∷ 3 ∷ []) $ by ! (part.never_idle 𝓛 R p z a 1 x (upd 𝓤 Z))
  with_part a x n Z go emptying = qed 𝓛 (‵ (st n emptying) ∷ ‵ (Ps a x 1) ∷ []) ∵ fsplit3 ! $ keep ! (1 ∷ 3 ∷ []) $ by ! (part.never_idle 𝓛 R p z a 1 x (upd 𝓤 Z))
  with_part a x n Z go alone = qed 𝓛 (‵ (st n alone) ∷ ‵ (Ps a x 1) ∷ []) ∵ fsplit3 ! $ keep ! (1 ∷ 3 ∷ []) $ by ! (part.never_idle 𝓛 R p z a 1 x (upd 𝓤 Z))
  with_part a x n Z go (shared u c y) = let k : ℕ = 2 ^ 63 - (n - 1) in
      qed 𝓛 (‵ (st n (shared u c y)) ∷ ‵ (Ps a x 1) ∷ []) ∵ fsplit3 ! $ fpick ! (λ h. drop ! $ let w_is = h.0 in let u_some = h.1 in let u_low = h.2 in let is : spare + kept u ≡ k = omega arith in rewrite ! 0 (λ (j : ℕ). ‵ (Ps c y j)) is refl $ move ! (0 ∷ 2 ∷ []) $
      use2 𝓛 (given ((c ≡ a) × (y ≡ x)) (‵ (Ps c y k) ⊛ ‵ (Ps a x 1))) (part.parts_agree 𝓛 R p z c a k 1 y x) $ learn ! (λ same. split ! $
      rewrite ! 0 (λ (u : ℕ × R.Denot). ‵ (Ps u.0 u.1 k)) (λ i. (same.0 i, same.1 i)) refl $ move ! (2 ∷ []) $ fsplit ! $
      rewrite ! 1 (λ (u : ℕ × R.Denot). ‵ (flent (u.0 ∷ []) (Wh u.1))) (λ i. (same.0 i, same.1 i)) refl $ move ! (2 ∷ 3 ∷ 0 ∷ 1 ∷ []) $ by ! (go (omega arith, omega arith))))

  -- a seat that has the value whole meets a block that is out to it alone
  with_alone : (n : ℕ) (Y : Fml) (Z : Pr) → (n ≡ 2 → ⟦ idle γ ⟧ ∗ ⟦ outE ⟧ ∗ ⟦ outA ⟧ ∗ ⟦ Y ⟧ ⊢ upd 𝓤 Z)
      → (ph : Phase R.Denot) → ⟦ st n ph ⟧ ∗ ⟦ fsep outA Y ⟧ ⊢ upd 𝓤 Z
  with_alone n Y Z go free = qed 𝓛 (‵ (st n free) ∷ ‵ (fsep outA Y) ∷ []) ∵ fsplit3 ! $ move ! (2 ∷ []) $ fsplit ! $ fsplit ! $ move ! (5 ∷ []) $ fsplit ! $ keep ! (0 ∷ 2 ∷ []) $ by ! (out_once 𝓛 z.alone_name Z)
  with_alone n Y Z go emptying = qed 𝓛 (‵ (st n emptying) ∷ ‵ (fsep outA Y) ∷ []) ∵ fsplit3 ! $ move ! (3 ∷ []) $ fsplit ! $ keep ! (0 ∷ 4 ∷ []) $ by ! (out_once 𝓛 z.alone_name Z)
  with_alone n Y Z go (shared u c y) = qed 𝓛 (‵ (st n (shared u c y)) ∷ ‵ (fsep outA Y) ∷ []) ∵ fsplit3 ! $ move ! (2 ∷ []) $ fsplit ! $ fsplit ! $ move ! (5 ∷ []) $ fsplit ! $ keep ! (0 ∷ 2 ∷ []) $ by ! (out_once 𝓛 z.alone_name Z)
  with_alone n Y Z go alone = qed 𝓛 (‵ (st n alone) ∷ ‵ (fsep outA Y) ∷ []) ∵ fsplit3 ! $ fpick ! (λ h. drop ! $ move ! (2 ∷ []) $ fsplit ! $ move ! (2 ∷ 3 ∷ 0 ∷ 1 ∷ []) $ by ! (go h.0))

  -- all parts of a round give its name up, and the round may end
  gathers : (a : ℕ) (x : R.Denot) → ⟦ Ps a x (2 ^ 63 - (2 - 1)) ⟧ ∗ ⟦ Ps a x 1 ⟧ ⊢ ⟦ idle γ ⟧ ∗ ⟦ tokens a (2 ^ 63) ⟧
  gathers a x = let g : Gv = stamp R p z a x in let is : (2 ^ 63 - (2 - 1)) + 1 ≡ 2 ^ 63 = omega arith in
      qed 𝓛 (‵ (Ps a x (2 ^ 63 - (2 - 1))) ∷ ‵ (Ps a x 1) ∷ []) ∵ use2 𝓛 (‵ (Ps a x ((2 ^ 63 - (2 - 1)) + 1))) (part.parts_glue 𝓛 R p z a (2 ^ 63 - (2 - 1)) 1 x (omega arith) (omega arith)) $
      rewrite ! 0 (λ (k : ℕ). ‵ (Ps a x k)) is refl $ fsplit3 ! $ use1 𝓛 (‵ (mark γ full_share g)) (name.marks_whole 𝓛 γ g) $ fpack ! Gv (mark γ full_share) g $ keep ! (0 ∷ 1 ∷ []) $ done !

  -- the units of seats that are brought together are no more than the word tells: beside the parts that the block keeps, more are absurd
  pub no_more_units : (a k n : ℕ) (x : R.Denot) (Z : Pr) → (2 ≤ n) × (n ≤ 4294967295) → n - 1 < k → k ≤ 2 ^ 63 → ⟦ Ps a x (2 ^ 63 - (n - 1)) ⟧ ∗ ⟦ Ps a x k ⟧ ⊢ Z
  no_more_units a k n x Z h more fits = let h₀ = h.0 in let h₁ = h.1 in let j : ℕ = n - 1 in let m : ℕ = 2 ^ 63 - (n - 1) in let r : ℕ = k - (n - 1) in let g : Gv = stamp R p z a x in let is : m + j ≡ 2 ^ 63 = omega arith in
      qed 𝓛 (‵ (Ps a x m) ∷ ‵ (Ps a x k) ∷ []) ∵ move ! (1 ∷ []) $ use1 𝓛 (‵ (Ps a x j) ⊛ ‵ (Ps a x r)) (part.parts_cut 𝓛 R p z L a k j r x (omega arith) (omega arith) (omega arith) fits) $ split ! $
      move ! (2 ∷ 0 ∷ 1 ∷ []) $ use2 𝓛 (‵ (Ps a x (m + j))) (part.parts_glue 𝓛 R p z a m j x (omega arith) (omega arith)) $ rewrite ! 0 (λ (i : ℕ). ‵ (Ps a x i)) is refl $ fsplit3 ! $
      use1 𝓛 (‵ (mark γ full_share g)) (name.marks_whole 𝓛 γ g) $ fpack ! Gv (mark γ full_share) g $ keep ! (0 ∷ 3 ∷ []) $ by ! (part.never_idle 𝓛 R p z a r x Z)

  -- the word where the block is alone with one seat, or emptied by one
  is_alone : (K : Fml) → ⟦ idle γ ⟧ ∗ ⟦ outE ⟧ ∗ ⟦ K ⟧ ⊢ upd 𝓤 (⟦ St 2 ⟧ ∗ ⟦ K ⟧)
  is_alone K = qed 𝓛 (‵ (idle γ) ∷ ‵ outE ∷ ‵ K ∷ []) ∵ nothing ! $ fpack ! (IsHeld 2 1 0) (λ _. ftrue) (refl, omega arith, omega arith, refl) $ fjoin3 ! $ by ! (lands 2 alone K)

  is_emptying : (K : Fml) → ⟦ idle γ ⟧ ∗ ⟦ outA ⟧ ∗ ⟦ K ⟧ ⊢ upd 𝓤 (⟦ St 1 ⟧ ∗ ⟦ K ⟧)
  is_emptying K = qed 𝓛 (‵ (idle γ) ∷ ‵ outA ∷ ‵ K ∷ []) ∵ nothing ! $ fpack ! (IsEmptied 1 0 1) (λ _. ftrue) (refl, refl, refl) $ fjoin3 ! $ by ! (lands 1 emptying K)

  is_shared : (w a : ℕ) (x : R.Denot) (K : Fml) → (2 ≤ w) × (w ≤ 4294967295) → ⟦ Ps a x (2 ^ 63 - (w - 1)) ⟧ ∗ ⟦ both_in R p z ⟧ ∗ ⟦ flent (a ∷ []) (Wh x) ⟧ ∗ ⟦ K ⟧ ⊢ upd 𝓤 (⟦ St w ⟧ ∗ ⟦ K ⟧)
  is_shared w a x K h = let h₀ = h.0 in let h₁ = h.1 in let u : ℕ = w - 1 in let is : 2 ^ 63 - (w - 1) ≡ spare + kept u = omega arith in
      qed 𝓛 (‵ (Ps a x (2 ^ 63 - (w - 1))) ∷ ‵ (both_in R p z) ∷ ‵ (flent (a ∷ []) (Wh x)) ∷ ‵ K ∷ []) ∵ rewrite ! 0 (λ (j : ℕ). ‵ (Ps a x j)) is refl $ move ! (1 ∷ 2 ∷ []) $ fjoin ! $ nothing ! $ fpack ! (IsHeld w u 0) (λ _. ftrue) (omega arith, omega arith, omega arith, refl) $
      move ! (0 ∷ 2 ∷ 1 ∷ []) $ fjoin3 ! $ by ! (lands w (shared u a x) K)

  -- ---- take
  abbrev pub taken : ℕ → ℕ → Fml
  taken n k = fsep (fact ((n ≡ 0 → k ≡ 2) × (n ≢ 0 → k ≡ 0))) (seat_owns R p z k 0 empty)

  abbrev pub Taken : ℕ → Fml
  Taken n = fex ℕ (taken n)

  takes_hit : (ph : Phase R.Denot) → ⟦ st 0 ph ⟧ ∗ ⟦ ftrue ⟧ ⊢ upd 𝓤 (⟦ St 2 ⟧ ∗ ⟦ Taken 0 ⟧)
  takes_hit emptying = qed 𝓛 (‵ (st 0 emptying) ∷ ‵ ftrue ∷ []) ∵ fsplit ! $ fpick ! (λ h. absurd (omega (arith, h.0)))
  takes_hit alone = qed 𝓛 (‵ (st 0 alone) ∷ ‵ ftrue ∷ []) ∵ fsplit ! $ fpick ! (λ h. absurd (omega (arith, h.0)))
  takes_hit (shared u c y) = qed 𝓛 (‵ (st 0 (shared u c y)) ∷ ‵ ftrue ∷ []) ∵ fsplit ! $ fpick ! (λ h. absurd (omega (arith, h.0)))
  takes_hit free = qed 𝓛 (‵ (st 0 free) ∷ ‵ ftrue ∷ []) ∵ fsplit3 ! $ fpick ! (λ h. drop ! $ move ! (1 ∷ []) $ fsplit ! $ fsplit ! $ move ! (0 ∷ 2 ∷ []) $ fjoin ! $
      nothing ! $ fpack ! ((0 ≡ 0 → 2 ≡ 2) × (0 ≢ 0 → 2 ≡ 0)) (λ _. ftrue) ((λ _. refl), (λ e. absurd (e refl))) $ fjoin ! $ fpack ! ℕ (taken 0) 2 $ move ! (2 ∷ 1 ∷ 0 ∷ []) $ keep ! (0 ∷ 1 ∷ 2 ∷ []) $ by ! (is_alone (Taken 0)))

  takes_miss : (n : ℕ) → n ≢ 0 → (ph : Phase R.Denot) → ⟦ st n ph ⟧ ∗ ⟦ ftrue ⟧ ⊢ upd 𝓤 (⟦ St n ⟧ ∗ ⟦ Taken n ⟧)
  takes_miss n miss ph = qed 𝓛 (‵ (st n ph) ∷ ‵ ftrue ∷ []) ∵ move ! (1 ∷ []) $ nothing ! $ fpack ! ((n ≡ 0 → 0 ≡ 2) × (n ≢ 0 → 0 ≡ 0)) (λ _. ftrue) ((λ e. absurd (miss e)), (λ _. refl)) $ fjoin ! $
      fpack ! ℕ (taken n) 0 $ move ! (1 ∷ 0 ∷ []) $ by ! (lands n ph (Taken n))

  by_exchange : (old new : ℕ) (K : Fml) (after : ℕ → Fml) (n : ℕ) (ph : Phase R.Denot)
      → (n ≡ old → ⟦ st n ph ⟧ ∗ ⟦ K ⟧ ⊢ upd 𝓤 (⟦ St new ⟧ ∗ ⟦ after n ⟧)) → (n ≢ old → ⟦ st n ph ⟧ ∗ ⟦ K ⟧ ⊢ upd 𝓤 (⟦ St n ⟧ ∗ ⟦ after n ⟧))
      → ⟦ st n ph ⟧ ∗ ⟦ K ⟧ ⊢ upd 𝓤 (⟦ St (either (eqb n old) new n) ⟧ ∗ ⟦ after n ⟧)
  by_exchange old new K after n ph hit miss = let F : Bool → Type 1 = λ y. ⟦ st n ph ⟧ ∗ ⟦ K ⟧ ⊢ upd 𝓤 (⟦ St (either y new n) ⟧ ∗ ⟦ after n ⟧) in dite (ℕ_discrete n old)
      (λ e. subst F (sym (eq-eqb n old e)) (hit e)) (λ ne. subst F (sym (ne_eqb n old ne)) (miss ne))

  -- the seat of the hold, and that of the pass
  abbrev pub took : ℕ → ℕ × ℕ → Fml
  took n t = fsep (fact ((n ≡ 0 → t.0 ≡ 2) × (n ≢ 0 → t.0 ≡ 0))) (fsep (seat_has R p z t.0 0 empty (t.1 + 1) []) (sits z t.1 (sitter 0 0 (entry taking t.1 n (after_take n) (t.1 + 1) ∷ []))))

  abbrev pub Took : ℕ → Fml
  Took n = fex (ℕ × ℕ) (took n)

  take_left : (n : ℕ) → after_take n ≡ either (eqb n 0) 2 n
  take_left zero = refl
  take_left (suc k) = ap (λ (y : Bool). either y 2 (suc k)) (sym (ne_eqb (suc k) 0 (λ e. omega (arith, e))))

  rank_taken : (n k : ℕ) → (n ≡ 0 → k ≡ 2) × (n ≢ 0 → k ≡ 0) → sitter (units_taken n) 0 [] ≡ holder k []
  rank_taken zero k t = ap (λ (j : ℕ). holder j []) (sym (t.0 refl))
  rank_taken (suc n) k t = ap (λ (j : ℕ). holder j []) (sym (t.1 (λ e. omega (arith, e))))

  packs_taken : (n : ℕ) → ⟦ Taken n ⟧ ∗ ⟦ log.Tried 𝓛 z n ⟧ ⊢ ⟦ Took n ⟧
  packs_taken n = qed 𝓛 (‵ (Taken n) ∷ ‵ (log.Tried 𝓛 z n) ∷ []) ∵ fpick ! (λ k. fsplit ! $ fpick ! (λ t. drop ! $ move ! (1 ∷ []) $ fpick ! (λ i. fsplit ! $ move ! (1 ∷ []) $
      rewrite ! 0 (λ (v : Sitter). ‵ (sits z (i + 1) v)) (rank_taken n k t) refl $ move ! (2 ∷ 0 ∷ []) $ fjoin ! $ move ! (0 ∷ 1 ∷ []) $ fjoin ! $ nothing ! $ fpack ! ((n ≡ 0 → k ≡ 2) × (n ≢ 0 → k ≡ 0)) (λ _. ftrue) t $ fjoin ! $
      fpack ! (ℕ × ℕ) (took n) (k, i) $ done !)))

  pub takes : (q : Share) → A.inv (fbor α I) ∗ (A.lft α q ∗ ⟦ fsep ftrue ftrue ⟧) ⊢ asks 𝓛 (block_ptr b o) (λ n. either (eqb n 0) 2 n) always (λ n. fsep (flft α q) (Took n))
  takes q = opened q (λ n. either (eqb n 0) 2 n) Taken (log.Tried 𝓛 z) Took (λ _. Unit {0}) ftrue ftrue (λ n _ ph. by_exchange 0 2 ftrue Taken n ph
      (λ e. subst (λ (k : ℕ). ⟦ st k ph ⟧ ∗ ⟦ ftrue ⟧ ⊢ upd 𝓤 (⟦ St 2 ⟧ ∗ ⟦ Taken k ⟧)) (sym e) (takes_hit ph)) (λ ne. takes_miss n ne ph))
      (λ n. guard_i 𝓤 (Unit {0}) ⟦ Taken n ⟧ tt)
      (λ n _. subst (λ (m : ℕ). ⟦ history z n ⟧ ∗ ⟦ ftrue ⟧ ⊢ upd 𝓤 (⟦ history z m ⟧ ∗ ⟦ log.Tried 𝓛 z n ⟧)) (take_left n) (via 𝓤 _ (fst∗ 𝓤 ⟦ history z n ⟧ ⟦ ftrue ⟧) (log.takes_on 𝓛 z n)))
      packs_taken

  -- ---- look
  abbrev pub rank : Won → ℕ
  rank none = 0
  rank unit = 1
  rank home = 2
  rank last = 2

  abbrev pub spoil : ℕ → R.Denot → Won → Fml
  spoil a x none = ftrue
  spoil a x unit = Ps a x 1
  spoil a x home = fsep outA (Wh x)
  spoil a x last = fsep outA (over a x)

  pub settles : (a : ℕ) (x : R.Denot) (s : Won) → ⟦ spoil a x s ⟧ ⊢ H.⇛ ⟦ seat_owns R p z (rank s) a x ⟧
  settles a x none = 𝓛.laws.⇛_intro _
  settles a x unit = 𝓛.laws.⇛_intro _
  settles a x home = 𝓛.laws.⇛_intro _
  settles a x last = qed 𝓛 (‵ (spoil a x last) ∷ []) ∵ updating ! $ fsplit3 ! $ move ! (1 ∷ 2 ∷ []) $ use2 𝓛 (later (‵ (Wh x))) (part.ended 𝓛 R p z L a x) $ await ! tt $ now ! $ move ! (1 ∷ 0 ∷ []) $ done !

  abbrev pub Tells : ℕ → Won → Type 0
  Tells n s = (n ≡ 2 → rank s ≡ 2) × (n ≢ 2 → rank s ≡ 1) × (2 ≤ n) × (n ≤ 4294967295)

  module _ (a : ℕ) (x : R.Denot) where
    abbrev pub seen : ℕ → Won → Fml
    seen n s = fsep (fact (Tells n s)) (spoil a x s)

    abbrev pub Seen : ℕ → Fml
    Seen n = fex Won (seen n)

    seen_in : (n : ℕ) (s : Won) → Tells n s → ⟦ spoil a x s ⟧ ⊢ ⟦ Seen n ⟧
    seen_in n s t = qed 𝓛 (‵ (spoil a x s) ∷ []) ∵ nothing ! $ fpack ! (Tells n s) (λ _. ftrue) t $ fjoin ! $ fpack ! Won (seen n) s $ done !

    looks_two : ⟦ Ps a x (2 ^ 63 - (2 - 1)) ⟧ ∗ ⟦ Ps a x 1 ⟧ ∗ ⟦ both_in R p z ⟧ ∗ ⟦ flent (a ∷ []) (Wh x) ⟧ ⊢ upd 𝓤 (⟦ St 2 ⟧ ∗ ⟦ Seen 2 ⟧)
    looks_two = qed 𝓛 (‵ (Ps a x (2 ^ 63 - (2 - 1))) ∷ ‵ (Ps a x 1) ∷ ‵ (both_in R p z) ∷ ‵ (flent (a ∷ []) (Wh x)) ∷ []) ∵
        use2 𝓛 (‵ (idle γ) ⊛ ‵ (tokens a (2 ^ 63))) (gathers a x) $ split ! $ move ! (2 ∷ []) $ fsplit ! $ move ! (0 ∷ 4 ∷ 3 ∷ []) $ fjoin3 ! $
        use1 𝓛 (‵ (Seen 2)) (seen_in 2 last ((λ _. refl), (λ e. absurd (e refl)), omega arith, omega arith)) $ move ! (2 ∷ 1 ∷ 0 ∷ []) $ by ! (is_alone (Seen 2))

    looks_part : (n : ℕ) (ph : Phase R.Denot) → ⟦ st n ph ⟧ ∗ ⟦ Ps a x 1 ⟧ ⊢ upd 𝓤 (⟦ St n ⟧ ∗ ⟦ Seen n ⟧)
    looks_part n ph = with_part a x n (⟦ St n ⟧ ∗ ⟦ Seen n ⟧) (λ h. dite (ℕ_discrete n 2)
        (λ e. subst (λ (k : ℕ). ⟦ Ps a x (2 ^ 63 - (k - 1)) ⟧ ∗ ⟦ Ps a x 1 ⟧ ∗ ⟦ both_in R p z ⟧ ∗ ⟦ flent (a ∷ []) (Wh x) ⟧ ⊢ upd 𝓤 (⟦ St k ⟧ ∗ ⟦ Seen k ⟧)) (sym e) looks_two)
        (λ ne. qed 𝓛 (‵ (Ps a x (2 ^ 63 - (n - 1))) ∷ ‵ (Ps a x 1) ∷ ‵ (both_in R p z) ∷ ‵ (flent (a ∷ []) (Wh x)) ∷ []) ∵ move ! (1 ∷ []) $
        use1 𝓛 (‵ (Seen n)) (seen_in n unit ((λ e. absurd (ne e)), (λ _. refl), h.0, h.1)) $ move ! (1 ∷ 2 ∷ 3 ∷ 0 ∷ []) $ by ! (is_shared n a x (Seen n) h))) ph

    looks_home : (n : ℕ) (ph : Phase R.Denot) → ⟦ st n ph ⟧ ∗ ⟦ fsep outA (Wh x) ⟧ ⊢ upd 𝓤 (⟦ St n ⟧ ∗ ⟦ Seen n ⟧)
    looks_home n ph = with_alone n (Wh x) (⟦ St n ⟧ ∗ ⟦ Seen n ⟧) (λ e. subst (λ (k : ℕ). ⟦ idle γ ⟧ ∗ ⟦ outE ⟧ ∗ ⟦ outA ⟧ ∗ ⟦ Wh x ⟧ ⊢ upd 𝓤 (⟦ St k ⟧ ∗ ⟦ Seen k ⟧)) (sym e)
        (qed 𝓛 (‵ (idle γ) ∷ ‵ outE ∷ ‵ outA ∷ ‵ (Wh x) ∷ []) ∵ move ! (2 ∷ 3 ∷ []) $ fjoin ! $ use1 𝓛 (‵ (Seen 2)) (seen_in 2 home ((λ _. refl), (λ e. absurd (e refl)), omega arith, omega arith)) $
        move ! (1 ∷ 2 ∷ 0 ∷ []) $ by ! (is_alone (Seen 2)))) ph

    module _ (i : ℕ) (steps : List Entry) where
      abbrev pub looked : ℕ → List Entry
      looked n = steps ++ entry looking i n n 0 ∷ []

      abbrev pub sight : ℕ → Won → Fml
      sight n s = fsep (fact (Tells n s)) (fsep (spoil a x s) (sits z i (sitter 1 0 (looked n))))

      abbrev pub Sight : ℕ → Fml
      Sight n = fex Won (sight n)

      told_seen : (n : ℕ) → ⟦ Seen n ⟧ ⊢ guard 𝓤 (2 ≤ n) ⟦ Seen n ⟧
      told_seen n = qed 𝓛 (‵ (Seen n) ∷ []) ∵ fpick ! (λ s. fsplit ! $ fpick ! (λ t. drop ! $ check ! t.2 $ by ! (seen_in n s t)))

      packs_seen : (n : ℕ) → ⟦ Seen n ⟧ ∗ ⟦ sits z i (sitter 1 0 (looked n)) ⟧ ⊢ ⟦ Sight n ⟧
      packs_seen n = qed 𝓛 (‵ (Seen n) ∷ ‵ (sits z i (sitter 1 0 (looked n))) ∷ []) ∵ fpick ! (λ s. fsplit ! $ fpick ! (λ t. drop ! $ fjoin ! $ nothing ! $ fpack ! (Tells n s) (λ _. ftrue) t $ fjoin ! $ fpack ! Won (sight n) s $ done !))

      has_unit : (n : ℕ) (s : Won) → Tells n s → sitter 1 0 (looked n) ≡ holder (rank s) (looked n)
      has_unit n none t = dite (ℕ_discrete n 2) (λ e. absurd (omega (arith, t.0 e))) (λ ne. absurd (omega (arith, t.1 ne)))
      has_unit n unit t = refl
      has_unit n home t = refl
      has_unit n last t = refl

      -- what the seat has then
      pub has_looked : (n : ℕ) (s : Won) → Tells n s → ⟦ fsep (spoil a x s) (sits z i (sitter 1 0 (looked n))) ⟧ ⊢ H.⇛ ⟦ seat_has R p z (rank s) a x i (looked n) ⟧
      has_looked n s t = qed 𝓛 (‵ (fsep (spoil a x s) (sits z i (sitter 1 0 (looked n)))) ∷ []) ∵ updating ! $ fsplit ! $ use1 𝓛 (later (‵ (seat_owns R p z (rank s) a x))) (settles a x s) $ await ! tt $ now ! $
          rewrite ! 1 (λ (v : Sitter). ‵ (sits z i v)) (has_unit n s t) refl $ done !

      pub looks : (right : ℕ) → (right ≡ 1) ⊎ (right ≡ 2) → (q : Share) → A.inv (fbor α I) ∗ (A.lft α q ∗ ⟦ seat_has R p z right a x i steps ⟧) ⊢ asks 𝓛 (block_ptr b o) (λ n. n) always (λ n. fsep (flft α q) (Sight n))
      looks right (inl e) q = subst (λ (r : ℕ). A.inv (fbor α I) ∗ (A.lft α q ∗ ⟦ seat_has R p z r a x i steps ⟧) ⊢ asks 𝓛 (block_ptr b o) (λ n. n) always (λ n. fsep (flft α q) (Sight n))) (sym e)
          (opened q (λ n. n) Seen (λ n. sits z i (sitter 1 0 (looked n))) Sight (λ n. 2 ≤ n) (Ps a x 1) (sits z i (sitter 1 0 steps)) (λ n _ ph. looks_part n ph) told_seen (λ n some. log.looks_on 𝓛 z i n steps some) packs_seen)
      looks right (inr e) q = subst (λ (r : ℕ). A.inv (fbor α I) ∗ (A.lft α q ∗ ⟦ seat_has R p z r a x i steps ⟧) ⊢ asks 𝓛 (block_ptr b o) (λ n. n) always (λ n. fsep (flft α q) (Sight n))) (sym e)
          (opened q (λ n. n) Seen (λ n. sits z i (sitter 1 0 (looked n))) Sight (λ n. 2 ≤ n) (fsep outA (Wh x)) (sits z i (sitter 1 0 steps)) (λ n _ ph. looks_home n ph) told_seen (λ n some. log.looks_on 𝓛 z i n steps some) packs_seen)

    -- ---- leave
    abbrev pub rest_rank : Won → ℕ
    rest_rank none = 0
    rest_rank unit = 0
    rest_rank home = 3
    rest_rank last = 3

    abbrev pub rest : Won → Fml
    rest none = ftrue
    rest unit = ftrue
    rest home = fsep outE (Wh x)
    rest last = fsep outE (over a x)

    pub rests : (s : Won) → ⟦ rest s ⟧ ⊢ H.⇛ ⟦ seat_owns R p z (rest_rank s) a x ⟧
    rests none = 𝓛.laws.⇛_intro _
    rests unit = 𝓛.laws.⇛_intro _
    rests home = 𝓛.laws.⇛_intro _
    rests last = qed 𝓛 (‵ (rest last) ∷ []) ∵ updating ! $ fsplit3 ! $ move ! (1 ∷ 2 ∷ []) $ use2 𝓛 (later (‵ (Wh x))) (part.ended 𝓛 R p z L a x) $ await ! tt $ now ! $ move ! (1 ∷ 0 ∷ []) $ done !

    abbrev pub Parts-with : ℕ → Won → Type 0
    Parts-with n s = (n ≡ 2 → rest_rank s ≡ 3) × (n ≢ 2 → rest_rank s ≡ 0) × (2 ≤ n) × (n ≤ 4294967295)

    abbrev pub gone : ℕ → Won → Fml
    gone n s = fsep (fact (Parts-with n s)) (rest s)

    abbrev pub Gone : ℕ → Fml
    Gone n = fex Won (gone n)

    gone_in : (n : ℕ) (s : Won) → Parts-with n s → ⟦ rest s ⟧ ⊢ ⟦ Gone n ⟧
    gone_in n s t = qed 𝓛 (‵ (rest s) ∷ []) ∵ nothing ! $ fpack ! (Parts-with n s) (λ _. ftrue) t $ fjoin ! $ fpack ! Won (gone n) s $ done !

    abbrev less : ℕ → ℕ
    less n = (n + (2 ^ 64 - 1)) % 2 ^ 64

    leaves_two : ⟦ Ps a x (2 ^ 63 - (2 - 1)) ⟧ ∗ ⟦ Ps a x 1 ⟧ ∗ ⟦ both_in R p z ⟧ ∗ ⟦ flent (a ∷ []) (Wh x) ⟧ ⊢ upd 𝓤 (⟦ St (less 2) ⟧ ∗ ⟦ Gone 2 ⟧)
    leaves_two = qed 𝓛 (‵ (Ps a x (2 ^ 63 - (2 - 1))) ∷ ‵ (Ps a x 1) ∷ ‵ (both_in R p z) ∷ ‵ (flent (a ∷ []) (Wh x)) ∷ []) ∵
        use2 𝓛 (‵ (idle γ) ⊛ ‵ (tokens a (2 ^ 63))) (gathers a x) $ split ! $ move ! (2 ∷ []) $ fsplit ! $ move ! (1 ∷ 4 ∷ 3 ∷ []) $ fjoin3 ! $
        use1 𝓛 (‵ (Gone 2)) (gone_in 2 last ((λ _. refl), (λ e. absurd (e refl)), omega arith, omega arith)) $ move ! (2 ∷ 1 ∷ 0 ∷ []) $ by ! (is_emptying (Gone 2))

    leaves_part : (n : ℕ) → n < 2 ^ 64 → (ph : Phase R.Denot) → ⟦ st n ph ⟧ ∗ ⟦ Ps a x 1 ⟧ ⊢ upd 𝓤 (⟦ St (less n) ⟧ ∗ ⟦ Gone n ⟧)
    leaves_part n fits ph = with_part a x n (⟦ St (less n) ⟧ ∗ ⟦ Gone n ⟧) (λ h. dite (ℕ_discrete n 2)
        (λ e. subst (λ (k : ℕ). ⟦ Ps a x (2 ^ 63 - (k - 1)) ⟧ ∗ ⟦ Ps a x 1 ⟧ ∗ ⟦ both_in R p z ⟧ ∗ ⟦ flent (a ∷ []) (Wh x) ⟧ ⊢ upd 𝓤 (⟦ St (less k) ⟧ ∗ ⟦ Gone k ⟧)) (sym e) leaves_two)
        (λ ne. let h₀ = h.0 in let h₁ = h.1 in let w : ℕ = less n in let m : ℕ = (2 ^ 63 - (n - 1)) + 1 in let is : m ≡ 2 ^ 63 - (w - 1) = omega arith in let ok : (2 ≤ w) × (w ≤ 4294967295) = (omega arith, omega arith) in
        qed 𝓛 (‵ (Ps a x (2 ^ 63 - (n - 1))) ∷ ‵ (Ps a x 1) ∷ ‵ (both_in R p z) ∷ ‵ (flent (a ∷ []) (Wh x)) ∷ []) ∵
        use2 𝓛 (‵ (Ps a x m)) (part.parts_glue 𝓛 R p z a (2 ^ 63 - (n - 1)) 1 x (omega arith) (omega arith)) $ rewrite ! 0 (λ (k : ℕ). ‵ (Ps a x k)) is refl $
        nothing ! $ use1 𝓛 (‵ (Gone n)) (gone_in n none ((λ e. absurd (ne e)), (λ _. refl), h.0, h.1)) $ move ! (1 ∷ 2 ∷ 3 ∷ 0 ∷ []) $ by ! (is_shared w a x (Gone n) ok))) ph

    leaves_home : (n : ℕ) (ph : Phase R.Denot) → ⟦ st n ph ⟧ ∗ ⟦ fsep outA (Wh x) ⟧ ⊢ upd 𝓤 (⟦ St (less n) ⟧ ∗ ⟦ Gone n ⟧)
    leaves_home n ph = with_alone n (Wh x) (⟦ St (less n) ⟧ ∗ ⟦ Gone n ⟧) (λ e. subst (λ (k : ℕ). ⟦ idle γ ⟧ ∗ ⟦ outE ⟧ ∗ ⟦ outA ⟧ ∗ ⟦ Wh x ⟧ ⊢ upd 𝓤 (⟦ St (less k) ⟧ ∗ ⟦ Gone k ⟧)) (sym e)
        (qed 𝓛 (‵ (idle γ) ∷ ‵ outE ∷ ‵ outA ∷ ‵ (Wh x) ∷ []) ∵ move ! (1 ∷ 3 ∷ []) $ fjoin ! $ use1 𝓛 (‵ (Gone 2)) (gone_in 2 home ((λ _. refl), (λ e. absurd (e refl)), omega arith, omega arith)) $
        move ! (1 ∷ 2 ∷ 0 ∷ []) $ by ! (is_emptying (Gone 2)))) ph

    module _ (i : ℕ) (steps : List Entry) where
      abbrev pub gave : ℕ → List Entry
      gave n = steps ++ entry leaving i n (n - 1) 0 ∷ []

      abbrev pub exit : ℕ → Won → Fml
      exit n s = fsep (fact (Parts-with n s)) (fsep (rest s) (sits z i (sitter 0 (empties_from n) (gave n))))

      abbrev pub Exit : ℕ → Fml
      Exit n = fex Won (exit n)

      told_gone : (n : ℕ) → ⟦ Gone n ⟧ ⊢ guard 𝓤 ((2 ≤ n) × (n ≤ 4294967295)) ⟦ Gone n ⟧
      told_gone n = qed 𝓛 (‵ (Gone n) ∷ []) ∵ fpick ! (λ s. fsplit ! $ fpick ! (λ t. drop ! $ check ! (t.2, t.3) $ by ! (gone_in n s t)))

      packs_gone : (n : ℕ) → ⟦ Gone n ⟧ ∗ ⟦ sits z i (sitter 0 (empties_from n) (gave n)) ⟧ ⊢ ⟦ Exit n ⟧
      packs_gone n = qed 𝓛 (‵ (Gone n) ∷ ‵ (sits z i (sitter 0 (empties_from n) (gave n))) ∷ []) ∵ fpick ! (λ s. fsplit ! $ fpick ! (λ t. drop ! $ fjoin ! $ nothing ! $ fpack ! (Parts-with n s) (λ _. ftrue) t $ fjoin ! $ fpack ! Won (exit n) s $ done !))

      not_two : (n : ℕ) → n ≢ 2 → empties_from n ≡ 0
      not_two zero ne = refl
      not_two (suc zero) ne = refl
      not_two (suc (suc zero)) ne = absurd (ne refl)
      not_two (suc (suc (suc k))) ne = refl

      has_none : (n : ℕ) (s : Won) → Parts-with n s → sitter 0 (empties_from n) (gave n) ≡ holder (rest_rank s) (gave n)
      has_none n s t = dite (ℕ_discrete n 2)
          (λ e. (λ j. sitter 0 (empties_from (e j)) (gave n)) ∙ ap (λ (r : ℕ). holder r (gave n)) (sym (t.0 e)))
          (λ ne. (λ j. sitter 0 (not_two n ne j) (gave n)) ∙ ap (λ (r : ℕ). holder r (gave n)) (sym (t.1 ne)))

      -- what the seat has then
      pub has_left : (n : ℕ) (s : Won) → Parts-with n s → ⟦ fsep (rest s) (sits z i (sitter 0 (empties_from n) (gave n))) ⟧ ⊢ H.⇛ ⟦ seat_has R p z (rest_rank s) a x i (gave n) ⟧
      has_left n s t = qed 𝓛 (‵ (fsep (rest s) (sits z i (sitter 0 (empties_from n) (gave n)))) ∷ []) ∵ updating ! $ fsplit ! $ use1 𝓛 (later (‵ (seat_owns R p z (rest_rank s) a x))) (rests s) $ await ! tt $ now ! $
          rewrite ! 1 (λ (v : Sitter). ‵ (sits z i v)) (has_none n s t) refl $ done !

      one_less : (n : ℕ) → (2 ≤ n) × (n ≤ 4294967295) → n - 1 ≡ less n
      one_less n h = let h₀ = h.0 in let h₁ = h.1 in omega arith

      logs_left : (n : ℕ) → (2 ≤ n) × (n ≤ 4294967295) → ⟦ history z n ⟧ ∗ ⟦ sits z i (sitter 1 0 steps) ⟧ ⊢ upd 𝓤 (⟦ history z (less n) ⟧ ∗ ⟦ sits z i (sitter 0 (empties_from n) (gave n)) ⟧)
      logs_left n h = let h₀ = h.0 in subst (λ (m : ℕ). ⟦ history z n ⟧ ∗ ⟦ sits z i (sitter 1 0 steps) ⟧ ⊢ upd 𝓤 (⟦ history z m ⟧ ∗ ⟦ sits z i (sitter 0 (empties_from n) (gave n)) ⟧)) (one_less n h)
          (log.leaves_on 𝓛 z i n (n - 1) steps h.0 (omega arith))

      pub leaves : (right : ℕ) → (right ≡ 1) ⊎ (right ≡ 2) → (q : Share) → A.inv (fbor α I) ∗ (A.lft α q ∗ ⟦ seat_has R p z right a x i steps ⟧) ⊢ asks 𝓛 (block_ptr b o) less always (λ n. fsep (flft α q) (Exit n))
      leaves right (inl e) q = subst (λ (r : ℕ). A.inv (fbor α I) ∗ (A.lft α q ∗ ⟦ seat_has R p z r a x i steps ⟧) ⊢ asks 𝓛 (block_ptr b o) less always (λ n. fsep (flft α q) (Exit n))) (sym e)
          (opened q less Gone (λ n. sits z i (sitter 0 (empties_from n) (gave n))) Exit (λ n. (2 ≤ n) × (n ≤ 4294967295)) (Ps a x 1) (sits z i (sitter 1 0 steps)) leaves_part told_gone logs_left packs_gone)
      leaves right (inr e) q = subst (λ (r : ℕ). A.inv (fbor α I) ∗ (A.lft α q ∗ ⟦ seat_has R p z r a x i steps ⟧) ⊢ asks 𝓛 (block_ptr b o) less always (λ n. fsep (flft α q) (Exit n))) (sym e)
          (opened q less Gone (λ n. sits z i (sitter 0 (empties_from n) (gave n))) Exit (λ n. (2 ≤ n) × (n ≤ 4294967295)) (fsep outA (Wh x)) (sits z i (sitter 1 0 steps)) (λ n _ ph. leaves_home n ph) told_gone logs_left packs_gone)

  -- ---- free
  frees_at : (n : ℕ) (ph : Phase R.Denot) → ⟦ st n ph ⟧ ∗ ⟦ fsep outE (Wh empty) ⟧ ⊢ upd 𝓤 (⟦ St 0 ⟧ ∗ ⟦ fact (n ≡ 1) ⟧)
  frees_at n free = qed 𝓛 (‵ (st n free) ∷ ‵ (fsep outE (Wh empty)) ∷ []) ∵ fsplit3 ! $ move ! (2 ∷ []) $ fsplit ! $ fsplit ! $ move ! (5 ∷ []) $ fsplit ! $ keep ! (0 ∷ 3 ∷ []) $ by ! (out_once 𝓛 z.emptying_name (⟦ St 0 ⟧ ∗ ⟦ fact (n ≡ 1) ⟧))
  frees_at n alone = qed 𝓛 (‵ (st n alone) ∷ ‵ (fsep outE (Wh empty)) ∷ []) ∵ fsplit3 ! $ move ! (3 ∷ []) $ fsplit ! $ keep ! (0 ∷ 4 ∷ []) $ by ! (out_once 𝓛 z.emptying_name (⟦ St 0 ⟧ ∗ ⟦ fact (n ≡ 1) ⟧))
  frees_at n (shared u c y) = qed 𝓛 (‵ (st n (shared u c y)) ∷ ‵ (fsep outE (Wh empty)) ∷ []) ∵ fsplit3 ! $ move ! (2 ∷ []) $ fsplit ! $ fsplit ! $ move ! (5 ∷ []) $ fsplit ! $ keep ! (0 ∷ 3 ∷ []) $ by ! (out_once 𝓛 z.emptying_name (⟦ St 0 ⟧ ∗ ⟦ fact (n ≡ 1) ⟧))
  frees_at n emptying = qed 𝓛 (‵ (st n emptying) ∷ ‵ (fsep outE (Wh empty)) ∷ []) ∵ fsplit3 ! $ fpick ! (λ h. drop ! $ move ! (2 ∷ []) $ fsplit ! $ move ! (3 ∷ 0 ∷ []) $ fjoin ! $ move ! (0 ∷ 1 ∷ []) $ fjoin ! $ move ! (1 ∷ 0 ∷ []) $
      nothing ! $ fpack ! (IsFree 0 0 0) (λ _. ftrue) (refl, refl, refl) $ fjoin3 ! $ nothing ! $ fpack ! (n ≡ 1) (λ _. ftrue) h.0 $ move ! (1 ∷ 0 ∷ []) $ by ! (lands 0 free (fact (n ≡ 1))))

  module _ (i : ℕ) (steps : List Entry) where
    abbrev pub cleared : List Entry
    cleared = steps ++ entry clearing i 1 0 0 ∷ []

    logs_clear : (n : ℕ) → n ≡ 1 → ⟦ history z n ⟧ ∗ ⟦ sits z i (sitter 0 1 steps) ⟧ ⊢ upd 𝓤 (⟦ history z 0 ⟧ ∗ ⟦ sits z i (sitter 0 0 cleared) ⟧)
    logs_clear n e = subst (λ (k : ℕ). ⟦ history z k ⟧ ∗ ⟦ sits z i (sitter 0 1 steps) ⟧ ⊢ upd 𝓤 (⟦ history z 0 ⟧ ∗ ⟦ sits z i (sitter 0 0 cleared) ⟧)) (sym e) (log.clears_on 𝓛 z i 1 steps refl)

    told_one : (n : ℕ) → ⟦ fact (n ≡ 1) ⟧ ⊢ guard 𝓤 (n ≡ 1) ⟦ fact (n ≡ 1) ⟧
    told_one n = qed 𝓛 (‵ (fact (n ≡ 1)) ∷ []) ∵ fpick ! (λ e. check ! e $ fpack ! (n ≡ 1) (λ _. ftrue) e $ done !)

    pub frees : (a : ℕ) (q : Share) → A.inv (fbor α I) ∗ (A.lft α q ∗ ⟦ seat_has R p z 3 a empty i steps ⟧) ⊢ asks 𝓛 (block_ptr b o) (λ _. 0) always (λ n. fsep (flft α q) (seat_has R p z 0 a empty i cleared))
    frees a q = opened q (λ _. 0) (λ n. fact (n ≡ 1)) (λ _. sits z i (sitter 0 0 cleared)) (λ _. seat_has R p z 0 a empty i cleared) (λ n. n ≡ 1) (fsep outE (Wh empty)) (sits z i (sitter 0 1 steps)) (λ n _ ph. frees_at n ph)
        told_one logs_clear (λ n. qed 𝓛 (‵ (fact (n ≡ 1)) ∷ ‵ (sits z i (sitter 0 0 cleared)) ∷ []) ∵ drop ! $ nothing ! $ fjoin ! $ done !)

  -- ---- share
  -- a seat that has the value whole offers a new round
  abbrev pub offer_of : R.Denot → ℕ → ℕ → Fml
  offer_of x a zero = ftrue
  offer_of x a (suc zero) = Ps a x 1
  offer_of x a (suc (suc k)) = fsep outA (part.fresh 𝓛 R p z L x a)

  module _ (count : ℕ) (asked : (2 ≤ count) × (count < 4294967295)) (a : ℕ) (x : R.Denot) where
    abbrev pub got : ℕ → ℕ → Fml
    got n k = fsep (fact ((n ≡ count → k ≡ 1) × (n ≢ count → k ≡ 0) × (2 ≤ n) × (n ≤ 4294967295))) (seat_owns R p z k a x)

    abbrev pub Got : ℕ → Fml
    Got n = fsep (Ps a x 1) (fex ℕ (got n))

    got_one : ⟦ Ps a x 1 ⟧ ∗ ⟦ Ps a x 1 ⟧ ⊢ ⟦ Got count ⟧
    got_one = qed 𝓛 (‵ (Ps a x 1) ∷ ‵ (Ps a x 1) ∷ []) ∵ nothing ! $ fpack ! ((count ≡ count → 1 ≡ 1) × (count ≢ count → 1 ≡ 0) × (2 ≤ count) × (count ≤ 4294967295)) (λ _. ftrue) ((λ _. refl), (λ e. absurd (e refl)), asked.0, (let below = asked.1 in omega arith)) $ fjoin ! $ fpack ! ℕ (got count) 1 $ move ! (1 ∷ 0 ∷ []) $ done !

    got_none : (n : ℕ) → n ≢ count → (2 ≤ n) × (n ≤ 4294967295) → ⟦ Ps a x 1 ⟧ ⊢ ⟦ Got n ⟧
    got_none n ne h = qed 𝓛 (‵ (Ps a x 1) ∷ []) ∵ nothing ! $ nothing ! $ fpack ! ((n ≡ count → 0 ≡ 1) × (n ≢ count → 0 ≡ 0) × (2 ≤ n) × (n ≤ 4294967295)) (λ _. ftrue) ((λ e. absurd (ne e)), (λ _. refl), h.0, h.1) $ fjoin ! $ fpack ! ℕ (got n) 0 $ move ! (1 ∷ 0 ∷ []) $ done !

    one_more : (c : ℕ) → (2 ≤ c) × (c < 4294967295) → ⟦ Ps a x (2 ^ 63 - (c - 1)) ⟧ ⊢ ⟦ Ps a x 1 ⟧ ∗ ⟦ Ps a x (2 ^ 63 - ((c + 1) - 1)) ⟧
    one_more c h = let h₀ = h.0 in let h₁ = h.1 in part.parts_cut 𝓛 R p z L a (2 ^ 63 - (c - 1)) 1 (2 ^ 63 - ((c + 1) - 1)) x (omega arith) (omega arith) (omega arith) (omega arith)

    shares_hit : ⟦ Ps a x (2 ^ 63 - (count - 1)) ⟧ ∗ ⟦ Ps a x 1 ⟧ ∗ ⟦ both_in R p z ⟧ ∗ ⟦ flent (a ∷ []) (Wh x) ⟧ ⊢ upd 𝓤 (⟦ St (count + 1) ⟧ ∗ ⟦ Got count ⟧)
    shares_hit = let a₀ = asked.0 in let a₁ = asked.1 in let w : ℕ = count + 1 in qed 𝓛 (‵ (Ps a x (2 ^ 63 - (count - 1))) ∷ ‵ (Ps a x 1) ∷ ‵ (both_in R p z) ∷ ‵ (flent (a ∷ []) (Wh x)) ∷ []) ∵
        use1 𝓛 (‵ (Ps a x 1) ⊛ ‵ (Ps a x (2 ^ 63 - (w - 1)))) (one_more count asked) $ split ! $ move ! (0 ∷ 2 ∷ []) $ use2 𝓛 (‵ (Got count)) got_one $ move ! (1 ∷ 2 ∷ 3 ∷ 0 ∷ []) $
        by ! (is_shared w a x (Got count) (omega arith, omega arith))

    shares_part : (n : ℕ) (ph : Phase R.Denot) → ⟦ st n ph ⟧ ∗ ⟦ Ps a x 1 ⟧ ⊢ upd 𝓤 (⟦ St (either (eqb n count) (count + 1) n) ⟧ ∗ ⟦ Got n ⟧)
    shares_part n ph = by_exchange count (count + 1) (Ps a x 1) Got n ph
        (λ e. subst (λ (k : ℕ). ⟦ st k ph ⟧ ∗ ⟦ Ps a x 1 ⟧ ⊢ upd 𝓤 (⟦ St (count + 1) ⟧ ∗ ⟦ Got k ⟧)) (sym e) (with_part a x count (⟦ St (count + 1) ⟧ ∗ ⟦ Got count ⟧) (λ _. shares_hit) ph))
        (λ ne. with_part a x n (⟦ St n ⟧ ∗ ⟦ Got n ⟧) (λ h. qed 𝓛 (‵ (Ps a x (2 ^ 63 - (n - 1))) ∷ ‵ (Ps a x 1) ∷ ‵ (both_in R p z) ∷ ‵ (flent (a ∷ []) (Wh x)) ∷ []) ∵ move ! (1 ∷ []) $
        use1 𝓛 (‵ (Got n)) (got_none n ne h) $ move ! (1 ∷ 2 ∷ 3 ∷ 0 ∷ []) $ by ! (is_shared n a x (Got n) h)) ph)

    abbrev pub offer : ℕ → Fml
    offer = offer_of x a

    names : ⟦ idle γ ⟧ ∗ ⟦ tokens a (2 ^ 63) ⟧ ∗ ⟦ shown R p z x (a ∷ []) ⟧ ⊢ upd 𝓤 ⟦ Ps a x (2 ^ 63) ⟧
    names = let g : Gv = stamp R p z a x in qed 𝓛 (‵ (idle γ) ∷ ‵ (tokens a (2 ^ 63)) ∷ ‵ (shown R p z x (a ∷ [])) ∷ []) ∵ fpick ! (λ h.
        use1 𝓛 (raw (upd 𝓤 ⟦ mark γ full_share g ⟧)) (name.renames 𝓛 γ h g) $ settle 𝓛 ⟦ Ps a x (2 ^ 63) ⟧ (‵ (mark γ full_share g)) $ suffices ! _ (upd_i 𝓤 ⟦ Ps a x (2 ^ 63) ⟧) $
        use1 𝓛 (‵ (marks γ g (2 ^ 63))) (name.all_marks 𝓛 γ g) $ done !)

    shares_first : count ≡ 2 → ⟦ idle γ ⟧ ∗ ⟦ outE ⟧ ∗ ⟦ outA ⟧ ∗ ⟦ part.fresh 𝓛 R p z L x a ⟧ ⊢ upd 𝓤 (⟦ St (count + 1) ⟧ ∗ ⟦ Got count ⟧)
    shares_first two = let Z : Pr = ⟦ St (count + 1) ⟧ ∗ ⟦ Got count ⟧ in let m : ℕ = 2 ^ 63 - (count - 1) in let is : 1 + m ≡ 2 ^ 63 = omega arith in
        qed 𝓛 (‵ (idle γ) ∷ ‵ outE ∷ ‵ outA ∷ ‵ (part.fresh 𝓛 R p z L x a) ∷ []) ∵ move ! (3 ∷ []) $ fsplit3 ! $ move ! (3 ∷ 1 ∷ 2 ∷ []) $ group ! 3 $
        use1 𝓛 (raw (upd 𝓤 ⟦ Ps a x (2 ^ 63) ⟧)) names $ settle 𝓛 Z (‵ (Ps a x (2 ^ 63))) $
        use1 𝓛 (‵ (Ps a x 1) ⊛ ‵ (Ps a x m)) (part.parts_cut 𝓛 R p z L a (2 ^ 63) 1 m x (omega arith) (omega arith) is (omega arith)) $ split ! $
        move ! (4 ∷ 3 ∷ []) $ fjoin ! $ move ! (2 ∷ 1 ∷ 0 ∷ 3 ∷ []) $ by ! shares_hit

    shares_alone : count ≡ 2 → (n : ℕ) (ph : Phase R.Denot) → ⟦ st n ph ⟧ ∗ ⟦ fsep outA (part.fresh 𝓛 R p z L x a) ⟧ ⊢ upd 𝓤 (⟦ St (either (eqb n count) (count + 1) n) ⟧ ∗ ⟦ Got n ⟧)
    shares_alone two n ph = let Y : Fml = part.fresh 𝓛 R p z L x a in by_exchange count (count + 1) (fsep outA Y) Got n ph
        (λ e. subst (λ (k : ℕ). ⟦ st k ph ⟧ ∗ ⟦ fsep outA Y ⟧ ⊢ upd 𝓤 (⟦ St (count + 1) ⟧ ∗ ⟦ Got k ⟧)) (sym e) (with_alone count Y (⟦ St (count + 1) ⟧ ∗ ⟦ Got count ⟧) (λ _. shares_first two) ph))
        (λ ne. with_alone n Y (⟦ St n ⟧ ∗ ⟦ Got n ⟧) (λ e. absurd (ne (omega arith))) ph)

    module _ (i : ℕ) (steps : List Entry) where
      abbrev pub left_at : ℕ → ℕ
      left_at n = either (eqb n count) (count + 1) n

      abbrev pub gives : ℕ → ℕ → List Entry
      gives n j = steps ++ entry sharing i n (left_at n) j ∷ []

      abbrev pub Given : ℕ → ℕ → Type 0
      Given n k = (n ≡ count → k ≡ 1) × (n ≢ count → k ≡ 0) × (2 ≤ n) × (n ≤ 4294967295)

      -- the seat of the hold that shares, and that of the new one
      abbrev pub pair_of : ℕ → ℕ × ℕ → Fml
      pair_of n t = fsep (fact (Given n t.0)) (fsep (seat_has R p z 1 a x i (gives n t.1)) (seat_has R p z t.0 a x t.1 []))

      abbrev pub Pair : ℕ → Fml
      Pair n = fex (ℕ × ℕ) (pair_of n)

      told_got : (n : ℕ) → ⟦ Got n ⟧ ⊢ guard 𝓤 ((2 ≤ n) × (n ≤ 4294967295)) ⟦ Got n ⟧
      told_got n = qed 𝓛 (‵ (Got n) ∷ []) ∵ fsplit ! $ move ! (1 ∷ []) $ fpick ! (λ k. fsplit ! $ fpick ! (λ t. check ! (t.2, t.3) $ fpack ! (Given n k) (λ _. ftrue) t $ fjoin ! $ fpack ! ℕ (got n) k $ move ! (1 ∷ 0 ∷ []) $ done !))

      how_left : (n : ℕ) → (left_at n ≡ n) ⊎ (n < 4294967295) × (left_at n ≡ n + 1)
      how_left n = dite (ℕ_discrete n count)
          (λ e. let below = asked.1 in inr (omega (arith, e), ap (λ (y : Bool). either y (count + 1) n) (eq-eqb n count e) ∙ ap (λ (k : ℕ). k + 1) (sym e)))
          (λ ne. inl (ap (λ (y : Bool). either y (count + 1) n) (ne_eqb n count ne)))

      rank_got : (n k : ℕ) → Given n k → sitter (left_at n - n) 0 [] ≡ holder k []
      rank_got n k t = dite (ℕ_discrete n count)
          (λ e. let one : left_at n - n ≡ 1 = (let hit = ap (λ (y : Bool). either y (count + 1) n) (eq-eqb n count e) in omega (arith, hit, e)) in
          ap (λ (u : ℕ). sitter u 0 []) one ∙ ap (λ (j : ℕ). holder j []) (sym (t.0 e)))
          (λ ne. let none_ : left_at n - n ≡ 0 = (let miss = ap (λ (y : Bool). either y (count + 1) n) (ne_eqb n count ne) in omega (arith, miss)) in
          ap (λ (u : ℕ). sitter u 0 []) none_ ∙ ap (λ (j : ℕ). holder j []) (sym (t.1 ne)))

      packs_got : (n : ℕ) → ⟦ Got n ⟧ ∗ ⟦ log.Shared 𝓛 z i n (left_at n) steps ⟧ ⊢ ⟦ Pair n ⟧
      packs_got n = qed 𝓛 (‵ (Got n) ∷ ‵ (log.Shared 𝓛 z i n (left_at n) steps) ∷ []) ∵ fsplit ! $ move ! (1 ∷ []) $ fpick ! (λ k. fsplit ! $ fpick ! (λ t. drop ! $ move ! (2 ∷ []) $ fpick ! (λ j. fsplit ! $ move ! (1 ∷ []) $
          rewrite ! 0 (λ (v : Sitter). ‵ (sits z j v)) (rank_got n k t) refl $
          -- [the new seat; the old seat; what the new one has; the part]
          move ! (2 ∷ 0 ∷ []) $ fjoin ! $ move ! (2 ∷ 1 ∷ []) $ fjoin ! $ move ! (0 ∷ 1 ∷ []) $ fjoin ! $ nothing ! $ fpack ! (Given n k) (λ _. ftrue) t $ fjoin ! $ fpack ! (ℕ × ℕ) (pair_of n) (k, j) $ done !)))

      pub shares : (right : ℕ) → (right ≡ 1) ⊎ (right ≡ 2) × (count ≡ 2) → (q : Share) → A.inv (fbor α I) ∗ (A.lft α q ∗ ⟦ fsep (offer right) (sits z i (sitter 1 0 steps)) ⟧) ⊢ asks 𝓛 (block_ptr b o) left_at always (λ n. fsep (flft α q) (Pair n))
      shares right (inl e) q = subst (λ (r : ℕ). A.inv (fbor α I) ∗ (A.lft α q ∗ ⟦ fsep (offer r) (sits z i (sitter 1 0 steps)) ⟧) ⊢ asks 𝓛 (block_ptr b o) left_at always (λ n. fsep (flft α q) (Pair n))) (sym e)
          (opened q left_at Got (λ n. log.Shared 𝓛 z i n (left_at n) steps) Pair (λ n. (2 ≤ n) × (n ≤ 4294967295)) (Ps a x 1) (sits z i (sitter 1 0 steps)) (λ n _ ph. shares_part n ph) told_got (λ n h. log.shares_on 𝓛 z i n (left_at n) steps h.0 (how_left n)) packs_got)
      shares right (inr e) q = subst (λ (r : ℕ). A.inv (fbor α I) ∗ (A.lft α q ∗ ⟦ fsep (offer r) (sits z i (sitter 1 0 steps)) ⟧) ⊢ asks 𝓛 (block_ptr b o) left_at always (λ n. fsep (flft α q) (Pair n))) (sym e.0)
          (opened q left_at Got (λ n. log.Shared 𝓛 z i n (left_at n) steps) Pair (λ n. (2 ≤ n) × (n ≤ 4294967295)) (fsep outA (part.fresh 𝓛 R p z L x a)) (sits z i (sitter 1 0 steps)) (λ n _ ph. shares_alone e.1 n ph) told_got (λ n h. log.shares_on 𝓛 z i n (left_at n) steps h.0 (how_left n)) packs_got)

  pub offered : (count : ℕ) (x : R.Denot) (m : ℕ) (l μ : Lft) (s : Share) → Lends 𝓛 (Wh x) (shown R p z x) l → Incl μ l → (right : ℕ) → (right ≡ 1) ⊎ (right ≡ 2) × (count ≡ 2)
      → ⟦ seat_owns R p z right m x ⟧ ∗ A.lft μ s ⊢ H.⇛ (⟦ fex ℕ (λ k. offer_of x k right) ⟧ ∗ A.lft μ s)
  offered count x m l μ s lends inc right (inl e) = subst (λ (r : ℕ). ⟦ seat_owns R p z r m x ⟧ ∗ A.lft μ s ⊢ H.⇛ (⟦ fex ℕ (λ k. offer_of x k r) ⟧ ∗ A.lft μ s)) (sym e)
      (qed 𝓛 (‵ (Ps m x 1) ∷ ‵ (flft μ s) ∷ []) ∵ updating ! $ fpack ! ℕ (λ k. offer_of x k 1) m $ now ! $ done !)
  offered count x m l μ s lends inc right (inr e) = subst (λ (r : ℕ). ⟦ seat_owns R p z r m x ⟧ ∗ A.lft μ s ⊢ H.⇛ (⟦ fex ℕ (λ k. offer_of x k r) ⟧ ∗ A.lft μ s)) (sym e.0)
      (qed 𝓛 (‵ (fsep outA (Wh x)) ∷ ‵ (flft μ s) ∷ []) ∵ updating ! $ fsplit ! $ move ! (1 ∷ 2 ∷ []) $ use2 𝓛 (later (‵ (fex ℕ (part.fresh 𝓛 R p z L x)) ⊛ ‵ (flft μ s))) (part.begins 𝓛 R p z L x l μ s lends inc) $ await ! tt $ split ! $
      fpick ! (λ k. move ! (2 ∷ 0 ∷ []) $ fjoin ! $ fpack ! ℕ (λ j. offer_of x j 2) k $ now ! $ done !))
