-- The units of seats that are brought together are no more than the block's count. Assumes `Logic`.
use Rattle.std.proofs.Common.{◌≡◌, ℕ, zero, suc, ◌+◌, ◌^◌, ◌<◌, ◌≤◌, List, [], ◌∷◌, ◌++◌, set, lt_of_not-le, sym, refl, arith}
use lib.ListN.{get_elem?}
use mathlib.Core.Logic.{dite}
use native.Mathlib.Decide.{ℕ_discrete, dec_le}
use seplogic.Ra.Ura.{Ura}
use base.Fraction.{full_share}
use base.Stored.{Gv}
use base.Logic.{SProp, ent, sep, all, all_e, guard, upd, upd_i, guard_i, via}
use base.Fml.{Share, Fml, ftrue, fsep, fbor, flft, finv}
use types.Logic.{Logic, sem}
use types.Kit.{‵, raw, ◌⊛◌, given, ◌$◌, ◌∵◌, !, qed, by, move, keep, drop, done, split, fsplit, fsplit3, fjoin, fpick, fpack, learn, check, frame, suffices, settle, use1, use2, rewrite}
use types.Na.{out, out_once}
use denote.RattleType.{RattleType, RowLaws}
use denote.RawPtr.{Ptr, block_ptr}
use denote.Steps.{nothing}
use Rattle.core.specs.Sync.RawAtomic.{asks, always}
use Rattle.atomic_table.specs.Seated.{fact, roster}
use Rattle.atomic_table.proofs.Lists.{at_longer, set_again}
use Rattle.atomic_table.proofs.Roster.{Moved, moves}
use Rattle.jyard.specs.Logs.{Entry, Sitter, sitter_coded, IsLog, word_after, seats_after}
use Rattle.jyard.specs.Counts.{kept, units_of, block_count}
use Rattle.jyard.specs.Units.{BlockId, age, place, spare, mark, idle, Phase, free, emptying, alone, shared, stamp, parts, state, State, Inv, seat_owns, holds_log, history, sits, holder, StandIn, IsLogWith, SeatOf, seats_own, units_in, AllHere}
use Rattle.jyard.proofs.Logged as log
use Rattle.jyard.proofs.Marks as name
use Rattle.jyard.proofs.Parts as part
use Rattle.jyard.proofs.Steps as steps

module _ {M : Type 1} {𝓤 : Ura M} (𝓛 : Logic 𝓤) (R : RattleType) (L : RowLaws R) (z : BlockId) where
  open 𝓛 use {A}

  abbrev Pr : Type 2
  Pr = SProp 𝓤

  abbrev ◌⊢◌ : Pr → Pr → Type 1
  P ⊢ Q = ent 𝓤 P Q

  abbrev ◌∗◌ : Pr → Pr → Pr
  P ∗ Q = sep 𝓤 P Q

  abbrev ⟦◌⟧ : Fml → Pr
  ⟦ P ⟧ = sem 𝓛 P

  infix 26 ◌⊢◌
  infixr 35 ◌∗◌
  abbrev p : Ptr
  p = place z

  abbrev γ : ℕ
  γ = z.parts_name

  abbrev outA : Fml
  outA = out z.alone_name

  abbrev Ps : ℕ → R.Denot → ℕ → Fml
  Ps = parts R p z

  abbrev Seats : Type 0
  Seats = List (SeatOf R.Denot)

  abbrev own : Seats → Fml
  own [] = ftrue
  own (s ∷ ss) = fsep (seat_owns R (place s.id) s.id s.right s.round s.value) (own ss)

  abbrev sitting : Seats → Fml
  sitting [] = ftrue
  sitting (s ∷ ss) = fsep (sits s.id s.seat (holder s.right s.steps)) (sitting ss)

  -- their rights, and their places among the block's seats
  apart : (ss : Seats) → ⟦ seats_own R ss ⟧ ⊢ ⟦ fsep (own ss) (sitting ss) ⟧
  apart [] = qed 𝓛 (‵ ftrue ∷ []) ∵ nothing ! $ fjoin ! $ done !
  apart (s ∷ ss) = let O : Fml = seat_owns R (place s.id) s.id s.right s.round s.value in let S : Fml = sits s.id s.seat (holder s.right s.steps) in
      qed 𝓛 (‵ (fsep (fsep O S) (seats_own R ss)) ∷ []) ∵ fsplit ! $ move ! (1 ∷ []) $ use1 𝓛 (‵ (fsep (own ss) (sitting ss))) (apart ss) $ fsplit ! $ move ! (2 ∷ []) $ fsplit ! $
      -- [the right; the place; the other rights; the other places]
      move ! (0 ∷ 2 ∷ []) $ fjoin ! $ move ! (1 ∷ 2 ∷ []) $ fjoin ! $ move ! (1 ∷ 0 ∷ []) $ fjoin ! $ done !

  again : (ss : Seats) → ⟦ own ss ⟧ ∗ ⟦ sitting ss ⟧ ⊢ ⟦ seats_own R ss ⟧
  again [] = qed 𝓛 (‵ ftrue ∷ ‵ ftrue ∷ []) ∵ drop ! $ done !
  again (s ∷ ss) = let O : Fml = seat_owns R (place s.id) s.id s.right s.round s.value in let S : Fml = sits s.id s.seat (holder s.right s.steps) in
      qed 𝓛 (‵ (fsep O (own ss)) ∷ ‵ (fsep S (sitting ss)) ∷ []) ∵ fsplit ! $ move ! (2 ∷ []) $ fsplit ! $
      -- [the place; the other places; the right; the other rights]
      move ! (3 ∷ 1 ∷ []) $ use2 𝓛 (‵ (seats_own R ss)) (again ss) $ move ! (2 ∷ 1 ∷ []) $ fjoin ! $ move ! (0 ∷ 1 ∷ []) $ fjoin ! $ done !

  abbrev Ro : List Sitter → Fml
  Ro vs = roster sitter_coded.code z.log_name 0 vs

  abbrev Standing : Seats → List Sitter → Pr
  Standing ss vs = guard 𝓤 (StandIn ss vs) (⟦ Ro vs ⟧ ∗ ⟦ sitting ss ⟧)

  -- each of them stands in the roster
  stand : (ss : Seats) (vs : List Sitter) → AllHere z ss → ⟦ Ro vs ⟧ ∗ ⟦ sitting ss ⟧ ⊢ upd 𝓤 (Standing ss vs)
  stand [] vs h = qed 𝓛 (‵ (Ro vs) ∷ ‵ ftrue ∷ []) ∵ suffices ! _ (upd_i 𝓤 (Standing [] vs)) $ check ! tt $ done !
  stand (s ∷ ss) vs h = let i : ℕ = s.seat in let v : Sitter = holder s.right s.steps in let Z : Pr = Standing (s ∷ ss) vs in
      qed 𝓛 (‵ (Ro vs) ∷ ‵ (fsep (sits s.id i v) (sitting ss)) ∷ []) ∵ move ! (1 ∷ []) $ fsplit ! $ rewrite ! 0 (λ (u : BlockId). ‵ (sits u i v)) h.0 refl $ move ! (2 ∷ 0 ∷ []) $
      use2 𝓛 (given (get_elem? vs i ≡ mathlib.Core.Option.some v) (raw (all 𝓤 (Moved 𝓛 sitter_coded z.log_name 0 vs i i)))) (moves 𝓛 sitter_coded z.log_name vs 0 i i v (omega arith)) $ learn ! (λ there.
      use1 𝓛 (raw (Moved 𝓛 sitter_coded z.log_name 0 vs i i v)) (all_e 𝓤 (Moved 𝓛 sitter_coded z.log_name 0 vs i i) v) $ settle 𝓛 Z (‵ (Ro (set vs i v)) ⊛ ‵ (sits z i v)) $ split ! $
      rewrite ! 0 (λ (l : List Sitter). ‵ (Ro l)) (set_again vs i v there) refl $ move ! (0 ∷ 2 ∷ []) $
      use2 𝓛 (raw (upd 𝓤 (Standing ss vs))) (stand ss vs h.1) $ settle 𝓛 Z (given (StandIn ss vs) (‵ (Ro vs) ⊛ ‵ (sitting ss))) $ learn ! (λ rest. split ! $ suffices ! _ (upd_i 𝓤 Z) $ check ! (there, rest) $
      rewrite ! 2 (λ (u : BlockId). ‵ (sits u i v)) (sym h.0) refl $ move ! (0 ∷ 2 ∷ 1 ∷ []) $ frame ! $ fjoin ! $ done !))

  longer : (ss : Seats) (vs : List Sitter) (u : Sitter) → StandIn ss vs → StandIn ss (vs ++ u ∷ [])
  longer [] vs u h = tt
  longer (s ∷ ss) vs u h = (at_longer vs (u ∷ []) s.seat (holder s.right s.steps) h.0, longer ss vs u h.1)

  abbrev pub Summed : Seats → ℕ → Fml
  Summed ss n = fsep (fact ((l : List Entry) × IsLogWith ss n l)) (fsep (sitting ss) (log.Counted 𝓛 z n))

  -- the count of a pass, beside seats of the block
  counts_beside : (ss : Seats) (n : ℕ) → AllHere z ss → ⟦ history z n ⟧ ∗ ⟦ sitting ss ⟧ ⊢ upd 𝓤 (⟦ history z n ⟧ ∗ ⟦ Summed ss n ⟧)
  counts_beside ss n here = let Z : Pr = ⟦ history z n ⟧ ∗ ⟦ Summed ss n ⟧ in
      qed 𝓛 (‵ (history z n) ∷ ‵ (sitting ss) ∷ []) ∵ fpick ! (λ l. fsplit ! $ move ! (1 ∷ []) $ fpick ! (λ ok. drop ! $ let vs : List Sitter = seats_after l in
      use2 𝓛 (raw (upd 𝓤 (Standing ss vs))) (stand ss vs here) $ settle 𝓛 Z (given (StandIn ss vs) (‵ (Ro vs) ⊛ ‵ (sitting ss))) $ learn ! (λ there. split ! $
      nothing ! $ fpack ! (IsLog l × (word_after l ≡ n)) (λ _. ftrue) ok $ move ! (1 ∷ 0 ∷ []) $ fjoin ! $ fpack ! (List Entry) (holds_log z n) l $
      use1 𝓛 (raw (upd 𝓤 (⟦ history z n ⟧ ∗ ⟦ log.Counted 𝓛 z n ⟧))) (log.counts_on 𝓛 z n) $ settle 𝓛 Z (‵ (history z n) ⊛ ‵ (log.Counted 𝓛 z n)) $ split ! $ suffices ! _ (upd_i 𝓤 Z) $
      move ! (2 ∷ 1 ∷ []) $ fjoin ! $ nothing ! $ fpack ! ((m : List Entry) × IsLogWith ss n m) (λ _. ftrue) (l, (ok.0, ok.1, there)) $ fjoin ! $ move ! (1 ∷ 0 ∷ []) $ done !)))

  abbrev has : ℕ → ℕ → R.Denot → Fml
  has r a x = seat_owns R p z r a x

  -- Each of these shows that more units cannot be: they would make anything so.
  -- ---- where the block has its name whole and `alone`, nobody has a unit
  none_beside : (ss : Seats) (Z : Pr) → (0 < units_in ss → ⟦ idle γ ⟧ ∗ ⟦ outA ⟧ ∗ ⟦ own ss ⟧ ⊢ upd 𝓤 Z) → (r a : ℕ) (x : R.Denot) → 0 < units_of r + units_in ss
      → ⟦ idle γ ⟧ ∗ ⟦ outA ⟧ ∗ ⟦ has r a x ⟧ ∗ ⟦ own ss ⟧ ⊢ upd 𝓤 Z
  none_beside ss Z rest zero a x some = qed 𝓛 (‵ (idle γ) ∷ ‵ outA ∷ ‵ ftrue ∷ ‵ (own ss) ∷ []) ∵ keep ! (0 ∷ 1 ∷ 3 ∷ []) $ by ! (rest (omega (arith, some)))
  none_beside ss Z rest (suc zero) a x some = qed 𝓛 (‵ (idle γ) ∷ ‵ outA ∷ ‵ (Ps a x 1) ∷ ‵ (own ss) ∷ []) ∵ keep ! (0 ∷ 2 ∷ []) $ by ! (part.never_idle 𝓛 R p z a 1 x (upd 𝓤 Z))
  none_beside ss Z rest (suc (suc zero)) a x some = qed 𝓛 (‵ (idle γ) ∷ ‵ outA ∷ ‵ (has 2 a x) ∷ ‵ (own ss) ∷ []) ∵ move ! (2 ∷ []) $ fsplit ! $ keep ! (0 ∷ 3 ∷ []) $ by ! (out_once 𝓛 z.alone_name Z)
  none_beside ss Z rest (suc (suc (suc k))) a x some = qed 𝓛 (‵ (idle γ) ∷ ‵ outA ∷ ‵ (has 3 a x) ∷ ‵ (own ss) ∷ []) ∵ keep ! (0 ∷ 1 ∷ 3 ∷ []) $ by ! (rest (omega (arith, some)))

  none_out : (ss : Seats) (Z : Pr) → AllHere z ss → 0 < units_in ss → ⟦ idle γ ⟧ ∗ ⟦ outA ⟧ ∗ ⟦ own ss ⟧ ⊢ upd 𝓤 Z
  none_out [] Z h some = absurd (omega (arith, some))
  none_out (s ∷ ss) Z h some = qed 𝓛 (‵ (idle γ) ∷ ‵ outA ∷ ‵ (own (s ∷ ss)) ∷ []) ∵ move ! (2 ∷ []) $ fsplit ! $ rewrite ! 0 (λ (u : BlockId). ‵ (seat_owns R (place u) u s.right s.round s.value)) h.0 refl $
      move ! (2 ∷ 3 ∷ 0 ∷ 1 ∷ []) $ by ! (none_beside ss Z (none_out ss Z h.1) s.right s.round s.value some)

  -- ---- where it has its name whole, at most one seat has a unit
  one_beside : (ss : Seats) (Z : Pr) → AllHere z ss → (1 < units_in ss → ⟦ idle γ ⟧ ∗ ⟦ own ss ⟧ ⊢ upd 𝓤 Z) → (r a : ℕ) (x : R.Denot) → 1 < units_of r + units_in ss
      → ⟦ idle γ ⟧ ∗ ⟦ has r a x ⟧ ∗ ⟦ own ss ⟧ ⊢ upd 𝓤 Z
  one_beside ss Z h rest zero a x more = qed 𝓛 (‵ (idle γ) ∷ ‵ ftrue ∷ ‵ (own ss) ∷ []) ∵ keep ! (0 ∷ 2 ∷ []) $ by ! (rest (omega (arith, more)))
  one_beside ss Z h rest (suc zero) a x more = qed 𝓛 (‵ (idle γ) ∷ ‵ (Ps a x 1) ∷ ‵ (own ss) ∷ []) ∵ keep ! (0 ∷ 1 ∷ []) $ by ! (part.never_idle 𝓛 R p z a 1 x (upd 𝓤 Z))
  one_beside ss Z h rest (suc (suc zero)) a x more = qed 𝓛 (‵ (idle γ) ∷ ‵ (has 2 a x) ∷ ‵ (own ss) ∷ []) ∵ move ! (1 ∷ []) $ fsplit ! $ keep ! (2 ∷ 0 ∷ 3 ∷ []) $ by ! (none_out ss Z h (omega (arith, more)))
  one_beside ss Z h rest (suc (suc (suc k))) a x more = qed 𝓛 (‵ (idle γ) ∷ ‵ (has 3 a x) ∷ ‵ (own ss) ∷ []) ∵ keep ! (0 ∷ 2 ∷ []) $ by ! (rest (omega (arith, more)))

  one_out : (ss : Seats) (Z : Pr) → AllHere z ss → 1 < units_in ss → ⟦ idle γ ⟧ ∗ ⟦ own ss ⟧ ⊢ upd 𝓤 Z
  one_out [] Z h more = absurd (omega (arith, more))
  one_out (s ∷ ss) Z h more = qed 𝓛 (‵ (idle γ) ∷ ‵ (own (s ∷ ss)) ∷ []) ∵ move ! (1 ∷ []) $ fsplit ! $ rewrite ! 0 (λ (u : BlockId). ‵ (seat_owns R (place u) u s.right s.round s.value)) h.0 refl $
      move ! (2 ∷ 0 ∷ 1 ∷ []) $ by ! (one_beside ss Z h.1 (one_out ss Z h.1) s.right s.round s.value more)

  -- ---- beside j pieces of a round, seats have no more parts than are left
  abbrev Rest : Seats → Pr → Type 1
  Rest ss Z = (c j : ℕ) (y : R.Denot) → 0 < j → j ≤ 2 ^ 63 → 2 ^ 63 < j + units_in ss → ⟦ Ps c y j ⟧ ∗ ⟦ outA ⟧ ∗ ⟦ own ss ⟧ ⊢ upd 𝓤 Z

  -- no part is left beside all of them
  none_left : (c : ℕ) (y : R.Denot) (Z : Pr) → ⟦ Ps c y (2 ^ 63) ⟧ ∗ ⟦ Ps c y 1 ⟧ ⊢ Z
  none_left c y Z = let g : Gv = stamp R p z c y in qed 𝓛 (‵ (Ps c y (2 ^ 63)) ∷ ‵ (Ps c y 1) ∷ []) ∵ fsplit3 ! $ use1 𝓛 (‵ (mark γ full_share g)) (name.marks_whole 𝓛 γ g) $
      fpack ! Gv (mark γ full_share) g $ keep ! (0 ∷ 3 ∷ []) $ by ! (part.never_idle 𝓛 R p z c 1 y Z)

  more_beside : (ss : Seats) (Z : Pr) → Rest ss Z → (r a : ℕ) (x : R.Denot) (c j : ℕ) (y : R.Denot) → 0 < j → j ≤ 2 ^ 63 → 2 ^ 63 < j + (units_of r + units_in ss)
      → ⟦ Ps c y j ⟧ ∗ ⟦ outA ⟧ ∗ ⟦ has r a x ⟧ ∗ ⟦ own ss ⟧ ⊢ upd 𝓤 Z
  more_beside ss Z rest zero a x c j y some fits more = qed 𝓛 (‵ (Ps c y j) ∷ ‵ outA ∷ ‵ ftrue ∷ ‵ (own ss) ∷ []) ∵ keep ! (0 ∷ 1 ∷ 3 ∷ []) $ by ! (rest c j y some fits (omega (arith, more)))
  more_beside ss Z rest (suc zero) a x c j y some fits more = qed 𝓛 (‵ (Ps c y j) ∷ ‵ outA ∷ ‵ (Ps a x 1) ∷ ‵ (own ss) ∷ []) ∵ move ! (0 ∷ 2 ∷ []) $
      use2 𝓛 (given ((c ≡ a) × (y ≡ x)) (‵ (Ps c y j) ⊛ ‵ (Ps a x 1))) (part.parts_agree 𝓛 R p z c a j 1 y x) $ learn ! (λ same. split ! $
      rewrite ! 1 (λ (u : ℕ × R.Denot). ‵ (Ps u.0 u.1 1)) (λ i. (sym same.0 i, sym same.1 i)) refl $ by ! (dite (ℕ_discrete j (2 ^ 63))
      (λ e. qed 𝓛 (‵ (Ps c y j) ∷ ‵ (Ps c y 1) ∷ ‵ outA ∷ ‵ (own ss) ∷ []) ∵ rewrite ! 0 (λ (i : ℕ). ‵ (Ps c y i)) e refl $ keep ! (0 ∷ 1 ∷ []) $ by ! (none_left c y (upd 𝓤 Z)))
      (λ ne. qed 𝓛 (‵ (Ps c y j) ∷ ‵ (Ps c y 1) ∷ ‵ outA ∷ ‵ (own ss) ∷ []) ∵ use2 𝓛 (‵ (Ps c y (j + 1))) (part.parts_glue 𝓛 R p z c j 1 y (omega arith) (omega (arith, ne))) $
      by ! (rest c (j + 1) y (omega arith) (omega (arith, ne)) (omega (arith, more))))))
  more_beside ss Z rest (suc (suc zero)) a x c j y some fits more = qed 𝓛 (‵ (Ps c y j) ∷ ‵ outA ∷ ‵ (has 2 a x) ∷ ‵ (own ss) ∷ []) ∵ move ! (2 ∷ []) $ fsplit ! $ keep ! (0 ∷ 3 ∷ []) $ by ! (out_once 𝓛 z.alone_name Z)
  more_beside ss Z rest (suc (suc (suc k))) a x c j y some fits more = qed 𝓛 (‵ (Ps c y j) ∷ ‵ outA ∷ ‵ (has 3 a x) ∷ ‵ (own ss) ∷ []) ∵ keep ! (0 ∷ 1 ∷ 3 ∷ []) $ by ! (rest c j y some fits (omega (arith, more)))

  no_more : (ss : Seats) (Z : Pr) → AllHere z ss → Rest ss Z
  no_more [] Z h c j y some fits more = absurd (omega (arith, more))
  no_more (s ∷ ss) Z h c j y some fits more = qed 𝓛 (‵ (Ps c y j) ∷ ‵ outA ∷ ‵ (own (s ∷ ss)) ∷ []) ∵ move ! (2 ∷ []) $ fsplit ! $ rewrite ! 0 (λ (u : BlockId). ‵ (seat_owns R (place u) u s.right s.round s.value)) h.0 refl $
      move ! (2 ∷ 3 ∷ 0 ∷ 1 ∷ []) $ by ! (more_beside ss Z (no_more ss Z h.1) s.right s.round s.value c j y some fits more)

  module _ (empty : R.Denot) where
    abbrev st : ℕ → Phase R.Denot → Fml
    st = state R p z empty

    -- beside a block, seats with more units than its count cannot be
    pub counted : (ss : Seats) (Z : Pr) → AllHere z ss → (n : ℕ) → block_count n < units_in ss → (ph : Phase R.Denot) → ⟦ st n ph ⟧ ∗ ⟦ own ss ⟧ ⊢ upd 𝓤 Z
    counted ss Z h n more free = qed 𝓛 (‵ (st n free) ∷ ‵ (own ss) ∷ []) ∵ fsplit3 ! $ move ! (2 ∷ []) $ fsplit ! $ fsplit ! $ keep ! (4 ∷ 0 ∷ 5 ∷ []) $ by ! (none_out ss Z h (omega (arith, more)))
    counted ss Z h n more emptying = qed 𝓛 (‵ (st n emptying) ∷ ‵ (own ss) ∷ []) ∵ fsplit3 ! $ keep ! (1 ∷ 2 ∷ 3 ∷ []) $ by ! (none_out ss Z h (omega (arith, more)))
    counted ss Z h n more alone = qed 𝓛 (‵ (st n alone) ∷ ‵ (own ss) ∷ []) ∵ fsplit3 ! $ fpick ! (λ is. keep ! (1 ∷ 3 ∷ []) $ by ! (one_out ss Z h (let w_is = is.0 in omega (arith, more))))
    counted ss Z h n more (shared u c y) = qed 𝓛 (‵ (st n (shared u c y)) ∷ ‵ (own ss) ∷ []) ∵ fsplit3 ! $ fpick ! (λ is. let w_is = is.0 in let u_low = is.2 in move ! (2 ∷ []) $ fsplit ! $ fsplit ! $ keep ! (4 ∷ 0 ∷ 5 ∷ []) $
        by ! (no_more ss Z h c (spare + kept u) y (omega arith) (omega arith) (omega (arith, more))))

    module _ (b o : ℕ) (ss : Seats) (here : AllHere z ss) where
      abbrev pub Tallied : ℕ → Fml
      Tallied n = fsep (fact (units_in ss ≤ block_count n)) (own ss)

      tallies_at : (n : ℕ) (ph : Phase R.Denot) → ⟦ st n ph ⟧ ∗ ⟦ own ss ⟧ ⊢ upd 𝓤 (⟦ State R p z empty n ⟧ ∗ ⟦ Tallied n ⟧)
      tallies_at n ph = dite (dec_le (units_in ss) (block_count n))
          (λ low. qed 𝓛 (‵ (st n ph) ∷ ‵ (own ss) ∷ []) ∵ move ! (1 ∷ []) $ nothing ! $ fpack ! (units_in ss ≤ block_count n) (λ _. ftrue) low $ fjoin ! $ move ! (1 ∷ 0 ∷ []) $ by ! (steps.lands 𝓛 R L p z empty b o n ph (Tallied n)))
          (λ not. counted ss (⟦ State R p z empty n ⟧ ∗ ⟦ Tallied n ⟧) here n (lt_of_not-le not) ph)

      abbrev pub Told : ℕ → Fml
      Told n = fsep (fact ((units_in ss ≤ block_count n) × ((l : List Entry) × IsLogWith ss n l))) (fsep (seats_own R ss) (log.Counted 𝓛 z n))

      packs : (n : ℕ) → ⟦ Tallied n ⟧ ∗ ⟦ Summed ss n ⟧ ⊢ ⟦ Told n ⟧
      packs n = qed 𝓛 (‵ (Tallied n) ∷ ‵ (Summed ss n) ∷ []) ∵ fsplit ! $ fpick ! (λ low. drop ! $ move ! (1 ∷ []) $ fsplit ! $ fpick ! (λ sum. drop ! $ fsplit ! $
          -- [the places; the pass's seat; the rights]
          move ! (2 ∷ 0 ∷ []) $ use2 𝓛 (‵ (seats_own R ss)) (again ss) $ fjoin ! $ nothing ! $ fpack ! ((units_in ss ≤ block_count n) × ((l : List Entry) × IsLogWith ss n l)) (λ _. ftrue) (low, sum) $ fjoin ! $ done !))

      pub tallies : (q : Share) → A.inv (fbor (age z) (Inv R p z empty b o)) ∗ (A.lft (age z) q ∗ ⟦ seats_own R ss ⟧) ⊢ asks 𝓛 (block_ptr b o) (λ n. n) always (λ n. fsep (flft (age z) q) (Told n))
      tallies q = let J : Fml = fbor (age z) (Inv R p z empty b o) in via 𝓤 _
          (qed 𝓛 (‵ (finv J) ∷ ‵ (flft (age z) q) ∷ ‵ (seats_own R ss) ∷ []) ∵ move ! (2 ∷ []) $ use1 𝓛 (‵ (fsep (own ss) (sitting ss))) (apart ss) $ move ! (1 ∷ 2 ∷ 0 ∷ []) $ done !)
          (steps.opened 𝓛 R L p z empty b o q (λ n. n) Tallied (Summed ss) Told (λ _. Unit {0}) (own ss) (sitting ss) (λ n _ ph. tallies_at n ph) (λ n. guard_i 𝓤 (Unit {0}) ⟦ Tallied n ⟧ tt)
          (λ n _. counts_beside ss n here) packs)
