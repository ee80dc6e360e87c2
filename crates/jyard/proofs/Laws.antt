-- What a `&` to a table and to a seat holds. Assumes `Logic`.
use Rattle.std.proofs.Common.{◌≡◌, ℕ, zero, suc, ◌+◌, ◌<◌, List, [], ◌∷◌, length, refl, arith}
use seplogic.Ra.Ura.{Ura}
use base.Logic.{ent, sep, wand, apply∗, snd∗, id⊢, never_e}
use base.Fraction.{full_share}
use base.Fml.{Lft, Share, Fml, ftrue, fsep, fbor, flft, fshr_bor, flent, finv}
use types.Logic.{Logic, sem, lfts}
use contract.Monad.{fact as fact_of, fact_i}
use types.Kit.{‵, raw, ◌⊛◌, later, ◌$◌, ◌∵◌, !, qed, by, move, keep, drop, split, fsplit, fsplit3, fjoin, fpick, fpack, use1, use2, updating, await, now, rewrite, done}
use types.Na.{out}
use types.Tokens.{bor_fracture}
use denote.RattleType.{RattleType, RowLaws}
use denote.RawPtr.{Ptr, InBlock, block_ptr, null_ptr, lies_at}
use denote.Shares.{Shares}
use denote.Sharing.{ShrLaws, one, said, nothing, beside}
use denote.SharingLaws.{beside_shr_laws, one_shr_laws, nothing_shr_laws}
use denote.Struct.Lending.{Lends, Lends-both, Lends-nothing, Lends-lies, lent_at_shr_laws, in_block_says}
use denote.Steps.{nothing as empty_entry}
use Rattle.atomic_table.specs.Seated.{fact}
use Rattle.jyard.specs.Units.{BlockId, age, id_at, marks, whole, shown, stamp, parts, part_shares, seat_owns, seat_has, seat_shares, seat_shows, sits, holder, inner, Placed, Spans, common, block_owns, block_shares, blocks_own, blocks_share, table_owns, table_shares}
use Rattle.jyard.specs.Logs.{Entry}
use Rattle.jyard.proofs.Rounds.{lent_laws, Lends-part, Owns, Lent, part_sees}

module _ (R : RattleType) (p w : Ptr) (empty : R.Denot) where
  module _ (k : ℕ) (z : BlockId) where
    abbrev C : Fml
    C = common R p w empty k z

    abbrev Φ : Share → Fml
    Φ q = flft (age z) q

    pub common_twice : {M : Type 1} {𝓤 : Ura M} (𝓛 : Logic 𝓤) → ent 𝓤 (sem 𝓛 C) (sep 𝓤 (sem 𝓛 C) (sem 𝓛 C))
    common_twice 𝓛 = let J : Fml = fbor (age z) (inner R p w empty k z) in let At : Type 0 = Placed R p w empty k z in qed 𝓛 (‵ C ∷ []) ∵ fsplit ! $ fpick ! (λ h. drop ! $ use1 𝓛 (‵ (finv J) ⊛ ‵ (finv J)) (𝓛.invs.inv_dup J) $ split ! $
        empty_entry ! $ fpack ! At (λ _. ftrue) h $ move ! (0 ∷ 1 ∷ []) $ fjoin ! $ empty_entry ! $ fpack ! At (λ _. ftrue) h $ move ! (0 ∷ 2 ∷ []) $ fjoin ! $ done !)

    block_laws : ShrLaws (block_shares R p w empty k z)
    block_laws = beside_shr_laws (one Φ) (said C) (one_shr_laws Φ)
        record { contraction = λ M 𝓤 𝓛 ν. common_twice 𝓛; mono = λ M 𝓤 𝓛 μ ν. snd∗ 𝓤 (sem 𝓛 (base.Before.before μ ν)) (sem 𝓛 C) }

    module _ {M : Type 1} {𝓤 : Ura M} (𝓛 : Logic 𝓤) (l : Lft) where
      open 𝓛 use {H, A}

      abbrev rights : Fml
      rights = flent (age z) (inner R p w empty k z)

      token : Lends 𝓛 (Φ full_share) (one Φ) l
      token ν ts inc sp = qed 𝓛 (‵ (fbor ν (Φ full_share)) ∷ raw (lfts 𝓛 ts) ∷ []) {P = H.⇛ (sep 𝓤 (sem 𝓛 (fshr_bor ν Φ)) (lfts 𝓛 ts))} (updating ! $ bor_fracture ! tt Φ full_share $ now ! $ done !)

      knowledge : Lends 𝓛 (fsep C rights) (said C) l
      knowledge ν ts inc sp = let P : Fml = fsep C rights in let Back = H.⇛ (sep 𝓤 (A.bor ν P) (lfts 𝓛 ts)) in
          qed 𝓛 (‵ (fbor ν P) ∷ raw (lfts 𝓛 ts) ∷ []) {P = H.⇛ (sep 𝓤 (sem 𝓛 C) (lfts 𝓛 ts))} (
          updating ! $ use2 𝓛 (later (‵ P ⊛ raw (wand 𝓤 (sem 𝓛 P) Back))) (𝓛.more.bor_acc_by ν ts P sp) $ await ! tt $ split ! $ fsplit ! $
          use1 𝓛 (‵ C ⊛ ‵ C) (common_twice 𝓛) $ split ! $ move ! (0 ∷ 2 ∷ []) $ fjoin ! $ move ! (0 ∷ 2 ∷ []) $
          use2 𝓛 (later (‵ (fbor ν P) ⊛ raw (lfts 𝓛 ts))) (apply∗ 𝓤 (sem 𝓛 P) Back) $ await ! tt $ split ! $ drop ! $ move ! (1 ∷ 0 ∷ []) $ now ! $ done !)

      Lends-block : Lends 𝓛 (block_owns R p w empty k z) (block_shares R p w empty k z) l
      Lends-block = Lends-both 𝓛 (Φ full_share) (fsep C rights) (one Φ) (said C) l token knowledge

  blocks_laws : (k : ℕ) (zs : List BlockId) → ShrLaws (blocks_share R p w empty k zs)
  blocks_laws k [] = nothing_shr_laws
  blocks_laws k (z ∷ zs) = beside_shr_laws (block_shares R p w empty k z) (blocks_share R p w empty (suc k) zs) (block_laws k z) (blocks_laws (suc k) zs)

  pub table_laws : (zs : List BlockId) → ShrLaws (table_shares R p w empty zs)
  table_laws zs = beside_shr_laws nothing (blocks_share R p w empty 0 zs) nothing_shr_laws (blocks_laws 0 zs)

  module _ {M : Type 1} {𝓤 : Ura M} (𝓛 : Logic 𝓤) (l : Lft) where
    Lends-blocks : (k : ℕ) (zs : List BlockId) → Lends 𝓛 (blocks_own R p w empty k zs) (blocks_share R p w empty k zs) l
    Lends-blocks k [] = Lends-nothing 𝓛 ftrue l
    Lends-blocks k (z ∷ zs) = Lends-both 𝓛 (block_owns R p w empty k z) (blocks_own R p w empty (suc k) zs) (block_shares R p w empty k z) (blocks_share R p w empty (suc k) zs) l (Lends-block k z 𝓛 l) (Lends-blocks (suc k) zs)

    pub Lends-table : (zs : List BlockId) → Lends 𝓛 (table_owns R p w empty zs) (table_shares R p w empty zs) l
    Lends-table zs = let F : Fml = fact (Spans R p w empty zs) in Lends-both 𝓛 F (blocks_own R p w empty 0 zs) nothing (blocks_share R p w empty 0 zs) l (Lends-nothing 𝓛 F l) (Lends-blocks 0 zs)

  -- what a `&` to the table shows of its block number i
  module _ {M : Type 1} {𝓤 : Ura M} (𝓛 : Logic 𝓤) (κ : Lft) where
    shown_from : (zs : List BlockId) (k i j : ℕ) → k + i ≡ j → i < length zs → ent 𝓤 (sem 𝓛 (blocks_share R p w empty k zs κ)) (sem 𝓛 (block_shares R p w empty j (id_at zs i) κ))
    unfolding id_at
    shown_from [] k i j e h = absurd (omega arith)
    shown_from (z ∷ zs) k zero j e h = let same : k ≡ j = omega (arith, e) in
        qed 𝓛 (‵ (blocks_share R p w empty k (z ∷ zs) κ) ∷ []) ∵ fsplit ! $ rewrite ! 0 (λ (n : ℕ). ‵ (block_shares R p w empty n z κ)) same refl $ keep ! (0 ∷ []) $ done !
    shown_from (z ∷ zs) k (suc i) j e h = qed 𝓛 (‵ (blocks_share R p w empty k (z ∷ zs) κ) ∷ []) ∵ fsplit ! $ keep ! (1 ∷ []) $ by ! (shown_from zs (suc k) i j (omega (arith, e)) (omega arith))

    pub shown_at : (zs : List BlockId) (i : ℕ) → i < length zs → ent 𝓤 (sem 𝓛 (table_shares R p w empty zs κ)) (sem 𝓛 (block_shares R p w empty i (id_at zs i) κ))
    shown_at zs i h = qed 𝓛 (‵ (table_shares R p w empty zs κ) ∷ []) ∵ fsplit ! $ keep ! (1 ∷ []) $ by ! (shown_from zs 0 i i (omega arith) h)

module _ (R : RattleType) (L : RowLaws R) (p : Ptr) (z : BlockId) where
  abbrev Sh : R.Denot → Lft → Fml
  Sh = shown R p z

  abbrev laws : (x : R.Denot) → ShrLaws (Sh x)
  laws x = lent_at_shr_laws R L p x

  pub seat_laws : (right a : ℕ) (x : R.Denot) → ShrLaws (seat_shares R p z right a x)
  seat_laws zero a x = nothing_shr_laws
  seat_laws (suc zero) a x = beside_shr_laws nothing (Lent (Sh x) (laws x) a) nothing_shr_laws (lent_laws (Sh x) (laws x) a)
  seat_laws (suc (suc k)) a x = beside_shr_laws nothing (Sh x) nothing_shr_laws (laws x)

  module _ {M : Type 1} {𝓤 : Ura M} (𝓛 : Logic 𝓤) (l : Lft) (shares : Shares 𝓛 R l) where
    pub Lends-seat : (right a : ℕ) (x : R.Denot) → Lends 𝓛 (seat_owns R p z right a x) (seat_shares R p z right a x) l
    Lends-seat zero a x = Lends-nothing 𝓛 ftrue l
    Lends-seat (suc zero) a x = Lends-both 𝓛 (marks z.parts_name (stamp R p z a x) 1) (Owns (Sh x) (laws x) a 1) nothing (Lent (Sh x) (laws x) a) l (Lends-nothing 𝓛 (marks z.parts_name (stamp R p z a x) 1) l) (Lends-part (Sh x) (laws x) 𝓛 a 1 l)
    Lends-seat (suc (suc zero)) a x = Lends-both 𝓛 (out z.alone_name) (whole R p z x) nothing (Sh x) l (Lends-nothing 𝓛 (out z.alone_name) l) (Lends-lies 𝓛 R l p x (shares x))
    Lends-seat (suc (suc (suc k))) a x = Lends-both 𝓛 (out z.emptying_name) (whole R p z x) nothing (Sh x) l (Lends-nothing 𝓛 (out z.emptying_name) l) (Lends-lies 𝓛 R l p x (shares x))

  pub seat_shows_laws : (right a : ℕ) (x : R.Denot) → ShrLaws (seat_shows R p z right a x)
  seat_shows_laws right a x = beside_shr_laws (seat_shares R p z right a x) nothing (seat_laws right a x) nothing_shr_laws

  module _ {M : Type 1} {𝓤 : Ura M} (𝓛 : Logic 𝓤) (l : Lft) (shares : Shares 𝓛 R l) where
    pub Lends-holder : (right a : ℕ) (x : R.Denot) (i : ℕ) (steps : List Entry) → Lends 𝓛 (seat_has R p z right a x i steps) (seat_shows R p z right a x) l
    Lends-holder right a x i steps = let S : Fml = sits z i (holder right steps) in Lends-both 𝓛 (seat_owns R p z right a x) S (seat_shares R p z right a x) nothing l (Lends-seat 𝓛 l shares right a x) (Lends-nothing 𝓛 S l)

  module _ {M : Type 1} {𝓤 : Ura M} (𝓛 : Logic 𝓤) where
    -- what a `&` to a seat with a right shows
    pub seat_sees : (right a : ℕ) (x : R.Denot) (κ : Lft) → 0 < right → ent 𝓤 (sem 𝓛 (seat_shares R p z right a x κ)) (sem 𝓛 (Sh x κ))
    seat_sees zero a x κ h = absurd (omega arith)
    seat_sees (suc zero) a x κ h = qed 𝓛 (‵ (part_shares R p z a x κ) ∷ []) ∵ fsplit ! $ drop ! $ by ! (part_sees (Sh x) (laws x) 𝓛 a κ)
    seat_sees (suc (suc k)) a x κ h = qed 𝓛 (‵ (beside nothing (Sh x) κ) ∷ []) ∵ fsplit ! $ drop ! $ done !

  -- what a seat that has the value whole has beside it
  abbrev pub beside_whole : ℕ → Fml
  beside_whole zero = ftrue
  beside_whole (suc zero) = ftrue
  beside_whole (suc (suc zero)) = out z.alone_name
  beside_whole (suc (suc (suc k))) = out z.emptying_name

  abbrev pub beside_value : ℕ → ℕ → List Entry → Fml
  beside_value right i steps = fsep (beside_whole right) (sits z i (holder right steps))

  module _ {M : Type 1} {𝓤 : Ura M} (𝓛 : Logic 𝓤) where
    pub whole_out : (right a : ℕ) (x : R.Denot) → 1 < right → ent 𝓤 (sem 𝓛 (seat_owns R p z right a x)) (sep 𝓤 (sem 𝓛 (beside_whole right)) (sem 𝓛 (whole R p z x)))
    whole_out zero a x h = absurd (omega arith)
    whole_out (suc zero) a x h = absurd (omega arith)
    whole_out (suc (suc zero)) a x h = id⊢ 𝓤 _
    whole_out (suc (suc (suc k))) a x h = id⊢ 𝓤 _

    pub whole_in : (right a : ℕ) (x : R.Denot) → 1 < right → ent 𝓤 (sep 𝓤 (sem 𝓛 (beside_whole right)) (sem 𝓛 (whole R p z x))) (sem 𝓛 (seat_owns R p z right a x))
    whole_in zero a x h = absurd (omega arith)
    whole_in (suc zero) a x h = absurd (omega arith)
    whole_in (suc (suc zero)) a x h = id⊢ 𝓤 _
    whole_in (suc (suc (suc k))) a x h = id⊢ 𝓤 _

    pub value_out : (right a : ℕ) (x : R.Denot) (i : ℕ) (steps : List Entry) → 1 < right → ent 𝓤 (sem 𝓛 (seat_has R p z right a x i steps)) (sep 𝓤 (sem 𝓛 (beside_value right i steps)) (sem 𝓛 (whole R p z x)))
    value_out right a x i steps h = qed 𝓛 (‵ (seat_has R p z right a x i steps) ∷ []) ∵ fsplit ! $ use1 𝓛 (‵ (beside_whole right) ⊛ ‵ (whole R p z x)) (whole_out right a x h) $ split ! $ move ! (0 ∷ 2 ∷ []) $ fjoin ! $ done !

    pub value_in : (right a : ℕ) (x : R.Denot) (i : ℕ) (steps : List Entry) → 1 < right → ent 𝓤 (sep 𝓤 (sem 𝓛 (beside_value right i steps)) (sem 𝓛 (whole R p z x))) (sem 𝓛 (seat_has R p z right a x i steps))
    value_in right a x i steps h = qed 𝓛 (‵ (beside_value right i steps) ∷ ‵ (whole R p z x) ∷ []) ∵ fsplit ! $ move ! (0 ∷ 2 ∷ []) $ use2 𝓛 (‵ (seat_owns R p z right a x)) (whole_in right a x h) $ fjoin ! $ done !

    lies_placed : (c : Ptr) (x : R.Denot) → ent 𝓤 (sem 𝓛 (lies_at R full_share c x)) (fact_of 𝓤 (InBlock c))
    lies_placed (block_ptr b o) x = fact_i 𝓤 (Unit {0}) _ tt
    lies_placed null_ptr x = never_e 𝓤 _

    pub seat_placed : (right a : ℕ) (x : R.Denot) → 0 < right → ent 𝓤 (sem 𝓛 (seat_owns R p z right a x)) (fact_of 𝓤 (InBlock p))
    seat_placed zero a x h = absurd (omega arith)
    seat_placed (suc zero) a x h = qed 𝓛 (‵ (parts R p z a x 1) ∷ []) ∵ fsplit3 ! $ move ! (2 ∷ []) $ fsplit ! $ keep ! (0 ∷ []) $ by ! (in_block_says 𝓛 p)
    seat_placed (suc (suc zero)) a x h = qed 𝓛 (‵ (seat_owns R p z 2 a x) ∷ []) ∵ fsplit ! $ keep ! (1 ∷ []) $ by ! (lies_placed p x)
    seat_placed (suc (suc (suc k))) a x h = qed 𝓛 (‵ (seat_owns R p z 3 a x) ∷ []) ∵ fsplit ! $ keep ! (1 ∷ []) $ by ! (lies_placed p x)
