-- The data field of a `Blank`, and the room of a row. Assumes `Logic`.
use Rattle.std.proofs.Common.{◌≡◌, ℕ, ◌+◌, ◌*◌, ◌^◌, ◌<◌, w64, List, [], ◌∷◌, ◌++◌, length, replicate, true, refl, ap, ◌∙◌, sym}
use lib.ListN.{length-replicate}
use seplogic.Ra.Ura.{Ura}
use native.Mathlib.Nat.{add-zero}
use mir.Syntax.{Ty, Tys, Body, ty_array, tcons, tnil}
use mir.Raw.{raw as bare}
use mir.Val.{Val, vint, vstruct, vcons, vnil, of_list}
use base.Logic.{SProp, ent, emp, sep, wand, apply∗}
use base.Fml.{Fml, ftrue, fsep, fwand, froom}
use prog.Memory.{align, up}
use prog.Model.{rooms_at}
use prog.Wp.{Env, Calls, Loops, Wp, after_seq}
use types.Logic.{Logic, sem}
use types.Kit.{Post, any_q, post, ‵, raw, ◌⊛◌, given, ◌$◌, ◌∵◌, !, qed, move, keep, split, split3, use1, use2, assume, group, learn, rewrite, fjoin, fpack, done}
use denote.RattleType.{RattleType}
use base.Shift.{Keyless}
use denote.Laws.{Is}
use denote.Param.Send.{IsSend, Frees}
use Rattle.core.specs.declared.alloc.Allocator.{Ghosts}
use denote.Param.{param}
use denote.RawPtr.{Ptr, ptr_val, block_ptr, null_ptr, block_of, count_of, at_block, room_for, InBlock}
use denote.Memory.{lone, mem}
use denote.Shadow.{shadow, makes_shadow}
use denote.Builtin.{usize}
use denote.Steps.{nothing}
use denote.Struct.Struct.{Struct}
use denote.Struct.Owning.{shape}
use Rattle.core.proofs.mem.Param.{El}
use Rattle.core.proofs.slots.Places.{to_room}
use Rattle.atomic_table.specs.Seated.{strip}
use Rattle.atomic_table.proofs.Dealing.{strip_lies}
use Rattle.atomic_table.proofs.Raw.{all as places, of_strip}
use Rattle.jyard.specs.Grounds.{blank, block_type, words_type, values_type}
use Rattle.jyard.specs.contracts.ground.Blank as blanks
use Rattle.jyard.specs.contracts.ground.Deed as deeds
use Rattle.jyard.proofs.Fields.{strip_of}

module _ (R : RattleType) where
  abbrev pub BlankData : RattleType
  BlankData = Struct (shape (blanks.the_type R))

  pub blank_told : (p : Ptr) (vs : List Val) → Is BlankData (p, tt) vs → vs ≡ strip_of p ∷ []
  blank_told p vs is = is.1.0 ∙ ap (λ (ws : List Val). vstruct (of_list (ws ++ [])) ∷ []) is.1.1.0

  pub blank_made : {M : Type 1} {𝓤 : Ura M} (𝓛 : Logic 𝓤) (p : Ptr) → ent 𝓤 (emp 𝓤) (sem 𝓛 (BlankData.own_val (p, tt) (strip_of p ∷ [])))
  blank_made 𝓛 p = makes_shadow 𝓛 (BlankData.own_val (p, tt) (strip_of p ∷ [])) (λ vss. (tt, (tt, tt))) ((ptr_val p ∷ [], tt), (refl, (refl, tt)))

-- a row that is given up is room
pub emptied : (E : El) {M : Type 1} {𝓤 : Ura M} (𝓛 : Logic 𝓤) (p : Ptr) (xs : List E.row.Denot) → ent 𝓤 (sem 𝓛 (strip (param 0 E.row) p xs)) (sem 𝓛 (blank (param 0 E.row) p (length xs)))
emptied E 𝓛 p xs = let R : RattleType = param 0 E.row in let n : ℕ = length xs in let b : ℕ = block_of p in let o : ℕ = count_of p in
    qed 𝓛 (‵ (strip R p xs) ∷ []) ∵ use1 𝓛 (given (InBlock p × (n * (mem R).size < 2 ^ 63)) (‵ (strip R p xs))) (strip_lies 𝓛 R p xs) $ learn ! (λ fp. let at : p ≡ block_ptr b o = at_block p fp.0 in
    rewrite ! 0 (λ (π : Ptr). ‵ (strip R π xs)) at refl $ use1 𝓛 (‵ (places E b o xs (replicate n true))) (of_strip E 𝓛 b o xs) $
    use1 𝓛 (‵ (froom (ty_array (lone R.mir) n) b o)) (to_room E 𝓛 b xs (replicate n true) o (length-replicate n true)) $
    use1 𝓛 (‵ (froom (values_type R n) b o)) (𝓛.laws.room-raw (ty_array (lone R.mir) n) b o) $ rewrite ! 0 (λ (π : Ptr). ‵ (room_for (values_type R n) π)) (sym at) refl $
    nothing ! $ fpack ! (n * (mem R).size < 2 ^ 63) (λ _. ftrue) fp.1 $ fjoin ! $ done !)

-- ---- the block, its rows, and the right to it
abbrev pub deed_val : ℕ → ℕ → Val
deed_val s a = vstruct (vcons (vint w64 s) (vcons (vint w64 a) (vcons (vstruct vnil) vnil)))

abbrev pub deed_own : ℕ → ℕ → List Val → Fml
deed_own s a = (Struct (record { name = []; args = []; types = []; fields = usize ∷ usize ∷ Struct (record { name = []; args = []; types = []; fields = [] }) ∷ [] })).own_val (s, (a, (tt, tt)))

pub deed_told : (s a : ℕ) (vs : List Val) → shadow (deed_own s a vs) → (vs ≡ deed_val s a ∷ []) × (s < 2 ^ 64) × (a < 2 ^ 64)
deed_told s a vs is = (is.1.0 ∙ (λ i. vstruct (of_list (is.1.1.0.0 i ++ (is.1.1.1.0.0 i ++ (is.1.1.1.1.0.1.0 i ++ [])))) ∷ []), is.1.1.0.1, is.1.1.1.0.1)

pub deed_made : {M : Type 1} {𝓤 : Ura M} (𝓛 : Logic 𝓤) (s a : ℕ) → s < 2 ^ 64 → a < 2 ^ 64 → ent 𝓤 (emp 𝓤) (sem 𝓛 (deed_own s a (deed_val s a ∷ [])))
deed_made 𝓛 s a f g = makes_shadow 𝓛 (deed_own s a (deed_val s a ∷ [])) (λ _. (tt, ((tt, tt), ((tt, tt), ((λ _. (tt, tt)), tt))))) ((vint w64 s ∷ [], (vint w64 a ∷ [], (vstruct vnil ∷ [], tt))), (refl, ((refl, f), ((refl, g), ((tt, (refl, tt)), tt)))))

module _ (R : RattleType) {M : Type 1} {𝓤 : Ura M} (𝓛 : Logic 𝓤) (n b o : ℕ) where
  open 𝓛 use {H}

  abbrev words : Ty
  words = words_type R n

  abbrev values : Ty
  values = values_type R n

  abbrev τs : Tys
  τs = tcons words (tcons values tnil)

  abbrev Way : SProp 𝓤
  Way = wand 𝓤 (rooms_at 𝓤 H τs 0 b o) (H.room (block_type R n) b o)

  abbrev far : ℕ
  far = up (align (bare (lone R.mir))) (0 + n * 8)

  -- the two rows as they lie, and the way back
  abbrev pub back : ℕ → Fml
  back at = fwand (fsep (froom words b o) (froom values b at)) (froom (block_type R n) b o)

  way_back : (at : ℕ) → o + far ≡ at → ent 𝓤 Way (sem 𝓛 (back at))
  way_back at is = qed 𝓛 (raw Way ∷ []) ∵ assume ! (‵ (froom words b o) ⊛ ‵ (froom values b at)) $ split ! $
      rewrite ! 0 (λ (j : ℕ). ‵ (froom words b j)) (sym (add-zero o)) refl $ rewrite ! 1 (λ (j : ℕ). ‵ (froom values b j)) (sym is) refl $
      nothing ! $ move ! (1 ∷ 2 ∷ 0 ∷ []) $ group ! 3 $ use2 𝓛 (‵ (froom (block_type R n) b o)) (apply∗ 𝓤 (rooms_at 𝓤 H τs 0 b o) (H.room (block_type R n) b o)) $ done !

  pub cut : (at : ℕ) → o + far ≡ at → ent 𝓤 (sem 𝓛 (froom (block_type R n) b o)) (sep 𝓤 (sem 𝓛 (froom words b o)) (sep 𝓤 (sem 𝓛 (froom values b at)) (sem 𝓛 (back at))))
  cut at is = qed 𝓛 (‵ (froom (block_type R n) b o) ∷ []) ∵
      use1 𝓛 ((‵ (froom words b (o + 0)) ⊛ ‵ (froom values b (o + far)) ⊛ ‵ ftrue) ⊛ raw Way) (𝓛.laws.room_fields [] τs b o) $ split ! $ split3 ! $
      rewrite ! 0 (λ (j : ℕ). ‵ (froom words b j)) (add-zero o) refl $ rewrite ! 1 (λ (j : ℕ). ‵ (froom values b j)) is refl $
      move ! (3 ∷ []) $ use1 𝓛 (‵ (back at)) (way_back at is) $ keep ! (1 ∷ 2 ∷ 0 ∷ []) $ done !

  pub glue : (at : ℕ) → ent 𝓤 (sep 𝓤 (sem 𝓛 (back at)) (sep 𝓤 (sem 𝓛 (froom words b o)) (sem 𝓛 (froom values b at)))) (sem 𝓛 (froom (block_type R n) b o))
  glue at = qed 𝓛 (‵ (back at) ∷ ‵ (froom words b o) ∷ ‵ (froom values b at) ∷ []) ∵ move ! (1 ∷ 2 ∷ 0 ∷ []) $ fjoin ! $
      use2 𝓛 (‵ (froom (block_type R n) b o)) (apply∗ 𝓤 (sem 𝓛 (fsep (froom words b o) (froom values b at))) (sem 𝓛 (froom (block_type R n) b o))) $ done !

abbrev pub then_runs : {M : Type 1} {𝓤 : Ura M} (𝓛 : Logic 𝓤) → Calls 𝓤 𝓛.H → Loops 𝓤 𝓛.H → Env 𝓤 𝓛.H → Body → Post 𝓤 𝓛.H → Post 𝓤 𝓛.H
then_runs {𝓤} 𝓛 C Λ E b q = any_q (after_seq 𝓤 𝓛.H (Wp 𝓤 𝓛.H C Λ E b (post 𝓤 𝓛.H q)) (post 𝓤 𝓛.H q))

room_keyless : (τ : Ty) (p : Ptr) → Keyless (room_for τ p)
room_keyless τ (block_ptr b o) = tt
room_keyless τ null_ptr = tt

pub deed_send : (S A : RattleType) (g : Ghosts A.Denot) → Frees g g.dealloc_token → IsSend (deeds.the_row S A g)
deed_send S A g f = record {
  owned = λ d vs. ((λ vss. (tt, ((tt, tt), ((tt, tt), ((λ wss. (tt, tt)), tt))))), ((λ _. tt), (f.frees _ _ _, ((room_keyless _ d.words, room_keyless _ d.cells), room_keyless _ d.words))));
  leaving = λ k x vs. tt;
}
