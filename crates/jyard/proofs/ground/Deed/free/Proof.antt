-- `free` makes the block whole again of its two rows, and hands it back.
use Rattle.atomic_table.proofs.Names.{◌≡◌, ℕ, ◌^◌, ◌<◌, List, [], ◌∷◌, refl, sym, ap, ◌∙◌, subst, a_type, named, dcons, dnil, Val, vptr, vunit, inst_fn, SProp, id⊢, apply∗, ftrue, fsep, flft, ‵, raw, ◌⊛◌, given, later, at_ret, ◌$◌, ◌∵◌, !, qed, by, move, keep, drop, split, join, learn, rewrite, fsplit, fsplit3, fjoin, fpick, feq_i, use1, use2, use3, await, stop, fld, of_opd, unit_lit, no_more, and_then, first, blocks, exec, returns, enter, alloc_all, pass_all, free_all, look_at, get, get_in, sets, lands_last, is, env, sub, whole, tables, yes, no, RattleType, owns, types_at, plain, Ptr, ptr_val, nothing, param, bounded, Stays, stay_dropped, walk_of, Goes-dropped, fact, heard, RefOf, u64, shr_vals, shr_Tells, WT, sem, calls_at_last, ◌⊑◌}
use contract.BorrowLft.{⊑_trans}
use lib.Dec.{T}
use mir.Syntax.{Ty, ty_unit}
use mir.Val.{has_ty}
use denote.RawPtr.{in_a_block, room_for}
use Rattle.core.proofs.alloc.Calls.{Al, Goes-blank, Gives, at_gives, Gives-goes, Gives-Gives}
use Rattle.core.proofs.alloc.Shapes.{after}
use Rattle.atomic_table.proofs.Walks.{proved, leaves}
use Rattle.atomic_table.proofs.Calls.{fm}
use Rattle.jyard.specs.Grounds.{block_type, words_type, values_type}
use Rattle.jyard.specs.contracts.ground.Blank as blanks
use Rattle.jyard.specs.contracts.ground.Deed as deeds
use Rattle.jyard.proofs.Fields.{strip_of, strip_good}
use Rattle.jyard.proofs.Blanks.{blank_told, deed_val, deed_told}
use Rattle.jyard.specs.contracts.ground.Deed.free.{ended, clauses}
use Rattle.jyard.specs.contracts.ground.Deed.free.Key.{name as #self}
use Rattle.jyard.proofs.ground.Deed.free.Statement.{statement}
use Rattle.jyard.proofs.ground.Deed.free.Code as code

pub free_spec : {M : Type 1} → statement M
free_spec 𝓤 𝓛 𝓜 𝓡 wired X A LX LA g dict drops met md =
    let H = 𝓛.H in let 𝓣 = tables 𝓤 H 𝓜 𝓡 𝓡.env in let R : RattleType = param 0 X in let Z : RattleType = param 1 A in let Y : Al = record { row = A; laws = LA; g = g; d = dict; drops = drops } in
    let En = ended X A g dict drops in let c = clauses X A g dict drops 𝓛 𝓜.mem 𝓡.returns in let inst = bounded (a_type ∷ a_type ∷ []) (X, (A, tt)) (dcons dict (dcons drops dnil)) in let fn = inst_fn inst code.function in
    let Ws : RattleType = blanks.the_row u64 in let Vs : RattleType = blanks.the_row R in let Ds : RattleType = deeds.the_row R Z g in let lent = RefOf (0 ∷ []) tt (plain (λ _. Z)) (λ _. tt) in
    let hs : Stays En.signature.params En.kept = (stay_dropped (plain (λ _. Ds)) no, (stay_dropped lent yes, (stay_dropped (plain (λ _. Ws)) yes, (stay_dropped (plain (λ _. Vs)) no, tt)))) in
    proved 𝓛 En hs c 𝓜 𝓡 (Goes-blank 𝓛 3 (plain (λ _. Ds)) no (λ κs x f. tt), (Goes-dropped 𝓛 3 lent yes (λ κs x f. refl), (Goes-dropped 𝓛 3 (plain (λ _. Ws)) yes (λ κs x f. refl), (Goes-dropped 𝓛 3 (plain (λ _. Vs)) no (λ κs x f. refl), tt)))) (#self inst) fn (code.unfolded 𝓤 H 𝓜 𝓡 wired (X, (A, tt)) dict drops)
    (λ κs. ((λ x. deed_val x.size x.align ∷ []), (shr_vals, ((λ x. strip_of x.ptr ∷ []), ((λ x. strip_of x.ptr ∷ []), tt)))))
    (λ κs. ((λ x vs so. (deed_told x.size x.align vs so.0).0), (shr_Tells (named 0) κs.0 Z, ((λ x vs so. blank_told u64 x.ptr vs so.0), ((λ x vs so. blank_told R x.ptr vs so.0), tt))))) (λ κs qs bounds a gh are.
    let x : Ds.Denot = a.0 in let at : ℕ × ℕ = a.1.0.ref_ptr in let h : A.Denot = a.1.0.now in let ww : Ws.Denot = a.1.1.0 in let vv : Vs.Denot = a.1.1.1.0 in let κ = κs.0 in let q = qs.0 in
    let s : ℕ = x.size in let al : ℕ = x.align in let n : ℕ = x.count in let w : Ptr = x.words in let p : Ptr = x.cells in let dv : Val = deed_val s al in let told = deed_told s al (dv ∷ []) are.0.0 in let fs : s < 2 ^ 64 = told.1 in let fa : al < 2 ^ 64 = told.2 in
    let τ : Ty = block_type R n in let words : Ty = words_type R n in let values : Ty = values_type R n in let Asked : Type 0 = (ww.ptr ≡ w) × (vv.ptr ≡ p) × (ww.count ≡ n) × (vv.count ≡ n) × (x.heap ≡ h) in
    let y : (walk_of 𝓛 En hs c).Ghost = ((κs, qs, bounds, a, (dv ∷ [], (vptr at.0 at.1 ∷ [], (strip_of ww.ptr ∷ [], (strip_of vv.ptr ∷ [], tt))))), gh) in let Post : Val → SProp 𝓤 = (walk_of 𝓛 En hs c).post y in
    qed 𝓛 (((‵ (flft κ q) ⊛ ‵ (flft κs.1.0 qs.1.0) ⊛ ‵ (flft κs.1.1.0 qs.1.1.0) ⊛ ‵ ftrue) ⊛ ‵ (owns (types_at En.signature.params κs) a y.0.4)) ∷ raw (fact 𝓤 (κs.1.0 ⊑ X.lives)) ∷ raw (fact 𝓤 (κs.1.1.0 ⊑ A.lives)) ∷ raw (fact 𝓤 Asked) ∷ []) ∵
    move ! (2 ∷ 3 ∷ []) $ heard ! (κs.1.1.0 ⊑ A.lives) (λ le. heard ! Asked (λ asked. split ! $ split ! $ move ! (2 ∷ []) $ fsplit ! $ fsplit ! $ keep ! (1 ∷ 2 ∷ 3 ∷ 4 ∷ []) $
    fsplit3 ! $ fpick ! (λ laid. drop ! $ move ! (2 ∷ []) $ fsplit ! $ fsplit ! $ keep ! (2 ∷ 1 ∷ 3 ∷ 4 ∷ 5 ∷ 6 ∷ []) $ fsplit ! $ fsplit ! $ keep ! (2 ∷ 1 ∷ 3 ∷ 4 ∷ 5 ∷ 6 ∷ 7 ∷ []) $ fsplit ! $ fsplit ! $ keep ! (1 ∷ 3 ∷ 4 ∷ 5 ∷ 6 ∷ 7 ∷ 8 ∷ []) $
    -- [the values' room; the words' room; the allocator; the right; the way back; its token; the other tokens]
    fsplit ! $ drop ! $ rewrite ! 0 (λ (j : ℕ). ‵ (room_for (values_type R j) vv.ptr)) asked.3 refl $ rewrite ! 0 (λ (π : Ptr). ‵ (room_for values π)) asked.1 refl $
    move ! (1 ∷ []) $ fsplit ! $ drop ! $ rewrite ! 0 (λ (j : ℕ). ‵ (room_for (words_type R j) ww.ptr)) asked.2 refl $ rewrite ! 0 (λ (π : Ptr). ‵ (room_for words π)) asked.0 refl $
    move ! (0 ∷ 1 ∷ 4 ∷ []) $ fjoin ! $ use2 𝓛 (‵ (room_for τ w)) (apply∗ 𝓤 (sem 𝓛 (fsep (room_for words w) (room_for values p))) (sem 𝓛 (room_for τ w))) $
    in_a_block ! w (λ π. room_for τ π) (id⊢ 𝓤 _) (λ b o placed. move ! (2 ∷ []) $ rewrite ! 0 (λ (u : A.Denot). ‵ (g.dealloc_token u τ w)) asked.4 refl $ rewrite ! 0 (λ (π : Ptr). ‵ (g.dealloc_token h τ π)) placed refl $
    enter ! 𝓣.C 𝓣.Λ fn (dv ∷ vptr at.0 at.1 ∷ strip_of ww.ptr ∷ strip_of vv.ptr ∷ []) Post $
    alloc_all ! (λ l. pass_all ! refl ((tt, (record { fits = fs }, (record { fits = fa }, (tt, tt)))), ((tt, tt), (strip_good ww.ptr, (strip_good vv.ptr, tt)))) $ let Ev = env fn.locals l in
    let gives = at_gives Y 𝓛 𝓜.mem 𝓡.returns κ q at h b o s al τ in
    sets ! (of_opd ! (get_in ! (fld ! refl (stop !)) (sub ! 0 refl (whole !)))) refl (tt, record { fits = fs }) $ sets ! (of_opd ! (get_in ! (fld ! refl (stop !)) (sub ! 1 refl (whole !)))) refl (tt, record { fits = fa }) $
    sets ! (is ! (of_opd ! (get_in ! (fld ! refl (stop !)) (sub ! 0 refl (whole !)))) (ap ptr_val (asked.0 ∙ placed))) refl (tt, tt) $ first ! $ blocks ! $ sets ! (of_opd ! (get ! refl)) refl (tt, tt) $
    -- [the right; the room; the allocator; its token; the other tokens]
    move ! (2 ∷ 3 ∷ []) $ join ! $ move ! (2 ∷ 1 ∷ 0 ∷ []) $ use3 𝓛 (raw ((Gives Y 𝓛 𝓜.mem 𝓡.returns).pre gives)) (Gives-goes Y 𝓛 𝓜.mem 𝓡.returns κ q at h (⊑_trans κ κs.1.1.0 A.lives bounds.0 le) b o s al τ laid.0 laid.1 fs fa) $
    calls_at_last ! (fm 𝓛 𝓜 𝓡) (Gives Y 𝓛 𝓜.mem 𝓡.returns) (met.deallocate drops) gives (and_then ! (get ! refl) (and_then ! (get ! refl) (and_then ! (get ! refl) (and_then ! (get ! refl) (no_more !))))) (λ v.
    use1 𝓛 (later (given (v ≡ vunit) (‵ (flft κ q)))) (Gives-Gives Y 𝓛 𝓜.mem 𝓡.returns κ q at h b o s al τ v) $ await ! tt $ learn ! (λ e. join ! $
    lands_last ! refl (subst (λ (u : Val). T (has_ty ty_unit u) × WT u) (sym e) (tt, tt)) $ exec ! 𝓣.C 𝓣.Λ Ev (after 4 fn.body) (at_ret Ev Post) $
    sets ! (of_opd ! (unit_lit !)) refl (tt, tt) $ returns ! (look_at ! 0 refl) $ free_all ! refl $
    feq_i ! (List Val) (vunit ∷ []) (vunit ∷ []) refl $ nothing ! $ nothing ! $ nothing ! $ fjoin ! $ nothing ! $ fjoin ! $ nothing ! $ fjoin ! $ nothing ! $ fjoin ! $ keep ! (3 ∷ 0 ∷ 2 ∷ 1 ∷ []) $
    by ! (leaves 𝓛 En hs c y vunit tt (tt, (tt, (tt, (tt, tt)))) (tt, (tt, (tt, (tt, tt)))))))))))))
