-- `ask` is one call of the allocator, and the block's room is cut in two.
use Rattle.atomic_table.proofs.Names.{◌≡◌, ℕ, ◌+◌, ◌*◌, ◌^◌, ◌<◌, [], ◌∷◌, refl, arith, lit<, w64, a_type, named, dcons, dnil, Val, vint, vptr, vcons, vnil, inst_fn, SProp, emp, Lft, Share, ftrue, flft, ‵, raw, ◌⊛◌, later, at_ret, ◌$◌, ◌∵◌, !, qed, by, move, keep, split, split3, join, fsplit, fjoin, fpack, use0, use1, use2, await, stop, fld, lit, of_opd, bin, no_more, and_then, first, blocks, exec, returns, enter, alloc_all, pass_all, free_all, look_at, get, get_in, sets, sets_last, lands_as, env, agg, whole, tables, yes, RattleType, owns, types_at, type_at, plain, Ptr, block_ptr, nothing, param, bounded, Stays, stay_dropped, walk_of, Goes-dropped, fact, fact_i, heard, RefOf, usize, u64, shr_vals, shr_Tells, uint_vals, uint_Tells, Tuple, ◌⊑◌}
use base.Fml.{froom}
use mathlib.Core.Bool.{true, false}
use contract.BorrowLft.{⊑_trans}
use mir.Syntax.{Ty}
use prog.Memory.{align, size, up}
use types.Match.{live, vrt, in_variant}
use types.Run.{switches_on}
use types.ByLocal.{get_tag}
use denote.Memory.{lone}
use denote.Triple.Call.{calls_at}
use Rattle.core.specs.Allocator.{HasLayout}
use Rattle.core.specs.declared.option.Option.TheVariants.{Some, None}
use Rattle.core.proofs.alloc.Calls.{Al, Answer-typed, Takes, at_takes, Answered, Takes-goes, Takes-gives, answers}
use Rattle.core.proofs.alloc.Shapes.{after, head, arm_body}
use Rattle.core.proofs.option.Made.{Some-of, none_of}
use Rattle.std_alloc.proofs.Pairs.{pair_of, pair_val}
use Rattle.atomic_table.proofs.Walks.{proved, leaves}
use Rattle.atomic_table.proofs.Calls.{fm}
use Rattle.jyard.specs.Grounds.{block_type, words_type, values_type, IsPlan}
use Rattle.jyard.proofs.Layouts.{begin, laid}
use mir.Raw.{raw as bare}
use Rattle.jyard.specs.contracts.ground.Blank as blanks
use Rattle.jyard.specs.contracts.ground.Deed as deeds
use Rattle.jyard.proofs.Fields.{strip_of}
use Rattle.jyard.proofs.Blanks.{BlankData, blank_made, deed_val, deed_own, deed_made, back, cut, then_runs}
use Rattle.jyard.specs.contracts.ground.Deed.ask.{ended, clauses}
use Rattle.jyard.specs.contracts.ground.Deed.ask.Key.{name as #self}
use Rattle.jyard.proofs.ground.Deed.ask.Statement.{statement}
use Rattle.jyard.proofs.ground.Deed.ask.Code as code

pub ask_spec : {M : Type 1} → statement M
ask_spec 𝓤 𝓛 𝓜 𝓡 wired X A LX LA g dict drops met md =
    let H = 𝓛.H in let 𝓣 = tables 𝓤 H 𝓜 𝓡 𝓡.env in let R : RattleType = param 0 X in let Z : RattleType = param 1 A in let Y : Al = record { row = A; laws = LA; g = g; d = dict; drops = drops } in
    let En = ended X A g dict drops in let c = clauses X A g dict drops 𝓛 𝓜.mem 𝓡.returns in let inst = bounded (a_type ∷ a_type ∷ []) (X, (A, tt)) (dcons dict (dcons drops dnil)) in let fn = inst_fn inst code.function in
    let Ws : RattleType = blanks.the_row u64 in let Vs : RattleType = blanks.the_row R in let Ds : RattleType = deeds.the_row R Z g in let Two : RattleType = Tuple (Vs ∷ Ds ∷ []) in let All : RattleType = Tuple (Ws ∷ Two ∷ []) in
    let lent = RefOf (0 ∷ []) tt (plain (λ _. Z)) (λ _. tt) in let number = plain (λ _. usize) in
    let hs : Stays En.signature.params En.kept = (stay_dropped lent yes, (stay_dropped number yes, (stay_dropped number yes, (stay_dropped number yes, (stay_dropped number yes, tt))))) in
    proved 𝓛 En hs c 𝓜 𝓡 (Goes-dropped 𝓛 3 lent yes (λ κs x f. refl), (Goes-dropped 𝓛 3 number yes (λ κs x f. refl), (Goes-dropped 𝓛 3 number yes (λ κs x f. refl), (Goes-dropped 𝓛 3 number yes (λ κs x f. refl), (Goes-dropped 𝓛 3 number yes (λ κs x f. refl), tt))))) (#self inst) fn (code.unfolded 𝓤 H 𝓜 𝓡 wired (X, (A, tt)) dict drops)
    (λ κs. (shr_vals, (uint_vals w64, (uint_vals w64, (uint_vals w64, (uint_vals w64, tt)))))) (λ κs. (shr_Tells (named 0) κs.0 Z, (uint_Tells w64, (uint_Tells w64, (uint_Tells w64, (uint_Tells w64, tt)))))) (λ κs qs bounds a gh are.
    let at : ℕ × ℕ = a.0.ref_ptr in let h : A.Denot = a.0.now in let n : ℕ = a.1.0 in let s : ℕ = a.1.1.0 in let al : ℕ = a.1.1.1.0 in let far : ℕ = a.1.1.1.1.0 in let κ : Lft = κs.0 in let q : Share = qs.0 in
    let fs : s < 2 ^ 64 = are.1.1.0.1 in let fa : al < 2 ^ 64 = are.1.1.1.0.1 in let ff : far < 2 ^ 64 = are.1.1.1.1.0.1 in let τ : Ty = block_type R n in let words : Ty = words_type R n in let values : Ty = values_type R n in let Asked : Type 0 = IsPlan R n s al far in
    let y : (walk_of 𝓛 En hs c).Ghost = ((κs, qs, bounds, a, (vptr at.0 at.1 ∷ [], (vint w64 n ∷ [], (vint w64 s ∷ [], (vint w64 al ∷ [], (vint w64 far ∷ [], tt)))))), gh) in let Post : Val → SProp 𝓤 = (walk_of 𝓛 En hs c).post y in
    let Out : RattleType = type_at En.signature.result κs in
    qed 𝓛 (((‵ (flft κ q) ⊛ ‵ (flft κs.1.0 qs.1.0) ⊛ ‵ (flft κs.1.1.0 qs.1.1.0) ⊛ ‵ ftrue) ⊛ ‵ (owns (types_at En.signature.params κs) a y.0.4)) ∷ raw (fact 𝓤 (κs.1.0 ⊑ X.lives)) ∷ raw (fact 𝓤 (κs.1.1.0 ⊑ A.lives)) ∷ raw (fact 𝓤 Asked) ∷ []) ∵
    move ! (2 ∷ 3 ∷ []) $ heard ! (κs.1.1.0 ⊑ A.lives) (λ le. heard ! Asked (λ asked. let lies : HasLayout τ s al = laid R n s al far fa asked in split ! $ split ! $ move ! (2 ∷ []) $ fsplit ! $ fsplit ! $ keep ! (1 ∷ 3 ∷ 4 ∷ []) $
    enter ! 𝓣.C 𝓣.Λ fn (vptr at.0 at.1 ∷ vint w64 n ∷ vint w64 s ∷ vint w64 al ∷ vint w64 far ∷ []) Post $
    alloc_all ! (λ l. pass_all ! refl ((tt, tt), ((tt, record { fits = are.1.0.1 }), ((tt, record { fits = fs }), ((tt, record { fits = fa }), ((tt, record { fits = ff }), tt))))) $ let Ev = env fn.locals l in
    sets ! (of_opd ! (get ! refl)) refl (tt, tt) $ sets ! (of_opd ! (get ! refl)) refl (tt, record { fits = fs }) $ sets ! (of_opd ! (get ! refl)) refl (tt, record { fits = fa }) $
    let asks = at_takes Y 𝓛 𝓜.mem 𝓡.returns κ q at h s al τ in
    use2 𝓛 (raw ((Takes Y 𝓛 𝓜.mem 𝓡.returns).pre asks)) (Takes-goes Y 𝓛 𝓜.mem 𝓡.returns κ q at h (⊑_trans κ κs.1.1.0 A.lives bounds.0 le) s al τ lies.0 lies.1 fs fa) $
    calls_at ! (fm 𝓛 𝓜 𝓡) (Takes Y 𝓛 𝓜.mem 𝓡.returns) (met.allocate drops) asks (and_then ! (get ! refl) (and_then ! (get ! refl) (and_then ! (get ! refl) (no_more !)))) (λ v.
    use1 𝓛 (later (raw (Answered Y 𝓛 𝓜.mem 𝓡.returns h τ v) ⊛ ‵ (flft κ q))) (Takes-gives Y 𝓛 𝓜.mem 𝓡.returns κ q at h s al τ v) $ await ! tt $ split ! $ move ! (1 ∷ 2 ∷ []) $ join ! $ move ! (1 ∷ []) $
    let Then = then_runs 𝓛 𝓣.C 𝓣.Λ Ev (after 5 fn.body) (at_ret Ev Post) in let arm = arm_body 0 (head (after 4 fn.body)) in
    answers Y ! 𝓜.mem 𝓡.returns h τ v
    (λ b o e. let w : Ptr = block_ptr b o in let p : Ptr = block_ptr b (far + o) in let there : o + up (align (bare (lone R.mir))) (0 + n * 8) ≡ far + o = (let same = begin R n far asked.0 in omega (arith, same)) in
    let wv : Val = strip_of w in let pv : Val = strip_of p in let dv : Val = deed_val s al in let two : Val = pair_val pv dv in let all : Val = pair_val wv two in
    lands_as ! e refl (Answer-typed true b o) $ first ! $ switches_on ! (get_tag ! (vrt ! refl (fld ! refl (stop !))) (whole !)) $ exec ! 𝓣.C 𝓣.Λ Ev arm Then $
    sets ! (of_opd ! (get_in ! (vrt ! refl (fld ! refl (stop !))) (in_variant ! 0 0 refl refl (whole !)))) refl (tt, tt) $ sets ! (of_opd ! (get ! refl)) refl (tt, tt) $ sets ! (of_opd ! (get ! refl)) refl (tt, tt) $
    sets ! (agg ! (and_then ! (get ! refl) (no_more !))) refl (tt, (tt, tt)) $ first ! $ blocks ! $ sets ! (of_opd ! (get ! refl)) refl (tt, tt) $ sets ! (of_opd ! (get ! refl)) refl (tt, record { fits = ff }) $
    sets_last ! (bin ! (get ! refl) (get ! refl) tt) refl (tt, tt) $ exec ! 𝓣.C 𝓣.Λ Ev (after 5 arm) Then $
    sets ! (of_opd ! (get ! refl)) refl (tt, tt) $ sets ! (of_opd ! (get ! refl)) refl (tt, tt) $ sets ! (agg ! (and_then ! (get ! refl) (no_more !))) refl (tt, (tt, tt)) $
    sets ! (of_opd ! (get ! refl)) refl (tt, record { fits = fs }) $ sets ! (of_opd ! (get ! refl)) refl (tt, record { fits = fa }) $ sets ! (agg ! (no_more !)) refl (tt, tt) $
    sets ! (agg ! (and_then ! (get ! refl) (and_then ! (get ! refl) (and_then ! (get ! refl) (no_more !))))) refl (tt, (record { fits = fs }, (record { fits = fa }, (tt, tt)))) $
    sets ! (of_opd ! (get ! refl)) refl (tt, (tt, tt)) $ sets ! (of_opd ! (get ! refl)) refl (tt, (tt, tt)) $ sets ! (of_opd ! (get ! refl)) refl (tt, (record { fits = fs }, (record { fits = fa }, (tt, tt)))) $
    sets ! (agg ! (and_then ! (get ! refl) (and_then ! (get ! refl) (no_more !)))) refl (tt, ((tt, tt), ((record { fits = fs }, (record { fits = fa }, (tt, tt))), tt))) $
    sets ! (agg ! (and_then ! (get ! refl) (and_then ! (get ! refl) (no_more !)))) refl (tt, ((tt, tt), (((tt, tt), ((record { fits = fs }, (record { fits = fa }, (tt, tt))), tt)), tt))) $
    sets_last ! (agg ! (and_then ! (lit ! tt) (and_then ! (get ! refl) (no_more !)))) refl (tt, (record { fits = lit< tt }, (((tt, tt), (((tt, tt), ((record { fits = fs }, (record { fits = fa }, (tt, tt))), tt)), tt)), tt))) $
    exec ! 𝓣.C 𝓣.Λ Ev (after 5 fn.body) (at_ret Ev Post) $ sets ! (of_opd ! (get ! refl)) refl (tt, (record { fits = lit< tt }, (((tt, tt), (((tt, tt), ((record { fits = fs }, (record { fits = fa }, (tt, tt))), tt)), tt)), tt))) $
    -- [the room; the right to free it; the tokens]
    let rw : Ws.Denot = record { ptr = w; count = n } in let rv : Vs.Denot = record { ptr = p; count = n } in let rd : Ds.Denot = record { size = s; align = al; marker = record {}; words = w; cells = p; count = n; heap = h } in
    use1 𝓛 (‵ (froom words b o) ⊛ ‵ (froom values b (far + o)) ⊛ ‵ (back R 𝓛 n b o (far + o))) (cut R 𝓛 n b o (far + o) there) $ split3 ! $
    move ! (3 ∷ 2 ∷ []) $ fjoin ! $ nothing ! $ fpack ! (HasLayout τ s al) (λ _. ftrue) lies $ fjoin ! $ use0 𝓛 (‵ (deed_own s al (dv ∷ []))) (deed_made 𝓛 s al fs fa) $ fjoin ! $
    move ! (1 ∷ []) $ nothing ! $ fpack ! (n * 8 < 2 ^ 63) (λ _. ftrue) asked.5 $ fjoin ! $ use0 𝓛 (‵ ((BlankData u64).own_val (w, tt) (wv ∷ []))) (blank_made u64 𝓛 w) $ fjoin ! $
    move ! (2 ∷ []) $ nothing ! $ fpack ! (n * size (lone R.mir) < 2 ^ 63) (λ _. ftrue) asked.4 $ fjoin ! $ use0 𝓛 (‵ ((BlankData R).own_val (p, tt) (pv ∷ []))) (blank_made R 𝓛 p) $ fjoin ! $
    move ! (0 ∷ 2 ∷ []) $ use2 𝓛 (‵ (Two.own_val (rv, rd) (two ∷ []))) (pair_of 𝓛 Vs Ds rv rd pv dv) $ move ! (1 ∷ 0 ∷ []) $ use2 𝓛 (‵ (All.own_val (rw, (rv, rd)) (all ∷ []))) (pair_of 𝓛 Ws Two rw (rv, rd) wv two) $
    use1 𝓛 (‵ (Out.own_val (Some (rw, (rv, rd))) (live 1 (vcons all vnil) ∷ []))) (Some-of 𝓛 All (rw, (rv, rd)) all) $ let Told : Type 0 = (n ≡ n) × (n ≡ n) × (n ≡ n) × (w ≡ w) × (p ≡ p) × (h ≡ h) in
    use0 𝓛 (raw (fact 𝓤 Told)) (fact_i 𝓤 Told (emp 𝓤) (refl, refl, refl, refl, refl, refl)) $ nothing ! $ nothing ! $ fjoin ! $ nothing ! $ fjoin ! $ nothing ! $ fjoin ! $ nothing ! $ fjoin ! $ nothing ! $ fjoin ! $
    returns ! (look_at ! 0 refl) $ free_all ! refl $ keep ! (3 ∷ 0 ∷ 2 ∷ 1 ∷ []) $ by ! (leaves 𝓛 En hs c y (live 1 (vcons all vnil)) (Some (rw, (rv, rd))) (tt, (tt, (tt, (tt, (tt, tt))))) (tt, (tt, (tt, (tt, (tt, tt)))))))
    (λ e. lands_as ! e refl (Answer-typed false 0 0) $ first ! $ switches_on ! (get_tag ! (vrt ! refl (fld ! refl (stop !))) (whole !)) $ exec ! 𝓣.C 𝓣.Λ Ev (arm_body 1 (head (after 4 fn.body))) Then $
    sets_last ! (agg ! (and_then ! (lit ! tt) (no_more !))) refl (tt, (record { fits = lit< tt }, tt)) $ exec ! 𝓣.C 𝓣.Λ Ev (after 5 fn.body) (at_ret Ev Post) $ sets ! (of_opd ! (get ! refl)) refl (tt, (record { fits = lit< tt }, tt)) $
    use0 𝓛 (‵ (Out.own_val None (live 0 vnil ∷ []))) (none_of 𝓛 All) $ use0 𝓛 (raw (fact 𝓤 (Unit {0}))) (fact_i 𝓤 (Unit {0}) (emp 𝓤) tt) $ nothing ! $ nothing ! $ fjoin ! $ nothing ! $ fjoin ! $ nothing ! $ fjoin ! $ nothing ! $ fjoin ! $ nothing ! $ fjoin ! $
    returns ! (look_at ! 0 refl) $ free_all ! refl $ keep ! (3 ∷ 0 ∷ 2 ∷ 1 ∷ []) $ by ! (leaves 𝓛 En hs c y (live 0 vnil) None (tt, (tt, (tt, (tt, (tt, tt))))) (tt, (tt, (tt, (tt, (tt, tt))))))))))))
