-- `take` is one compare-exchange, and the seat has the value whole where it found 0.
use Rattle.atomic_table.proofs.Names.{◌≡◌, List, [], ◌∷◌, ℕ, ◌^◌, ◌++◌, refl, sym, ap, lit<, w64, a_type, named, Val, vint, vptr, vstruct, of_list, inst_fn, SProp, emp, via, Lft, Share, Fml, ftrue, fsep, flft, ‵, raw, ◌⊛◌, mean, at_ret, ◌$◌, ◌∵◌, !, qed, by, move, keep, drop, split, join, fsplit, fjoin, fjoin3, fpick, fpack, use0, use1, use2, use3, rewrite, feq_i, flt_i, stop, fld, load, lit, of_opd, no_more, and_then, first, blocks, exec, Calls-last, returns, enter, alloc_all, pass_all, free_all, look_at, get, through, sets, lands_last, is, env, agg, sub, whole, look_in, tables, yes, RattleType, owns, Valss, types_at, plain, Ptr, block_ptr, ptr_val, nothing, param, layouts, Stays, stay_dropped, walk_of, Goes-dropped, fact, fact_i, Is, shows, cell_at, peeks, block_of, count_of, at_block, RefOf, u64, shr_vals, shr_Tells, unhide, hidden_shr, looks, shuts, lent_out, shr_bor-open, obor_close, tokens_halve, ◌*◌, ◌+◌, ◌<◌, length, arith, bin, usize, uint_vals, uint_Tells, mut_vals, mut_Tells, opens, closes, stay_ref, Goes-ref, split3, fsplit3, heard}
use Rattle.std.proofs.Common.{◌≢◌}
use base.Fml.{feq, fhide}
use denote.Param.Laws.{param_laws}
use Rattle.core.proofs.atomic.Steps.{tail}
use Rattle.atomic_table.proofs.Walks.{proved, leaves}
use Rattle.atomic_table.proofs.Calls.{fm, found, finds, exchanges}
use Rattle.jyard.specs.Units.{BlockId, age, id_at, place, block_shares, table_shares, spents_own}
use Rattle.jyard.specs.Logs.{Entry, entry, taking, after_take}
use Rattle.jyard.specs.Taken.{HasTaken, one_step}
use Rattle.jyard.proofs.Spents.{spents_more}
use Rattle.jyard.specs.contracts.table.Table as table
use Rattle.jyard.specs.contracts.table.Seat as seat
use Rattle.jyard.specs.contracts.view.View as view
use Rattle.jyard.proofs.Fields.{pair_of, token, token_good, found_of, found_good, TableData, SeatData, table_told, table_opens, seat_made}
use Rattle.jyard.proofs.Laws.{shown_at}
use Rattle.jyard.proofs.Steps as steps
use Rattle.jyard.specs.contracts.table.Table.take.{ended, clauses}
use Rattle.jyard.specs.contracts.table.Table.take.Key.{name as #self}
use Rattle.jyard.proofs.table.Table.take.Statement.{statement}
use Rattle.jyard.proofs.table.Table.take.Code as code

pub take_spec : {M : Type 1} → statement M
take_spec 𝓤 𝓛 𝓜 𝓡 wired X LX =
    let H = 𝓛.H in let 𝓣 = tables 𝓤 H 𝓜 𝓡 𝓡.env in let R : RattleType = param 0 X in let En = ended X in let c = clauses X 𝓛 𝓜.mem 𝓡.returns in let L = (param_laws 0 X LX).shr_laws in
    let inst = layouts (a_type ∷ []) (X, tt) in let fn = inst_fn inst code.function in let Row : RattleType = table.the_row R in let Sr : RattleType = seat.the_row R in let D : RattleType = TableData R in
    let Vr : RattleType = view.the_row in let self = RefOf (0 ∷ []) tt (plain (λ _. Row)) (λ _. tt) in let number = plain (λ _. usize) in let seen = plain (λ _. Vr) in let hs : Stays En.signature.params En.kept = (stay_dropped self yes, (stay_dropped number yes, (stay_ref (1 ∷ []) tt seen, tt))) in
    proved 𝓛 En hs c 𝓜 𝓡 (Goes-dropped 𝓛 3 self yes (λ κs x f. refl), (Goes-dropped 𝓛 3 number yes (λ κs x f. refl), (Goes-ref 𝓛 3 1 tt seen, tt))) (#self inst) fn (code.unfolded 𝓤 H 𝓜 𝓡 wired (X, tt))
    (λ κs. (shr_vals, (uint_vals w64, (mut_vals, tt)))) (λ κs. (shr_Tells (named 0) κs.0 Row, (uint_Tells w64, (mut_Tells (named 1) κs.1.0 Vr, tt)))) (λ κs qs bounds a gh are.
    let b : ℕ = a.0.ref_ptr.0 in let o : ℕ = a.0.ref_ptr.1 in let κ : Lft = κs.0 in let q : Share = qs.0 in let others : Fml = fsep (flft κs.1.1.0 qs.1.1.0) ftrue in
    let t : Row.Denot = a.0.now in let w : Ptr = t.words in let p : Ptr = t.cells in let ids : List BlockId = t.ids in let empty : X.Denot = t.empty in let i : ℕ = a.1.0 in let z : BlockId = id_at ids i in let α : Lft = age z in let wb : ℕ = block_of w in let wo : ℕ = i * 8 + count_of w in
    let b' : ℕ = a.1.1.0.ref_ptr.0 in let o' : ℕ = a.1.1.0.ref_ptr.1 in let v : Vr.Denot = a.1.1.0.now in let Asked : Type 0 = i < length ids in
    let y : (walk_of 𝓛 En hs c).Ghost = ((κs, qs, bounds, a, (vptr b o ∷ [], (vint w64 i ∷ [], (vptr b' o' ∷ [], tt)))), gh) in let Post : Val → SProp 𝓤 = (walk_of 𝓛 En hs c).post y in
    qed 𝓛 (((‵ (flft κ q) ⊛ ‵ (flft κs.1.0 qs.1.0) ⊛ ‵ others) ⊛ ‵ (owns (types_at En.signature.params κs) a y.0.4)) ∷ raw (fact 𝓤 _) ∷ raw (fact 𝓤 Asked) ∷ []) ∵
    keep ! (2 ∷ 0 ∷ []) $ heard ! Asked (λ asked. split ! $ split3 ! $ move ! (3 ∷ []) $ fsplit3 ! $ fsplit ! $ move ! (3 ∷ []) $ fsplit ! $ fsplit3 ! $ keep ! (5 ∷ 7 ∷ 1 ∷ 2 ∷ 8 ∷ 9 ∷ []) $
    enter ! 𝓣.C 𝓣.Λ fn (vptr b o ∷ vint w64 i ∷ vptr b' o' ∷ []) Post $ alloc_all ! (λ l. pass_all ! refl ((tt, tt), ((tt, record { fits = are.1.0.1 }), ((tt, tt), tt))) $ let Ev = env fn.locals l in
    use1 𝓛 (‵ (hidden_shr D κ (w, (p, tt)) b o) ⊛ ‵ (fhide (table_shares R p w empty ids κ))) (lent_out 𝓛 (table.struct R) (table.the_codes X.Denot R.coded) (table.the_heap R) (table.the_lent R) κ t b o) $
    split ! $ move ! (1 ∷ []) $ unhide ! $ use1 𝓛 (‵ (block_shares R p w empty i z κ)) (shown_at R p w empty 𝓛 κ ids i asked) $ fsplit ! $ move ! (1 ∷ []) $ fsplit ! $ fpick ! (λ inb. drop ! $ let at : w ≡ block_ptr wb (count_of w) = at_block w inb.0 in let small : i * 8 < 2 ^ 64 = (let low = inb.2 in omega arith) in
    -- [the invariant; the token's borrow; self; the token of κ; others]
    move ! (2 ∷ 3 ∷ []) $ looks ! tt D (table_opens R 𝓛) (w, (p, tt)) b o (λ q' vs. move ! (1 ∷ []) $ peeks ! D (Is D) (shows 𝓛 D) (w, (p, tt)) vs (λ so. let ev : vs ≡ pair_of w p ∷ [] = table_told R w p vs so in
    rewrite ! 1 (λ (ws : List Val). ‵ (cell_at q' D.mir ws b o)) ev refl $ first ! $ blocks ! $
    sets ! (is ! (of_opd ! (load ! (through ! refl (fld ! refl (stop !))) (look_in ! 1 (sub ! 0 refl (whole !))))) (ap ptr_val at)) refl (tt, tt) $
    sets ! (bin ! (get ! refl) (lit ! tt) (record { fits = small })) refl (tt, record { fits = small }) $ sets ! (bin ! (get ! refl) (get ! refl) tt) refl (tt, tt) $
    rewrite ! 1 (λ (ws : List Val). ‵ (cell_at q' D.mir ws b o)) (sym ev) refl $ move ! (1 ∷ 0 ∷ 2 ∷ []) $ shuts ! tt D q' (w, (p, tt)) vs b o $ move ! (3 ∷ 0 ∷ []) $
    shr_bor-open ! tt (tokens_halve 𝓛 α) (λ s. let Won : ℕ → Fml = steps.Took 𝓛 R L (place z) z empty wb wo in let after : ℕ → Fml = λ n. fsep (flft α s) (Won n) in
    nothing ! $ nothing ! $ fjoin ! $ move ! (4 ∷ 2 ∷ 0 ∷ []) $
    use3 𝓛 (raw (𝓣.C _ (vptr wb wo ∷ vint w64 0 ∷ vint w64 2 ∷ []) (λ u. mean 𝓛 (found after u))))
    (via 𝓤 _ (steps.takes 𝓛 R L (place z) z empty wb wo s) (exchanges 𝓛 𝓜 𝓡 (code.calls-atomic_table::exchange 𝓡.env wired) (block_ptr wb wo) 0 2 (lit< tt) (lit< tt) after)) $
    Calls-last ! (fm 𝓛 𝓜 𝓡) (found after) (and_then ! (get ! refl) (and_then ! (lit ! tt) (and_then ! (lit ! tt) (no_more !)))) (λ u. finds ! after (λ n fits.
    lands_last ! refl (tt, record { fits = fits }) $ exec ! 𝓣.C 𝓣.Λ Ev (tail fn.body) (at_ret Ev Post) $ sets ! (of_opd ! (get ! refl)) refl (tt, record { fits = fits }) $
    sets ! (agg ! (no_more !)) refl (tt, tt) $ sets ! (agg ! (and_then ! (get ! refl) (no_more !))) refl token_good $
    sets ! (agg ! (and_then ! (get ! refl) (and_then ! (get ! refl) (no_more !)))) refl (found_good n fits) $
    fsplit ! $ move ! (2 ∷ 0 ∷ []) $ obor_close ! tt $ drop ! $ move ! (1 ∷ []) $ fpick ! (λ kj. let k : ℕ = kj.0 in let j : ℕ = kj.1 in fsplit ! $ fpick ! (λ told. drop ! $ fsplit ! $
    -- [what the seat has; the pass's seat; the token of κ; self; the view; its token; others]
    move ! (4 ∷ 5 ∷ 6 ∷ []) $ let v' : Vr.Denot = record v { spent = v.spent ++ one_step z (entry taking j n (after_take n) (j + 1)) ∷ [] } in opens ! tt Vr b' o' (λ ts. move ! (1 ∷ []) $ fsplit ! $ move ! (1 ∷ 7 ∷ []) $
    use2 𝓛 (‵ (spents_own v'.spent)) (spents_more 𝓛 v.spent z j (entry taking j n (after_take n) (j + 1) ∷ [])) $ move ! (1 ∷ 0 ∷ []) $ fjoin ! $ move ! (1 ∷ 0 ∷ []) $ closes ! tt Vr v' ts b' o' $ feq_i ! (List Val) (vptr b' o' ∷ []) (vptr b' o' ∷ []) refl $ fjoin3 ! $
    nothing ! $ move ! (1 ∷ 0 ∷ []) $ fjoin ! $ nothing ! $ fjoin ! $ nothing ! $ fjoin ! $ move ! (1 ∷ 5 ∷ []) $ join ! $ move ! (3 ∷ 0 ∷ []) $ join ! $ move ! (2 ∷ []) $
    let none : List Entry = [] in let h : Sr.Denot = record { marker = record {}; id = z; right = k; round = 0; value = empty; seat = j + 1; steps = none } in let r : Val = found_of n in
    let A₁ : Type 0 = (v.yard ≡ v.yard) × HasTaken v.spent v'.spent z n (j + 1) in let A₂ : Type 0 = (n ≡ 0 → (k ≡ 2) × (empty ≡ empty)) × (n ≢ 0 → k ≡ 0) × (z ≡ z) × (none ≡ none) in
    use0 𝓛 (‵ ((SeatData R).own_val (tt, tt) (token ∷ []))) (seat_made R 𝓛) $ fjoin ! $ nothing ! $ flt_i ! n (2 ^ 64) fits $ feq_i ! (List Val) (vint w64 n ∷ []) (vint w64 n ∷ []) refl $ fjoin ! $
    move ! (0 ∷ 2 ∷ 1 ∷ []) $ fjoin3 ! $ feq_i ! (List Val) (r ∷ []) (r ∷ []) refl $ fjoin ! $
    fpack ! (Valss (u64 ∷ Sr ∷ [])) (λ uss. fsep (feq (List Val) (r ∷ []) (vstruct (of_list (uss.0 ++ (uss.1.0 ++ []))) ∷ [])) (owns (u64 ∷ Sr ∷ []) (n, (h, tt)) uss)) (vint w64 n ∷ [], (token ∷ [], tt)) $
    use0 𝓛 (raw (fact 𝓤 A₂)) (fact_i 𝓤 A₂ (emp 𝓤) ((λ e. (told.0 e, refl)), told.1, refl, refl)) $ use0 𝓛 (raw (fact 𝓤 A₁)) (fact_i 𝓤 A₁ (emp 𝓤) (refl, record { seat = j; is_next = refl; added = refl })) $ join ! $
    returns ! (look_at ! 0 refl) $ free_all ! refl $ keep ! (2 ∷ 3 ∷ 1 ∷ 0 ∷ []) $ by ! (leaves 𝓛 En hs c y r (n, h) (tt, (tt, (v', tt))) (tt, (tt, (tt, tt))))))))))))))))
