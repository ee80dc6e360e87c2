-- `sole` is one load, and lends the value where it found 2.
use Rattle.atomic_table.proofs.Names.{◌≡◌, List, [], ◌∷◌, ℕ, ◌^◌, ◌<◌, ◌≤◌, ◌++◌, refl, sym, ap, ◌∙◌, lit<, w64, a_type, named, Val, vint, vptr, inst_fn, SProp, emp, via, id⊢, Lft, Share, Fml, ftrue, fsep, flft, sem, ‵, raw, ◌⊛◌, later, await, mean, at_ret, ◌$◌, ◌∵◌, !, qed, by, move, keep, drop, split, split3, join, group, some, pick, done, ent, sep, fpack, fsplit, fsplit3, fjoin, fjoin3, fpick, use0, use1, use3, rewrite, feq_i, flt_i, stop, fld, load, lit, of_opd, no_more, and_then, first, blocks, exec, Calls-last, returns, enter, alloc_all, pass_all, free_all, look_at, get, through, sets, sets_last, bin, addr, lands_last, is, env, agg, sub, whole, look_in, tables, yes, no, RattleType, owns, types_at, plain, Ptr, block_ptr, ptr_val, nothing, heard, param, layouts, Stays, stay_dropped, walk_of, Goes-dropped, fact, fact_i, arith, Is, shows, cell_at, peeks, block_of, count_of, at_block, RefOf, RefMutOf, Goes-spent_ref, part_at, full_share, mem, u64, mut_vals, mut_Tells, shr_vals, shr_Tells, opens, closes, unhide, hidden_shr, looks, shuts, lent_out, shr_bor-open, obor_close, tokens_halve, ◌*◌, ◌+◌, length, subst, size_word, usize, uint_vals, uint_Tells}
use Rattle.std.proofs.Common.{◌≢◌}
use base.Fml.{fhide, fres}
use mir.Val.{vcons, vnil}
use types.Match.{live}
use types.Run.{branches, skips, returns_within}
use denote.RawPtr.{lies_at}
use denote.Memory.{part_of}
use denote.Ref.{MutBor, MutRef}
use denote.Follow.{lends_Part, Part, follows, follows_by}
use Rattle.std_alloc.proofs.RcSteps.{is_not, is_so}
use Rattle.std_alloc.proofs.ResultValues.{ok_of, err_of}
use Rattle.core.specs.contracts.result.Result as RS
use Rattle.core.specs.declared.result.Result.TheVariants.{Ok, Err}
use Rattle.jyard.specs.Lent.{with_value, with_right, with_look, found_in}
use denote.Param.Laws.{param_laws}
use Rattle.core.proofs.atomic.Steps.{tail}
use Rattle.atomic_table.proofs.Walks.{proved, leaves}
use Rattle.atomic_table.proofs.Calls.{fm, seq_cst, found, finds, loads}
use Rattle.jyard.specs.Units.{BlockId, age, id_at, place, IsHolding, block_shares, table_shares, seat_has, sits, holder}
use Rattle.jyard.specs.Logs.{Entry, entry, looking}
use Rattle.jyard.specs.contracts.table.Table as table
use Rattle.jyard.specs.contracts.table.Seat as seat
use Rattle.jyard.proofs.Fields.{pair_of, TableData, SeatData, table_told, table_opens}
use Rattle.jyard.proofs.Offsets.{uncapped}
use Rattle.jyard.proofs.Laws.{shown_at}
use types.Na.{out}
use Rattle.jyard.proofs.Steps as steps
use Rattle.jyard.specs.contracts.table.Seat.sole.{ended, clauses}
use Rattle.jyard.specs.contracts.table.Seat.sole.Key.{name as #self}
use Rattle.jyard.proofs.table.Seat.sole.Statement.{statement}
use Rattle.jyard.proofs.table.Seat.sole.Code as code

pub sole_spec : {M : Type 1} → statement M
unfolding part_of follows_by found_in
sole_spec 𝓤 𝓛 𝓜 𝓡 wired X LX =
    let H = 𝓛.H in let 𝓣 = tables 𝓤 H 𝓜 𝓡 𝓡.env in let R : RattleType = param 0 X in let En = ended X in let c = clauses X 𝓛 𝓜.mem 𝓡.returns in let L = (param_laws 0 X LX).shr_laws in
    let inst = layouts (a_type ∷ []) (X, tt) in let fn = inst_fn inst code.function in let Row : RattleType = table.the_row R in let Sr : RattleType = seat.the_row R in let D : RattleType = TableData R in let E : RattleType = SeatData R in
    let self = RefOf (1 ∷ []) tt (plain (λ _. Row)) (λ _. tt) in let number = plain (λ _. usize) in let hs : Stays En.signature.params En.kept = (stay_dropped (RefMutOf (0 ∷ []) tt (plain (λ _. Sr)) (λ _. tt)) no, (stay_dropped self yes, (stay_dropped number yes, tt))) in
    proved 𝓛 En hs c 𝓜 𝓡 (Goes-spent_ref 𝓛 3 (0 ∷ []) tt (plain (λ _. Sr)), (Goes-dropped 𝓛 3 self yes (λ κs x f. refl), (Goes-dropped 𝓛 3 number yes (λ κs x f. refl), tt))) (#self inst) fn (code.unfolded 𝓤 H 𝓜 𝓡 wired (X, tt))
    (λ κs. (mut_vals, (shr_vals, (uint_vals w64, tt)))) (λ κs. (mut_Tells (named 0) κs.0 Sr, (shr_Tells (named 1) κs.1.0 Row, (uint_Tells w64, tt)))) (λ κs qs bounds a gh are.
    let b : ℕ = a.1.0.ref_ptr.0 in let o : ℕ = a.1.0.ref_ptr.1 in let κ : Lft = κs.0 in let q : Share = qs.0 in let kb : Lft = κs.1.0 in let qb : Share = qs.1.0 in let others : Fml = fsep (flft κs.1.1.0 qs.1.1.0) ftrue in
    let t : Row.Denot = a.1.0.now in let w : Ptr = t.words in let p : Ptr = t.cells in let ids : List BlockId = t.ids in let empty : X.Denot = t.empty in let i : ℕ = a.1.1.0 in let z : BlockId = id_at ids i in let α : Lft = age z in let wb : ℕ = block_of w in let wo : ℕ = i * 8 + count_of w in let sz : ℕ = (mem R).size in let eb : ℕ = block_of p in let eo : ℕ = i * sz + count_of p in
    let b' : ℕ = a.0.ref_ptr.0 in let o' : ℕ = a.0.ref_ptr.1 in let γ : ℕ = a.0.ghost_name in let h : Sr.Denot = a.0.now in let e : Ptr = place h.id in let m : ℕ = h.round in let x : X.Denot = h.value in
    let Asked : Type 0 = (i < length ids) × IsHolding h.right × (h.id ≡ z) in let Lent : RattleType = MutRef (named 0) κ R in let F : X.Denot → Sr.Denot = λ v. with_look (with_right (with_value h v) 2) 2 in
    let y : (walk_of 𝓛 En hs c).Ghost = ((κs, qs, bounds, a, (vptr b' o' ∷ [], (vptr b o ∷ [], (vint w64 i ∷ [], tt)))), gh) in let Post : Val → SProp 𝓤 = (walk_of 𝓛 En hs c).post y in
    qed 𝓛 (((‵ (flft κ q) ⊛ ‵ (flft kb qb) ⊛ ‵ others) ⊛ ‵ (owns (types_at En.signature.params κs) a y.0.4)) ∷ raw (fact 𝓤 _) ∷ raw (fact 𝓤 Asked) ∷ []) ∵
    keep ! (2 ∷ 0 ∷ []) $ heard ! Asked (λ asked. split ! $ split3 ! $ move ! (3 ∷ []) $ fsplit3 ! $ fsplit3 ! $ move ! (3 ∷ []) $ fsplit ! $ keep ! (1 ∷ 7 ∷ 3 ∷ 4 ∷ 6 ∷ 8 ∷ []) $
    -- [the block; its token; two parts of the seat; a token of κ; others]
    enter ! 𝓣.C 𝓣.Λ fn (vptr b' o' ∷ vptr b o ∷ vint w64 i ∷ []) Post $ alloc_all ! (λ l. pass_all ! refl ((tt, tt), ((tt, tt), ((tt, record { fits = are.1.1.0.1 }), tt))) $ let Ev = env fn.locals l in
    use1 𝓛 (‵ (hidden_shr D kb (w, (p, tt)) b o) ⊛ ‵ (fhide (table_shares R p w empty ids kb))) (lent_out 𝓛 (table.struct R) (table.the_codes X.Denot R.coded) (table.the_heap R) (table.the_lent R) kb t b o) $
    split ! $ move ! (1 ∷ []) $ unhide ! $ use1 𝓛 (‵ (block_shares R p w empty i z kb)) (shown_at R p w empty 𝓛 kb ids i asked.0) $ fsplit ! $ move ! (1 ∷ []) $ fsplit ! $ fpick ! (λ inb. drop ! $
    let at : w ≡ block_ptr wb (count_of w) = at_block w inb.0 in let small : i * 8 < 2 ^ 64 = (let low = inb.2 in omega arith) in let cells_at : p ≡ block_ptr eb (count_of p) = at_block p inb.1 in let near : i * sz < 2 ^ 64 = (let low = inb.3 in omega arith) in let ate : e ≡ block_ptr eb eo = ap place asked.2 ∙ inb.4 in
    move ! (2 ∷ 3 ∷ []) $ looks ! tt D (table_opens R 𝓛) (w, (p, tt)) b o (λ q' vs. move ! (1 ∷ []) $ peeks ! D (Is D) (shows 𝓛 D) (w, (p, tt)) vs (λ so. let ev : vs ≡ pair_of w p ∷ [] = table_told R w p vs so in
    rewrite ! 1 (λ (ws : List Val). ‵ (cell_at q' D.mir ws b o)) ev refl $ first ! $ blocks ! $
    sets ! (is ! (of_opd ! (load ! (through ! refl (fld ! refl (stop !))) (look_in ! 1 (sub ! 0 refl (whole !))))) (ap ptr_val at)) refl (tt, tt) $
    sets ! (bin ! (get ! refl) (lit ! tt) (record { fits = small })) refl (tt, record { fits = small }) $ sets ! (bin ! (get ! refl) (get ! refl) tt) refl (tt, tt) $
    rewrite ! 1 (λ (ws : List Val). ‵ (cell_at q' D.mir ws b o)) (sym ev) refl $ move ! (1 ∷ 0 ∷ 2 ∷ []) $ shuts ! tt D q' (w, (p, tt)) vs b o $ move ! (3 ∷ 0 ∷ []) $
    shr_bor-open ! tt (tokens_halve 𝓛 α) (λ s. let Won : ℕ → Fml = steps.Sight 𝓛 R L (place z) z empty wb wo m x h.seat h.steps in let after : ℕ → Fml = λ n. fsep (flft α s) (Won n) in
    move ! (4 ∷ 5 ∷ 6 ∷ []) $ opens ! tt Sr b' o' (λ ts. move ! (1 ∷ []) $ fsplit ! $ rewrite ! 1 (λ (u : BlockId). ‵ (seat_has R (place u) u h.right m x h.seat h.steps)) asked.2 refl $
    -- [the field; what the seat has; its cell; three entries; the open borrow; the block's token; self; the invariant; others]
    move ! (9 ∷ 7 ∷ 1 ∷ []) $ use3 𝓛 (raw (𝓣.C _ (vptr wb wo ∷ seq_cst ∷ []) (λ u. mean 𝓛 (found after u))))
    (via 𝓤 _ (steps.looks 𝓛 R L (place z) z empty wb wo m x h.seat h.steps h.right (steps.one_or_two h.right asked.1) s) (loads 𝓛 𝓜 𝓡 (code.calls-core::raw_atomic::load 𝓡.env wired) (block_ptr wb wo) after)) $
    sets ! (agg ! (and_then ! (lit ! tt) (no_more !))) refl (tt, (record { fits = lit< tt }, tt)) $
    Calls-last ! (fm 𝓛 𝓜 𝓡) (found after) (and_then ! (get ! refl) (and_then ! (get ! refl) (no_more !))) (λ u. finds ! after (λ n fits.
    lands_last ! refl (tt, record { fits = fits }) $ exec ! 𝓣.C 𝓣.Λ Ev (tail fn.body) (at_ret Ev Post) $ sets ! (of_opd ! (get ! refl)) refl (tt, record { fits = fits }) $
    fsplit ! $ move ! (7 ∷ 0 ∷ []) $ obor_close ! tt $ drop ! $ move ! (1 ∷ []) $ fpick ! (λ won. fsplit ! $ fpick ! (λ told. drop ! $ let k : ℕ = steps.rank 𝓛 R L (place z) z empty wb wo won in let on : List Entry = h.steps ++ entry looking h.seat n n 0 ∷ [] in
    use1 𝓛 (later (‵ (seat_has R (place z) z k m x h.seat on))) (steps.has_looked 𝓛 R L (place z) z empty wb wo m x h.seat h.steps n won told) $ await ! tt $
    rewrite ! 0 (λ (u : BlockId). ‵ (seat_has R (place u) u k m x h.seat on)) (sym asked.2) refl $
    -- [what the seat has; a token of κ; the field; the seat's cell; its open borrow; obs; auth; self; others]
    sets ! (bin ! (get ! refl) (lit ! tt) tt) refl (tt, tt) $ first ! $ branches ! (get ! refl)
    (λ more. let h₁ : Sr.Denot = with_look (with_right h 1) n in let ne : n ≢ 2 = is_not n 2 more in let above : 2 < n = (let two = told.2 in omega arith) in
    sets ! (agg ! (and_then ! (lit ! tt) (and_then ! (get ! refl) (no_more !)))) refl (tt, (record { fits = lit< tt }, (record { fits = fits }, tt))) $
    rewrite ! 0 (λ (j : ℕ). ‵ (seat_has R e h.id j m x h.seat on)) (told.1 ne) refl $ move ! (2 ∷ 0 ∷ []) $ fjoin ! $ move ! (2 ∷ 0 ∷ 3 ∷ 4 ∷ 5 ∷ []) $ closes ! tt Sr h₁ ts b' o' $
    use1 𝓛 (‵ (fres γ (Sr.coded.code h₁))) (𝓛.names.obs-res γ (Sr.coded.code h₁)) $ move ! (3 ∷ 5 ∷ []) $ join ! $ move ! (3 ∷ 0 ∷ []) $ join ! $
    let A₂ : Type 0 = Unit {0} in let A₃ : Type 0 = (2 < n) × (n ≤ 4294967295) in
    use0 𝓛 (raw (fact 𝓤 A₃)) (fact_i 𝓤 A₃ (emp 𝓤) (above, told.3)) $ use0 𝓛 (raw (fact 𝓤 A₂)) (fact_i 𝓤 A₂ (emp 𝓤) tt) $ join ! $ move ! (2 ∷ 0 ∷ []) $ join ! $
    flt_i ! n (2 ^ 64) fits $ feq_i ! (List Val) (vint w64 n ∷ []) (vint w64 n ∷ []) refl $ fjoin ! $
    use1 𝓛 (‵ ((RS.the_row Lent u64).own_val (Err n) (live 1 (vcons (vint w64 n) vnil) ∷ []))) (err_of 𝓛 Lent u64 n (vint w64 n)) $ nothing ! $ nothing ! $ fjoin ! $ nothing ! $ fjoin ! $ nothing ! $ fjoin ! $
    returns_within ! Post refl (look_at ! 0 refl) $ free_all ! refl $ keep ! (3 ∷ 0 ∷ 1 ∷ 2 ∷ []) $ by ! (leaves 𝓛 En hs c y (live 1 (vcons (vint w64 n) vnil)) (Err n) (tt, (tt, (tt, tt))) (tt, (tt, (tt, tt)))))
    (λ last. let eq : n ≡ 2 = is_so n 2 last in
    skips ! $ exec ! 𝓣.C 𝓣.Λ Ev (tail (tail (tail (tail fn.body)))) (at_ret Ev Post) $
    rewrite ! 0 (λ (v : ℕ × ℕ). ‵ (seat_has R e h.id v.0 m x h.seat (h.steps ++ entry looking h.seat v.1 v.1 0 ∷ []))) (λ v. (told.0 eq v, eq v)) refl $ move ! (7 ∷ 1 ∷ []) $
    looks ! tt D (table_opens R 𝓛) (w, (p, tt)) b o (λ r' us. move ! (1 ∷ []) $ peeks ! D (Is D) (shows 𝓛 D) (w, (p, tt)) us (λ still. let eu : us ≡ pair_of w p ∷ [] = table_told R w p us still in
    rewrite ! 1 (λ (ws : List Val). ‵ (cell_at r' D.mir ws b o)) eu refl $ first ! $ blocks ! $
    sets ! (is ! (of_opd ! (load ! (through ! refl (fld ! refl (stop !))) (look_in ! 1 (sub ! 1 refl (whole !))))) (ap ptr_val cells_at)) refl (tt, tt) $
    sets ! (is ! (bin ! (get ! refl) (size_word !) (record { fits = subst (λ (j : ℕ). j < 2 ^ 64) (sym (uncapped i sz near)) near })) (ap (vint w64) (uncapped i sz near))) refl (tt, record { fits = near }) $
    sets ! (bin ! (get ! refl) (get ! refl) tt) refl (tt, tt) $ sets ! (addr ! (through ! refl (stop !))) refl (tt, tt) $ sets_last ! (agg ! (and_then ! (lit ! tt) (and_then ! (get ! refl) (no_more !)))) refl (tt, (record { fits = lit< tt }, (tt, tt))) $
    exec ! 𝓣.C 𝓣.Λ Ev (tail (tail (tail (tail (tail fn.body))))) (at_ret Ev Post) $ sets ! (of_opd ! (get ! refl)) refl (tt, (record { fits = lit< tt }, (tt, tt))) $
    rewrite ! 1 (λ (ws : List Val). ‵ (cell_at r' D.mir ws b o)) (sym eu) refl $ move ! (1 ∷ 0 ∷ 2 ∷ []) $ shuts ! tt D r' (w, (p, tt)) us b o $
    move ! (2 ∷ 0 ∷ 3 ∷ 4 ∷ 5 ∷ 6 ∷ 7 ∷ 1 ∷ []) $ fsplit ! $ fsplit ! $ move ! (0 ∷ 2 ∷ []) $ fjoin ! $ move ! (1 ∷ []) $ rewrite ! 0 (λ (r : Ptr). ‵ (lies_at R full_share r x)) ate refl $ move ! (1 ∷ 0 ∷ []) $
    let two : List Entry = h.steps ++ entry looking h.seat 2 2 0 ∷ [] in let Rest : Fml = fsep (fsep (out h.id.alone_name) (sits h.id h.seat (holder 2 two))) (fsep (E.own_val (tt, tt) ts) (cell_at full_share Sr.mir ts b' o')) in
    let back : (v : X.Denot) → ent 𝓤 (sep 𝓤 (sem 𝓛 ((mem R).own_at v eb eo)) (sem 𝓛 Rest)) (sem 𝓛 ((mem Sr).own_at (F v) b' o')) = λ v.
    qed 𝓛 (‵ (part_at R full_share v eb eo) ∷ ‵ Rest ∷ []) ∵ rewrite ! 0 (λ (r : Ptr). ‵ (lies_at R full_share r v)) (sym ate) refl $ move ! (1 ∷ []) $ fsplit3 ! $ fsplit ! $ move ! (0 ∷ 4 ∷ []) $ fjoin ! $ fjoin ! $
    move ! (1 ∷ 0 ∷ []) $ fjoin ! $ move ! (1 ∷ 0 ∷ []) $ fjoin ! $ fpack ! (List Val) (λ us. fsep (cell_at full_share Sr.mir us b' o') (Sr.own_val (F v) us)) ts $ done ! in
    move ! (0 ∷ 3 ∷ 4 ∷ []) $ fjoin3 ! $ move ! (3 ∷ 4 ∷ 5 ∷ 1 ∷ 0 ∷ []) $ group ! 5 $
    use1 𝓛 (later (some (λ (γ' : ℕ). raw (Part 𝓛 Sr R F (named 0) κ q b' o' eb eo γ (sem 𝓛 Rest) back x γ')))) (lends_Part 𝓛 Sr R F (named 0) κ q b' o' eb eo γ (sem 𝓛 Rest) back (Sr.coded.code h) (Sr.coded.code h) x) $ await ! tt $ pick ! (λ γ'.
    let r : MutBor X.Denot = record { ref_ptr = (eb, eo); ghost_name = γ'; now = x } in let v : Val = vptr eb eo in
    use1 𝓛 (‵ (Lent.own_val r (v ∷ [])) ⊛ ‵ (flft κ q) ⊛ ‵ (follows Sr R γ γ' F)) (id⊢ 𝓤 _) $ split3 ! $ move ! (3 ∷ 5 ∷ []) $ join ! $ move ! (2 ∷ 0 ∷ []) $ join ! $ move ! (1 ∷ []) $
    use1 𝓛 (‵ ((RS.the_row Lent u64).own_val (Ok r) (live 0 (vcons v vnil) ∷ []))) (ok_of 𝓛 Lent u64 r v) $
    let A₂ : Type 0 = x ≡ x in let A₃ : Type 0 = Unit {0} in
    use0 𝓛 (raw (fact 𝓤 A₃)) (fact_i 𝓤 A₃ (emp 𝓤) tt) $ use0 𝓛 (raw (fact 𝓤 A₂)) (fact_i 𝓤 A₂ (emp 𝓤) refl) $ join ! $ move ! (3 ∷ 0 ∷ []) $ join ! $ nothing ! $ nothing ! $ fjoin ! $ nothing ! $ fjoin ! $ nothing ! $ fjoin ! $
    returns ! (look_at ! 0 refl) $ free_all ! refl $ keep ! (3 ∷ 0 ∷ 2 ∷ 1 ∷ []) $ by ! (leaves 𝓛 En hs c y (live 0 (vcons v vnil)) (Ok r) (tt, (tt, (tt, tt))) (tt, (tt, (tt, tt))))))))))))))))))))
