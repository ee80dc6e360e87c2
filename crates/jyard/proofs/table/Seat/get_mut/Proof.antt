-- `get_mut` lends the value of a seat that has it whole, and the seat follows it.
use Rattle.atomic_table.proofs.Names.{◌≡◌, ℕ, ◌+◌, ◌*◌, ◌^◌, ◌<◌, List, [], ◌∷◌, length, sym, refl, ap, ◌∙◌, subst, arith, w64, a_type, named, Val, vint, vptr, inst_fn, SProp, ent, sep, emp, id⊢, Lft, Share, Fml, ftrue, fsep, flft, sem, ‵, raw, ◌⊛◌, some, later, await, at_ret, ◌$◌, ◌∵◌, !, qed, by, move, keep, drop, done, split, split3, join, fsplit, fsplit3, fjoin, fjoin3, fpick, fpack, pick, use0, use1, rewrite, group, stop, fld, load, addr, of_opd, bin, size_word, first, blocks, exec, returns, enter, alloc_all, pass_all, free_all, look_at, get, through, sets, sets_last, is, env, sub, whole, look_in, tables, yes, no, RattleType, owns, types_at, plain, Ptr, block_ptr, ptr_val, block_of, count_of, at_block, nothing, heard, param, layouts, Stays, stay_dropped, walk_of, Goes-dropped, Goes-spent_ref, full_share, fact, fact_i, Is, shows, cell_at, part_at, hidden_shr, mem, peeks, RefOf, RefMutOf, usize, mut_vals, mut_Tells, shr_vals, shr_Tells, uint_vals, uint_Tells, opens, unhide, looks, shuts, lent_out}
use base.Fml.{fhide}
use denote.RawPtr.{lies_at}
use denote.Memory.{part_of}
use denote.Ref.{MutRef}
use denote.Follow.{lends_Part, Part, follows}
use denote.Param.Laws.{param_laws}
use Rattle.core.proofs.atomic.Steps.{tail}
use Rattle.atomic_table.proofs.Walks.{proved, leaves}
use Rattle.jyard.specs.Units.{BlockId, id_at, place, block_shares, table_shares, seat_has, whole as all_of}
use Rattle.jyard.specs.Lent.{with_value}
use Rattle.jyard.specs.contracts.table.Table as table
use Rattle.jyard.specs.contracts.table.Seat as seat
use Rattle.jyard.proofs.Fields.{pair_of, TableData, SeatData, table_told, table_opens}
use Rattle.jyard.proofs.Laws.{shown_at, beside_value, value_out, value_in}
use Rattle.jyard.proofs.Offsets.{uncapped}
use Rattle.jyard.specs.contracts.table.Seat.get_mut.{ended, clauses}
use Rattle.jyard.specs.contracts.table.Seat.get_mut.Key.{name as #self}
use Rattle.jyard.proofs.table.Seat.get_mut.Statement.{statement}
use Rattle.jyard.proofs.table.Seat.get_mut.Code as code

pub get_mut_spec : {M : Type 1} → statement M
unfolding part_of
get_mut_spec 𝓤 𝓛 𝓜 𝓡 wired X LX =
    let H = 𝓛.H in let 𝓣 = tables 𝓤 H 𝓜 𝓡 𝓡.env in let R : RattleType = param 0 X in let En = ended X in let c = clauses X 𝓛 𝓜.mem 𝓡.returns in let L = (param_laws 0 X LX).shr_laws in
    let inst = layouts (a_type ∷ []) (X, tt) in let fn = inst_fn inst code.function in let Row : RattleType = table.the_row R in let Sr : RattleType = seat.the_row R in let D : RattleType = TableData R in let E : RattleType = SeatData R in
    let whole_table = RefOf (0 ∷ []) tt (plain (λ _. Row)) (λ _. tt) in let number = plain (λ _. usize) in let hs : Stays En.signature.params En.kept = (stay_dropped (RefMutOf (0 ∷ []) tt (plain (λ _. Sr)) (λ _. tt)) no, (stay_dropped whole_table yes, (stay_dropped number yes, tt))) in
    proved 𝓛 En hs c 𝓜 𝓡 (Goes-spent_ref 𝓛 2 (0 ∷ []) tt (plain (λ _. Sr)), (Goes-dropped 𝓛 2 whole_table yes (λ κs x f. refl), (Goes-dropped 𝓛 2 number yes (λ κs x f. refl), tt))) (#self inst) fn (code.unfolded 𝓤 H 𝓜 𝓡 wired (X, tt))
    (λ κs. (mut_vals, (shr_vals, (uint_vals w64, tt)))) (λ κs. (mut_Tells (named 0) κs.0 Sr, (shr_Tells (named 0) κs.0 Row, (uint_Tells w64, tt)))) (λ κs qs bounds a gh are.
    let b : ℕ = a.1.0.ref_ptr.0 in let o : ℕ = a.1.0.ref_ptr.1 in let b' : ℕ = a.0.ref_ptr.0 in let o' : ℕ = a.0.ref_ptr.1 in let γ : ℕ = a.0.ghost_name in let κ : Lft = κs.0 in let q : Share = qs.0 in let others : Fml = fsep (flft κs.1.0 qs.1.0) ftrue in
    let t : Row.Denot = a.1.0.now in let w : Ptr = t.words in let p : Ptr = t.cells in let ids : List BlockId = t.ids in let empty : X.Denot = t.empty in let i : ℕ = a.1.1.0 in let z : BlockId = id_at ids i in let sz : ℕ = (mem R).size in let pb : ℕ = block_of p in let po : ℕ = i * sz + count_of p in
    let h : Sr.Denot = a.0.now in let π : Ptr = place h.id in let x : X.Denot = h.value in let Asked : Type 0 = (i < length ids) × (1 < h.right) × (h.id ≡ z) in let F : X.Denot → Sr.Denot = with_value h in
    let y : (walk_of 𝓛 En hs c).Ghost = ((κs, qs, bounds, a, (vptr b' o' ∷ [], (vptr b o ∷ [], (vint w64 i ∷ [], tt)))), gh) in let Post : Val → SProp 𝓤 = (walk_of 𝓛 En hs c).post y in
    qed 𝓛 (((‵ (flft κ q) ⊛ ‵ others) ⊛ ‵ (owns (types_at En.signature.params κs) a y.0.4)) ∷ raw (fact 𝓤 _) ∷ raw (fact 𝓤 Asked) ∷ []) ∵
    keep ! (2 ∷ 0 ∷ []) $ heard ! Asked (λ asked. split ! $ split ! $ move ! (2 ∷ []) $ fsplit3 ! $ fsplit3 ! $ move ! (3 ∷ []) $ fsplit ! $ keep ! (1 ∷ 3 ∷ 4 ∷ 6 ∷ 7 ∷ []) $
    -- [the table; two parts of the seat; the token of κ; others]
    enter ! 𝓣.C 𝓣.Λ fn (vptr b' o' ∷ vptr b o ∷ vint w64 i ∷ []) Post $ alloc_all ! (λ l. pass_all ! refl ((tt, tt), ((tt, tt), ((tt, record { fits = are.1.1.0.1 }), tt))) $ let Ev = env fn.locals l in
    use1 𝓛 (‵ (hidden_shr D κ (w, (p, tt)) b o) ⊛ ‵ (fhide (table_shares R p w empty ids κ))) (lent_out 𝓛 (table.struct R) (table.the_codes X.Denot R.coded) (table.the_heap R) (table.the_lent R) κ t b o) $
    split ! $ move ! (1 ∷ []) $ unhide ! $ use1 𝓛 (‵ (block_shares R p w empty i z κ)) (shown_at R p w empty 𝓛 κ ids i asked.0) $ fsplit ! $ move ! (1 ∷ []) $ fsplit ! $ fpick ! (λ inb. drop ! $ drop ! $ drop ! $
    let at : p ≡ block_ptr pb (count_of p) = at_block p inb.1 in let low = inb.3 in let small : i * sz < 2 ^ 64 = omega arith in let is_there : π ≡ block_ptr pb po = ap place asked.2 ∙ inb.4 in
    move ! (0 ∷ 3 ∷ []) $ looks ! tt D (table_opens R 𝓛) (w, (p, tt)) b o (λ q' vs. move ! (1 ∷ []) $ peeks ! D (Is D) (shows 𝓛 D) (w, (p, tt)) vs (λ so. let ev : vs ≡ pair_of w p ∷ [] = table_told R w p vs so in
    rewrite ! 1 (λ (ws : List Val). ‵ (cell_at q' D.mir ws b o)) ev refl $ first ! $ blocks ! $
    sets ! (is ! (of_opd ! (load ! (through ! refl (fld ! refl (stop !))) (look_in ! 1 (sub ! 1 refl (whole !))))) (ap ptr_val at)) refl (tt, tt) $
    sets ! (is ! (bin ! (get ! refl) (size_word !) (record { fits = subst (λ (j : ℕ). j < 2 ^ 64) (sym (uncapped i sz small)) small })) (ap (vint w64) (uncapped i sz small))) refl (tt, record { fits = small }) $
    sets ! (bin ! (get ! refl) (get ! refl) tt) refl (tt, tt) $ sets_last ! (addr ! (through ! refl (stop !))) refl (tt, tt) $ exec ! 𝓣.C 𝓣.Λ Ev (tail fn.body) (at_ret Ev Post) $ sets ! (of_opd ! (get ! refl)) refl (tt, tt) $
    rewrite ! 1 (λ (ws : List Val). ‵ (cell_at q' D.mir ws b o)) (sym ev) refl $ move ! (1 ∷ 0 ∷ 2 ∷ []) $ shuts ! tt D q' (w, (p, tt)) vs b o $ move ! (2 ∷ 3 ∷ 0 ∷ []) $
    opens ! tt Sr b' o' (λ ts. move ! (1 ∷ []) $ fsplit ! $ move ! (1 ∷ []) $
    use1 𝓛 (‵ (beside_value R L π h.id h.right h.seat h.steps) ⊛ ‵ (all_of R π h.id x)) (value_out R L π h.id 𝓛 h.right h.round x h.seat h.steps asked.1) $ split ! $ move ! (1 ∷ []) $ rewrite ! 0 (λ (r : Ptr). ‵ (lies_at R full_share r x)) is_there refl $
    -- [the value; what is beside it; the field; the seat's cell; three entries; the table; others]
    let Rest : Fml = fsep (beside_value R L π h.id h.right h.seat h.steps) (fsep (E.own_val (tt, tt) ts) (cell_at full_share Sr.mir ts b' o')) in
    let back : (v : X.Denot) → ent 𝓤 (sep 𝓤 (sem 𝓛 ((mem R).own_at v pb po)) (sem 𝓛 Rest)) (sem 𝓛 ((mem Sr).own_at (F v) b' o')) = λ v.
    qed 𝓛 (‵ (part_at R full_share v pb po) ∷ ‵ Rest ∷ []) ∵ rewrite ! 0 (λ (r : Ptr). ‵ (lies_at R full_share r v)) (sym is_there) refl $ move ! (1 ∷ []) $ fsplit3 ! $ move ! (0 ∷ 3 ∷ []) $ join ! $
    use1 𝓛 (‵ (seat_has R π h.id h.right h.round v h.seat h.steps)) (value_in R L π h.id 𝓛 h.right h.round v h.seat h.steps asked.1) $ move ! (1 ∷ 0 ∷ []) $ fjoin ! $ move ! (1 ∷ 0 ∷ []) $ fjoin ! $
    fpack ! (List Val) (λ us. fsep (cell_at full_share Sr.mir us b' o') (Sr.own_val (F v) us)) ts $ done ! in
    move ! (1 ∷ 2 ∷ 3 ∷ []) $ fjoin3 ! $ move ! (2 ∷ 3 ∷ 4 ∷ 1 ∷ 0 ∷ []) $ group ! 5 $
    use1 𝓛 (later (some (λ (γ' : ℕ). raw (Part 𝓛 Sr R F (named 0) κ q b' o' pb po γ (sem 𝓛 Rest) back x γ')))) (lends_Part 𝓛 Sr R F (named 0) κ q b' o' pb po γ (sem 𝓛 Rest) back (Sr.coded.code h) (Sr.coded.code h) x) $ await ! tt $ pick ! (λ γ'.
    use1 𝓛 (‵ ((MutRef (named 0) κ R).own_val (record { ref_ptr = (pb, po); ghost_name = γ'; now = x }) (vptr pb po ∷ [])) ⊛ ‵ (flft κ q) ⊛ ‵ (follows Sr R γ γ' F)) (id⊢ 𝓤 _) $ split3 ! $
    move ! (1 ∷ 4 ∷ []) $ join ! $ use0 𝓛 (raw (fact 𝓤 (x ≡ x))) (fact_i 𝓤 (x ≡ x) (emp 𝓤) refl) $ move ! (3 ∷ 0 ∷ []) $ join ! $ nothing ! $ nothing ! $ fjoin ! $ nothing ! $ fjoin ! $ nothing ! $ fjoin ! $
    returns ! (look_at ! 0 refl) $ free_all ! refl $ keep ! (2 ∷ 0 ∷ 3 ∷ 1 ∷ []) $ by ! (leaves 𝓛 En hs c y (vptr pb po) (record { ref_ptr = (pb, po); ghost_name = γ'; now = x }) (tt, (tt, (tt, tt))) (tt, (tt, (tt, tt))))))))))))
