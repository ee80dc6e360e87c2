-- `get` shows the value for as long as the seat is borrowed.
use Rattle.atomic_table.proofs.Names.{◌≡◌, ℕ, ◌+◌, ◌*◌, ◌^◌, ◌<◌, List, [], ◌∷◌, length, sym, refl, ap, ◌∙◌, subst, arith, w64, a_type, named, Val, vint, vptr, inst_fn, SProp, emp, Lft, Fml, ftrue, fsep, flft, ‵, raw, ◌⊛◌, at_ret, ◌$◌, ◌∵◌, !, qed, by, move, keep, drop, split, join, fsplit, fsplit3, fjoin, fpick, use0, use1, rewrite, feq_i, stop, fld, load, addr, of_opd, bin, size_word, first, blocks, exec, returns, enter, alloc_all, pass_all, free_all, look_at, get, through, sets, sets_last, is, env, sub, whole, look_in, tables, yes, RattleType, owns, types_at, plain, Ptr, block_ptr, ptr_val, block_of, count_of, at_block, nothing, heard, param, layouts, Stays, stay_dropped, walk_of, Goes-dropped, fact, fact_i, Is, shows, cell_at, hidden_shr, mem, peeks, RefOf, usize, shr_vals, shr_Tells, uint_vals, uint_Tells, unhide, looks, shuts, lent_out}
use base.Fml.{fhide}
use denote.Opens.{hide}
use denote.Param.Laws.{param_laws}
use denote.Struct.Lending.{lent_at}
use Rattle.core.specs.contracts.marker.PhantomData as marker
use Rattle.core.proofs.atomic.Steps.{tail}
use Rattle.atomic_table.proofs.Walks.{proved, leaves}
use Rattle.jyard.specs.Units.{BlockId, id_at, place, block_shares, table_shares, seat_shows}
use Rattle.jyard.specs.contracts.table.Table as table
use Rattle.jyard.specs.contracts.table.Seat as seat
use Rattle.jyard.proofs.Fields.{pair_of, TableData, SeatData, table_told, table_opens}
use Rattle.jyard.proofs.Laws.{shown_at, seat_sees}
use Rattle.jyard.proofs.Offsets.{uncapped}
use Rattle.jyard.specs.contracts.table.Seat.get.{ended, clauses}
use Rattle.jyard.specs.contracts.table.Seat.get.Key.{name as #self}
use Rattle.jyard.proofs.table.Seat.get.Statement.{statement}
use Rattle.jyard.proofs.table.Seat.get.Code as code

pub get_spec : {M : Type 1} → statement M
get_spec 𝓤 𝓛 𝓜 𝓡 wired X LX =
    let H = 𝓛.H in let 𝓣 = tables 𝓤 H 𝓜 𝓡 𝓡.env in let R : RattleType = param 0 X in let En = ended X in let c = clauses X 𝓛 𝓜.mem 𝓡.returns in let laws = (param_laws 0 X LX).shr_laws in
    let inst = layouts (a_type ∷ []) (X, tt) in let fn = inst_fn inst code.function in let Row : RattleType = table.the_row R in let Sr : RattleType = seat.the_row R in let D : RattleType = TableData R in let E : RattleType = SeatData R in
    let self = RefOf (0 ∷ []) tt (plain (λ _. Sr)) (λ _. tt) in let whole_table = RefOf (0 ∷ []) tt (plain (λ _. Row)) (λ _. tt) in let number = plain (λ _. usize) in let hs : Stays En.signature.params En.kept = (stay_dropped self yes, (stay_dropped whole_table yes, (stay_dropped number yes, tt))) in
    proved 𝓛 En hs c 𝓜 𝓡 (Goes-dropped 𝓛 2 self yes (λ κs x f. refl), (Goes-dropped 𝓛 2 whole_table yes (λ κs x f. refl), (Goes-dropped 𝓛 2 number yes (λ κs x f. refl), tt))) (#self inst) fn (code.unfolded 𝓤 H 𝓜 𝓡 wired (X, tt))
    (λ κs. (shr_vals, (shr_vals, (uint_vals w64, tt)))) (λ κs. (shr_Tells (named 0) κs.0 Sr, (shr_Tells (named 0) κs.0 Row, (uint_Tells w64, tt)))) (λ κs qs bounds a gh are.
    let b : ℕ = a.1.0.ref_ptr.0 in let o : ℕ = a.1.0.ref_ptr.1 in let b' : ℕ = a.0.ref_ptr.0 in let o' : ℕ = a.0.ref_ptr.1 in let κ : Lft = κs.0 in let others : Fml = fsep (flft κs.1.0 qs.1.0) ftrue in
    let t : Row.Denot = a.1.0.now in let w : Ptr = t.words in let p : Ptr = t.cells in let ids : List BlockId = t.ids in let empty : X.Denot = t.empty in let i : ℕ = a.1.1.0 in let z : BlockId = id_at ids i in let sz : ℕ = (mem R).size in let pb : ℕ = block_of p in let po : ℕ = i * sz + count_of p in
    let d : Sr.Denot = a.0.now in let x : X.Denot = d.value in let Asked : Type 0 = (i < length ids) × (0 < d.right) × (d.id ≡ z) in let there : Val = vptr pb po in
    let y : (walk_of 𝓛 En hs c).Ghost = ((κs, qs, bounds, a, (vptr b' o' ∷ [], (vptr b o ∷ [], (vint w64 i ∷ [], tt)))), gh) in let Post : Val → SProp 𝓤 = (walk_of 𝓛 En hs c).post y in
    qed 𝓛 (((‵ (flft κ qs.0) ⊛ ‵ others) ⊛ ‵ (owns (types_at En.signature.params κs) a y.0.4)) ∷ raw (fact 𝓤 _) ∷ raw (fact 𝓤 Asked) ∷ []) ∵
    keep ! (2 ∷ 0 ∷ []) $ heard ! Asked (λ asked. split ! $ split ! $ move ! (2 ∷ []) $ fsplit3 ! $ fsplit ! $ move ! (2 ∷ []) $ fsplit ! $ keep ! (1 ∷ 3 ∷ 5 ∷ 6 ∷ []) $
    -- [the table; the seat; the token of κ; others]
    enter ! 𝓣.C 𝓣.Λ fn (vptr b' o' ∷ vptr b o ∷ vint w64 i ∷ []) Post $ alloc_all ! (λ l. pass_all ! refl ((tt, tt), ((tt, tt), ((tt, record { fits = are.1.1.0.1 }), tt))) $ let Ev = env fn.locals l in
    use1 𝓛 (‵ (hidden_shr D κ (w, (p, tt)) b o) ⊛ ‵ (fhide (table_shares R p w empty ids κ))) (lent_out 𝓛 (table.struct R) (table.the_codes X.Denot R.coded) (table.the_heap R) (table.the_lent R) κ t b o) $
    split ! $ move ! (1 ∷ []) $ unhide ! $ use1 𝓛 (‵ (block_shares R p w empty i z κ)) (shown_at R p w empty 𝓛 κ ids i asked.0) $ fsplit ! $ move ! (1 ∷ []) $ fsplit ! $ fpick ! (λ inb. drop ! $ drop ! $ drop ! $
    let at : p ≡ block_ptr pb (count_of p) = at_block p inb.1 in let low = inb.3 in let small : i * sz < 2 ^ 64 = omega arith in let is_there : place d.id ≡ block_ptr pb po = ap place asked.2 ∙ inb.4 in
    move ! (0 ∷ 2 ∷ []) $ looks ! tt D (table_opens R 𝓛) (w, (p, tt)) b o (λ q' vs. move ! (1 ∷ []) $ peeks ! D (Is D) (shows 𝓛 D) (w, (p, tt)) vs (λ so. let ev : vs ≡ pair_of w p ∷ [] = table_told R w p vs so in
    rewrite ! 1 (λ (ws : List Val). ‵ (cell_at q' D.mir ws b o)) ev refl $ first ! $ blocks ! $
    sets ! (is ! (of_opd ! (load ! (through ! refl (fld ! refl (stop !))) (look_in ! 1 (sub ! 1 refl (whole !))))) (ap ptr_val at)) refl (tt, tt) $
    sets ! (is ! (bin ! (get ! refl) (size_word !) (record { fits = subst (λ (j : ℕ). j < 2 ^ 64) (sym (uncapped i sz small)) small })) (ap (vint w64) (uncapped i sz small))) refl (tt, record { fits = small }) $
    sets ! (bin ! (get ! refl) (get ! refl) tt) refl (tt, tt) $ sets_last ! (addr ! (through ! refl (stop !))) refl (tt, tt) $ exec ! 𝓣.C 𝓣.Λ Ev (tail fn.body) (at_ret Ev Post) $ sets ! (of_opd ! (get ! refl)) refl (tt, tt) $
    rewrite ! 1 (λ (ws : List Val). ‵ (cell_at q' D.mir ws b o)) (sym ev) refl $ move ! (1 ∷ 0 ∷ 2 ∷ []) $ shuts ! tt D q' (w, (p, tt)) vs b o $ move ! (2 ∷ []) $
    -- [the seat; the token of κ; the table; others]
    use1 𝓛 (‵ (hidden_shr E κ (tt, tt) b' o') ⊛ ‵ (fhide (seat_shows R (place d.id) d.id d.right d.round x κ))) (lent_out 𝓛 (seat.struct R) (seat.the_codes X.Denot R.coded (marker.the_row R).coded) (seat.the_heap R) (seat.the_lent R) κ d b' o') $
    split ! $ move ! (1 ∷ []) $ unhide ! $ fsplit ! $ move ! (1 ∷ []) $ drop ! $ use1 𝓛 (‵ (lent_at R (place d.id) x κ)) (seat_sees R laws (place d.id) d.id 𝓛 d.right d.round x κ asked.1) $ rewrite ! 0 (λ (r : Ptr). ‵ (lent_at R r x κ)) is_there refl $ fsplit ! $ drop ! $ hide ! $
    move ! (2 ∷ 4 ∷ []) $ join ! $ move ! (1 ∷ []) $ feq_i ! (List Val) (there ∷ []) (there ∷ []) refl $ fjoin ! $
    use0 𝓛 (raw (fact 𝓤 (x ≡ x))) (fact_i 𝓤 (x ≡ x) (emp 𝓤) refl) $ nothing ! $ nothing ! $ fjoin ! $ nothing ! $ fjoin ! $ nothing ! $ fjoin ! $
    returns ! (look_at ! 0 refl) $ free_all ! refl $ keep ! (3 ∷ 0 ∷ 2 ∷ 1 ∷ []) $ by ! (leaves 𝓛 En hs c y there (record { ref_ptr = (pb, po); now = x }) (tt, (tt, (tt, tt))) (tt, (tt, (tt, tt))))))))))
