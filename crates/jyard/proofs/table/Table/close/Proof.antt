-- The lifetimes of the blocks end, and what they lent comes back.
use Rattle.atomic_table.proofs.Names.{◌≡◌, List, [], ◌∷◌, ℕ, length, refl, a_type, Val, inst_fn, SProp, emp, Ptr, fact, fact_i, ‵, raw, ◌⊛◌, some, given, later, await, ◌$◌, ◌∵◌, !, qed, by, move, keep, split, fsplit, fjoin, pick, learn, use0, use1, fjoin3, feq_i, fpack, vstruct, of_list, ◌++◌, Valss, fsep, stop, fld, no_more, and_then, of_opd, returns, enter, alloc_all, pass_all, free_all, look_at, get, get_in, sets, agg, sub, whole, tables, no, RattleType, owns, types_at, plain, nothing, param, layouts, Stays, stay_dropped, walk_of, Goes-dropped, u64, replicate}
use base.Fml.{feq}
use denote.Triple.Entry.{alive}
use Rattle.atomic_table.proofs.Walks.{proved, leaves}
use Rattle.atomic_table.specs.Seated.{strip}
use Rattle.jyard.specs.Units.{BlockId}
use Rattle.jyard.specs.contracts.table.Table as table
use Rattle.jyard.specs.contracts.strip.Strip as strips
use Rattle.jyard.proofs.Fields.{pair_of, strip_of, ptr_good, strip_good, pair_good, strips_of, strips_good, table_told}
use Rattle.jyard.proofs.Strips.{StripData, strip_made}
use Rattle.jyard.proofs.Laying.{ends}
use Rattle.jyard.specs.contracts.table.Table.close.{ended, clauses}
use Rattle.jyard.specs.contracts.table.Table.close.Key.{name as #self}
use Rattle.jyard.proofs.table.Table.close.Statement.{statement}
use Rattle.jyard.proofs.table.Table.close.Code as code

pub close_spec : {M : Type 1} → statement M
close_spec 𝓤 𝓛 𝓜 𝓡 wired X LX =
    let H = 𝓛.H in let 𝓣 = tables 𝓤 H 𝓜 𝓡 𝓡.env in let R : RattleType = param 0 X in let En = ended X in let c = clauses X 𝓛 𝓜.mem 𝓡.returns in
    let inst = layouts (a_type ∷ []) (X, tt) in let fn = inst_fn inst code.function in let Row : RattleType = table.the_row R in let Ws : RattleType = strips.the_row u64 in let Ss : RattleType = strips.the_row R in
    let hs : Stays En.signature.params En.kept = (stay_dropped (plain (λ _. Row)) no, tt) in
    proved 𝓛 En hs c 𝓜 𝓡 (Goes-dropped 𝓛 1 (plain (λ _. Row)) no (λ κs x f. refl), tt) (#self inst) fn (code.unfolded 𝓤 H 𝓜 𝓡 wired (X, tt))
    (λ κs. ((λ e. pair_of e.words e.cells ∷ []), tt)) (λ κs. ((λ e vs so. table_told R e.words e.cells vs so.0), tt)) (λ κs qs bounds a gh are.
    let t : Row.Denot = a.0 in let w : Ptr = t.words in let p : Ptr = t.cells in let zs : List BlockId = t.ids in let n : ℕ = length zs in let x : X.Denot = t.empty in let u : Val = strips_of w p in
    let y : (walk_of 𝓛 En hs c).Ghost = ((κs, qs, bounds, a, (pair_of w p ∷ [], tt)), gh) in let Post : Val → SProp 𝓤 = (walk_of 𝓛 En hs c).post y in
    qed 𝓛 ((raw (alive 𝓛 En.signature κs qs) ⊛ ‵ (owns (types_at En.signature.params κs) a y.0.4)) ∷ raw ((c κs a).requires gh) ∷ []) ∵
    split ! $ move ! (1 ∷ []) $ fsplit ! $ fsplit ! $ keep ! (1 ∷ 3 ∷ []) $
    enter ! 𝓣.C 𝓣.Λ fn (pair_of w p ∷ []) Post $ alloc_all ! (λ l. pass_all ! refl (pair_good w p, tt) $
    use1 𝓛 (later (some (λ (e : List ℕ × List X.Denot). given ((length e.0 ≡ n) × (e.0 ≡ replicate n 0 → e.1 ≡ replicate n x)) (‵ (strip u64 w e.0) ⊛ ‵ (strip R p e.1))))) (ends 𝓛 R w p x zs) $ await ! tt $ pick ! (λ e. learn ! (λ so. split ! $
    let r₀ : Ws.Denot = record { ptr = w; items = e.0 } in let r₁ : Ss.Denot = record { ptr = p; items = e.1 } in
    let Told : Type 0 = (w ≡ w) × (p ≡ p) × (length e.0 ≡ n) × (e.0 ≡ replicate n 0 → e.1 ≡ replicate n x) in
    use0 𝓛 (‵ ((StripData u64).own_val (w, tt) (strip_of w ∷ []))) (strip_made u64 𝓛 w) $ fjoin ! $ move ! (1 ∷ []) $
    use0 𝓛 (‵ ((StripData R).own_val (p, tt) (strip_of p ∷ []))) (strip_made R 𝓛 p) $ fjoin ! $ nothing ! $ move ! (2 ∷ 1 ∷ 0 ∷ []) $ fjoin3 ! $ feq_i ! (List Val) (u ∷ []) (u ∷ []) refl $ fjoin ! $
    fpack ! (Valss (Ws ∷ Ss ∷ [])) (λ vss. fsep (feq (List Val) (u ∷ []) (vstruct (of_list (vss.0 ++ (vss.1.0 ++ []))) ∷ [])) (owns (Ws ∷ Ss ∷ []) (r₀, (r₁, tt)) vss)) (strip_of w ∷ [], (strip_of p ∷ [], tt)) $
    sets ! (of_opd ! (get_in ! (fld ! refl (stop !)) (sub ! 0 refl (whole !)))) refl (ptr_good w) $ sets ! (of_opd ! (get_in ! (fld ! refl (stop !)) (sub ! 1 refl (whole !)))) refl (ptr_good p) $
    sets ! (agg ! (and_then ! (get ! refl) (no_more !))) refl (strip_good w) $ sets ! (agg ! (and_then ! (get ! refl) (no_more !))) refl (strip_good p) $ sets ! (agg ! (and_then ! (get ! refl) (and_then ! (get ! refl) (no_more !)))) refl (strips_good w p) $
    use0 𝓛 (raw (fact 𝓤 Told)) (fact_i 𝓤 Told (emp 𝓤) (refl, refl, so.0, so.1)) $
    nothing ! $ nothing ! $ fjoin ! $ returns ! (look_at ! 0 refl) $ free_all ! refl $ keep ! (3 ∷ 0 ∷ 2 ∷ 1 ∷ []) $ by ! (leaves 𝓛 En hs c y u (r₀, r₁) (tt, tt) (tt, tt))))))
