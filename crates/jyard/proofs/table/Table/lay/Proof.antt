-- Words and values go under the invariants of their blocks.
use Rattle.atomic_table.proofs.Names.{◌≡◌, List, [], ◌∷◌, ℕ, length, refl, a_type, Val, inst_fn, SProp, emp, Ptr, fact, fact_i, ‵, raw, ◌⊛◌, some, given, later, await, ◌$◌, ◌∵◌, !, qed, by, move, keep, split, fsplit, fsplit3, fjoin, pick, learn, use0, use2, rewrite, stop, fld, no_more, and_then, of_opd, returns, enter, alloc_all, pass_all, free_all, look_at, get, get_in, sets, agg, sub, whole, tables, no, yes, RattleType, owns, types_at, plain, nothing, heard, param, layouts, Stays, stay_dropped, walk_of, Goes-dropped, InBlock, u64, replicate}
use denote.Triple.Entry.{alive}
use Rattle.atomic_table.proofs.Walks.{proved, leaves}
use Rattle.atomic_table.specs.Seated.{strip}
use Rattle.jyard.specs.Units.{BlockId, table_owns}
use Rattle.jyard.specs.contracts.table.Table as table
use Rattle.jyard.specs.contracts.strip.Strip as strips
use Rattle.jyard.proofs.Fields.{pair_of, strip_of, ptr_good, strip_good, pair_good, TableData, table_made}
use Rattle.jyard.proofs.Strips.{strip_told}
use Rattle.jyard.proofs.Laying.{lays}
use Rattle.jyard.specs.contracts.table.Table.lay.{ended, clauses}
use Rattle.jyard.specs.contracts.table.Table.lay.Key.{name as #self}
use Rattle.jyard.proofs.table.Table.lay.Statement.{statement}
use Rattle.jyard.proofs.table.Table.lay.Code as code

pub lay_spec : {M : Type 1} → statement M
lay_spec 𝓤 𝓛 𝓜 𝓡 wired X LX =
    let H = 𝓛.H in let 𝓣 = tables 𝓤 H 𝓜 𝓡 𝓡.env in let R : RattleType = param 0 X in let En = ended X in let c = clauses X 𝓛 𝓜.mem 𝓡.returns in
    let inst = layouts (a_type ∷ []) (X, tt) in let fn = inst_fn inst code.function in let Row : RattleType = table.the_row R in let Ws : RattleType = strips.the_row u64 in let Ss : RattleType = strips.the_row R in
    let hs : Stays En.signature.params En.kept = (stay_dropped (plain (λ _. Ws)) yes, (stay_dropped (plain (λ _. Ss)) no, tt)) in
    proved 𝓛 En hs c 𝓜 𝓡 (Goes-dropped 𝓛 1 (plain (λ _. Ws)) yes (λ κs x f. refl), (Goes-dropped 𝓛 1 (plain (λ _. Ss)) no (λ κs x f. refl), tt)) (#self inst) fn (code.unfolded 𝓤 H 𝓜 𝓡 wired (X, tt))
    (λ κs. ((λ e. strip_of e.ptr ∷ []), ((λ e. strip_of e.ptr ∷ []), tt))) (λ κs. ((λ e vs so. strip_told u64 e.ptr vs so.0), ((λ e vs so. strip_told R e.ptr vs so.0), tt))) (λ κs qs bounds a gh are.
    let w : Ptr = a.0.ptr in let p : Ptr = a.1.0.ptr in let ns : List ℕ = a.0.items in let xs : List X.Denot = a.1.0.items in let n : ℕ = length xs in let Asked : Type 0 = (x : X.Denot) × (ns ≡ replicate n 0) × (xs ≡ replicate n x) in
    let y : (walk_of 𝓛 En hs c).Ghost = ((κs, qs, bounds, a, (strip_of w ∷ [], (strip_of p ∷ [], tt))), gh) in let Post : Val → SProp 𝓤 = (walk_of 𝓛 En hs c).post y in
    qed 𝓛 ((raw (alive 𝓛 En.signature κs qs) ⊛ ‵ (owns (types_at En.signature.params κs) a y.0.4)) ∷ raw (fact 𝓤 _) ∷ raw (fact 𝓤 Asked) ∷ []) ∵
    keep ! (2 ∷ 0 ∷ []) $ heard ! Asked (λ asked. let x : X.Denot = asked.0 in split ! $ move ! (1 ∷ []) $ fsplit3 ! $ fsplit ! $ move ! (2 ∷ []) $ fsplit ! $ keep ! (3 ∷ 1 ∷ 5 ∷ []) $
    rewrite ! 0 (λ (ms : List ℕ). ‵ (strip u64 w ms)) asked.1 refl $ rewrite ! 1 (λ (ys : List X.Denot). ‵ (strip R p ys)) asked.2 refl $
    enter ! 𝓣.C 𝓣.Λ fn (strip_of w ∷ strip_of p ∷ []) Post $ alloc_all ! (λ l. pass_all ! refl (strip_good w, (strip_good p, tt)) $
    use2 𝓛 (later (some (λ (zs : List BlockId). given ((length zs ≡ n) × InBlock w × InBlock p) (‵ (table_owns R p w x zs))))) (lays 𝓛 R w p x n) $ await ! tt $ pick ! (λ zs. learn ! (λ so.
    let t : Row.Denot = record { words = w; cells = p; ids = zs; empty = x } in
    use0 𝓛 (‵ ((TableData R).own_val (w, (p, tt)) (pair_of w p ∷ []))) (table_made R 𝓛 w p) $ fjoin ! $
    sets ! (of_opd ! (get_in ! (fld ! refl (stop !)) (sub ! 0 refl (whole !)))) refl (ptr_good w) $ sets ! (of_opd ! (get_in ! (fld ! refl (stop !)) (sub ! 0 refl (whole !)))) refl (ptr_good p) $
    sets ! (agg ! (and_then ! (get ! refl) (and_then ! (get ! refl) (no_more !)))) refl (pair_good w p) $
    let Told : Type 0 = (length zs ≡ n) × (xs ≡ replicate n x) × (w ≡ w) × (p ≡ p) in use0 𝓛 (raw (fact 𝓤 Told)) (fact_i 𝓤 Told (emp 𝓤) (so.0, asked.2, refl, refl)) $ nothing ! $ nothing ! $ fjoin ! $ nothing ! $ fjoin ! $
    returns ! (look_at ! 0 refl) $ free_all ! refl $ keep ! (3 ∷ 0 ∷ 2 ∷ 1 ∷ []) $ by ! (leaves 𝓛 En hs c y (pair_of w p) t (tt, (tt, tt)) (tt, (tt, tt))))))))
