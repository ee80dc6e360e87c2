-- A row gives up its values, and its places stay.
use Rattle.atomic_table.proofs.Names.{◌≡◌, ℕ, List, [], ◌∷◌, length, refl, a_type, Val, inst_fn, SProp, emp, ‵, raw, ◌⊛◌, ◌$◌, ◌∵◌, !, qed, by, move, keep, split, fsplit, fjoin, use0, use1, stop, fld, of_opd, no_more, and_then, returns, enter, alloc_all, pass_all, free_all, look_at, get, get_in, sets, agg, sub, whole, tables, no, RattleType, owns, types_at, plain, Ptr, nothing, param, layouts, Stays, stay_dropped, walk_of, Goes-dropped, fact, fact_i}
use denote.Triple.Entry.{alive}
use Rattle.atomic_table.proofs.Walks.{proved, leaves}
use Rattle.core.proofs.mem.Param.{El}
use Rattle.jyard.specs.Grounds.{blank}
use Rattle.jyard.specs.contracts.strip.Strip as strips
use Rattle.jyard.specs.contracts.ground.Blank as blanks
use Rattle.jyard.proofs.Fields.{strip_of, ptr_good, strip_good}
use Rattle.jyard.proofs.Strips.{strip_told}
use Rattle.jyard.proofs.Blanks.{BlankData, blank_made, emptied}
use Rattle.jyard.specs.contracts.strip.Strip.into_blank.{ended, clauses}
use Rattle.jyard.specs.contracts.strip.Strip.into_blank.Key.{name as #self}
use Rattle.jyard.proofs.strip.Strip.into_blank.Statement.{statement}
use Rattle.jyard.proofs.strip.Strip.into_blank.Code as code

pub into_blank_spec : {M : Type 1} → statement M
into_blank_spec 𝓤 𝓛 𝓜 𝓡 wired T L =
    let H = 𝓛.H in let 𝓣 = tables 𝓤 H 𝓜 𝓡 𝓡.env in let R : RattleType = param 0 T in let E : El = record { row = T; laws = L } in let En = ended T in let c = clauses T 𝓛 𝓜.mem 𝓡.returns in
    let inst = layouts (a_type ∷ []) (T, tt) in let fn = inst_fn inst code.function in let Ss : RattleType = strips.the_row R in let Bs : RattleType = blanks.the_row R in
    let hs : Stays En.signature.params En.kept = (stay_dropped (plain (λ _. Ss)) no, tt) in
    proved 𝓛 En hs c 𝓜 𝓡 (Goes-dropped 𝓛 1 (plain (λ _. Ss)) no (λ κs x f. refl), tt) (#self inst) fn (code.unfolded 𝓤 H 𝓜 𝓡 wired (T, tt))
    (λ κs. ((λ x. strip_of x.ptr ∷ []), tt)) (λ κs. ((λ x vs so. strip_told R x.ptr vs so.0), tt)) (λ κs qs bounds a gh are.
    let p : Ptr = a.0.ptr in let xs : List T.Denot = a.0.items in let n : ℕ = length xs in let r : Bs.Denot = record { ptr = p; count = n } in let Told : Type 0 = (p ≡ p) × (n ≡ n) in
    let y : (walk_of 𝓛 En hs c).Ghost = ((κs, qs, bounds, a, (strip_of p ∷ [], tt)), gh) in let Post : Val → SProp 𝓤 = (walk_of 𝓛 En hs c).post y in
    qed 𝓛 ((raw (alive 𝓛 En.signature κs qs) ⊛ ‵ (owns (types_at En.signature.params κs) a y.0.4)) ∷ raw ((c κs a).requires gh) ∷ []) ∵
    split ! $ move ! (1 ∷ []) $ fsplit ! $ fsplit ! $ keep ! (1 ∷ 3 ∷ []) $ use1 𝓛 (‵ (blank R p n)) (emptied E 𝓛 p xs) $
    use0 𝓛 (‵ ((BlankData R).own_val (p, tt) (strip_of p ∷ []))) (blank_made R 𝓛 p) $ fjoin ! $
    enter ! 𝓣.C 𝓣.Λ fn (strip_of p ∷ []) Post $ alloc_all ! (λ l. pass_all ! refl (strip_good p, tt) $
    sets ! (of_opd ! (get_in ! (fld ! refl (stop !)) (sub ! 0 refl (whole !)))) refl (ptr_good p) $ sets ! (agg ! (and_then ! (get ! refl) (no_more !))) refl (strip_good p) $
    use0 𝓛 (raw (fact 𝓤 Told)) (fact_i 𝓤 Told (emp 𝓤) (refl, refl)) $ nothing ! $ nothing ! $ fjoin ! $
    returns ! (look_at ! 0 refl) $ free_all ! refl $ keep ! (3 ∷ 0 ∷ 2 ∷ 1 ∷ []) $ by ! (leaves 𝓛 En hs c y (strip_of p) r (tt, tt) (tt, tt))))
