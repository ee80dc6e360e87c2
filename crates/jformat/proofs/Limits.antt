-- An array of characters is within the limits where its axes are a shape.
use Rattle.std.proofs.Common.{◌≡◌, ℕ, ◌≤◌, Bool, true, false, cond, Result, Ok, Err, List, length, nat_le, refl, eq-eqb, sym, ap, ◌∙◌, subst, arith}
use Rattle.std.specs.Prelude.{◌&&◌, ◌==◌}
use Rattle.std.proofs.lemmas.Bool.Decides.{nat_tests}
use Rattle.std.proofs.lemmas.Bool.{false_from_ne_true}
use Rattle.jdata.specs.Noun.{shape, atoms, level, product, extent}
use Rattle.jdata.specs.Limits.{is_within, checked}
use Rattle.jdata.specs.declared.noun.Noun.{Noun}
use Rattle.jdata.specs.declared.fault.Fault.{Fault}
use Rattle.jdata.specs.declared.fault.Fault.TheVariants as fault
use Rattle.jdata.specs.declared.tree.BadTree.{BadTree}
use Rattle.jdata.specs.declared.tree.BadTree.TheVariants as bad
use Rattle.jdata.specs.declared.fault.Trouble.{Trouble}
use Rattle.jdata.specs.declared.fault.Trouble.TheVariants as trouble
use Rattle.jdata.specs.Limits.{IsShape}
use Rattle.jdata.specs.Answers.{Answers}
use Rattle.jformat.specs.Troubles.{IsLimitWhere}
use Rattle.jdata.specs.Limits.{limited}

tested : (rank extents levels : ℕ) → (nat_le rank 63 && (nat_le extents 134217728 && nat_le levels 64)) ≡ true → (rank ≤ 63) × (extents ≤ 134217728)
tested rank extents levels h = grind (arith, nat_tests)

-- beyond the limits where the axes are no shape
pub beyond : (v : Noun) → ¬ IsShape (shape v) → limited v ≡ Err fault.Limit
beyond v h =
    ap (λ b. cond b (Ok v) (Err fault.Limit)) (false_from_ne_true (is_within v) (λ e. let parts = tested (length (shape v)) (extent (shape v)) (level v) e in h (record { rank = parts.0; extent_at_most = parts.1 })))

abbrev chosen : Bool → Noun → Result Noun Fault
chosen within v = cond within (Ok v) (Err fault.Limit)

abbrev judged : Bool → Bool → Noun → Result Noun BadTree
judged within whole v = cond within (cond whole (Ok v) (Err (bad.Length (product (shape v)) (length (atoms v))))) (Err bad.Limit)

-- an array that is checked is within them
checked_by : (v : Noun) (within whole : Bool) (t : Noun) → judged within whole v ≡ Ok t → chosen within v ≡ Ok t
checked_by v true true t h = cc
checked_by v true false t h = cc
checked_by v false whole t h = cc

pub checked_ok : (v t : Noun) → checked v ≡ Ok t → limited v ≡ Ok t
checked_ok v t h = checked_by v (is_within v) (length (atoms v) == product (shape v)) t h

refused_by : (v : Noun) (within whole : Bool) (e : BadTree) → whole ≡ true → judged within whole v ≡ Err e → chosen within v ≡ Err fault.Limit
refused_by v true true e w h = cc
refused_by v true false e w h = cc
refused_by v false whole e w h = refl

-- and one that isn't, though it has as many atoms as its shape says, is beyond them
pub checked_err : (v : Noun) (e : BadTree) → length (atoms v) ≡ product (shape v) → checked v ≡ Err e → limited v ≡ Err fault.Limit
checked_err v e l h = refused_by v (is_within v) (length (atoms v) == product (shape v)) e (eq-eqb (length (atoms v)) (product (shape v)) l) h

-- a trouble that comes as the limit where the axes are no shape is the definition's
pub refused : (v : Noun) (axes : List ℕ) (why : Trouble) → axes ≡ shape v → IsLimitWhere why (¬ IsShape axes) → Answers (limited v) (Err why)
refused v axes (trouble.Fault f) e h = beyond v (λ s. h.1 (subst IsShape (sym e) s)) ∙ ap (λ x. Err x) (sym h.0)
refused v axes trouble.NoMemory e h = tt
