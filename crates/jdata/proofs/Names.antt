-- The test of the names of pyxes tells whether they are one.
use Rattle.std.specs.Prelude.{ℕ, ◌≡◌, ◌&&◌, ◌==◌, eqb, not, Bool, true, false, List, length, take}
use Rattle.std.proofs.Common.{sym, ◌∙◌, ap, refl}
use Rattle.std.specs.Bool.{Decides}
use Rattle.std.proofs.lemmas.Bool.Decides.{Decides-eqb, Decides-and, Decides-like, Decides-not}
use Rattle.std.proofs.lemmas.Slice.Eq.{slice_eq-Decides}
use Rattle.std.proofs.Math.Seq.{take-append_seam}
use lib.Pointwise.{pointwise}
use Rattle.jdata.specs.Paths.{in_four}
use Rattle.jdata.specs.declared.path.PyxId.{PyxId}

first_ones : (l : List ℕ) → take (length l) (in_four l) ≡ l
first_ones l = take-append_seam l _

one_path : (l m : List ℕ) → in_four l ≡ in_four m → length l ≡ length m → l ≡ m
one_path l m e f = sym (first_ones l) ∙ (λ i. take (f i) (e i)) ∙ first_ones m

pub pyxes_decide : (p q : PyxId) → Decides ((pointwise eqb (in_four p.path) (in_four q.path) && (length p.path == length q.path)) && (p.number == q.number)) (p ≡ q)
pyxes_decide p q =
    Decides-like _
    (λ h. let e = one_path p.path q.path h.0.0 h.0.1 in λ i. record { path = e i; number = h.1 i })
    (λ e. ((ap (λ x. in_four x.path) e, ap (λ x. length x.path) e), ap (λ x. x.number) e))
    (Decides-and _ _ (Decides-and _ _ (slice_eq-Decides Decides-eqb (in_four p.path) (in_four q.path) _ refl) (Decides-eqb _ _)) (Decides-eqb _ _))

not_false : {P : Type 0} (b : Bool) → Decides b P → not b ≡ false → P
not_false true d e = d.0 refl
not_false false d e = cc

-- what a test of two lists of axes for a difference tells
pub axes_equal : (s u : List ℕ) (r : Bool) → r ≡ not (pointwise eqb s u) → r ≡ false → s ≡ u
axes_equal s u r is e = not_false _ (slice_eq-Decides Decides-eqb s u _ refl) (sym is ∙ e)

pub axes_differ : (s u : List ℕ) (r : Bool) → r ≡ not (pointwise eqb s u) → r ≡ true → s ≡ u → ⊥
axes_differ s u r is e = (Decides-not _ (slice_eq-Decides Decides-eqb s u _ refl)).0 (sym is ∙ e)
