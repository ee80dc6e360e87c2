-- Axes that end with others: the atoms of one go into those of the other without rest.
use Rattle.std.specs.Prelude.{ℕ, ◌+◌, ◌-◌, ◌*◌, ◌<◌, ◌≤◌, ◌≡◌, ◌⊎◌, List, ◌++◌, length, take, drop}
use Rattle.std.proofs.Common.{arith, sym, ◌∙◌, ap, subst, inl, inr}
use Rattle.std.proofs.Math.Seq.{drop-append-add}
use Rattle.std.proofs.lemmas.Bool.{cases_lt}
use Rattle.std.proofs.lemmas.List.{take-append-drop, drop-append-le}
use Rattle.jdata.specs.Noun.{product}
use Rattle.jdata.proofs.Extents.{product-append}
use Rattle.jdata.proofs.Lists.{factor_some}
use Rattle.jamend.specs.Replacing.{Divides}

-- the product of the last axes divides that of all
pub last_divides : (n : ℕ) (axes : List ℕ) → product axes ≡ product (take n axes) * product (drop n axes)
last_divides n axes = ap product (sym (take-append-drop n axes)) ∙ product-append (take n axes) (drop n axes)

pub parts_fit : (frame cell axes : List ℕ) (n : ℕ) → drop n (frame ++ cell) ≡ axes → Divides (product cell) (product axes) ⊎ Divides (product axes) (product cell)
parts_fit frame cell axes n e = split (cases_lt n (length frame))
  where
    split : (n < length frame) ⊎ (length frame ≤ n) → Divides (product cell) (product axes) ⊎ Divides (product axes) (product cell)
    split (inl h) = inl (product (drop n frame), ap product (sym e ∙ drop-append-le n frame cell (omega (arith, h))) ∙ product-append (drop n frame) cell)
    split (inr h) =
        let rest = n - length frame in
        let same : n ≡ length frame + rest = omega (arith, h) in
        let last : drop rest cell ≡ axes = sym (drop-append-add frame cell rest) ∙ ap (λ m. drop m (frame ++ cell)) (sym same) ∙ e in
        inr (product (take rest cell), last_divides rest cell ∙ ap (λ l. product (take rest cell) * product l) last)

-- where there are atoms in all of them, there are in the last ones
pub last_some : (frame cell axes : List ℕ) (n m : ℕ) → drop n (frame ++ cell) ≡ axes → m ≡ product frame → 0 < m * product cell → 0 < product axes
last_some frame cell axes n m e many some =
    let whole : m * product cell ≡ product (take n (frame ++ cell)) * product axes =
    ap (λ k. k * product cell) many ∙ sym (product-append frame cell) ∙ last_divides n (frame ++ cell) ∙ ap (λ l. product (take n (frame ++ cell)) * product l) e in
    factor_some 0 (product (take n (frame ++ cell))) (product axes) (subst (λ k. 0 < k) whole some)
