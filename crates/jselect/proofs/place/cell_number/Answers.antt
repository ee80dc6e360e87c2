use Rattle.std.proofs.Common.{List, [], ◌∷◌, zero, suc, ◌≡◌, ◌≤◌, ◌<◌, ◌+◌, ◌*◌, ℕ, ℤ, pos, Ok, length, drop, arith, ap, sym, ◌∙◌, subst, get_or, refl}
use Rattle.jdata.specs.Firsts.{and_then}
use Rattle.jdata.specs.Limits.{most_atoms}
use Rattle.jdata.specs.Noun.{extent}
use Rattle.jdata.proofs.Extents.{extent_some, extent_more}
use Rattle.jselect.specs.Places.{place_in}
use Rattle.jselect.proofs.Cells.{walk, walk_more, walk_from_nothing, walk_fits, walk_ends, place_in_below, FitsAt}
use Rattle.jselect.proofs.place.cell_number.Goals as goal

get_or-same : (l : List ℤ) (k : ℕ) → get_or l k (get_or l k (pos 0)) ≡ get_or l k (pos 0)
get_or-same [] k = refl
get_or-same (n ∷ l) zero = refl
get_or-same (n ∷ l) (suc k) = get_or-same l k

fits_at : (axes : List ℕ) (k cell : ℕ) (i : ℤ) (p : ℕ) → k < length axes → (cell + 1) * extent (drop k axes) ≤ most_atoms → place_in (get_or axes k 0) i ≡ Ok p →
    FitsAt most_atoms cell (get_or axes k 0) p (extent (drop (k + 1) axes))
fits_at axes k cell i p at bound e =
    walk_fits most_atoms cell (get_or axes k 0) p (extent (drop (k + 1) axes)) (extent_some (drop (k + 1) axes))
    (subst (λ e. (cell + 1) * e ≤ most_atoms) (extent_more axes k (get_or axes k 0) at refl) bound)
    (place_in_below (get_or axes k 0) i p e)

pub overflow_mul-cell : goal.overflow_mul-cell
overflow_mul-cell c =
    let at : c.loop-axis.axis < length c.args.axes.now = omega (arith, c.requires.few, c.loop-axis-test.true) in
    let fits = fits_at c.args.axes.now c.loop-axis.axis c.loop-axis.cell _ c.in-Ok.place at c.loop-axis.invariant.bound (sym c.place_on.ensures ∙ c.in-Ok.is) in
    omega (arith, fits.product_fits)

pub overflow_add-cell : goal.overflow_add-cell
overflow_add-cell c =
    let at : c.loop-axis.axis < length c.args.axes.now = omega (arith, c.requires.few, c.loop-axis-test.true) in
    let fits = fits_at c.args.axes.now c.loop-axis.axis c.loop-axis.cell _ c.in-Ok.place at c.loop-axis.invariant.bound (sym c.place_on.ensures ∙ c.in-Ok.is) in
    omega (arith, fits.cell_fits)

pub returns-in-Err : goal.returns-in-Err
returns-in-Err c =
    let k = c.loop-axis.axis in
    let number = get_or c.args.numbers.now k (pos 0) in
    let step = walk_more c.loop-axis.cell c.args.axes.now c.args.numbers.now k number (omega (arith, c.loop-axis-test.true)) c.requires.few (get_or-same c.args.numbers.now k) in
    let stopped = sym c.place_on.ensures ∙ c.in-Err.is in
    sym (sym (walk_from_nothing c.args.axes.now c.args.numbers.now c.requires.few) ∙ sym c.loop-axis.invariant.rest ∙ step
    ∙ ap (λ r. and_then r (λ p. walk (c.loop-axis.cell * get_or c.args.axes.now k 0 + p) (drop (k + 1) c.args.axes.now) (drop (k + 1) c.args.numbers.now))) stopped)

pub loop-axis-preserved : goal.loop-axis-preserved
loop-axis-preserved c =
    let k = c.loop-axis.axis in
    let number = get_or c.args.numbers.now k (pos 0) in
    let at : c.loop-axis.axis < length c.args.axes.now = omega (arith, c.requires.few, c.loop-axis-test.true) in
    let fits = fits_at c.args.axes.now c.loop-axis.axis c.loop-axis.cell _ c.in-Ok.place at c.loop-axis.invariant.bound (sym c.place_on.ensures ∙ c.in-Ok.is) in
    let step = walk_more c.loop-axis.cell c.args.axes.now c.args.numbers.now k number (omega (arith, c.loop-axis-test.true)) c.requires.few (get_or-same c.args.numbers.now k) in
    let went = sym c.place_on.ensures ∙ c.in-Ok.is in
    record {
      rest = sym (sym c.loop-axis.invariant.rest ∙ step
          ∙ ap (λ r. and_then r (λ p. walk (c.loop-axis.cell * get_or c.args.axes.now k 0 + p) (drop (k + 1) c.args.axes.now) (drop (k + 1) c.args.numbers.now))) went);
      bound = fits.bound;
    }

pub returns : goal.returns
returns c =
    let done : c.loop-axis.axis ≡ length c.args.numbers.now = omega (arith, c.loop-axis-test.false) in
    sym (sym (walk_from_nothing c.args.axes.now c.args.numbers.now c.requires.few) ∙ sym c.loop-axis.invariant.rest
    ∙ ap (λ k. walk c.loop-axis.cell (drop k c.args.axes.now) (drop k c.args.numbers.now)) done
    ∙ walk_ends c.loop-axis.cell (drop (length c.args.numbers.now) c.args.axes.now) c.args.numbers.now)
