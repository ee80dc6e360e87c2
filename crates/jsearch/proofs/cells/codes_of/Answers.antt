use Rattle.std.proofs.Common.{◌≤◌, ◌<◌, ◌+◌, ◌*◌, arith, subst, sym, ap, ◌∙◌, length, take, drop}
use Rattle.std.proofs.lemmas.List.{take_rest}
use Rattle.jdata.specs.Leaf.{atoms_in}
use Rattle.jdata.specs.Limits.{most_atoms, IsArray}
use Rattle.jdata.specs.Noun.{extent, product, noun}
use Rattle.jdata.proofs.Arrays.{few_atoms}
use Rattle.jdata.proofs.Extents.{parts_are_within}
use Rattle.jselect.proofs.Cells.{range_fits, nth_is_array}
use Rattle.jsearch.specs.Codes.{code}
use Rattle.jsearch.specs.Listed.{whole, cell_in}
use Rattle.jsearch.proofs.Looking.{mapped_next}
use Rattle.jsearch.proofs.cells.codes_of.Goals as goal

pub product_of-size-requires : goal.product_of-size-requires
product_of-size-requires c =
    let small = (parts_are_within c.args.cells.frame c.args.cells.axes.now).1 in
    let bound = c.requires.array.within.extent_at_most in
    subst (λ l. extent l ≤ most_atoms) (sym (take_rest c.args.cells.axes.now c.args.cells.frame)) (omega (arith, small, bound))

pub overflow_mul-place : goal.overflow_mul-place
overflow_mul-place c =
    let frame = c.args.cells.frame in
    let axes = c.args.cells.axes.now in
    let place = c.loop-place.place in
    let below : place < product (take frame axes) = subst (λ n. place < n) c.count_of-count.ensures c.loop-place-test.true in
    let fits = range_fits (whole c.args.cells) frame place c.requires.array below in
    let few = few_atoms (whole c.args.cells) c.requires.array in
    let size = c.product_of-size.ensures ∙ ap product (take_rest axes frame) in
    let times = ap (λ n. place * n) size in
    omega (arith, fits, few, times)

pub range_of-atoms-requires : goal.range_of-atoms-requires
range_of-atoms-requires c =
    let frame = c.args.cells.frame in
    let axes = c.args.cells.axes.now in
    let place = c.loop-place.place in
    let below : place < product (take frame axes) = subst (λ n. place < n) c.count_of-count.ensures c.loop-place-test.true in
    let fits = range_fits (whole c.args.cells) frame place c.requires.array below in
    let size = c.product_of-size.ensures ∙ ap product (take_rest axes frame) in
    subst (λ n. place * n + n ≤ length (atoms_in c.args.cells.atoms)) (sym size) fits

pub code_of-requires : goal.code_of-requires
code_of-requires c =
    let frame = c.args.cells.frame in
    let axes = c.args.cells.axes.now in
    let place = c.loop-place.place in
    let below : place < product (take frame axes) = subst (λ n. place < n) c.count_of-count.ensures c.loop-place-test.true in
    let array = nth_is_array (whole c.args.cells) frame place c.requires.array below in
    let size = c.product_of-size.ensures ∙ ap product (take_rest axes frame) in
    let from = c.range_of-atoms.ensures.atoms ∙ (λ i. take (size i) (drop (place * size i) (atoms_in c.args.cells.atoms))) in
    subst IsArray (λ i. noun (sym (take_rest axes frame) i) (sym c.range_of-atoms.ensures.kind i) (sym from i)) array

pub loop-place-preserved : goal.loop-place-preserved
loop-place-preserved c =
    let frame = c.args.cells.frame in
    let axes = c.args.cells.axes.now in
    let place = c.loop-place.place in
    let size = c.product_of-size.ensures ∙ ap product (take_rest axes frame) in
    let from = c.range_of-atoms.ensures.atoms ∙ (λ i. take (size i) (drop (place * size i) (atoms_in c.args.cells.atoms))) in
    let same = c.in_ok-code.ensures ∙ (λ i. code (noun (take_rest axes frame i) (c.range_of-atoms.ensures.kind i) (from i))) in
    mapped_next (λ v. v.items) (λ j. code (cell_in c.args.cells j)) place c.in_ok-code.code c.loop-place.codes.items _ same c.in_ok-push.ensures.items c.loop-place.invariant
