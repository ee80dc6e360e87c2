use Rattle.std.proofs.Common.{◌≡◌, ◌≤◌, ◌∙◌, List, ℕ, arith, ap, sym, subst, length}
use Rattle.jdata.specs.Fills.{fill_of}
use Rattle.jdata.specs.Leaf.{kind_in, atoms_in}
use Rattle.jdata.specs.Limits.{most_atoms}
use Rattle.jdata.specs.Noun.{shape, product, extent}
use Rattle.jdata.specs.Trees.{kind_of, atoms_of}
use Rattle.jarray.specs.Placed.{Gives}
use Rattle.jstruct.specs.declared.change.Layout.{Layout}
use Rattle.jstruct.specs.Laying.{axes_after, axes_for}
use Rattle.jstruct.specs.Layouts.{AllLie, ArePlanned, laid_axes, laid}
use Rattle.jstruct.proofs.Changing.{changed_is, laid-length, axes_within, axes_whole}
use Rattle.jstruct.proofs.Planning.{all_lie, same_axes}
use Rattle.jstruct.proofs.taking.changed.Goals as goal

pub plan-requires-clause-bound : goal.plan-requires-clause-bound
plan-requires-clause-bound c =
    let xs = c.args.numbers.now in
    let y = c.args.y.now.noun in
    let axes = c.in_ok-axes.axes.items in
    let e : axes ≡ axes_for (length xs) (shape y) = c.in_ok-axes.ensures ∙ ap (axes_for (length xs)) c.shape.ensures.value in
    subst (λ (a : List ℕ). extent a ≤ most_atoms) (sym c.as_slice-3.ensures.value) (axes_within y axes (length xs) c.shape.ensures.array e)

pub laid-requires-clause-lies : goal.laid-requires-clause-lies
laid-requires-clause-lies c =
    let xs = c.args.numbers.now in
    let axes = c.in_ok-axes.axes.items in
    let planned : ArePlanned c.args.change xs axes c.in_ok-layouts.layouts.items =
    subst (λ (a : List ℕ). ArePlanned c.args.change xs a c.in_ok-layouts.layouts.items) c.as_slice-3.ensures.value c.in_ok-layouts.ensures in
    subst (λ (ls : List Layout). AllLie ls c.as_slice-5.result.now) (sym c.as_slice-4.ensures.value)
    (subst (λ (a : List ℕ). AllLie c.in_ok-layouts.layouts.items a) (sym c.as_slice-5.ensures.value) (all_lie c.args.change xs axes c.in_ok-layouts.layouts.items planned))

pub laid-requires-clause-whole : goal.laid-requires-clause-whole
laid-requires-clause-whole c =
    let xs = c.args.numbers.now in
    let axes = c.in_ok-axes.axes.items in
    let planned : ArePlanned c.args.change xs axes c.in_ok-layouts.layouts.items =
    subst (λ (a : List ℕ). ArePlanned c.args.change xs a c.in_ok-layouts.layouts.items) c.as_slice-3.ensures.value c.in_ok-layouts.ensures in
    let w : c.in_ok-whole.whole.items ≡ axes_after c.args.change xs axes = c.in_ok-whole.ensures ∙ ap (axes_after c.args.change xs) c.as_slice.ensures.value in
    c.as_slice-6.ensures.value ∙ w ∙ sym (same_axes c.args.change xs axes c.in_ok-layouts.layouts.items planned)
    ∙ (λ i. laid_axes (sym c.as_slice-4.ensures.value i) (sym c.as_slice-5.ensures.value i))

pub laid-requires-clause-old : goal.laid-requires-clause-old
laid-requires-clause-old c =
    let xs = c.args.numbers.now in
    let y = c.args.y.now.noun in
    let axes = c.in_ok-axes.axes.items in
    let e : axes ≡ axes_for (length xs) (shape y) = c.in_ok-axes.ensures ∙ ap (axes_for (length xs)) c.shape.ensures.value in
    subst (λ (a : List ℕ). extent a ≤ most_atoms) (sym c.as_slice-5.ensures.value) (axes_within y axes (length xs) c.shape.ensures.array e)

pub laid-requires-clause-enough : goal.laid-requires-clause-enough
laid-requires-clause-enough c =
    let xs = c.args.numbers.now in
    let y = c.args.y.now.noun in
    let axes = c.in_ok-axes.axes.items in
    let e : axes ≡ axes_for (length xs) (shape y) = c.in_ok-axes.ensures ∙ ap (axes_for (length xs)) c.shape.ensures.value in
    omega (arith, ap product c.as_slice-5.ensures.value, axes_whole y axes (length xs) c.shape.ensures.array e, ap length c.leaf.ensures.atoms)

pub array_of-requires : goal.array_of-requires
array_of-requires c =
    let xs = c.args.numbers.now in
    let axes = c.in_ok-axes.axes.items in
    let planned : ArePlanned c.args.change xs axes c.in_ok-layouts.layouts.items =
    subst (λ (a : List ℕ). ArePlanned c.args.change xs a c.in_ok-layouts.layouts.items) c.as_slice-3.ensures.value c.in_ok-layouts.ensures in
    let w : c.in_ok-whole.whole.items ≡ axes_after c.args.change xs axes = c.in_ok-whole.ensures ∙ ap (axes_after c.args.change xs) c.as_slice.ensures.value in
    ap length c.in_ok-atoms.ensures.atoms
    ∙ laid-length (fill_of (kind_in c.leaf.result)) c.as_slice-4.result.now c.as_slice-5.result.now (atoms_in c.leaf.result)
    ∙ ap product ((λ i. laid_axes (c.as_slice-4.ensures.value i) (c.as_slice-5.ensures.value i)) ∙ same_axes c.args.change xs axes c.in_ok-layouts.layouts.items planned ∙ sym w)

pub returns : goal.returns
returns c =
    let xs = c.args.numbers.now in
    let y = c.args.y.now.noun in
    let axes = c.in_ok-axes.axes.items in
    let e : axes ≡ axes_for (length xs) (shape y) = c.in_ok-axes.ensures ∙ ap (axes_for (length xs)) c.shape.ensures.value in
    let h : length xs ≤ length axes = omega (arith, c.if-numbers-len.false, c.len.ensures, c.in_ok-axes.axes.ok.0) in
    let planned : ArePlanned c.args.change xs axes c.in_ok-layouts.layouts.items =
    subst (λ (a : List ℕ). ArePlanned c.args.change xs a c.in_ok-layouts.layouts.items) c.as_slice-3.ensures.value c.in_ok-layouts.ensures in
    let w : c.in_ok-whole.whole.items ≡ axes_after c.args.change xs axes = c.in_ok-whole.ensures ∙ ap (axes_after c.args.change xs) c.as_slice.ensures.value in
    let same = c.in_ok-atoms.ensures.atoms ∙ (λ i. laid (fill_of (c.leaf.ensures.kind i)) (c.as_slice-4.ensures.value i) (c.as_slice-5.ensures.value i) (c.leaf.ensures.atoms i)) in
    subst (λ m. Gives m c.array_of.result)
    (changed_is c.args.change xs y axes c.in_ok-whole.whole.items c.in_ok-layouts.layouts.items (kind_of c.in_ok-atoms.atoms) (atoms_of c.in_ok-atoms.atoms) e h w planned (c.in_ok-atoms.ensures.kind ∙ c.leaf.ensures.kind) same)
    c.array_of.ensures
