use Rattle.std.proofs.Common.{arith, ap, sym, ◌∙◌, ◌≡◌, ◌≤◌, ◌+◌, ◌*◌, ◌++◌, length, map}
use Rattle.std.specs.List.{range_with_len}
use Rattle.std.proofs.lemmas.Nat.{row_fits}
use Rattle.jamend.specs.Replacing as meant
use Rattle.jamend.proofs.Lasting.{last_long, last_at}
use Rattle.jamend.proofs.Replaced.{replaced_none, named_more, kept_more, map-replaced}
use Rattle.jamend.proofs.replacing.replaced_items.Goals as goal
use Rattle.jamend.proofs.replacing.replaced_items.Goals.{in-Some+in_ok-push_cell-in-Some, in-None+in_ok-push_copies-in-None}

pub loop-number-init : goal.loop-number-init
loop-number-init g c =
    c.in_ok-replaced.ensures.items
    ∙ sym (replaced_none g.T.Item.blank c.args.x.now c.args.y.now c.args.cells.numbers.now c.args.cells.size (0 * c.args.cells.size) (omega arith))

pub index-requires : goal.index-requires
index-requires g c =
    let long = last_long c.args.cells.numbers.now c.in_ok-last.last.items c.args.cells.count (length c.args.cells.numbers.now) c.in_ok-last.ensures in
    omega (arith, long, c.loop-number-test.true, c.in_ok-last.last.ok)

pub loop-number-preserved : goal.loop-number-preserved
loop-number-preserved g c =
    let d = g.T.Item.blank in
    let xs = c.args.x.now in
    let ys = c.args.y.now in
    let numbers = c.args.cells.numbers.now in
    let size = c.args.cells.size in
    let n = c.loop-number.number in
    let at = last_at numbers c.in_ok-last.last.items c.args.cells.count (length numbers) n c.index.result.now c.in_ok-last.ensures (omega (arith, c.loop-number-test.true)) in
    let fits : n * size + size ≤ length ys = omega (arith, c.requires.whole, row_fits n size c.args.cells.count size (omega (arith, c.loop-number-test.true)) (omega arith)) in
    elim c.match-index.branch [
      | in-Some+in_ok-push_cell-in-Some w ↦ rw w.replaced-is
          (w.in_ok-push_cell-in-Some.ensures
          ∙ (λ i. c.loop-number.invariant i ++ map (meant.atom_of_cell d xs size w.in-Some.place) (range_with_len 0 size))
          ∙ sym (named_more d xs ys numbers size n w.in-Some.place (sym at ∙ sym c.index.ensures ∙ w.in-Some.is)))
      | in-None+in_ok-push_copies-in-None w ↦ rw w.replaced-is
          (w.in_ok-push_copies-in-None.ensures
          ∙ (λ i. c.loop-number.invariant i ++ w.run.ensures i)
          ∙ sym (kept_more d xs ys numbers size n (sym at ∙ sym c.index.ensures ∙ w.in-None.is) fits))
    ]

pub returns-clause-atoms : goal.returns-clause-atoms
returns-clause-atoms g c =
    let f = g.T.Item.atom in
    let d = g.T.Item.blank in
    let xs = c.args.x.now in
    let ys = c.args.y.now in
    let numbers = c.args.cells.numbers.now in
    let size = c.args.cells.size in
    let n = c.loop-number.number in
    let count : n ≡ c.args.cells.count = omega (arith, c.loop-number-test.false) in
    let done : n * size ≡ length ys = ap (λ m. m * size) count ∙ sym c.requires.whole in
    c.leaves_of.ensures.atoms
    ∙ ap (map f) c.loop-number.invariant
    ∙ map-replaced f d xs ys numbers size (n * size)
    ∙ (λ i. meant.replaced (g.met.T.Item.blank_is i) (map f xs) (map f ys) numbers size (done i))
