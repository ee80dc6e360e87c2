use Rattle.std.proofs.Common.{arith, true≢false, Err, sym, ap, ◌∙◌, ◌≡◌, ◌<◌, ◌*◌, ◌/◌, length}
use Rattle.jdata.specs.Noun.{shape, atoms, product}
use Rattle.jdata.specs.declared.fault.Trouble.TheVariants as trouble
use Rattle.jarray.specs.Placed.{Placed}
use Rattle.jshape.specs.Agreement.{repeated}
use Rattle.jdyad.proofs.Wholes.{Parts, Serves, parts_of, serves, served, both_kinds, left_meant, left_none, in_numbers, as_many, whole_answers, not_alone}
use Rattle.jdyad.proofs.scalar.over_left.Goals as goal
use Rattle.jdyad.proofs.scalar.over_left.Goals.{After-len-count, After-len}

noun_in : {p q : Placed} → p ≡ q → p.noun ≡ q.noun
noun_in e = ap (λ (r : Placed). r.noun) e

parts : (c : After-len-count) → Parts c.args.x.noun c.into_parts.result.0.items c.into_parts.result.1
parts c = parts_of _ _ _ _ c.into_parts.ensures c.in-Ok.ensures.value

counted : (c : After-len-count) → c.len-count.result ≡ length (atoms c.args.x.noun)
counted c = c.len-count.ensures ∙ ap length (c.leaf.ensures.atoms ∙ sym (parts c).atoms_are)

counted_part : (c : After-len) → c.len.result ≡ length (atoms c.args.y.now.noun)
counted_part c = c.len.ensures ∙ ap length c.leaf-shorter.ensures.atoms

some : (c : After-len) → 0 < length (atoms c.args.x.noun)
some c = omega (arith, counted (goal.at.After-len c).After-len-count, c.if-count-eq0.false)

serving : (c : After-len) → Serves (length (atoms c.args.y.now.noun)) (length (atoms c.args.x.noun)) (repeated (shape c.args.y.now.noun) (shape c.args.x.noun))
serving c = serves _ _ c.requires.right c.requires.left c.requires.agree (some c)

cell_is : (c : After-len) → c.len-count.result / c.len.result ≡ repeated (shape c.args.y.now.noun) (shape c.args.x.noun)
cell_is c = served _ _ _ _ _ (serving c) (counted (goal.at.After-len c).After-len-count) (counted_part c)

pub returns-then-count-eq0-clause-answer : goal.returns-then-count-eq0-clause-answer
returns-then-count-eq0-clause-answer c =
    let before = (goal.at.returns-then-count-eq0-clause-answer c).After-len-count in
    left_none c.args.verb c.args.x.noun c.args.y.now.noun _ _ _ c.requires.kinds c.requires.longer c.requires.agree c.requires.left (parts before).shape_is (sym (counted before) ∙ c.if-count-eq0.true) (c.of.ensures ∙ c.new.ensures.items) (noun_in c.of-then-count-eq0.ensures ∙ c.integers.ensures)

pub nonzero_div-count : goal.nonzero_div-count
nonzero_div-count c =
    let here = (goal.at.nonzero_div-count c).After-len in
    omega (arith, (serving here).some_part, counted_part here)

pub left_numbers-requires-clause-kinds : goal.left_numbers-requires-clause-kinds
left_numbers-requires-clause-kinds c =
    let here = (goal.at.left_numbers-requires-clause-kinds c).After-len in
    let p = parts (goal.at.After-len here).After-len-count in
    both_kinds c.args.verb c.args.x.noun c.args.y.now.noun _ _ c.requires.kinds (some here) (serving here).some_part (sym p.kind_is) c.leaf-shorter.ensures.kind

pub left_numbers-requires-clause-some : goal.left_numbers-requires-clause-some
left_numbers-requires-clause-some c =
    let here = (goal.at.left_numbers-requires-clause-some c).After-len in
    omega (arith, cell_is here, (serving here).some)

pub left_numbers-requires-clause-whole : goal.left_numbers-requires-clause-whole
left_numbers-requires-clause-whole c =
    let here = (goal.at.left_numbers-requires-clause-whole c).After-len in
    let p = parts (goal.at.After-len here).After-len-count in
    ap length (sym p.atoms_are) ∙ (serving here).product ∙ (λ i. length (sym c.leaf-shorter.ensures.atoms i) * sym (cell_is here) i)

pub integers-requires-in-Ok-left_numbers-clause-whole : goal.integers-requires-in-Ok-left_numbers-clause-whole
integers-requires-in-Ok-left_numbers-clause-whole c =
    let here = (goal.at.integers-requires-in-Ok-left_numbers-clause-whole c).After-len in
    let p = parts (goal.at.After-len here).After-len-count in
    as_many _ _ _ c.in-Ok-left_numbers.ensures.answer ∙ ap length (sym p.atoms_are) ∙ c.requires.left.whole ∙ ap product p.shape_is

pub returns-in-Ok-left_numbers-clause-answer : goal.returns-in-Ok-left_numbers-clause-answer
returns-in-Ok-left_numbers-clause-answer c =
    let here = (goal.at.returns-in-Ok-left_numbers-clause-answer c).After-len in
    let p = parts (goal.at.After-len here).After-len-count in
    in_numbers _ _ _ _ _ (left_meant c.args.verb c.args.x.noun c.args.y.now.noun _ _ _ _ c.requires.kinds c.requires.longer c.requires.agree c.requires.left p.shape_is p.atoms_are c.leaf-shorter.ensures.atoms (cell_is here)) c.in-Ok-left_numbers.ensures.answer (noun_in c.of-in-Ok-left_numbers.ensures ∙ c.integers-in-Ok-left_numbers.ensures)

pub returns-in-Err-left_numbers-clause-answer : goal.returns-in-Err-left_numbers-clause-answer
returns-in-Err-left_numbers-clause-answer c =
    let here = (goal.at.returns-in-Err-left_numbers-clause-answer c).After-len in
    let p = parts (goal.at.After-len here).After-len-count in
    whole_answers _ _ _ _ (left_meant c.args.verb c.args.x.noun c.args.y.now.noun _ _ _ _ c.requires.kinds c.requires.longer c.requires.agree c.requires.left p.shape_is p.atoms_are c.leaf-shorter.ensures.atoms (cell_is here)) c.in-Err-left_numbers.ensures.answer

pub returns-in-Err-clause-memory : goal.returns-in-Err-clause-memory
returns-in-Err-clause-memory c = λ k m b some same. true≢false (sym (c.in-Err.ensures.own b (not_alone c.args.x.noun some)))

pub returns-in-Err-left_numbers-clause-memory : goal.returns-in-Err-left_numbers-clause-memory
returns-in-Err-left_numbers-clause-memory c =
    let here = (goal.at.returns-in-Err-left_numbers-clause-memory c).After-len in
    let p = parts (goal.at.After-len here).After-len-count in
    λ k m b some same. (let e : c.in-Err-left_numbers.trouble ≡ trouble.NoMemory = cc in c.in-Err-left_numbers.ensures.memory (sym p.kind_is ∙ k) (c.leaf-shorter.ensures.kind ∙ m) (ap Err e))
