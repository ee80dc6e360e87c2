use Rattle.std.proofs.Common.{Ok, ap, sym, ◌∙◌, subst, arith}
use Rattle.jdata.specs.Limits.{IsArray}
use Rattle.jdata.specs.declared.noun.Noun.{Noun}
use Rattle.jselect.specs.Views.{noun_in}
use Rattle.jselect.proofs.Cells.{too_many, not_named, named_is}
use Rattle.jselect.proofs.choosing.cell_named.Goals as goal

pub returns-then-numbers-y-clause-value : goal.returns-then-numbers-y-clause-value
returns-then-numbers-y-clause-value c = sym (too_many c.args.numbers.now (noun_in c.args.y) (omega (arith, c.if-numbers-y.true)))

pub nth_cell-requires-clause-number : goal.nth_cell-requires-clause-number
nth_cell-requires-clause-number c =
    (named_is c.args.numbers.now (noun_in c.args.y) c.in-Ok.number c.requires (omega (arith, c.if-numbers-y.false)) (sym c.cell_number.ensures ∙ c.in-Ok.is)).within

pub returns-in-Ok-clause-value : goal.returns-in-Ok-clause-value
returns-in-Ok-clause-value c =
    let named = named_is c.args.numbers.now (noun_in c.args.y) c.in-Ok.number c.requires (omega (arith, c.if-numbers-y.false)) (sym c.cell_number.ensures ∙ c.in-Ok.is) in
    ap (λ (v : Noun). Ok v) c.nth_cell.ensures ∙ sym named.value

pub returns-in-Ok-clause-array : goal.returns-in-Ok-clause-array
returns-in-Ok-clause-array c =
    let named = named_is c.args.numbers.now (noun_in c.args.y) c.in-Ok.number c.requires (omega (arith, c.if-numbers-y.false)) (sym c.cell_number.ensures ∙ c.in-Ok.is) in
    subst IsArray (sym c.nth_cell.ensures) named.array

pub returns-in-Err-clause-value : goal.returns-in-Err-clause-value
returns-in-Err-clause-value c =
    sym (not_named c.args.numbers.now (noun_in c.args.y) c.in-Err.fault (omega (arith, c.if-numbers-y.false)) (sym c.cell_number.ensures ∙ c.in-Err.is))
