use Rattle.std.proofs.Common.{◌≡◌, sym, ◌∙◌, ap, Ok, map, length}
use Rattle.std.proofs.lemmas.List.{length-map}
use Rattle.jdata.specs.Noun.{noun}
use Rattle.jdata.specs.declared.noun.Kind.TheVariants as sort
use Rattle.jdata.specs.declared.noun.Atom.TheVariants as atom
use Rattle.jmono.proofs.Lists.{each_given, each_refused, written_back}
use Rattle.jmono.proofs.monads.of_numbers.Goals as goal
use Rattle.jmono.proofs.monads.of_numbers.Goals.{After-of}

back : (g : _) (c : After-of g) → c.of.result ≡ c.each.new.ys
back g c = c.of.ensures ∙ written_back c.args.numbers.len c.each.new.ys c.args.numbers.items (c.each.auto.ys ∙ c.as_mut_slice.ensures.len)

pub returns-then-each : goal.returns-then-each
returns-then-each g c =
    each_refused g.V.Monad.meant c.args.axes.items c.args.numbers.items c.each.new.ys c.each.result (rw c.as_mut_slice.ensures.value at c.each.ensures) c.if-each.true

pub integers-requires : goal.integers-requires
integers-requires g c = record {
  shape = c.requires.within;
  whole = ap length (back g c) ∙ c.each.auto.ys ∙ ap length c.as_mut_slice.ensures.value ∙ sym (length-map c.args.numbers.items atom.Int) ∙ c.requires.whole;
}

pub returns-else-each : goal.returns-else-each
returns-else-each g c =
    ap Ok (c.integers.ensures ∙ ap (λ l. noun c.args.axes.items sort.Int (map atom.Int l)) (back g (goal.at.returns-else-each g c).After-of))
    ∙ each_given g.V.Monad.meant c.args.axes.items c.args.numbers.items c.each.new.ys c.each.result (rw c.as_mut_slice.ensures.value at c.each.ensures) c.if-each.false
