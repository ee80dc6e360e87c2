use Rattle.std.proofs.Common.{◌≡◌, ◌≢◌, map, sym, ◌∙◌, ap, subst, Ok}
use Rattle.jdata.specs.Firsts.{all_or_first}
use Rattle.jdata.specs.Noun.{noun, shape, product}
use Rattle.jdata.specs.Trees.{noun_of}
use Rattle.jdata.specs.declared.noun.Kind.TheVariants as sort
use Rattle.jdata.specs.declared.noun.Atom.TheVariants as atom
use Rattle.jmono.specs.Monads.{each_integer}
use Rattle.jarray.specs.Numbers.{integers}
use Rattle.jmono.proofs.Lists.{of_integers, of_no_atoms, of_others, not_integers, size_of_parts}
use Rattle.jmono.proofs.monads.of_tree.Goals as goal

pub returns-in-Int : goal.returns-in-Int
returns-in-Int g c =
    let axes = c.into_parts-axes.result.0.items in
    let whole : noun axes sort.Int (map atom.Int c.in-Int.numbers) ≡ c.args.tree = sym (ap (noun_of axes) c.in-Int.is) ∙ c.into_parts-axes.ensures in
    c.of_numbers.ensures
    ∙ ap (λ ns. integers axes (all_or_first (map g.V.Monad.meant ns))) c.into_items.ensures
    ∙ sym (of_integers g.V.Monad.meant axes c.in-Int.numbers)
    ∙ ap (each_integer g.V.Monad.meant) whole

pub returns-then-is_empty : goal.returns-then-is_empty
returns-then-is_empty g c =
    let axes = c.into_parts-axes.result.0.items in
    let leaves = c.into_parts-axes.result.1 in
    let none : product (shape c.args.tree) ≡ 0 = sym (ap product c.shape.ensures.value) ∙ sym c.product_of-is_empty.ensures ∙ c.if-is_empty.true in
    ap Ok (c.integers.ensures ∙ ap (λ ns. noun axes sort.Int (map atom.Int ns)) (c.of.ensures ∙ c.new.ensures.items))
    ∙ sym (of_no_atoms g.V.Monad.meant axes leaves (size_of_parts c.args.tree axes leaves c.into_parts-axes.ensures c.shape.ensures.array ∙ none))
    ∙ ap (each_integer g.V.Monad.meant) c.into_parts-axes.ensures

pub returns-else-is_empty : goal.returns-else-is_empty
returns-else-is_empty g c =
    let axes = c.into_parts-axes.result.0.items in
    let leaves = c.into_parts-axes.result.1 in
    let some : product (shape c.args.tree) ≢ 0 = λ e. c.if-is_empty.false (c.product_of-is_empty.ensures ∙ ap product c.shape.ensures.value ∙ e) in
    sym (of_others g.V.Monad.meant axes leaves (not_integers leaves c.in_default.not-Int)
    (λ e. some (sym (size_of_parts c.args.tree axes leaves c.into_parts-axes.ensures c.shape.ensures.array) ∙ e)))
    ∙ ap (each_integer g.V.Monad.meant) c.into_parts-axes.ensures
