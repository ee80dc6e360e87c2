use Rattle.std.proofs.Common.{arith, ap, sym, subst, ◌∙◌, ◌≡◌, ◌++◌, ◌*◌, length, []}
use Rattle.std.proofs.Math.Nat.{zero-mul}
use Rattle.jdata.specs.Answers.{Answers}
use Rattle.jdata.specs.Limits.{limited}
use Rattle.jdata.specs.Noun.{noun, product}
use Rattle.jdata.specs.Trees.{kind_of, atoms_of}
use Rattle.jdata.proofs.Extents.{product-append}
use Rattle.jframe.specs.Alike.{alike}
use Rattle.jframe.specs.Assembly.{assembled}
use Rattle.jframe.proofs.Alike.{assembled_kept, assembled_kept_none}
use Rattle.jframe.proofs.assembly.assemble_alike.Goals as goal

pub limited-requires : goal.limited-requires
limited-requires c =
    let many : c.args.count ≡ product c.args.frame.now = omega (arith, c.requires.count, c.product.ensures, c.if-product-gt0.true) in
    let is : c.in-Ok.whole.items ≡ c.args.frame.now ++ c.args.axes.now = c.in-Ok.ensures ∙ ap (λ l. l ++ c.args.axes.now) c.axes.ensures.axes in
    c.requires.whole ∙ ap (λ n. n * product c.args.axes.now) many ∙ sym (product-append c.args.frame.now c.args.axes.now) ∙ sym (ap product is)

pub returns-then-product-gt0 : goal.returns-then-product-gt0
returns-then-product-gt0 c =
    let many : c.args.count ≡ product c.args.frame.now = omega (arith, c.requires.count, c.product.ensures, c.if-product-gt0.true) in
    let is : c.in-Ok.whole.items ≡ c.args.frame.now ++ c.args.axes.now = c.in-Ok.ensures ∙ ap (λ l. l ++ c.args.axes.now) c.axes.ensures.axes in
    let same = assembled_kept c.args.frame.now c.args.axes.now (kind_of c.args.atoms) (atoms_of c.args.atoms) c.args.count c.requires.shape c.requires.whole c.requires.levels many (omega (arith, many, c.product.ensures, c.if-product-gt0.true)) in
    subst (λ d. Answers d c.limited.result) (ap (λ s. limited (noun s (kind_of c.args.atoms) (atoms_of c.args.atoms))) is ∙ sym same) c.limited.ensures

pub limited-requires-in-Ok-filled : goal.limited-requires-in-Ok-filled
limited-requires-in-Ok-filled c =
    let none : product c.args.frame.now ≡ 0 = omega (arith, c.product.ensures, c.if-product-gt0.false) in
    let is : c.in-Ok.whole.items ≡ c.args.frame.now ++ c.args.axes.now = c.in-Ok.ensures ∙ ap (λ l. l ++ c.args.axes.now) c.axes.ensures.axes in
    ap length c.in-Ok-filled.ensures.atoms
    ∙ sym (ap product is ∙ product-append c.args.frame.now c.args.axes.now ∙ ap (λ n. n * product c.args.axes.now) none ∙ zero-mul (product c.args.axes.now))

pub returns-in-Ok-filled : goal.returns-in-Ok-filled
returns-in-Ok-filled c =
    let none : product c.args.frame.now ≡ 0 = omega (arith, c.product.ensures, c.if-product-gt0.false) in
    let one : c.args.count ≡ 1 = omega (arith, c.requires.count, none) in
    let is : c.in-Ok.whole.items ≡ c.args.frame.now ++ c.args.axes.now = c.in-Ok.ensures ∙ ap (λ l. l ++ c.args.axes.now) c.axes.ensures.axes in
    let same = assembled_kept_none c.args.frame.now c.args.axes.now (kind_of c.args.atoms) (atoms_of c.args.atoms) c.requires.shape
    (c.requires.whole ∙ ap (λ n. n * product c.args.axes.now) one) c.requires.levels none in
    let kinds = c.in-Ok-filled.ensures.kind ∙ c.kind.ensures in
    subst (λ d. Answers d c.limited-in-Ok-filled.result)
    ((λ i. limited (noun (is i) (kinds i) (c.in-Ok-filled.ensures.atoms i))) ∙ sym same
    ∙ ap (λ n. assembled c.args.frame.now (alike c.args.axes.now (kind_of c.args.atoms) (atoms_of c.args.atoms) n)) (sym one))
    c.limited-in-Ok-filled.ensures
