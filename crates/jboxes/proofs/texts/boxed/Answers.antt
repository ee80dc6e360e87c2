use Rattle.std.proofs.Common.{◌≡◌, arith, sym, subst, ap, ◌∙◌, map, take, length, ◌∷◌, []}
use Rattle.jdata.specs.Answers.{Answers}
use Rattle.jdata.specs.Limits.{limited}
use Rattle.jdata.specs.Trees.{atom_of}
use Rattle.jdata.specs.declared.noun.Atom.TheVariants as atom
use Rattle.jarray.specs.Placed.{noun_in}
use Rattle.jboxes.specs.Worded.{text_list, word_text}
use Rattle.jboxes.proofs.Wording.{texts_made, texts_whole, taken_all}
use Rattle.jboxes.proofs.texts.boxed.Goals as goal

pub array_of-requires : goal.array_of-requires
array_of-requires c =
    let same = ap length c.of.ensures in
    let long : c.len.result ≡ length c.of.result = omega (arith, c.len.ensures, c.loop-word.cells.ok.0, same) in
    texts_whole c.of.result c.in_ok-shape.shape.items (c.in_ok-shape.ensures.items ∙ ap (λ n. n ∷ []) long)

pub returns : goal.returns
returns c =
    let text = c.args.text.now in
    let words = c.args.words.now in
    let same = ap length c.of.ensures in
    let long : c.len.result ≡ length c.of.result = omega (arith, c.len.ensures, c.loop-word.cells.ok.0, same) in
    let are = ap (map atom_of) c.of.ensures ∙ c.loop-word.invariant ∙ ap (map (λ w. atom.Box (text_list (word_text text w)))) (taken_all words c.loop-word.word-index c.loop-word-test.false) in
    subst (λ v. Answers (limited v) (noun_in c.array_of.result))
    (sym (texts_made text words c.of.result c.in_ok-shape.shape.items are (c.in_ok-shape.ensures.items ∙ ap (λ n. n ∷ []) long)))
    c.array_of.ensures
