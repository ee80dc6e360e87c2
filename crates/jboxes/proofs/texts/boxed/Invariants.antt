use Rattle.std.proofs.Common.{◌≡◌, map, take}
use Rattle.jdata.specs.Trees.{atom_of}
use Rattle.jdata.specs.declared.noun.Atom.TheVariants as atom
use Rattle.jboxes.specs.Worded.{text_list, word_text}
use Rattle.jboxes.proofs.texts.boxed.Given as goal

abbrev pub invariant-loop-word : goal.invariant-loop-word
invariant-loop-word l = map atom_of l.cells.items ≡ map (λ w. atom.Box (text_list (word_text l.text w))) (take l.word-index l.words)
