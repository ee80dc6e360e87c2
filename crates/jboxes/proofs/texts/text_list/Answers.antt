use Rattle.std.proofs.Common.{◌∙◌, sym, ap, map, ◌∷◌, [], length, subst}
use Rattle.jdata.specs.Limits.{IsArray}
use Rattle.jdata.specs.Noun.{noun}
use Rattle.jdata.specs.declared.noun.Kind.TheVariants as sort
use Rattle.jdata.specs.declared.noun.Atom.TheVariants as atom
use Rattle.jdata.proofs.Arrays.{never_refused}
use Rattle.jboxes.proofs.Wording.{text_is_array}
use Rattle.jboxes.proofs.texts.text_list.Goals as goal

pub unreachable-requires : goal.unreachable-requires
unreachable-requires c =
    never_refused _ _
    (subst (λ l. IsArray (noun c.in_ok-shape.shape.items sort.Char (map atom.Char l))) (sym (c.of-bytes.ensures ∙ c.in_ok-from_slice.ensures.items)) (text_is_array c.in_ok-shape.shape.items c.args.bytes.now c.in_ok-shape.ensures.items c.requires))
    (sym c.new.ensures ∙ c.in-Err.is)
