use Rattle.std.proofs.Common.{refl}
use Rattle.jdata.specs.declared.noun.Atom.TheVariants as atom
use Rattle.jsearch.specs.Order.{in_direction}
use Rattle.jsearch.proofs.Alike.{int_number}
use Rattle.jsearch.proofs.Graded.{graded_by, no_memory}
use Rattle.jsearch.proofs.grading.places_of_integers.Goals as goal

pub returns-in-Ok : goal.returns-in-Ok
returns-in-Ok c = λ y has order these.
    graded_by atom.Int (λ z. z) int_number c.args.direction y c.args.numbers.now c.args.size c.args.count _ c.in-Ok.places has order these c.requires.count refl (c.in-Ok.ensures (λ z. z) (λ a b. refl))

pub returns-in-Err : goal.returns-in-Err
returns-in-Err c = λ y has order these. no_memory (in_direction c.args.direction) y _ refl
