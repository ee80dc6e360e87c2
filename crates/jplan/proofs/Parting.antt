-- Each cell of the frame of all arguments goes with a cell of each.
use Rattle.std.proofs.Common.{◌≡◌, ◌≢◌, ℕ, ℤ, ◌/◌, ◌<◌, Option, Some, None, List, [], Ok, sym, subst, ◌∙◌, arith}
use Rattle.std.proofs.lemmas.List.{append-nil}
use Rattle.jdata.specs.Noun.{shape, product}
use Rattle.jdata.specs.declared.noun.Noun.{Noun}
use Rattle.jshape.specs.Frames.{IsPrefix, frame_of}
use Rattle.jframe.proofs.Pairing.{both_begin, repeats_some, place_within}
use Rattle.jplan.specs.Arguments.{frame, IsParted}
use Rattle.jplan.specs.declared.arguments.Argument.{Argument}

pub y_begins : (u v : Option ℤ) (x : Option Noun) (y : Noun) (whole : List ℕ) → frame u v x y ≡ Ok whole → IsPrefix (frame_of v (shape y)) whole
y_begins u v (Some x) y whole e = (both_begin (frame_of u (shape x)) (frame_of v (shape y)) whole e).1
y_begins u v None y whole e = let is : whole ≡ frame_of v (shape y) = cc in ([], is ∙ sym (append-nil (frame_of v (shape y))))

pub x_begins : (u v : Option ℤ) (x y : Noun) (whole : List ℕ) → frame u v (Some x) y ≡ Ok whole → IsPrefix (frame_of u (shape x)) whole
x_begins u v x y whole e = (both_begin (frame_of u (shape x)) (frame_of v (shape y)) whole e).0

pub is_repeated : (rank : Option ℤ) (whole : List ℕ) (a : Argument) (i : ℕ) → IsParted rank whole a → IsPrefix (frame_of rank (shape a.value)) whole → i < product whole → a.repeats ≢ 0
is_repeated rank whole a i is begins below =
    let some : product whole ≢ 0 = λ none. omega (arith, below, none) in
    repeats_some (frame_of rank (shape a.value)) whole a.repeats begins is.repeats some

pub is_within : (rank : Option ℤ) (whole : List ℕ) (a : Argument) (i : ℕ) → IsParted rank whole a → IsPrefix (frame_of rank (shape a.value)) whole → i < product whole → i / a.repeats < product a.cells.frame
is_within rank whole a i is begins below =
    let there = place_within (frame_of rank (shape a.value)) whole a.repeats i begins is.repeats below in
    subst (λ c. i / a.repeats < product c.frame) (sym is.cells) there
