-- The open groups with what is known of each: whether its words stand in a loop's block. Reading by them is reading.
use Rattle.std.specs.Prelude.{List, [], ◌∷◌, Bool, true, false, ◌&&◌, Option, Some, None}
use Rattle.jexplicit.specs.declared.kind.Kind.{Kind}
use Rattle.jexplicit.specs.declared.reading.Change.{Change}
use Rattle.jexplicit.specs.declared.reading.Change.TheVariants as change
use Rattle.jexplicit.specs.declared.reading.Part.{Part}
use Rattle.jexplicit.specs.declared.reading.Part.TheVariants as part
use Rattle.jexplicit.specs.declared.checking.Standing.{Standing}
use Rattle.jexplicit.specs.Reading.{change_by, may_stand, starts_sentence}

abbrev pub innermost_of : List Standing → Option Standing
innermost_of [] = None
innermost_of (s ∷ open_) = Some s

abbrev pub inside_of : Option Standing → Bool
inside_of None = false
inside_of (Some s) = s.inside

abbrev pub part_of : Option Standing → Option Part
part_of None = None
part_of (Some s) = Some s.part

abbrev pub standing : Part → Bool → Standing
standing part.LoopBlock inside = record { part = part.LoopBlock; inside = true }
standing p inside = record { part = p; inside = inside }

abbrev pub rest_of : List Standing → List Standing
rest_of [] = []
rest_of (s ∷ open_) = open_

abbrev pub changed_by : Change → List Standing → List Standing
changed_by change.Stay open_ = open_
changed_by (change.Open p) open_ = standing p (inside_of (innermost_of open_)) ∷ open_
changed_by (change.Into p) open_ = standing p (inside_of (innermost_of (rest_of open_))) ∷ rest_of open_
changed_by change.Close open_ = rest_of open_

abbrev pub go_on_by : (List Standing → Bool) → List Standing → Option Change → Bool
go_on_by rest open_ None = false
go_on_by rest open_ (Some c) = rest (changed_by c open_)

abbrev pub reads_by : List Kind → List Standing → Bool
reads_by [] [] = true
reads_by [] (s ∷ open_) = false
reads_by (k ∷ words) open_ = may_stand k (inside_of (innermost_of open_)) (starts_sentence words) && go_on_by (reads_by words) open_ (change_by k (part_of (innermost_of open_)))
