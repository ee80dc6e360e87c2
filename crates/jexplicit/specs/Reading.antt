-- Reading the words of a body one by one, after J Dictionary, "Control Structures", with the groups that are open.
use Rattle.std.specs.Prelude.{List, [], ◌∷◌, Bool, true, false, ◌&&◌, Option, Some, None}
use Rattle.jexplicit.specs.declared.kind.Kind.{Kind}
use Rattle.jexplicit.specs.declared.kind.Kind.TheVariants as kind
use Rattle.jexplicit.specs.declared.reading.Change.{Change}
use Rattle.jexplicit.specs.declared.reading.Change.TheVariants as change
use Rattle.jexplicit.specs.declared.reading.Part.{Part}
use Rattle.jexplicit.specs.declared.reading.Part.TheVariants as part

-- the part of an open group in which the next word stands, if one is open
abbrev pub innermost : List Part → Option Part
innermost [] = None
innermost (p ∷ open_) = Some p

-- what a word makes of the open groups; none where it can't stand there
abbrev pub change_by : Kind → Option Part → Option Change
change_by kind.If _ = Some (change.Open part.IfTest)
change_by (kind.Loop l) _ = Some (change.Open part.LoopTest)
change_by kind.Select _ = Some (change.Open part.SelectTest)
change_by kind.Try _ = Some (change.Open part.TryBlock)
change_by kind.Do (Some part.IfTest) = Some (change.Into part.Then)
change_by kind.Do (Some part.LoopTest) = Some (change.Into part.LoopBlock)
change_by kind.Do (Some part.CaseTest) = Some (change.Into part.CaseBlock)
change_by kind.Do _ = None
change_by kind.Elseif (Some part.Then) = Some (change.Into part.IfTest)
change_by kind.Elseif _ = None
change_by kind.Else (Some part.Then) = Some (change.Into part.Otherwise)
change_by kind.Else _ = None
change_by (kind.Case falls) (Some part.SelectTest) = Some (change.Into part.CaseTest)
change_by (kind.Case falls) (Some part.CaseBlock) = Some (change.Into part.CaseTest)
change_by (kind.Case falls) _ = None
change_by kind.Catch (Some part.TryBlock) = Some (change.Into part.CatchBlock)
change_by kind.Catch _ = None
change_by kind.End (Some part.Then) = Some change.Close
change_by kind.End (Some part.Otherwise) = Some change.Close
change_by kind.End (Some part.LoopBlock) = Some change.Close
change_by kind.End (Some part.CaseBlock) = Some change.Close
change_by kind.End (Some part.CatchBlock) = Some change.Close
change_by kind.End _ = None
change_by _ _ = Some change.Stay

abbrev pub without : List Part → List Part
without [] = []
without (p ∷ open_) = open_

abbrev pub changed : Change → List Part → List Part
changed change.Stay open_ = open_
changed (change.Open p) open_ = p ∷ open_
changed (change.Into p) open_ = p ∷ without open_
changed change.Close open_ = without open_

-- whether a word stands in a loop's block
abbrev pub in_loop : List Part → Bool
in_loop [] = false
in_loop (part.LoopBlock ∷ open_) = true
in_loop (_ ∷ open_) = in_loop open_

abbrev pub starts_sentence : List Kind → Bool
starts_sentence (kind.Sentence ∷ words) = true
starts_sentence _ = false

-- what some words ask for beside: a loop round them, or a sentence behind them
abbrev pub may_stand : Kind → Bool → Bool → Bool
may_stand kind.Break inside followed = inside
may_stand kind.Continue inside followed = inside
may_stand kind.Assert inside followed = followed
may_stand _ inside followed = true

abbrev pub go_on : (List Part → Bool) → List Part → Option Change → Bool
go_on rest open_ None = false
go_on rest open_ (Some c) = rest (changed c open_)

-- with these groups open, the words are the rest of a body
abbrev pub reads : List Kind → List Part → Bool
reads [] [] = true
reads [] (p ∷ open_) = false
reads (k ∷ words) open_ = may_stand k (in_loop open_) (starts_sentence words) && go_on (reads words) open_ (change_by k (innermost open_))
