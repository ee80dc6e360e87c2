-- From the words of a body to prepared words, after J Dictionary, "Control Structures": each word is read with what
-- stands round it, and then, from the last one back, written with what is ahead of it.
use Rattle.std.specs.Prelude.{ℕ, ◌≡◌, ◌+◌, ◌-◌, List, [], ◌∷◌, Bool, true, false, cond, Option, Some, None}
use Rattle.jcontrol.specs.Laid.{IsBody}
use Rattle.jcontrol.specs.declared.prepared.Prepared.{Prepared}
use Rattle.jcontrol.specs.declared.prepared.Act.{Act}
use Rattle.jcontrol.specs.declared.prepared.Act.TheVariants as act
use Rattle.jexplicit.specs.Blocks.{block_of}
use Rattle.jexplicit.specs.Grammar.{Text, spell, IsPlaced}
use Rattle.jexplicit.specs.declared.kind.Kind.{Kind}
use Rattle.jexplicit.specs.declared.kind.Kind.TheVariants as kind
use Rattle.jexplicit.specs.declared.kind.Looping.{Looping}
use Rattle.jexplicit.specs.declared.kind.Looping.TheVariants as looping
use Rattle.jexplicit.specs.declared.spot.Group.{Group}
use Rattle.jexplicit.specs.declared.spot.Group.TheVariants as group
use Rattle.jexplicit.specs.declared.spot.Inside.{Inside}
use Rattle.jexplicit.specs.declared.spot.Reached.{Reached}
use Rattle.jexplicit.specs.declared.spot.Spot.{Spot}
use Rattle.jexplicit.specs.declared.spot.Ahead.{Ahead}
use Rattle.jexplicit.specs.declared.spot.Few.{Few}
use Rattle.jexplicit.specs.declared.spot.Few.TheVariants as few
use Rattle.jexplicit.specs.declared.spot.Entry.{Entry}
use Rattle.jexplicit.specs.declared.spot.Entry.TheVariants as entry
use Rattle.jexplicit.specs.declared.spot.Turn.{Turn}
use Rattle.jexplicit.specs.declared.spot.Turn.TheVariants as turn

-- the words are those of a text of the grammar, and what is prepared is laid as its blocks
-- (the first of them has this number)
abbrev pub IsPrepared : ℕ → List Kind → List Prepared → Type 0
IsPrepared first kinds words = (text : Text) × IsPlaced false text × (spell text [] ≡ kinds) × IsBody words (block_of first text)

abbrev pub round : Group → Option ℕ → Option ℕ → Inside
round g test outer = record { group = g; test = test; outer = outer }

abbrev pub loop_block : Looping → ℕ → ℕ → Reached → Group
loop_block looping.For word start at = group.LoopBlock looping.For word (at.place + 1) at.depth
loop_block l word start at = group.LoopBlock l word start at.depth

-- what stands round the words behind a word
abbrev pub entered_by : Kind → Group → Bool → Reached → Entry
entered_by kind.If _ d at = entry.Open (round (group.IfTest at.number) (Some at.number) at.inside.test)
entered_by (kind.Loop l) _ d at = entry.Open (round (group.LoopTest l at.number (at.place + 1)) (Some at.number) at.inside.test)
entered_by kind.Select _ d at = entry.Open (round (group.SelectTest at.number) (Some at.number) at.inside.test)
entered_by kind.Try _ d at = entry.Open (round group.TryBlock at.inside.test at.inside.test)
entered_by kind.Do (group.IfTest word) d at = entry.Into (round group.Then at.inside.outer at.inside.outer)
entered_by kind.Do (group.LoopTest l word start) d at = entry.Into (round (loop_block l word start at) at.inside.outer at.inside.outer)
entered_by kind.Do (group.CaseTest select word falls always) d at = entry.Into (round (group.CaseBlock select falls) at.inside.outer at.inside.outer)
entered_by kind.Elseif _ d at = entry.Into (round (group.IfTest at.number) (Some at.number) at.inside.outer)
entered_by kind.Else _ d at = entry.Into (round group.Otherwise at.inside.outer at.inside.outer)
entered_by (kind.Case falls) (group.SelectTest select) d at = entry.Into (round (group.CaseTest select at.number falls d) (Some at.number) at.inside.outer)
entered_by (kind.Case falls) (group.CaseBlock select f) d at = entry.Into (round (group.CaseTest select at.number falls d) (Some at.number) at.inside.outer)
entered_by kind.Catch _ d at = entry.Into (round group.CatchBlock at.inside.outer at.inside.outer)
entered_by kind.End _ d at = entry.Close
entered_by _ _ d at = entry.Stay

abbrev pub entered : Spot → Entry
entered s = entered_by s.kind s.at.inside.group s.before_do s.at

abbrev pub without : List Inside → List Inside
without [] = []
without (n ∷ saved) = saved

abbrev pub whole : Inside
whole = round group.Body None None

abbrev pub last_of : List Inside → Inside
last_of [] = whole
last_of (n ∷ saved) = n

abbrev pub inside_after : Entry → Inside → List Inside → Inside
inside_after entry.Stay n saved = n
inside_after (entry.Open m) n saved = m
inside_after (entry.Into m) n saved = m
inside_after entry.Close n saved = last_of saved

abbrev pub saved_after : Entry → Inside → List Inside → List Inside
saved_after (entry.Open m) n saved = n ∷ saved
saved_after entry.Close n saved = without saved
saved_after _ n saved = saved

abbrev pub deeper_by : Kind → Group → ℕ → ℕ
deeper_by kind.Do (group.LoopTest looping.For word start) depth = depth + 1
deeper_by kind.End (group.LoopBlock looping.For word start d) depth = depth - 1
deeper_by _ _ depth = depth

-- how many `for.` loops are open behind a word
abbrev pub deeper : Spot → ℕ
deeper s = deeper_by s.kind s.at.inside.group s.at.depth

abbrev pub claimed_by : Kind → ℕ → Option ℕ
claimed_by kind.Assert number = Some number
claimed_by _ number = None

abbrev pub claimed : Spot → Option ℕ
claimed s = claimed_by s.kind s.at.number

-- the prepared words that are made of a word
abbrev pub word_of : Ahead → Act → Prepared
word_of f a = record { act = a; catch = f.catch }

abbrev pub one : Ahead → Act → Few
one f a = few.One (word_of f a)

abbrev pub two : Ahead → Act → Act → Few
two f a b = few.Two (word_of f a) (word_of f b)

-- a word, and the start of a case's test if it isn't empty
abbrev pub with_test : Ahead → Reached → Bool → Act → Few
with_test f at true a = one f a
with_test f at false a = two f a (act.TestStart at.number (at.place + 1 + 1))

abbrev pub sentence_of : Ahead → Reached → Option ℕ → Few
sentence_of f at None = one f (act.Sentence at.number at.inside.test)
sentence_of f at (Some w) = two f (act.Sentence at.number (Some w)) (act.Assert w)

abbrev pub loop_start : Ahead → Reached → Looping → Few
loop_start f at looping.Whilst = one f (act.Go f.block)
loop_start f at _ = one f (act.TestStart at.number (at.place + 1))

abbrev pub loop_test : Ahead → Reached → Looping → ℕ → Few
loop_test f at looping.For word = one f (act.First word at.depth f.exit)
loop_test f at _ word = two f (act.Test word f.exit) (act.Round word)

abbrev pub case_test : Ahead → Bool → ℕ → ℕ → Few
case_test f true select word = few.Nothing
case_test f false select word = one f (act.Case word select f.failed)

-- the word that goes round again
abbrev pub again_of : Looping → ℕ → ℕ → ℕ → ℕ → Act
again_of looping.For word start depth exit = act.Next word depth start exit
again_of _ word start depth exit = act.TestStart word start

abbrev pub broken : Ahead → Option (ℕ × Prepared) → Few
broken f None = one f act.Return
broken f (Some loop) = one f (act.Go loop.0)

abbrev pub continued : Ahead → Option (ℕ × Prepared) → Few
continued f None = one f act.Return
continued f (Some loop) = few.One loop.1

abbrev pub writes_by : Kind → Group → Bool → Reached → Ahead → Few
writes_by kind.Sentence _ d at f = sentence_of f at at.claim
writes_by kind.If _ d at f = one f (act.TestStart at.number (at.place + 1))
writes_by (kind.Loop l) _ d at f = loop_start f at l
writes_by kind.Select _ d at f = one f (act.TestStart at.number (at.place + 1))
writes_by kind.Assert _ d at f = one f (act.TestStart at.number (at.place + 1))
writes_by kind.Do (group.IfTest word) d at f = one f (act.Test word f.failed)
writes_by kind.Do (group.LoopTest l word start) d at f = loop_test f at l word
writes_by kind.Do (group.CaseTest select word falls always) d at f = case_test f always select word
writes_by kind.Elseif _ d at f = two f (act.Go f.exit) (act.TestStart at.number (at.place + 1 + 1))
writes_by kind.Else _ d at f = one f (act.Go f.exit)
writes_by (kind.Case falls) (group.SelectTest select) d at f = with_test f at d (act.Select select)
writes_by (kind.Case falls) (group.CaseBlock select f1) d at f = with_test f at d (act.Go (cond f1 f.block f.exit))
writes_by kind.Catch _ d at f = two f (act.Go f.exit) (act.Go (at.place + 1 + 1))
writes_by kind.End group.Then d at f = one f (act.Go (at.place + 1))
writes_by kind.End (group.CaseBlock select falls) d at f = one f (act.Go (at.place + 1))
writes_by kind.End (group.LoopBlock l word start depth) d at f = one f (again_of l word start depth (at.place + 1))
writes_by kind.Break _ d at f = broken f f.again
writes_by kind.Continue _ d at f = continued f f.again
writes_by kind.Return _ d at f = one f act.Return
writes_by _ _ d at f = few.Nothing

abbrev pub writes : Spot → Ahead → Few
writes s f = writes_by s.kind s.at.inside.group s.before_do s.at f

-- the place behind these words
abbrev pub behind : Few → ℕ → ℕ
behind few.Nothing p = p
behind (few.One a) p = p + 1
behind (few.Two a b) p = p + 1 + 1

abbrev pub end_of_body : Ahead
end_of_body = record { exit = 0; failed = 0; block = 0; catch = None; again = None; outer = None }

abbrev pub reached_after : Spot → List Inside → Reached
reached_after s saved = record {
  number = s.at.number + 1;
  place = behind (writes s end_of_body) s.at.place;
  depth = deeper s;
  claim = claimed s;
  inside = inside_after (entered s) s.at.inside saved;
}

abbrev pub start : ℕ → Reached
start first = record { number = first; place = 1; depth = 0; claim = None; inside = whole }

abbrev pub starts_do : List Kind → Bool
starts_do (kind.Do ∷ kinds) = true
starts_do _ = false

abbrev pub spot_of : Kind → Bool → Reached → Spot
spot_of k d at = record { kind = k; before_do = d; at = at }

-- where each word stands
abbrev pub spots : List Kind → Reached → List Inside → List Spot
spots [] at saved = []
spots (k ∷ kinds) at saved = spot_of k (starts_do kinds) at ∷ spots kinds (reached_after (spot_of k (starts_do kinds) at) saved) (saved_after (entered (spot_of k (starts_do kinds) at)) at.inside saved)

-- what is ahead of a word, for the words before it
abbrev pub closed : ℕ → Ahead → Turn
closed q f = turn.Open (record { exit = q; failed = q; block = q; catch = f.catch; again = f.again; outer = f.outer })

abbrev pub loop_closed : Act → ℕ → Ahead → Turn
loop_closed a q f = turn.Open (record { exit = q; failed = q; block = q; catch = f.catch; again = Some (q, word_of f a); outer = f.again })

abbrev pub failing : ℕ → Ahead → Turn
failing q f = turn.Into (record { exit = f.exit; failed = q; block = f.block; catch = f.catch; again = f.again; outer = f.outer })

abbrev pub block_at : ℕ → Ahead → Turn
block_at q f = turn.Into (record { exit = f.exit; failed = f.failed; block = q; catch = f.catch; again = f.again; outer = f.outer })

abbrev pub in_test : ℕ → Ahead → Turn
in_test q f = turn.Into (record { exit = f.exit; failed = f.failed; block = q; catch = f.catch; again = f.outer; outer = f.outer })

abbrev pub caught_at : ℕ → Ahead → Turn
caught_at q f = turn.Into (record { exit = f.exit; failed = f.failed; block = f.block; catch = Some q; again = f.again; outer = f.outer })

abbrev pub case_block : Bool → ℕ → ℕ
case_block true p = p
case_block false p = p + 1

abbrev pub turned_by : Kind → Group → Reached → Ahead → Turn
turned_by kind.If _ at f = turn.Close
turned_by (kind.Loop l) _ at f = turn.Close
turned_by kind.Select _ at f = turn.Close
turned_by kind.Try _ at f = turn.Close
turned_by kind.Do (group.LoopTest l word from) at f = in_test (at.place + 1) f
turned_by kind.Do (group.CaseTest select word falls always) at f = block_at (case_block always at.place) f
turned_by kind.Elseif _ at f = failing (at.place + 1) f
turned_by kind.Else _ at f = failing (at.place + 1) f
turned_by (kind.Case falls) (group.CaseBlock select f1) at f = failing (at.place + 1) f
turned_by kind.Catch _ at f = caught_at (at.place + 1) f
turned_by kind.End group.Then at f = closed (at.place + 1) f
turned_by kind.End (group.CaseBlock select falls) at f = closed (at.place + 1) f
turned_by kind.End (group.LoopBlock l word from depth) at f = loop_closed (again_of l word from depth (at.place + 1)) (at.place + 1) f
turned_by kind.End _ at f = closed at.place f
turned_by _ _ at f = turn.Stay

abbrev pub turned : Spot → Ahead → Turn
turned s f = turned_by s.kind s.at.inside.group s.at f

-- what is written of the words that were read back, what is ahead of the word before them, and of those round it
pub record Written : Type 0 where
  pub words : List Prepared
  pub ahead : Ahead
  pub saved : List Ahead

abbrev pub put : Few → List Prepared → List Prepared
put few.Nothing words = words
put (few.One a) words = a ∷ words
put (few.Two a b) words = a ∷ b ∷ words

abbrev pub last_ahead : List Ahead → Ahead
last_ahead [] = end_of_body
last_ahead (f ∷ saved) = f

abbrev pub without_ahead : List Ahead → List Ahead
without_ahead [] = []
without_ahead (f ∷ saved) = saved

abbrev pub ahead_after : Turn → Ahead → List Ahead → Ahead
ahead_after turn.Stay f saved = f
ahead_after (turn.Open g) f saved = g
ahead_after (turn.Into g) f saved = g
ahead_after turn.Close f saved = last_ahead saved

abbrev pub aheads_after : Turn → Ahead → List Ahead → List Ahead
aheads_after (turn.Open g) f saved = f ∷ saved
aheads_after turn.Close f saved = without_ahead saved
aheads_after _ f saved = saved

abbrev pub written_before : Spot → Written → Written
written_before s r = record {
  words = put (writes s r.ahead) r.words;
  ahead = ahead_after (turned s r.ahead) r.ahead r.saved;
  saved = aheads_after (turned s r.ahead) r.ahead r.saved;
}

abbrev pub written : List Spot → Written
written [] = record { words = word_of end_of_body act.Return ∷ []; ahead = end_of_body; saved = [] }
written (s ∷ more) = written_before s (written more)

-- the prepared words of a body
abbrev pub prepares : ℕ → List Kind → List Prepared
prepares first kinds = word_of end_of_body (act.Go 1) ∷ (written (spots kinds (start first) [])).words
