-- A text is had back of the words that spell it.
use Rattle.std.proofs.Common.{ℕ, ◌≡◌, List, [], ◌∷◌, Option, Some, option_map, option_and_then, refl, sym, ap, subst, ◌∙◌}
use Rattle.jcontrol.specs.Laid.{IsBody}
use Rattle.jcontrol.specs.declared.prepared.Prepared.{Prepared}
use Rattle.jexplicit.specs.Grammar.{Text, Otherwise, Cases, spell, spell_otherwise, spell_cases}
use Rattle.jexplicit.specs.Grammar.Text.{Nothing, Sentence, If, Loop, Select, Try, Assert, Break, Continue, Leave}
use Rattle.jexplicit.specs.Grammar.Otherwise.{NoElse, Else, Elseif}
use Rattle.jexplicit.specs.Grammar.Cases.{NoCase, Case}
use Rattle.jexplicit.specs.Preparing.{IsPrepared}
use Rattle.jexplicit.specs.Texts.{Piece, Ending, ending, otherwise_in, cases_in, read_before, read_back, whole, text_in, block_or, block_in, with_text}
use Rattle.jexplicit.specs.declared.kind.Kind.{Kind}
use Rattle.jexplicit.specs.declared.kind.Kind.TheVariants as kind

-- a text, and then another
abbrev followed : Text → Text → Text
followed Nothing u = u
followed (Sentence rest) u = Sentence (followed rest u)
followed (If test block o rest) u = If test block o (followed rest u)
followed (Loop l test block rest) u = Loop l test block (followed rest u)
followed (Select test falls first block c rest) u = Select test falls first block c (followed rest u)
followed (Try block caught rest) u = Try block caught (followed rest u)
followed (Assert rest) u = Assert (followed rest u)
followed (Break rest) u = Break (followed rest u)
followed (Continue rest) u = Continue (followed rest u)
followed (Leave rest) u = Leave (followed rest u)

followed_by_nothing : (t : Text) → followed t Nothing ≡ t
followed_by_nothing Nothing = refl
followed_by_nothing (Sentence rest) = ap Sentence (followed_by_nothing rest)
followed_by_nothing (If test block o rest) = ap (If test block o) (followed_by_nothing rest)
followed_by_nothing (Loop l test block rest) = ap (Loop l test block) (followed_by_nothing rest)
followed_by_nothing (Select test falls first block c rest) = ap (Select test falls first block c) (followed_by_nothing rest)
followed_by_nothing (Try block caught rest) = ap (Try block caught) (followed_by_nothing rest)
followed_by_nothing (Assert rest) = ap Assert (followed_by_nothing rest)
followed_by_nothing (Break rest) = ap Break (followed_by_nothing rest)
followed_by_nothing (Continue rest) = ap Continue (followed_by_nothing rest)
followed_by_nothing (Leave rest) = ap Leave (followed_by_nothing rest)

-- the parts of what is done otherwise, and of cases
abbrev others : Otherwise → List Piece
others NoElse = []
others (Else block) = (kind.Else, block) ∷ []
others (Elseif test block o) = (kind.Elseif, test) ∷ (kind.Do, block) ∷ others o

abbrev arms : Cases → List Piece
arms NoCase = []
arms (Case falls test block c) = (kind.Case falls, test) ∷ (kind.Do, block) ∷ arms c

others_are : (o : Otherwise) → otherwise_in (others o) ≡ Some o
others_are NoElse = refl
others_are (Else block) = refl
others_are (Elseif test block o) = ap (option_map (Elseif test block)) (others_are o)

arms_are : (c : Cases) → cases_in (arms c) ≡ Some c
arms_are NoCase = refl
arms_are (Case falls test block c) = ap (option_map (Case falls test block)) (arms_are c)

-- a word before words that were read so
steps : (k : Kind) (w : List Kind) (l m : List Ending) → read_back w ≡ Some l → read_before k l ≡ Some m → read_back (k ∷ w) ≡ Some m
steps k w l m h e = ap (option_and_then (read_before k)) h ∙ e

-- a text before words that were read so comes before what was read
abbrev Comes : Text → Type 0
Comes t = (w : List Kind) (e : Ending) (round : List Ending) → read_back w ≡ Some (e ∷ round) → read_back (spell t w) ≡ Some (ending (followed t e.text) e.parts ∷ round)

-- the same at the end of a part
fills : (t : Text) → Comes t → (w : List Kind) (parts : List Piece) (round : List Ending) → read_back w ≡ Some (ending Nothing parts ∷ round) → read_back (spell t w) ≡ Some (ending t parts ∷ round)
fills t c w parts round h = c w (ending Nothing parts) round h ∙ ap (λ u. Some (ending u parts ∷ round)) (followed_by_nothing t)

mutual
  comes : (t : Text) → Comes t
  comes Nothing w e round h = h
  comes (Sentence rest) w e round h = steps kind.Sentence (spell rest w) (ending (followed rest e.text) e.parts ∷ round) (ending (Sentence (followed rest e.text)) e.parts ∷ round) (comes rest w e round h) refl
  comes (If test block o rest) w e round h =
      let next = ending (followed rest e.text) e.parts in
      let a = steps kind.End (spell rest w) (next ∷ round) (ending Nothing [] ∷ next ∷ round) (comes rest w e round h) refl in
      let b = otherwise_comes o (kind.End ∷ spell rest w) (next ∷ round) a in
      let c = fills block (comes block) (spell_otherwise o (kind.End ∷ spell rest w)) (others o) (next ∷ round) b in
      let d = steps kind.Do (spell block (spell_otherwise o (kind.End ∷ spell rest w))) (ending block (others o) ∷ next ∷ round) (ending Nothing ((kind.Do, block) ∷ others o) ∷ next ∷ round) c refl in
      let f = fills test (comes test) (kind.Do ∷ spell block (spell_otherwise o (kind.End ∷ spell rest w))) ((kind.Do, block) ∷ others o) (next ∷ round) d in
      steps kind.If (spell test (kind.Do ∷ spell block (spell_otherwise o (kind.End ∷ spell rest w)))) (ending test ((kind.Do, block) ∷ others o) ∷ next ∷ round) (ending (If test block o (followed rest e.text)) e.parts ∷ round) f
      (ap (λ x. option_map (with_text e.parts round) (option_map (λ (y : Otherwise). If test block y (followed rest e.text)) x)) (others_are o))
  comes (Loop l test block rest) w e round h =
      let next = ending (followed rest e.text) e.parts in
      let a = steps kind.End (spell rest w) (next ∷ round) (ending Nothing [] ∷ next ∷ round) (comes rest w e round h) refl in
      let c = fills block (comes block) (kind.End ∷ spell rest w) [] (next ∷ round) a in
      let d = steps kind.Do (spell block (kind.End ∷ spell rest w)) (ending block [] ∷ next ∷ round) (ending Nothing ((kind.Do, block) ∷ []) ∷ next ∷ round) c refl in
      let f = fills test (comes test) (kind.Do ∷ spell block (kind.End ∷ spell rest w)) ((kind.Do, block) ∷ []) (next ∷ round) d in
      steps (kind.Loop l) (spell test (kind.Do ∷ spell block (kind.End ∷ spell rest w))) (ending test ((kind.Do, block) ∷ []) ∷ next ∷ round) (ending (Loop l test block (followed rest e.text)) e.parts ∷ round) f refl
  comes (Select test falls first block c rest) w e round h =
      let next = ending (followed rest e.text) e.parts in
      let tail = spell_cases c (kind.End ∷ spell rest w) in
      let a = steps kind.End (spell rest w) (next ∷ round) (ending Nothing [] ∷ next ∷ round) (comes rest w e round h) refl in
      let b = cases_come c (kind.End ∷ spell rest w) (next ∷ round) a in
      let d = fills block (comes block) tail (arms c) (next ∷ round) b in
      let f = steps kind.Do (spell block tail) (ending block (arms c) ∷ next ∷ round) (ending Nothing ((kind.Do, block) ∷ arms c) ∷ next ∷ round) d refl in
      let i = fills first (comes first) (kind.Do ∷ spell block tail) ((kind.Do, block) ∷ arms c) (next ∷ round) f in
      let j = steps (kind.Case falls) (spell first (kind.Do ∷ spell block tail)) (ending first ((kind.Do, block) ∷ arms c) ∷ next ∷ round) (ending Nothing ((kind.Case falls, first) ∷ (kind.Do, block) ∷ arms c) ∷ next ∷ round) i refl in
      let k = fills test (comes test) (kind.Case falls ∷ spell first (kind.Do ∷ spell block tail)) ((kind.Case falls, first) ∷ (kind.Do, block) ∷ arms c) (next ∷ round) j in
      steps kind.Select (spell test (kind.Case falls ∷ spell first (kind.Do ∷ spell block tail))) (ending test ((kind.Case falls, first) ∷ (kind.Do, block) ∷ arms c) ∷ next ∷ round) (ending (Select test falls first block c (followed rest e.text)) e.parts ∷ round) k
      (ap (λ x. option_map (with_text e.parts round) (option_map (λ (y : Cases). Select test falls first block y (followed rest e.text)) x)) (arms_are c))
  comes (Try block caught rest) w e round h =
      let next = ending (followed rest e.text) e.parts in
      let a = steps kind.End (spell rest w) (next ∷ round) (ending Nothing [] ∷ next ∷ round) (comes rest w e round h) refl in
      let c = fills caught (comes caught) (kind.End ∷ spell rest w) [] (next ∷ round) a in
      let d = steps kind.Catch (spell caught (kind.End ∷ spell rest w)) (ending caught [] ∷ next ∷ round) (ending Nothing ((kind.Catch, caught) ∷ []) ∷ next ∷ round) c refl in
      let f = fills block (comes block) (kind.Catch ∷ spell caught (kind.End ∷ spell rest w)) ((kind.Catch, caught) ∷ []) (next ∷ round) d in
      steps kind.Try (spell block (kind.Catch ∷ spell caught (kind.End ∷ spell rest w))) (ending block ((kind.Catch, caught) ∷ []) ∷ next ∷ round) (ending (Try block caught (followed rest e.text)) e.parts ∷ round) f refl
  comes (Assert rest) w e round h =
      let a = steps kind.Sentence (spell rest w) (ending (followed rest e.text) e.parts ∷ round) (ending (Sentence (followed rest e.text)) e.parts ∷ round) (comes rest w e round h) refl in
      steps kind.Assert (kind.Sentence ∷ spell rest w) (ending (Sentence (followed rest e.text)) e.parts ∷ round) (ending (Assert (followed rest e.text)) e.parts ∷ round) a refl
  comes (Break rest) w e round h = steps kind.Break (spell rest w) (ending (followed rest e.text) e.parts ∷ round) (ending (Break (followed rest e.text)) e.parts ∷ round) (comes rest w e round h) refl
  comes (Continue rest) w e round h = steps kind.Continue (spell rest w) (ending (followed rest e.text) e.parts ∷ round) (ending (Continue (followed rest e.text)) e.parts ∷ round) (comes rest w e round h) refl
  comes (Leave rest) w e round h = steps kind.Return (spell rest w) (ending (followed rest e.text) e.parts ∷ round) (ending (Leave (followed rest e.text)) e.parts ∷ round) (comes rest w e round h) refl

  otherwise_comes : (o : Otherwise) (w : List Kind) (round : List Ending) → read_back w ≡ Some (ending Nothing [] ∷ round) → read_back (spell_otherwise o w) ≡ Some (ending Nothing (others o) ∷ round)
  otherwise_comes NoElse w round h = h
  otherwise_comes (Else block) w round h =
      steps kind.Else (spell block w) (ending block [] ∷ round) (ending Nothing ((kind.Else, block) ∷ []) ∷ round) (fills block (comes block) w [] round h) refl
  otherwise_comes (Elseif test block o) w round h =
      let a = otherwise_comes o w round h in
      let b = fills block (comes block) (spell_otherwise o w) (others o) round a in
      let c = steps kind.Do (spell block (spell_otherwise o w)) (ending block (others o) ∷ round) (ending Nothing ((kind.Do, block) ∷ others o) ∷ round) b refl in
      let d = fills test (comes test) (kind.Do ∷ spell block (spell_otherwise o w)) ((kind.Do, block) ∷ others o) round c in
      steps kind.Elseif (spell test (kind.Do ∷ spell block (spell_otherwise o w))) (ending test ((kind.Do, block) ∷ others o) ∷ round) (ending Nothing ((kind.Elseif, test) ∷ (kind.Do, block) ∷ others o) ∷ round) d refl

  cases_come : (c : Cases) (w : List Kind) (round : List Ending) → read_back w ≡ Some (ending Nothing [] ∷ round) → read_back (spell_cases c w) ≡ Some (ending Nothing (arms c) ∷ round)
  cases_come NoCase w round h = h
  cases_come (Case falls test block c) w round h =
      let a = cases_come c w round h in
      let b = fills block (comes block) (spell_cases c w) (arms c) round a in
      let d = steps kind.Do (spell block (spell_cases c w)) (ending block (arms c) ∷ round) (ending Nothing ((kind.Do, block) ∷ arms c) ∷ round) b refl in
      let f = fills test (comes test) (kind.Do ∷ spell block (spell_cases c w)) ((kind.Do, block) ∷ arms c) round d in
      steps (kind.Case falls) (spell test (kind.Do ∷ spell block (spell_cases c w))) (ending test ((kind.Do, block) ∷ arms c) ∷ round) (ending Nothing ((kind.Case falls, test) ∷ (kind.Do, block) ∷ arms c) ∷ round) f refl

pub had_back : (t : Text) → text_in (spell t []) ≡ Some t
had_back t = ap (option_and_then whole) (fills t (comes t) [] [] [] refl)

-- prepared words are laid as the blocks of the text that is read back
pub laid_as_read : (first : ℕ) (words : List Kind) (prepared : List Prepared) → IsPrepared first words prepared → IsBody prepared (block_in first words)
laid_as_read first words prepared (text, placed, spelled, is) =
    let back : text_in words ≡ Some text = ap text_in (sym spelled) ∙ had_back text in
    subst (λ (o : Option Text). IsBody prepared (block_or first o)) (sym back) is
