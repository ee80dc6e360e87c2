-- The words of a block are as many as are counted.
use Rattle.std.proofs.Common.{◌≡◌, ◌+◌, List, [], ◌∷◌, length, arith}
use Rattle.jexplicit.specs.declared.kind.Kind.{Kind}
use Rattle.jexplicit.specs.declared.kind.Kind.TheVariants as kind
use Rattle.jexplicit.specs.Grammar.{Text, Otherwise, Cases, spell, spell_otherwise, spell_cases}
use Rattle.jexplicit.specs.Grammar.Text.{Nothing, Sentence, If, Loop, Select, Try, Assert, Break, Continue, Leave}
use Rattle.jexplicit.specs.Grammar.Otherwise.{NoElse, Else, Elseif}
use Rattle.jexplicit.specs.Grammar.Cases.{NoCase, Case}
use Rattle.jexplicit.specs.Blocks.{count, count_otherwise, count_cases}

mutual
  counts : (b : Text) (more : List Kind) → length (spell b more) ≡ count b + length more
  counts Nothing more = omega arith
  counts (Sentence rest) more = let e = counts rest more in omega (arith, e)
  counts (If test block otherwise rest) more =
      let e1 = counts test (kind.Do ∷ spell block (spell_otherwise otherwise (kind.End ∷ spell rest more))) in
      let e2 = counts block (spell_otherwise otherwise (kind.End ∷ spell rest more)) in
      let e3 = counts_otherwise otherwise (kind.End ∷ spell rest more) in
      let e4 = counts rest more in
      omega (arith, e1, e2, e3, e4)
  counts (Loop l test block rest) more =
      let e1 = counts test (kind.Do ∷ spell block (kind.End ∷ spell rest more)) in
      let e2 = counts block (kind.End ∷ spell rest more) in
      let e3 = counts rest more in
      omega (arith, e1, e2, e3)
  counts (Select test falls first block cases rest) more =
      let e1 = counts test (kind.Case falls ∷ spell first (kind.Do ∷ spell block (spell_cases cases (kind.End ∷ spell rest more)))) in
      let e2 = counts first (kind.Do ∷ spell block (spell_cases cases (kind.End ∷ spell rest more))) in
      let e3 = counts block (spell_cases cases (kind.End ∷ spell rest more)) in
      let e4 = counts_cases cases (kind.End ∷ spell rest more) in
      let e5 = counts rest more in
      omega (arith, e1, e2, e3, e4, e5)
  counts (Try block caught rest) more =
      let e1 = counts block (kind.Catch ∷ spell caught (kind.End ∷ spell rest more)) in
      let e2 = counts caught (kind.End ∷ spell rest more) in
      let e3 = counts rest more in
      omega (arith, e1, e2, e3)
  counts (Assert rest) more = let e = counts rest more in omega (arith, e)
  counts (Break rest) more = let e = counts rest more in omega (arith, e)
  counts (Continue rest) more = let e = counts rest more in omega (arith, e)
  counts (Leave rest) more = let e = counts rest more in omega (arith, e)

  counts_otherwise : (o : Otherwise) (more : List Kind) → length (spell_otherwise o more) ≡ count_otherwise o + length more
  counts_otherwise NoElse more = omega arith
  counts_otherwise (Else block) more = let e = counts block more in omega (arith, e)
  counts_otherwise (Elseif test block otherwise) more =
      let e1 = counts test (kind.Do ∷ spell block (spell_otherwise otherwise more)) in
      let e2 = counts block (spell_otherwise otherwise more) in
      let e3 = counts_otherwise otherwise more in
      omega (arith, e1, e2, e3)

  counts_cases : (c : Cases) (more : List Kind) → length (spell_cases c more) ≡ count_cases c + length more
  counts_cases NoCase more = omega arith
  counts_cases (Case falls test block cases) more =
      let e1 = counts test (kind.Do ∷ spell block (spell_cases cases more)) in
      let e2 = counts block (spell_cases cases more) in
      let e3 = counts_cases cases more in
      omega (arith, e1, e2, e3)

pub counted : (b : Text) → length (spell b []) ≡ count b
counted b = let e = counts b [] in omega (arith, e)
