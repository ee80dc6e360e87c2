-- The grammar of bodies, J Dictionary, "Control Structures": the words of a block, and then what follows it.
use Rattle.std.specs.Prelude.{Bool, true, ◌≡◌, List, ◌∷◌}
use Rattle.jexplicit.specs.declared.kind.Kind.{Kind}
use Rattle.jexplicit.specs.declared.kind.Kind.TheVariants as kind
use Rattle.jexplicit.specs.declared.kind.Looping.{Looping}

mutual
  -- a block as it is written
  pub data Text : Type 0 where
    Nothing : Text
    Sentence : Text → Text
    If : (test block : Text) → Otherwise → Text → Text
    Loop : Looping → (test block : Text) → Text → Text
    -- the first case, and the others
    Select : (test : Text) → (falls : Bool) → (first block : Text) → Cases → Text → Text
    Try : (block caught : Text) → Text → Text
    Assert : Text → Text
    Break : Text → Text
    Continue : Text → Text
    Leave : Text → Text

  pub data Otherwise : Type 0 where
    NoElse : Otherwise
    Else : Text → Otherwise
    Elseif : (test block : Text) → Otherwise → Otherwise

  pub data Cases : Type 0 where
    NoCase : Cases
    Case : (falls : Bool) → (test block : Text) → Cases → Cases

abbrev mutual
  pub spell : Text → List Kind → List Kind
  spell Nothing more = more
  spell (Sentence rest) more = kind.Sentence ∷ spell rest more
  spell (If test block otherwise rest) more = kind.If ∷ spell test (kind.Do ∷ spell block (spell_otherwise otherwise (kind.End ∷ spell rest more)))
  spell (Loop l test block rest) more = kind.Loop l ∷ spell test (kind.Do ∷ spell block (kind.End ∷ spell rest more))
  spell (Select test falls first block cases rest) more =
      kind.Select ∷ spell test (kind.Case falls ∷ spell first (kind.Do ∷ spell block (spell_cases cases (kind.End ∷ spell rest more))))
  spell (Try block caught rest) more = kind.Try ∷ spell block (kind.Catch ∷ spell caught (kind.End ∷ spell rest more))
  spell (Assert rest) more = kind.Assert ∷ kind.Sentence ∷ spell rest more
  spell (Break rest) more = kind.Break ∷ spell rest more
  spell (Continue rest) more = kind.Continue ∷ spell rest more
  spell (Leave rest) more = kind.Return ∷ spell rest more

  pub spell_otherwise : Otherwise → List Kind → List Kind
  spell_otherwise NoElse more = more
  spell_otherwise (Else block) more = kind.Else ∷ spell block more
  spell_otherwise (Elseif test block otherwise) more = kind.Elseif ∷ spell test (kind.Do ∷ spell block (spell_otherwise otherwise more))

  pub spell_cases : Cases → List Kind → List Kind
  spell_cases NoCase more = more
  spell_cases (Case falls test block cases) more = kind.Case falls ∷ spell test (kind.Do ∷ spell block (spell_cases cases more))

-- each `break.` and `continue.` stands in some loop's block, whose test is outside of it; inside says whether the
-- whole does
abbrev mutual
  pub IsPlaced : Bool → Text → Type 0
  IsPlaced inside Nothing = Unit {0}
  IsPlaced inside (Sentence rest) = IsPlaced inside rest
  IsPlaced inside (If test block otherwise rest) = IsPlaced inside test × IsPlaced inside block × AreOthersPlaced inside otherwise × IsPlaced inside rest
  IsPlaced inside (Loop l test block rest) = IsPlaced inside test × IsPlaced true block × IsPlaced inside rest
  IsPlaced inside (Select test falls first block cases rest) = IsPlaced inside test × IsPlaced inside first × IsPlaced inside block × AreCasesPlaced inside cases × IsPlaced inside rest
  IsPlaced inside (Try block caught rest) = IsPlaced inside block × IsPlaced inside caught × IsPlaced inside rest
  IsPlaced inside (Assert rest) = IsPlaced inside rest
  IsPlaced inside (Break rest) = (inside ≡ true) × IsPlaced inside rest
  IsPlaced inside (Continue rest) = (inside ≡ true) × IsPlaced inside rest
  IsPlaced inside (Leave rest) = IsPlaced inside rest

  pub AreOthersPlaced : Bool → Otherwise → Type 0
  AreOthersPlaced inside NoElse = Unit {0}
  AreOthersPlaced inside (Else block) = IsPlaced inside block
  AreOthersPlaced inside (Elseif test block otherwise) = IsPlaced inside test × IsPlaced inside block × AreOthersPlaced inside otherwise

  pub AreCasesPlaced : Bool → Cases → Type 0
  AreCasesPlaced inside NoCase = Unit {0}
  AreCasesPlaced inside (Case falls test block cases) = IsPlaced inside test × IsPlaced inside block × AreCasesPlaced inside cases
