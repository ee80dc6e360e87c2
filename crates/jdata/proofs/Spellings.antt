-- Each spelling leads back to its verb.
use Rattle.std.proofs.Common.{◌≡◌, ◌∙◌, sym, ap, refl, ℕ, List, [], ◌∷◌, Bool, true, false, cond, Option, Some}
use Rattle.std.specs.Str.{bytes_eq}
use Rattle.std.specs.Bool.{Decides}
use Rattle.std.proofs.lemmas.Slice.Eq.{bytes_eq-Decides}
use Rattle.jdata.specs.Spelling.{spelling_of, SpellingsDiffer, first_spelled, verb_of, WordsTellVerbs}
use Rattle.jdata.specs.declared.primitive.Primitive.{Primitive}
use Rattle.jdata.specs.declared.primitive.Primitive.TheVariants as verb
use Rattle.jdata.specs.declared.spelling.TheConstants.{ALL}

pub leads_back : (v : Primitive) → first_spelled ALL.now (spelling_of v) ≡ Some v
unfolding spelling_of
leads_back verb.Equal = refl
leads_back verb.Less = refl
leads_back verb.LessDot = refl
leads_back verb.LessColon = refl
leads_back verb.Greater = refl
leads_back verb.GreaterDot = refl
leads_back verb.GreaterColon = refl
leads_back verb.Plus = refl
leads_back verb.PlusDot = refl
leads_back verb.PlusColon = refl
leads_back verb.Times = refl
leads_back verb.TimesDot = refl
leads_back verb.TimesColon = refl
leads_back verb.Minus = refl
leads_back verb.MinusDot = refl
leads_back verb.MinusColon = refl
leads_back verb.Divide = refl
leads_back verb.DivideColon = refl
leads_back verb.Power = refl
leads_back verb.Bar = refl
leads_back verb.BarDot = refl
leads_back verb.BarColon = refl
leads_back verb.TildeDot = refl
leads_back verb.TildeColon = refl
leads_back verb.Comma = refl
leads_back verb.CommaDot = refl
leads_back verb.CommaColon = refl
leads_back verb.Semicolon = refl
leads_back verb.SemicolonColon = refl
leads_back verb.Hash = refl
leads_back verb.HashDot = refl
leads_back verb.HashColon = refl
leads_back verb.Bang = refl
leads_back verb.Dollar = refl
leads_back verb.SlashColon = refl
leads_back verb.BackslashColon = refl
leads_back verb.LeftBracket = refl
leads_back verb.RightBracket = refl
leads_back verb.LeftBracketColon = refl
leads_back verb.LeftBrace = refl
leads_back verb.LeftBraceDot = refl
leads_back verb.LeftBraceColon = refl
leads_back verb.LeftBraceColonColon = refl
leads_back verb.RightBraceDot = refl
leads_back verb.RightBraceColon = refl
leads_back verb.QuoteColon = refl
leads_back verb.EDot = refl
leads_back verb.IDot = refl
leads_back verb.IColon = refl
leads_back verb.CapitalIDot = refl
leads_back verb.CapitalLDot = refl
leads_back verb.CapitalTDot = refl

found_here : (word : List ℕ) (w : Primitive) (rest : List Primitive) (v : Primitive) (b : Bool) → Decides b (spelling_of w ≡ word) → cond b (Some w) (first_spelled rest word) ≡ Some v →
    (first_spelled rest word ≡ Some v → spelling_of v ≡ word) → spelling_of v ≡ word
found_here word w rest v true d e go = let s : w ≡ v = cc in sym (ap spelling_of s) ∙ d.0 refl
found_here word w rest v false d e go = go e

found_is : (word : List ℕ) (verbs : List Primitive) (v : Primitive) → first_spelled verbs word ≡ Some v → spelling_of v ≡ word
found_is word [] v e = cc
found_is word (w ∷ rest) v e = found_here word w rest v (bytes_eq (spelling_of w) word) (bytes_eq-Decides (spelling_of w) word) e (found_is word rest v)

pub differ : SpellingsDiffer
differ v w e = let p = sym (leads_back v) ∙ ap (first_spelled ALL.now) e ∙ leads_back w in cc

pub spelled : (word : List ℕ) (verb : Primitive) → first_spelled ALL.now word ≡ Some verb → word ≡ spelling_of verb
spelled word verb e = sym (found_is word ALL.now verb e)

pub spells : (word : List ℕ) (verb : Primitive) → word ≡ spelling_of verb → first_spelled ALL.now word ≡ Some verb
spells word verb e = ap (first_spelled ALL.now) e ∙ leads_back verb

pub tells : WordsTellVerbs
unfolding verb_of
tells word verb = (spelled word verb, spells word verb)

pub told : (word : List ℕ) (answer : Option Primitive) → answer ≡ verb_of word → (verb : Primitive) → (answer ≡ Some verb → word ≡ spelling_of verb) × (word ≡ spelling_of verb → answer ≡ Some verb)
told word answer e verb = let t = tells word verb in (λ h. t.0 (sym e ∙ h), λ h. e ∙ t.1 h)
