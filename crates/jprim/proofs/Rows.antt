-- The scalar verbs by their rows.
use Rattle.std.specs.Prelude.{ℤ, ◌||◌, ◌&&◌, Bool, true, false, cond, Option, Some, None, is_some, Result, Err}
use Rattle.std.proofs.Common.{◌≡◌, ◌∙◌, refl, ap}
use Rattle.jdata.specs.Noun.{shape}
use Rattle.jdata.specs.declared.fault.Fault.{Fault}
use Rattle.jdata.specs.declared.fault.Fault.TheVariants.{Domain, Nonce}
use Rattle.jdata.specs.declared.primitive.Primitive.{Primitive}
use Rattle.jdata.specs.declared.primitive.Primitive.TheVariants.{Equal, TildeColon, SlashColon, BackslashColon, SemicolonColon, QuoteColon, Dollar, Hash, Comma, CommaDot, CommaColon, BarColon, BarDot, LeftBrace, LeftBraceDot, LeftBraceColon, LeftBraceColonColon, RightBraceDot, RightBraceColon, LeftBracket, RightBracket, LeftBracketColon, IDot, IColon, CapitalIDot, Less, Greater, CapitalLDot, HashDot, HashColon, TildeDot, Semicolon, MinusColon, MinusDot, EDot}
use Rattle.jdata.specs.declared.noun.Noun.{Noun}
use Rattle.jdata.specs.declared.noun.Atom.{Atom, Atom-F, out-Atom}
use Rattle.jdata.specs.declared.noun.Atom.TheOpen as one
use Rattle.jarray.specs.Matches.{equal_atoms}
use Rattle.jarray.specs.Numbers.{is_integers, integers}
use Rattle.jscalar.specs.Dyads.{dyad_on, is_scalar_dyad, on_two}
use Rattle.jscalar.specs.Monads.{monad_on}
use Rattle.jshape.specs.Agreement.{longer}
use Rattle.jmono.specs.Monads.{scalar_monad, each_by}
use Rattle.jdyad.specs.Atoms.{is_comparison, compared, of_layers, of_atoms}
use Rattle.jdyad.specs.Dyads as scalar
use Rattle.jdyad.proofs.Filling.{same_by_place}
use Rattle.jdyad.proofs.Verbs.{of_compared}
use Rattle.jdyad.proofs.Wholes.{listed, unlisted}
use Rattle.jprim.specs.Monads as monads
use Rattle.jprim.specs.Dyads as dyads

by_integers : (row : Option (ℤ → Result ℤ Fault)) (y : Noun) → each_by row y ≡ monads.given (monads.on_integers row) y
by_integers (Some meant) y = refl
by_integers None y = refl

pub monad_is : (verb : Primitive) → monads.is_whole (monads.monad_of verb) ≡ false → (y : Noun) → scalar_monad verb y ≡ monads.given (monads.monad_of verb) y
unfolding monads.monad_of
monad_is Dollar h y = cc
monad_is Hash h y = cc
monad_is Comma h y = cc
monad_is CommaDot h y = cc
monad_is CommaColon h y = cc
monad_is BarColon h y = cc
monad_is BarDot h y = cc
monad_is LeftBraceDot h y = cc
monad_is LeftBraceColon h y = cc
monad_is RightBraceDot h y = cc
monad_is RightBraceColon h y = cc
monad_is LeftBracket h y = cc
monad_is RightBracket h y = cc
monad_is LeftBracketColon h y = cc
monad_is IDot h y = cc
monad_is IColon h y = cc
monad_is CapitalIDot h y = cc
monad_is Less h y = cc
monad_is Greater h y = cc
monad_is CapitalLDot h y = cc
monad_is HashDot h y = cc
monad_is HashColon h y = cc
monad_is TildeDot h y = cc
monad_is TildeColon h y = cc
monad_is Semicolon h y = cc
monad_is Equal h y = cc
monad_is SlashColon h y = cc
monad_is BackslashColon h y = cc
monad_is SemicolonColon h y = cc
monad_is QuoteColon h y = cc
monad_is verb h y = by_integers (monad_on verb) y

-- two meanings of atoms that are one
same_whole : (verb : Primitive) (meant : Atom → Atom → Result ℤ Fault) → ((a b : Atom) → of_atoms verb a b ≡ meant a b) → (x y : Noun) (whole : _) → scalar.of_shape verb x y whole ≡ dyads.of_whole meant x y whole
same_whole verb meant same x y None = refl
same_whole verb meant same x y (Some whole) = ap (integers whole) (same_by_place _ _ _ (λ j h. same _ _))

layers : (verb : Primitive) (meant : ℤ → ℤ → Result ℤ Fault) → dyad_on verb ≡ Some meant → ((equal : Bool) → compared verb equal ≡ Err Domain) → (equal : Bool) (a b : Atom-F Atom Noun) → of_layers verb equal a b ≡ dyads.of_integers meant a b
layers verb meant e other equal (one.Int x) (one.Int y) = ap (λ row. on_two row x y) e
layers verb meant e other equal a b = other equal

plain : (verb : Primitive) → is_comparison verb ≡ false → (equal : Bool) → compared verb equal ≡ Err Domain
unfolding is_comparison compared
plain Equal h equal = cc
plain TildeColon h equal = cc
plain verb h equal = refl

absent : (x y : Noun) → Err Nonce ≡ dyads.given dyads.Absent x y
unfolding dyads.given
absent x y = refl

-- the kinds, and then the atoms
of_kinds : (verb : Primitive) (meant : ℤ → ℤ → Result ℤ Fault) → dyad_on verb ≡ Some meant → is_comparison verb ≡ false → (x y : Noun) → scalar.each_pair verb x y ≡ dyads.given (dyads.EachInteger meant) x y
unfolding scalar.each_pair dyads.given of_atoms
of_kinds verb meant e h x y =
    ap (λ c. cond (c || (is_integers x && is_integers y)) (scalar.of_shape verb x y (longer (shape x) (shape y))) (Err Domain)) h
    ∙ ap (λ r. cond (is_integers x && is_integers y) r (Err Domain))
    (same_whole verb (λ a b. dyads.of_integers meant (out-Atom a) (out-Atom b)) (λ a b. layers verb meant e (plain verb h) (equal_atoms a b) (out-Atom a) (out-Atom b)) x y (longer (shape x) (shape y)))

-- a verb on integers
numbers : (verb : Primitive) (row : Option (ℤ → ℤ → Result ℤ Fault)) → dyad_on verb ≡ row → is_comparison verb ≡ false → (x y : Noun) → scalar.scalar_dyad verb x y ≡ dyads.given (dyads.on_integers row) x y
numbers verb None e h x y = unlisted verb x y (ap is_some e) ∙ absent x y
numbers verb (Some meant) e h x y = listed verb x y (ap is_some e) ∙ of_kinds verb meant e h x y

-- a verb on atoms of any kind
compares : (verb : Primitive) (meant : Atom → Atom → Result ℤ Fault) → is_comparison verb ≡ true → is_scalar_dyad verb ≡ true → ((a b : Atom) → compared verb (equal_atoms a b) ≡ meant a b) → (x y : Noun) →
    scalar.scalar_dyad verb x y ≡ dyads.given (dyads.EachAtom meant) x y
unfolding scalar.each_pair dyads.given
compares verb meant h listed_ same x y =
    listed verb x y listed_
    ∙ ap (λ c. cond (c || (is_integers x && is_integers y)) (scalar.of_shape verb x y (longer (shape x) (shape y))) (Err Domain)) h
    ∙ same_whole verb meant (λ a b. of_compared verb h a b ∙ same a b) x y (longer (shape x) (shape y))

by_kind : (verb : Primitive) → dyads.is_whole (dyads.dyad_of verb) ≡ false → (b : Bool) → is_comparison verb ≡ b → (x y : Noun) →
    scalar.scalar_dyad verb x y ≡ dyads.given (dyads.dyad_of verb) x y
unfolding is_comparison compared dyad_on dyads.dyad_of
by_kind Equal w b h x y = compares Equal dyads.if_equal refl refl (λ a c. refl) x y
by_kind TildeColon w b h x y = compares TildeColon dyads.if_unequal refl refl (λ a c. refl) x y
by_kind Dollar w b h x y = cc
by_kind Comma w b h x y = cc
by_kind CommaDot w b h x y = cc
by_kind CommaColon w b h x y = cc
by_kind BarColon w b h x y = cc
by_kind BarDot w b h x y = cc
by_kind LeftBraceDot w b h x y = cc
by_kind RightBraceDot w b h x y = cc
by_kind LeftBracket w b h x y = cc
by_kind RightBracket w b h x y = cc
by_kind LeftBracketColon w b h x y = cc
by_kind Hash w b h x y = cc
by_kind HashDot w b h x y = cc
by_kind HashColon w b h x y = cc
by_kind LeftBrace w b h x y = cc
by_kind LeftBraceColonColon w b h x y = cc
by_kind MinusColon w b h x y = cc
by_kind MinusDot w b h x y = cc
by_kind IDot w b h x y = cc
by_kind IColon w b h x y = cc
by_kind EDot w b h x y = cc
by_kind Semicolon w b h x y = cc
by_kind SlashColon w b h x y = cc
by_kind BackslashColon w b h x y = cc
by_kind CapitalIDot w b h x y = cc
by_kind verb w b h x y = numbers verb _ refl refl x y

pub dyad_is : (verb : Primitive) → dyads.is_whole (dyads.dyad_of verb) ≡ false → (x y : Noun) → scalar.scalar_dyad verb x y ≡ dyads.given (dyads.dyad_of verb) x y
dyad_is verb w x y = by_kind verb w (is_comparison verb) refl x y
