-- Agreement as a test and as a relation: what the test tells.
use Rattle.std.specs.Prelude.{ℕ, ◌==◌, ◌&&◌, Bool, ◌≡◌, List, [], ◌∷◌, ◌++◌}
use Rattle.std.proofs.Common.{sym, ◌∙◌, ap, refl, true≢false}
use Rattle.std.specs.List.{starts_with}
use Rattle.std.specs.Bool.{Decides}
use Rattle.std.proofs.lemmas.Bool.Decides.{Decides-like, Decides-and, Decides-eqb, Decides-at}
use Rattle.jshape.specs.Frames.{IsPrefix}
use Rattle.jshape.specs.Agreement.{is_prefix}
use lib.Dec.{eqb}

pub by_axes : (short long : List ℕ) → starts_with eqb long short ≡ is_prefix short long
by_axes [] long = refl
by_axes (n ∷ ns) [] = refl
by_axes (n ∷ ns) (m ∷ ms) = ap (λ b. (n == m) && b) (by_axes ns ms)

-- what a test of two shapes tells, as they were read
pub tested : (short long s l : List ℕ) (r b : Bool) → s ≡ short → l ≡ long → r ≡ is_prefix s l → r ≡ b → is_prefix short long ≡ b
tested short long s l r b e f h k = (λ i. is_prefix (sym e i) (sym f i)) ∙ sym h ∙ k

-- the test tells whether one frame is a prefix of the other
pub prefix_decides : (short long : List ℕ) → Decides (is_prefix short long) (IsPrefix short long)
prefix_decides [] long = (λ h. (long, refl), λ h. refl)
prefix_decides (n ∷ ns) [] = (λ h. absurd (true≢false (sym h)), λ h. absurd (cc h.1))
prefix_decides (n ∷ ns) (m ∷ ms) = Decides-like _
    (λ h. (h.1.0, λ i. sym h.0 i ∷ h.1.1 i))
    (λ h. let head : n ≡ m = cc h.1 in let tail : ms ≡ ns ++ h.0 = cc h.1 in (head, (h.0, tail)))
    (Decides-and _ _ (Decides-eqb n m) (prefix_decides ns ms))

pub started : (short long : List ℕ) (r : Bool) → r ≡ starts_with eqb long short → Decides r (IsPrefix short long)
started short long r e = Decides-at _ _ (e ∙ by_axes short long) (prefix_decides short long)
