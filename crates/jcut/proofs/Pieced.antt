-- A piece by its number.
use Rattle.std.specs.Prelude.{ℕ, ◌<◌, ◌≡◌, List, length, map, slice_get, Some}
use Rattle.std.specs.List.{All}
use Rattle.std.specs.Option.{option_map}
use Rattle.std.proofs.Common.{sym, ◌∙◌, ap, subst}
use Rattle.std.proofs.lemmas.Option.{slice_get-map, get_or_from_slice_get}
use Rattle.jdata.specs.declared.noun.Noun.{Noun}
use Rattle.jselect.specs.Picking.{items_at}

pub nth_mapped : {A : Type 0} (f : A → List ℕ) (whole : Noun) (l : List A) (k : ℕ) (x : A) (v : Noun) → slice_get l k ≡ Some x → v ≡ items_at (f x) whole →
    slice_get (map (λ places. items_at places whole) (map f l)) k ≡ Some v
nth_mapped f whole l k x v at is =
    slice_get-map (λ places. items_at places whole) (map f l) k
    ∙ ap (option_map (λ places. items_at places whole)) (slice_get-map f l k ∙ ap (option_map f) at)
    ∙ ap (λ w. Some w) (sym is)

pub nth_listed : (whole : Noun) (l : List (List ℕ)) (k : ℕ) (x : List ℕ) (v : Noun) → slice_get l k ≡ Some x → v ≡ items_at x whole →
    slice_get (map (λ places. items_at places whole) l) k ≡ Some v
nth_listed whole l k x v at is =
    slice_get-map (λ places. items_at places whole) l k ∙ ap (option_map (λ places. items_at places whole)) at ∙ ap (λ w. Some w) (sym is)

-- what holds of each thing holds of one by its number
pub holds_at : {A : Type 0} (P : A → Type 0) (l : List A) (k : ℕ) (x : A) → All P l → k < length l → slice_get l k ≡ Some x → P x
holds_at P l k x all below at = subst P (get_or_from_slice_get l k x x at) (all k x below)
