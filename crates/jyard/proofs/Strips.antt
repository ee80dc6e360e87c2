-- The data field of a `Strip`. Assumes `Logic`.
use Rattle.std.proofs.Common.{◌≡◌, List, [], ◌∷◌, ◌++◌, refl, ap, ◌∙◌}
use seplogic.Ra.Ura.{Ura}
use mir.Val.{Val, vstruct, of_list}
use base.Logic.{ent, emp}
use types.Logic.{Logic, sem}
use denote.RattleType.{RattleType}
use denote.Laws.{Is}
use denote.RawPtr.{Ptr, ptr_val}
use denote.Shadow.{makes_shadow}
use denote.Struct.Struct.{Struct}
use denote.Struct.Owning.{shape}
use Rattle.jyard.specs.contracts.strip.Strip as strip
use Rattle.jyard.proofs.Fields.{strip_of}

module _ (R : RattleType) where
  abbrev pub StripData : RattleType
  StripData = Struct (shape (strip.the_type R))

  pub strip_told : (p : Ptr) (vs : List Val) → Is StripData (p, tt) vs → vs ≡ strip_of p ∷ []
  strip_told p vs is = is.1.0 ∙ ap (λ (ws : List Val). vstruct (of_list (ws ++ [])) ∷ []) is.1.1.0

  pub strip_made : {M : Type 1} {𝓤 : Ura M} (𝓛 : Logic 𝓤) (p : Ptr) → ent 𝓤 (emp 𝓤) (sem 𝓛 (StripData.own_val (p, tt) (strip_of p ∷ [])))
  strip_made 𝓛 p = makes_shadow 𝓛 (StripData.own_val (p, tt) (strip_of p ∷ [])) (λ vss. (tt, (tt, tt))) ((ptr_val p ∷ [], tt), (refl, (refl, tt)))
