-- Reading with what is known of each open group is reading.
use Rattle.std.proofs.Common.{ℕ, ◌≡◌, ◌<◌, ◌≤◌, ◌+◌, List, [], ◌∷◌, Bool, true, false, ◌&&◌, cond, Option, Some, None, drop, get_or, length, refl, sym, ap, ◌∙◌}
use Rattle.std.proofs.lemmas.List.{at_drop_more, at_drop_all}
use Rattle.jexplicit.specs.declared.kind.Kind.{Kind}
use Rattle.jexplicit.specs.declared.reading.Change.{Change}
use Rattle.jexplicit.specs.declared.reading.Change.TheVariants as change
use Rattle.jexplicit.specs.declared.reading.Part.{Part}
use Rattle.jexplicit.specs.declared.reading.Part.TheVariants as part
use Rattle.jexplicit.specs.declared.checking.Standing.{Standing}
use Rattle.jexplicit.specs.Reading.{innermost, change_by, changed, in_loop, starts_sentence, may_stand, go_on, reads}
use Rattle.jexplicit.specs.Standing.{innermost_of, inside_of, part_of, standing, changed_by, go_on_by, reads_by}

abbrev standings : List Part → List Standing
standings [] = []
standings (p ∷ s) = standing p (inside_of (innermost_of (standings s))) ∷ standings s

inside_alike : (s : List Part) → inside_of (innermost_of (standings s)) ≡ in_loop s
inside_alike [] = refl
inside_alike (part.LoopBlock ∷ s) = refl
inside_alike (p ∷ s) = inside_alike s

part_stays : (p : Part) (inside : Bool) → (standing p inside).part ≡ p
part_stays part.LoopBlock inside = refl
part_stays p inside = refl

part_alike : (s : List Part) → part_of (innermost_of (standings s)) ≡ innermost s
part_alike [] = refl
part_alike (p ∷ s) = ap Some (part_stays p (inside_of (innermost_of (standings s))))

changed_alike : (c : Change) (s : List Part) → changed_by c (standings s) ≡ standings (changed c s)
changed_alike change.Stay s = refl
changed_alike (change.Open p) s = refl
changed_alike (change.Into p) [] = refl
changed_alike (change.Into p) (r ∷ s) = refl
changed_alike change.Close [] = refl
changed_alike change.Close (r ∷ s) = refl

goes_so : (words : List Kind) → ((s : List Part) → reads_by words (standings s) ≡ reads words s) → (s : List Part) (c : Option Change) → go_on_by (reads_by words) (standings s) c ≡ go_on (reads words) s c
goes_so words so s None = refl
goes_so words so s (Some c) = ap (λ (z : List Standing). reads_by words z) (changed_alike c s) ∙ so (changed c s)

reads_so : (words : List Kind) (s : List Part) → reads_by words (standings s) ≡ reads words s
reads_so [] [] = refl
reads_so [] (p ∷ s) = refl
reads_so (k ∷ words) s =
    ap (λ (z : Bool). may_stand k z (starts_sentence words) && go_on_by (reads_by words) (standings s) (change_by k (part_of (innermost_of (standings s))))) (inside_alike s)
    ∙ (ap (λ (z : Option Part). may_stand k (in_loop s) (starts_sentence words) && go_on_by (reads_by words) (standings s) (change_by k z)) (part_alike s)
    ∙ ap (λ (z : Bool). may_stand k (in_loop s) (starts_sentence words) && z) (goes_so words (λ (z : List Part). reads_so words z) s (change_by k (innermost s))))

pub reads_alike : (words : List Kind) → reads_by words [] ≡ reads words []
reads_alike words = reads_so words []

module _ (words : List Kind) (i : ℕ) (d : Kind) (old new : List Standing) (refused followed : Bool) where
  reads_on : i < length words → followed ≡ starts_sentence (drop (i + 1) words) → ((rest : List Kind) → starts_sentence rest ≡ followed → reads_by (get_or words i d ∷ rest) old ≡ cond refused false (reads_by rest new))
      → reads_by (drop i words) old ≡ cond refused false (reads_by (drop (i + 1) words) new)
  reads_on h f g = at_drop_more (λ (ws : List Kind). reads_by ws old) words i d h ∙ g (drop (i + 1) words) (sym f)

  pub goes_past : i < length words → followed ≡ starts_sentence (drop (i + 1) words) → ((rest : List Kind) → starts_sentence rest ≡ followed → reads_by (get_or words i d ∷ rest) old ≡ cond refused false (reads_by rest new))
      → refused ≡ false → reads_by (drop i words) old ≡ reads_by words [] → reads_by (drop (i + 1) words) new ≡ reads_by words []
  goes_past h f g r e =
      let at : cond refused false (reads_by (drop (i + 1) words) new) ≡ reads_by (drop (i + 1) words) new = ap (λ (z : Bool). cond z false (reads_by (drop (i + 1) words) new)) r in
      sym (reads_on h f g ∙ at) ∙ e

  pub stops_at : i < length words → followed ≡ starts_sentence (drop (i + 1) words) → ((rest : List Kind) → starts_sentence rest ≡ followed → reads_by (get_or words i d ∷ rest) old ≡ cond refused false (reads_by rest new))
      → refused ≡ true → reads_by (drop i words) old ≡ reads_by words [] → false ≡ reads words []
  stops_at h f g r e =
      let at : cond refused false (reads_by (drop (i + 1) words) new) ≡ false = ap (λ (z : Bool). cond z false (reads_by (drop (i + 1) words) new)) r in
      sym (reads_on h f g ∙ at) ∙ (e ∙ reads_alike words)

pub ends_at : (words : List Kind) (i : ℕ) (groups : List Standing) → length words ≤ i → reads_by (drop i words) groups ≡ reads_by words [] → reads_by [] groups ≡ reads words []
ends_at words i groups h e = sym (at_drop_all (λ (ws : List Kind). reads_by ws groups) words i h) ∙ (e ∙ reads_alike words)
