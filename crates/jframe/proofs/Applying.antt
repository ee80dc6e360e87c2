-- What a verb at its ranks gives, from what came of the cells.
use Rattle.std.proofs.Common.{◌≡◌, ◌≢◌, ℕ, ◌<◌, ◌++◌, ◌∷◌, ℤ, List, [], map, Result, Ok, Err, Option, refl, sym, subst, ap, ◌∙◌, eq-eqb}
use Rattle.std.specs.Prelude.{◌==◌}
use Rattle.std.specs.List.{range_with_len}
use Rattle.std.proofs.lemmas.Bool.{ne_eqb}
use Rattle.jdata.specs.Answers.{Answers}
use Rattle.jdata.specs.Firsts.{all_or_first, and_then}
use Rattle.jdata.specs.Noun.{shape, product}
use Rattle.jdata.specs.declared.fault.Fault.{Fault}
use Rattle.jdata.specs.declared.fault.Trouble.{Trouble}
use Rattle.jdata.specs.declared.fault.Trouble.TheVariants as trouble
use Rattle.jdata.specs.declared.noun.Noun.{Noun}
use Rattle.jarray.specs.Placed.{Placed, Gives}
use Rattle.jframe.specs.Assembly.{assembled}
use Rattle.jframe.specs.Cells.{Parted, parted, nth_cell, filled_cell}
use Rattle.jframe.specs.Ranks.{for_shape, of_cells, at_rank}
use Rattle.jframe.proofs.Assembling.{chosen, refused}
use Rattle.jframe.proofs.Firsts.{places_until}

-- no cell
pub none_gives : (frame : List ℕ) (each : ℕ → Result Noun Fault) (filled : Result Noun Fault) (r : Result Placed Trouble) → product frame ≡ 0 →
    Gives (and_then (for_shape filled) (λ v. assembled frame (v ∷ []))) r → Gives (of_cells frame each filled) r
none_gives frame each filled r none h = subst (λ d. Gives d r) (sym (chosen (product frame == 0) _ _ (eq-eqb _ _ none))) h

-- each cell gave a result
pub all_give : (frame : List ℕ) (each : ℕ → Result Noun Fault) (filled : Result Noun Fault) (vs : List Noun) (r : Result Placed Trouble) → product frame ≢ 0 →
    all_or_first (map each (range_with_len 0 (product frame))) ≡ Ok vs → Gives (assembled frame vs) r → Gives (of_cells frame each filled) r
all_give frame each filled vs r some all h =
    let same : of_cells frame each filled ≡ assembled frame vs =
    refused (product frame == 0) _ _ (ne_eqb _ _ some) ∙ ap (λ a. and_then a (assembled frame)) all in
    subst (λ d. Gives d r) (sym same) h

-- or one of them a fault
pub fault_gives : (frame : List ℕ) (each : ℕ → Result Noun Fault) (filled : Result Noun Fault) (why : Trouble) → product frame ≢ 0 →
    Answers {Value = List Noun} (all_or_first (map each (range_with_len 0 (product frame)))) (Err why) → Answers {Value = Noun} (of_cells frame each filled) (Err why)
fault_gives frame each filled (trouble.Fault f) some h =
    refused (product frame == 0) _ _ (ne_eqb _ _ some) ∙ ap (λ a. and_then a (assembled frame)) h
fault_gives frame each filled trouble.NoMemory some h = tt

-- the first fault, as the loop meets it
pub answers_until : (each : ℕ → Result Noun Fault) (i n : ℕ) (vs : List Noun) (why : Trouble) → all_or_first (map each (range_with_len 0 i)) ≡ Ok vs → i < n →
    Answers {Value = Noun} (each i) (Err why) → Answers {Value = List Noun} (all_or_first (map each (range_with_len 0 n))) (Err why)
answers_until each i n vs (trouble.Fault f) e below h = places_until each i n vs f e below h
answers_until each i n vs trouble.NoMemory e below h = tt

-- the definition, by the cells as they were parted
pub at_rank_is : (rank : Option ℤ) (meant : Noun → Result Noun Fault) (y : Noun) (p : Parted) → p ≡ parted rank (shape y) →
    at_rank rank meant y ≡ of_cells p.frame (λ i. meant (nth_cell p.cell y i)) (meant (filled_cell rank y))
unfolding at_rank
at_rank_is rank meant y p e = λ i. of_cells ((sym e i).frame) (λ j. meant (nth_cell ((sym e i).cell) y j)) (meant (filled_cell rank y))
