use Rattle.std.proofs.Common.{ap, sym, ◌∙◌, map}
use Rattle.std.specs.List.{range_with_len}
use Rattle.std.proofs.lemmas.Result.{IfOk-weaker}
use Rattle.jsearch.specs.Codes.{code}
use Rattle.jsearch.specs.Listed.{cell_in, cell_count, cells_in}
use Rattle.jsearch.proofs.Looking.{all_found, map-map}
use Rattle.jsearch.proofs.places.first_places_in.Goals as goal

pub returns : goal.returns
returns c =
    let a = c.args.among in
    let w = c.args.wanted in
    let are =
    ap (map (λ s. s.now)) c.as_slice-3.ensures.value ∙ c.in_ok-among_keys.ensures ∙ ap (map (λ v. v.items)) c.as_slice.ensures.value ∙ c.in_ok-among_codes.ensures
    ∙ sym (map-map code (cell_in a) (range_with_len 0 (cell_count a))) in
    let want = ap (map (λ s. s.now)) c.as_slice-4.ensures.value ∙ c.in_ok-wanted_keys.ensures ∙ ap (map (λ v. v.items)) c.as_slice-2.ensures.value ∙ c.in_ok-wanted_codes.ensures in
    IfOk-weaker c.first_places.result _ _
    (λ v e. e ∙ all_found c.as_slice-3.result.now c.as_slice-4.result.now (cells_in a) (cell_in w) (range_with_len 0 (cell_count w)) are want) c.first_places.ensures
