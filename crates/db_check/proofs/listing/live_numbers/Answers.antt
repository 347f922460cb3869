use Rattle.std.specs.Prelude.{slice_get, option_to_list}
use Rattle.std.proofs.Common.{◌++◌, ℕ, List, map, take, refl, sym, ap, ◌∙◌}
use Rattle.std.proofs.lemmas.List.{map-append, take_all}
use mathlib.Core.List.{reverse}
use Rattle.version_graph.specs.declared.parts.Placed.{Placed}
use Rattle.layout_rules.proofs.PassLaws.{map_reverse, past_edges}
use Rattle.db_check.proofs.ListLemmas.{take_next}
use Rattle.db_check.proofs.listing.live_numbers.Goals as goal

pub loop-place-preserved : goal.loop-place-preserved
loop-place-preserved g c =
    let es = reverse c.args.graph.now.edges in
    let i = c.loop-place.place in
    c.in_ok-push_number.ensures
    ∙ ap (λ (l : List ℕ). l ++ map (λ (e : Placed _). e.number) (option_to_list (slice_get es i))) c.loop-place.invariant
    ∙ sym (map-append (λ (e : Placed _). e.number) (take i es) (option_to_list (slice_get es i)))
    ∙ ap (λ (l : List (Placed _)). map (λ (e : Placed _). e.number) l) (sym (take_next es i (slice_get es i) refl))

pub returns : goal.returns
returns g c =
    let es = c.args.graph.now.edges in
    c.loop-place.invariant
    ∙ ap (λ (l : List (Placed _)). map (λ (e : Placed _). e.number) l) (take_all c.loop-place.place (reverse es) (past_edges es c.loop-place.place _ c.live_operators-place-end.ensures.count c.loop-place-test.false))
    ∙ sym (map_reverse es)
