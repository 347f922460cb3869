use Rattle.std.proofs.Common.{List, ℕ, ap, ◌∙◌}
use Rattle.layout_rules.specs.Lookups.{is_valid}
use Rattle.layout_rules.proofs.LookupLaws.{valid_iff}
use Rattle.layout_rules.proofs.validity.is_valid.Goals as goal

pub returns : goal.returns
returns g c =
    let es = c.args.graph.now.edges in
    valid_iff es c.are_right.ensures.edges c.args.layout.now.operators c.are_right.result (c.are_right.ensures.value ∙ ap (λ (l : List ℕ). is_valid es l) c.as_slice.ensures)
