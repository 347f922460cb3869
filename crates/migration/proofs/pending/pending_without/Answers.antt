use Rattle.std.proofs.Common.{rules, ◌∙◌, ap, filter}
use Rattle.std.specs.Prelude.{◌==◌, not}
use Rattle.std.proofs.lemmas.Fn.{filter_same}
use Rattle.migration.proofs.pending.pending_without.Goals as goal

pub returns : goal.returns
returns c = c.from_vec.ensures ∙ filter_same _ _ _ (λ x b f' k. search rules) _ _ c.retain.ensures.filtered ∙ ap (filter (λ m. not (m == c.args.operator))) c.into_vec-operators.ensures
