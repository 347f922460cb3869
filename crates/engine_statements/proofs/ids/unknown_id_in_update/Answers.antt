use Rattle.std.proofs.Common.{ℕ, Option, ◌∙◌, ap, map, sym}
use Rattle.statements.specs.Views.{assignment_view, filter_view}
use Rattle.engine_statements.specs.Found.{first_of, unknown_in, condition_list}
use Rattle.engine_statements.specs.Statements.{set_values}
use Rattle.engine_statements.proofs.IdLemmas.{unknown_in-append}
use Rattle.engine_statements.proofs.ids.unknown_id_in_update.Goals as goal

pub returns-in-Some : goal.returns-in-Some
returns-in-Some c =
    let sets = set_values (map assignment_view c.args.assignments.now) in
    let filter = condition_list (filter_view c.args.filter.now) in
    ap (λ (o : Option ℕ). first_of o (unknown_in c.args.next filter)) c.in-Some.ensures ∙ sym (unknown_in-append c.args.next sets filter)

pub returns-in-None : goal.returns-in-None
returns-in-None c =
    let sets = set_values (map assignment_view c.args.assignments.now) in
    let filter = condition_list (filter_view c.args.filter.now) in
    c.unknown_id_in_condition.ensures ∙ ap (λ (o : Option ℕ). first_of o (unknown_in c.args.next filter)) c.in-None.ensures ∙ sym (unknown_in-append c.args.next sets filter)
