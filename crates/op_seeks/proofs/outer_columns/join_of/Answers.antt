use Rattle.std.proofs.Common.{◌≡◌, ℕ, List, length, ap, ◌∙◌}
use Rattle.expr_lang.specs.Terms.{Term, expr_term}
use Rattle.pair_rows.specs.Shown.{Joining}
use Rattle.op_outer_cond.specs.Outerings.{places_from}
use Rattle.op_seeks.proofs.OuterColumnLemmas.{places_long}
use Rattle.op_seeks.proofs.outer_columns.join_of.Goals as goal

abbrev join_by : List ℕ → List ℕ → Term ℕ → Joining
join_by first second condition = record { first = first; second = second; condition = condition }

pub returns : goal.returns
returns c =
    let it = c.args.it.now in
    let first : c.in_ok-first.first ≡ places_from 0 it.first = c.in_ok-first.ensures in
    let second : c.in_ok-second.second ≡ places_from it.first it.second =
    c.in_ok-second.ensures ∙ ap (λ (n : ℕ). places_from n it.second) (ap length (c.as_slice.ensures ∙ first) ∙ places_long 0 it.first) in
    ap (λ (ps : List ℕ). join_by ps c.in_ok-second.second (expr_term c.in_ok-condition.condition)) first
    ∙ ap (λ (ps : List ℕ). join_by (places_from 0 it.first) ps (expr_term c.in_ok-condition.condition)) second
    ∙ ap (λ (t : Term ℕ). join_by (places_from 0 it.first) (places_from it.first it.second) t) c.in_ok-condition.ensures
