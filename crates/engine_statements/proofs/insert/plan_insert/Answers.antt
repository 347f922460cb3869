use Rattle.std.proofs.Common.{◌≡◌, ℕ, Ok, ap, sym, subst, ◌∙◌}
use Rattle.id_memory.specs.States.{CounterState}
use Rattle.row_store.specs.Rows.{AreBelow}
use Rattle.op_law.proofs.SoundLaws.{below_sound}
use Rattle.engine_statements.specs.Found.{unknown_in_rows}
use Rattle.engine_statements.specs.Statements.{right_counts}
use Rattle.engine_statements.specs.Calls.{rows_in}
use Rattle.engine_statements.proofs.IdLemmas.{known_none}
use Rattle.engine_statements.proofs.TakenLemmas.{insert_taken}
use Rattle.engine_statements.proofs.PlannedLemmas.{insert_planned}
use Rattle.engine_statements.proofs.insert.plan_insert.Goals as goal

pub returns-clause-taken : goal.returns-clause-taken
returns-clause-taken c =
    let k = c.args.database.now in
    let f = c.in_ok-found.found in
    let new = c.args.rows.now in
    let rows = rows_in k f.number in
    let table = c.in_ok-found.ensures.there in
    let next = c.next-next.ensures.value ∙ ap (λ (i : CounterState). i.next) c.ids.ensures in
    let below = subst (λ (n : ℕ). AreBelow rows n) (sym next) (below_sound k.ids.next rows table.stands.sound) in
    let counts = subst (λ (width : ℕ). right_counts width new ≡ Ok tt) c.len.ensures c.in_ok-check_counts.ensures in
    let known = known_none c.next-next.result (unknown_in_rows c.next-next.result new) tt c.in_ok-check_row_ids.ensures in
    record {
      lives = table.lives;
      may = insert_taken k f new c.next-next.result c.in_ok-end.end _ table next c.in_ok-end.ensures c.next-next.ensures.from_one counts known c.requires (c.in_ok-changes.ensures.rows rows table.stands.rises below);
      old = c.in_ok-changes.ensures.old rows below;
    }

pub returns-clause-gives : goal.returns-clause-gives
returns-clause-gives c =
    let k = c.args.database.now in
    let f = c.in_ok-found.found in
    let new = c.args.rows.now in
    let rows = rows_in k f.number in
    let table = c.in_ok-found.ensures.there in
    let next = c.next-next.ensures.value ∙ ap (λ (i : CounterState). i.next) c.ids.ensures in
    let below = subst (λ (n : ℕ). AreBelow rows n) (sym next) (below_sound k.ids.next rows table.stands.sound) in
    let counts = subst (λ (width : ℕ). right_counts width new ≡ Ok tt) c.len.ensures c.in_ok-check_counts.ensures in
    insert_planned k c.args.name.now new f _ c.next-next.result c.in_ok-end.end c.in_ok-ids.ids c.in_ok-found.ensures.gives table next counts c.in_ok-check_row_ids.ensures
    (c.in_ok-changes.ensures.rows rows table.stands.rises below) c.in_ok-end.ensures c.in_ok-ids.ensures
