use Rattle.std.proofs.Common.{refl}
use Rattle.op_cond_join.specs.Joinings.{joining}
use Rattle.equal_columns.specs.Columns.{equal_in}
use Rattle.cond_closing.specs.declared.assigned.ByValues.{ByValues}
use Rattle.op_seeks.proofs.ConditionLemmas.{assigned_apart, assigned_foot, turned_apart, turned_foot}
use Rattle.op_seeks.proofs.condition.assigned_by.Goals as goal

pub returns-clause-foot : goal.returns-clause-foot
returns-clause-foot c =
    let j = joining c.args.join.now in
    let it = c.args.it.now in
    let v : ByValues = record { join = c.args.join; memory = it.memory; first = it.first_rows; second = it.second_rows } in
    assigned_foot v it refl refl refl c.args.near.now.tables c.in_ok-ids.ids (equal_in j j.condition) c.in_ok-ids.ensures.foot

pub returns-clause-flipped : goal.returns-clause-flipped
returns-clause-flipped c =
    let j = joining c.args.join.now in
    let it = c.args.it.now in
    let v : ByValues = record { join = c.args.join; memory = it.memory; first = it.first_rows; second = it.second_rows } in
    turned_foot v it refl refl refl c.args.near.now.tables c.in_ok-ids.ids (equal_in j j.condition) c.in_ok-ids.ensures.foot

pub returns-clause-apart : goal.returns-clause-apart
returns-clause-apart c =
    let j = joining c.args.join.now in
    let it = c.args.it.now in
    let v : ByValues = record { join = c.args.join; memory = it.memory; first = it.first_rows; second = it.second_rows } in
    assigned_apart v it refl refl refl c.args.near.now.tables c.in_ok-ids.ids (equal_in j j.condition) c.in_ok-ids.ensures.apart

pub returns-clause-flipped_apart : goal.returns-clause-flipped_apart
returns-clause-flipped_apart c =
    let j = joining c.args.join.now in
    let it = c.args.it.now in
    let v : ByValues = record { join = c.args.join; memory = it.memory; first = it.first_rows; second = it.second_rows } in
    turned_apart v it refl refl refl c.args.near.now.tables c.in_ok-ids.ids (equal_in j j.condition) c.in_ok-ids.ensures.apart
