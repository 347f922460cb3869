use Rattle.std.proofs.Common.{None}
use Rattle.op_cond_join.specs.Joinings.{joining}
use Rattle.cond_closing.specs.Tabled.{AreTables}
use Rattle.cond_closing.specs.declared.by_rows.ByRows.{ByRows}
use Rattle.op_seeks.proofs.ConditionLemmas.{flipped_apart, flipped_foot, shown_apart, shown_foot, tabled}
use Rattle.op_seeks.proofs.condition.shown_by_rows.Goals as goal

pub returns-clause-foot : goal.returns-clause-foot
returns-clause-foot g c =
    let it = c.args.it.now in
    let k : ByRows = record { join = c.args.join; first = c.rows.result; second = c.rows-2.result } in
    shown_foot (joining c.args.join.now) (AreTables k) None it (tabled k it c.rows.ensures c.rows-2.ensures) c.args.near.now.tables c.in_ok-ids.ids c.in_ok-ids.ensures.foot

pub returns-clause-flipped : goal.returns-clause-flipped
returns-clause-flipped g c =
    let it = c.args.it.now in
    let k : ByRows = record { join = c.args.join; first = c.rows.result; second = c.rows-2.result } in
    flipped_foot (joining c.args.join.now) (AreTables k) None it (tabled k it c.rows.ensures c.rows-2.ensures) c.args.near.now.tables c.in_ok-ids.ids c.in_ok-ids.ensures.foot

pub returns-clause-apart : goal.returns-clause-apart
returns-clause-apart g c =
    let it = c.args.it.now in
    let k : ByRows = record { join = c.args.join; first = c.rows.result; second = c.rows-2.result } in
    shown_apart (joining c.args.join.now) (AreTables k) None it (tabled k it c.rows.ensures c.rows-2.ensures) c.args.near.now.tables c.in_ok-ids.ids c.in_ok-ids.ensures.apart

pub returns-clause-flipped_apart : goal.returns-clause-flipped_apart
returns-clause-flipped_apart g c =
    let it = c.args.it.now in
    let k : ByRows = record { join = c.args.join; first = c.rows.result; second = c.rows-2.result } in
    flipped_apart (joining c.args.join.now) (AreTables k) None it (tabled k it c.rows.ensures c.rows-2.ensures) c.args.near.now.tables c.in_ok-ids.ids c.in_ok-ids.ensures.apart
