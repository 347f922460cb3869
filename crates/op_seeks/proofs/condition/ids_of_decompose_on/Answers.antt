use Rattle.std.proofs.Common.{true, false}
use Rattle.op_law.specs.Meaning.{flip}
use Rattle.op_cond_join.specs.Joinings.{joining}
use Rattle.op_cond_join.specs.JoinOn.{join_on}
use Rattle.equal_columns.specs.Columns.{equal_in}
use Rattle.op_seeks.specs.Places.{condition_place}
use Rattle.op_seeks.specs.declared.known.Known.TheVariants.{Entries}
use Rattle.op_seeks.proofs.SeekLemmas.{at_changes}
use Rattle.op_seeks.proofs.condition.ids_of_decompose_on.Goals as goal

pub returns-then-crossed-clause-apart : goal.returns-then-crossed-clause-apart
returns-then-crossed-clause-apart g c =
    let j = joining c.args.join.now in
    at_changes c.shown_by.result (flip (join_on j)) (condition_place true (equal_in j j.condition)) true c.args.crossed.backward (Entries c.args.it.now) c.args.crossed.near.now.tables c.args.crossed.changes.now.tables c.if-crossed.true c.shown_by.ensures.flipped_apart

pub returns-else-crossed-clause-apart : goal.returns-else-crossed-clause-apart
returns-else-crossed-clause-apart g c =
    let j = joining c.args.join.now in
    at_changes c.assigned_by.result (flip (join_on j)) (condition_place true (equal_in j j.condition)) false c.args.crossed.backward (Entries c.args.it.now) c.args.crossed.near.now.tables c.args.crossed.changes.now.tables c.if-crossed.false c.assigned_by.ensures.flipped_apart
