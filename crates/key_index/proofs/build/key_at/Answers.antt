use Rattle.std.proofs.Common.{◌<◌, length, rules}
use Rattle.key_index.proofs.BuildLemmas.{within_at}
use Rattle.key_index.proofs.build.key_at.Goals as goal

pub value_at-requires : goal.value_at-requires
value_at-requires c =
    let within : c.loop-column.column-index < length c.args.columns.now = search rules in
    within_at c.args.columns.now (length c.args.row.now) c.loop-column.column-index 0 c.requires within
