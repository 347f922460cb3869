use Rattle.std.proofs.Common.{rules}
use Rattle.expr_lang.specs.Terms.{expr_term}
use Rattle.op_column.proofs.AddColumnLemmas.{admits_beside}
use Rattle.op_column.proofs.add_column.AddColumn.admit_target.Goals as goal

pub returns : goal.returns
returns c =
    admits_beside c.args.self.now.place (expr_term c.args.self.now.value) c.args.near.now c.in_ok-with_kept.field-0 c.args.aux.now
    (search rules)
    (search rules)
