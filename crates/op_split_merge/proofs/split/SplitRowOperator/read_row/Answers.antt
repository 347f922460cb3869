use Rattle.std.specs.Option.{option_map}
use Rattle.std.proofs.Common.{subst}
use Rattle.expr_lang.specs.Terms.{expr_term}
use Rattle.op_rows.specs.declared.near_side.NearSide.{NearSide}
use Rattle.op_rows.specs.NearSides.{seen_from}
use Rattle.op_rows.specs.RowCalls.{StoredRows}
use Rattle.op_split_merge.specs.Split.{split}
use Rattle.op_split_merge.proofs.CallLemmas.{stored_source}
use Rattle.op_split_merge.proofs.split.SplitRowOperator.read_row.Goals as goal

pub read_target-requires : goal.read_target-requires
read_target-requires g c =
    stored_source c.args.self.now.width (expr_term c.args.self.now.first) (option_map expr_term c.args.self.now.second) c.args.near.now c.args.aux.now
    (subst (λ (side : NearSide). StoredRows (seen_from side (split c.args.self.now.width (expr_term c.args.self.now.first) (option_map expr_term c.args.self.now.second))) c.args.near.now c.args.aux.now) c.in-Source.is c.requires)
