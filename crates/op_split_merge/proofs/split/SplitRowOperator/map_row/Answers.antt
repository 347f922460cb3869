use Rattle.std.specs.Option.{option_map}
use Rattle.std.proofs.Common.{sym, subst}
use Rattle.expr_lang.specs.Terms.{expr_term}
use Rattle.row_parts.specs.RowCells.{Cell}
use Rattle.op_split_merge.specs.inner.Calls.{CanTestBoth}
use Rattle.op_rows.specs.declared.near_side.NearSide.{NearSide}
use Rattle.op_rows.specs.NearSides.{seen_from}
use Rattle.op_rows.specs.RowCalls.{MayRows}
use Rattle.op_split_merge.specs.Split.{split}
use Rattle.op_split_merge.proofs.CallLemmas.{may_new, may_first, may_second}
use Rattle.op_split_merge.proofs.split.SplitRowOperator.map_row.Goals as goal

pub targets_to-requires-clause-new : goal.targets_to-requires-clause-new
targets_to-requires-clause-new g c =
    let first = expr_term c.args.self.now.first in
    let second = option_map expr_term c.args.self.now.second in
    subst (λ (cell : Cell). CanTestBoth first second cell) (sym c.row_at.ensures)
    (may_new c.args.self.now.width first second c.args.near.now c.args.old.near.now c.args.old.far.now
    (subst (λ (side : NearSide). MayRows (seen_from side (split c.args.self.now.width (expr_term c.args.self.now.first) (option_map expr_term c.args.self.now.second))) c.args.near.now c.args.old.near.now c.args.old.far.now) c.in-Source.is c.requires))

pub targets_to-requires-clause-first : goal.targets_to-requires-clause-first
targets_to-requires-clause-first g c =
    let first = expr_term c.args.self.now.first in
    let second = option_map expr_term c.args.self.now.second in
    subst (λ (cell : Cell). CanTestBoth first second cell) (sym c.row_at-first.ensures)
    (may_first c.args.self.now.width first second c.args.near.now c.args.old.near.now c.args.old.far.now
    (subst (λ (side : NearSide). MayRows (seen_from side (split c.args.self.now.width (expr_term c.args.self.now.first) (option_map expr_term c.args.self.now.second))) c.args.near.now c.args.old.near.now c.args.old.far.now) c.in-Source.is c.requires))

pub targets_to-requires-clause-second : goal.targets_to-requires-clause-second
targets_to-requires-clause-second g c =
    let first = expr_term c.args.self.now.first in
    let second = option_map expr_term c.args.self.now.second in
    subst (λ (cell : Cell). CanTestBoth first second cell) (sym c.row_at-second.ensures)
    (may_second c.args.self.now.width first second c.args.near.now c.args.old.near.now c.args.old.far.now
    (subst (λ (side : NearSide). MayRows (seen_from side (split c.args.self.now.width (expr_term c.args.self.now.first) (option_map expr_term c.args.self.now.second))) c.args.near.now c.args.old.near.now c.args.old.far.now) c.in-Source.is c.requires))
