use Rattle.std.specs.Option.{option_map}
use Rattle.std.proofs.Common.{sym, subst}
use Rattle.expr_lang.specs.Terms.{expr_term}
use Rattle.row_parts.specs.RowCells.{Cell}
use Rattle.op_split_merge.specs.inner.Calls.{CanTestBoth}
use Rattle.op_rows.specs.declared.near_side.NearSide.{NearSide}
use Rattle.op_rows.specs.NearSides.{seen_from}
use Rattle.op_rows.specs.RowCalls.{SomeRows}
use Rattle.op_split_merge.specs.Split.{split}
use Rattle.op_split_merge.proofs.CallLemmas.{some_source, some_first, some_second}
use Rattle.op_split_merge.proofs.split.SplitRowOperator.aux_row.Goals as goal

pub aux_at_source-requires-clause-source : goal.aux_at_source-requires-clause-source
aux_at_source-requires-clause-source g c =
    let first = expr_term c.args.self.now.first in
    let second = option_map expr_term c.args.self.now.second in
    subst (λ (cell : Cell). CanTestBoth first second cell) (sym c.row_at.ensures)
    (some_source c.args.self.now.width first second c.args.near.now c.args.far.now
    (subst (λ (side : NearSide). SomeRows (seen_from side (split c.args.self.now.width (expr_term c.args.self.now.first) (option_map expr_term c.args.self.now.second))) c.args.near.now c.args.far.now) c.in-Source.is c.requires))

pub aux_at_source-requires-clause-first : goal.aux_at_source-requires-clause-first
aux_at_source-requires-clause-first g c =
    let first = expr_term c.args.self.now.first in
    let second = option_map expr_term c.args.self.now.second in
    subst (λ (cell : Cell). CanTestBoth first second cell) (sym c.row_at-first.ensures)
    (some_first c.args.self.now.width first second c.args.near.now c.args.far.now
    (subst (λ (side : NearSide). SomeRows (seen_from side (split c.args.self.now.width (expr_term c.args.self.now.first) (option_map expr_term c.args.self.now.second))) c.args.near.now c.args.far.now) c.in-Source.is c.requires))

pub aux_at_source-requires-clause-second : goal.aux_at_source-requires-clause-second
aux_at_source-requires-clause-second g c =
    let first = expr_term c.args.self.now.first in
    let second = option_map expr_term c.args.self.now.second in
    subst (λ (cell : Cell). CanTestBoth first second cell) (sym c.row_at-second.ensures)
    (some_second c.args.self.now.width first second c.args.near.now c.args.far.now
    (subst (λ (side : NearSide). SomeRows (seen_from side (split c.args.self.now.width (expr_term c.args.self.now.first) (option_map expr_term c.args.self.now.second))) c.args.near.now c.args.far.now) c.in-Source.is c.requires))
