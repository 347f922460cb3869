use Rattle.op_kinds.proofs.built_calls.BuiltOpOperator.admit_source.Goals as goal

pub returns-in-CreateTable : goal.returns-in-CreateTable
returns-in-CreateTable g c = rw c.in-CreateTable.is c.admit_source.ensures

pub returns-in-AddColumn : goal.returns-in-AddColumn
returns-in-AddColumn g c = rw c.in-AddColumn.is c.admit_source-in-AddColumn.ensures

pub returns-in-AddTracked : goal.returns-in-AddTracked
returns-in-AddTracked g c = rw c.in-AddTracked.is c.admit_source-in-AddTracked.ensures

pub returns-in-Split : goal.returns-in-Split
returns-in-Split g c = rw c.in-Split.is c.admit_source-in-Split.ensures

pub returns-in-DecomposeSingle : goal.returns-in-DecomposeSingle
returns-in-DecomposeSingle g c = rw c.in-DecomposeSingle.is c.admit_source-in-DecomposeSingle.ensures

pub returns-in-DecomposePk : goal.returns-in-DecomposePk
returns-in-DecomposePk g c = rw c.in-DecomposePk.is c.admit_source-in-DecomposePk.ensures

pub returns-in-JoinPk : goal.returns-in-JoinPk
returns-in-JoinPk g c = rw c.in-JoinPk.is c.admit_source-in-JoinPk.ensures

pub returns-in-DecomposeFk : goal.returns-in-DecomposeFk
returns-in-DecomposeFk g c = rw c.in-DecomposeFk.is c.admit_source-in-DecomposeFk.ensures

pub returns-in-JoinFk : goal.returns-in-JoinFk
returns-in-JoinFk g c = rw c.in-JoinFk.is c.admit_source-in-JoinFk.ensures

pub returns-in-JoinOn : goal.returns-in-JoinOn
returns-in-JoinOn g c = rw c.in-JoinOn.is c.admit_source-in-JoinOn.ensures

pub returns-in-OuterJoinOn : goal.returns-in-OuterJoinOn
returns-in-OuterJoinOn g c = rw c.in-OuterJoinOn.is c.admit_source-in-OuterJoinOn.ensures
