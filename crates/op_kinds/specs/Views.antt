-- What contracts see of operators.
use Rattle.std.specs.Option.{option_map}
use Rattle.expr_lang.specs.Terms.{expr_term}
use Rattle.op_kinds.specs.Operators as «any»
use Rattle.op_kinds.specs.Operators.{Built}
use Rattle.op_kinds.specs.declared.built_op.BuiltOp.{BuiltOp}
use Rattle.op_kinds.specs.declared.built_op.BuiltOp.TheVariants.{CreateTable, DropTable, Rename, AddColumn, AddTracked, DropColumn, Split, Merge, DecomposeSingle, DecomposePk, OuterJoinPk, JoinPk, DecomposeFk, OuterJoinFk, JoinFk, JoinOn, DecomposeOn, OuterJoinOn}

-- a built operator, without where its expression lies in memory
abbrev pub built_view : BuiltOp → Built
built_view (CreateTable it) = «any».CreateTable
built_view (DropTable it) = «any».DropTable it.inner.width
built_view (Rename it) = «any».Rename
built_view (AddColumn it) = «any».AddColumn it.inner.place (expr_term it.inner.value)
built_view (AddTracked it) = «any».AddTracked (expr_term it.inner.value)
built_view (DropColumn it) = «any».DropColumn it.inner.inner.place (expr_term it.inner.inner.value)
built_view (Split it) = «any».Split it.inner.width (expr_term it.inner.first) (option_map expr_term it.inner.second)
built_view (Merge it) =
    «any».Merge it.inner.inner.width (expr_term it.inner.inner.first) (option_map expr_term it.inner.inner.second)
built_view (DecomposeSingle it) = «any».DecomposeSingle it.inner.columns it.inner.width
built_view (DecomposePk it) = «any».DecomposePk it.inner.first it.inner.second
built_view (OuterJoinPk it) = «any».OuterJoinPk it.inner.inner.first it.inner.inner.second
built_view (JoinPk it) = «any».JoinPk it.inner.first it.inner.second
built_view (DecomposeFk it) = «any».DecomposeFk it.first it.second it.place
built_view (OuterJoinFk it) = «any».OuterJoinFk it.inner.first it.inner.second it.inner.place
built_view (JoinFk it) = «any».JoinFk it.first it.second it.place
built_view (JoinOn it) = «any».JoinOn it.first it.second (expr_term it.condition)
built_view (DecomposeOn it) = «any».DecomposeOn it.inner.first it.inner.second (expr_term it.inner.condition)
built_view (OuterJoinOn it) = «any».OuterJoinOn it.first it.second (expr_term it.condition)
