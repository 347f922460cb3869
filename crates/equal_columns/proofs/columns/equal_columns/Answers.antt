use Rattle.std.specs.Prelude.{IfSome}
use Rattle.std.proofs.Common.{ℕ, Option, sym, subst}
use Rattle.expr_lang.specs.Terms.{expr_term}
use Rattle.equal_columns.specs.Columns.{MakesEqual}
use Rattle.equal_columns.proofs.ColumnLemmas.{equal_makes}
use Rattle.equal_columns.proofs.columns.equal_columns.Goals as goal

pub returns-clause-equal : goal.returns-clause-equal
returns-clause-equal g c =
    let j = g.C.Columned.joins c.args.join.now in
    let condition = expr_term c.args.condition.now in
    subst (λ (o : Option (ℕ × ℕ)). IfSome o (λ both. MakesEqual j condition both.0 both.1)) (sym c.equal_in.ensures) (equal_makes j condition)
