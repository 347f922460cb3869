-- Every statement but WATCH and UNWATCH.
use Rattle.std.proofs.Common.{◌≡◌, ℕ, List, refl}
use Rattle.statements.specs.Views.{statement_view}
use Rattle.statements.specs.declared.statement.Statement.{Statement}
use Rattle.statements.specs.declared.statement.Statement.TheVariants as statement
use Rattle.engine_feeds.specs.Act.{act, acted_by}
use Rattle.engine_feeds.specs.Standing.{Standing}

pub other_acts : (s : Standing) (st : Statement) → ((name : List ℕ) → st ≡ statement.Watch name → ⊥) → ((number : ℕ) → st ≡ statement.Unwatch number → ⊥) → act s (statement_view st) ≡ acted_by s (statement_view st)
other_acts s (statement.CreateVersion name origin operators) a b = refl
other_acts s (statement.DropVersion name) a b = refl
other_acts s (statement.Insert table rows) a b = refl
other_acts s (statement.Import table text) a b = refl
other_acts s (statement.Update table assignments filter) a b = refl
other_acts s (statement.Delete table filter) a b = refl
other_acts s (statement.Select table items filter csv) a b = refl
other_acts s (statement.Materialize named in_steps) a b = refl
other_acts s statement.Step a b = refl
other_acts s statement.ShowLayout a b = refl
other_acts s (statement.Use name) a b = refl
other_acts s (statement.Session number) a b = refl
other_acts s (statement.Advise name) a b = refl
other_acts s (statement.Watch name) a b = absurd (a name refl)
other_acts s (statement.Unwatch number) a b = absurd (b number refl)
other_acts s statement.Begin a b = refl
other_acts s statement.Commit a b = refl
other_acts s statement.Rollback a b = refl
