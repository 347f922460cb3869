use Rattle.std.specs.Prelude.{Option}
use Rattle.std.proofs.Common.{ℕ, None, subst}
use Rattle.std.proofs.lemmas.Result.{err_from_is_err_and}
use Rattle.serde_json.specs.View.{view}
use Rattle.par_base.specs.declared.list.List.{List}
use Rattle.layout_planner.specs.declared.planning.TableCount.{TableCount}
use Rattle.dump_formats.specs.inner.Read.{FindsBeside}
use Rattle.dump_formats.specs.declared.loading.ReadDump.TheVariants.{Second}
use Rattle.dump_formats.proofs.StandLemmas.{second_lonely, waits}
use Rattle.dump_formats.proofs.loading.load_second.Goals as goal

pub returns-in_err-counts : goal.returns-in_err-counts
returns-in_err-counts g c =
    let failed = err_from_is_err_and c.from_residual-in_err-counts.result c.from_residual-in_err-counts.ensures.1 in
    rw (failed.1, failed.2) (waits c.args.limits.max_id (Second c.args.second) _)

pub returns : goal.returns
returns g c =
    let s = c.args.second in
    let p = c.in_ok-database.database in
    let none : FindsBeside p (view s.counts) (view s.goal) None = subst (λ (o : Option (List TableCount × List ℕ)). FindsBeside p (view s.counts) (view s.goal) o) c.in-None.is c.in_ok-counts.ensures in
    second_lonely c.args.limits.max_id s p c.in_ok-database.ensures c.dumps_are_of_one_database.ensures.graph none _
