use Rattle.std.specs.Prelude.{Option, Some, IfSome, option_map, slice_get}
use Rattle.std.proofs.Common.{◌≡◌, sym, ap, subst, ◌∙◌, refl, arith}
use Rattle.statements.specs.Views.{statement_view}
use Rattle.statements.specs.declared.statement.Statement.{Statement}
use Rattle.script_run.specs.TransactionsKept.{kept_in}
use Rattle.script_run.specs.TransactionsCalls.{standing_of}
use Rattle.script_generator.specs.Generated.{generated_script}
use Rattle.script_generator.specs.Laws.{IsLikeParsed}
use Rattle.generated_run.proofs.RunLemmas.{keeps_more, so_far_all, so_far_more, so_far_none, tally_fits}
use Rattle.generated_run.proofs.run.run_all.Goals as goal

pub loop-statement-init : goal.loop-statement-init
loop-statement-init g c = record {
  so_far = so_far_none (standing_of c.args.transactions.now) (generated_script c.args.n);
  keeps = record { limit = refl; spelled = λ is. is };
}

pub returns-in_err-refused-clause-keeps : goal.returns-in_err-refused-clause-keeps
returns-in_err-refused-clause-keeps g c =
    let parsed = subst (λ (found : Option Statement). IfSome found (λ (s : Statement). IsLikeParsed (statement_view s))) c.in-Some.is c.in_ok-statement.ensures.parsed in
    keeps_more (kept_in c.args.transactions.now) (kept_in c.loop-statement.transactions) (kept_in c.count_refusals.new.transactions) (statement_view c.in-Some.statement) c.loop-statement.invariant.keeps parsed
    c.in_err-refused.ensures.texts c.in_err-refused.ensures.limit

pub overflow_add-tally : goal.overflow_add-tally
overflow_add-tally g c =
    let here : slice_get (generated_script c.args.n) c.loop-statement.tally.statements ≡ Some (statement_view c.in-Some.statement) = sym c.in_ok-statement.ensures.value ∙ ap (option_map statement_view) c.in-Some.is in
    let fits = tally_fits (standing_of c.args.transactions.now) (standing_of c.loop-statement.transactions) c.args.n c.loop-statement.tally (statement_view c.in-Some.statement) c.loop-statement.invariant.so_far here c.ranges.n.fits in
    let count = c.in_ok-refused.ensures.count in
    omega (arith, fits.1, count)

pub overflow_add-tally-in-Some : goal.overflow_add-tally-in-Some
overflow_add-tally-in-Some g c =
    let here : slice_get (generated_script c.args.n) c.loop-statement.tally.statements ≡ Some (statement_view c.in-Some.statement) = sym c.in_ok-statement.ensures.value ∙ ap (option_map statement_view) c.in-Some.is in
    let fits = tally_fits (standing_of c.args.transactions.now) (standing_of c.loop-statement.transactions) c.args.n c.loop-statement.tally (statement_view c.in-Some.statement) c.loop-statement.invariant.so_far here c.ranges.n.fits in
    omega (arith, fits.0)

pub loop-statement-preserved : goal.loop-statement-preserved
loop-statement-preserved g c =
    let here : slice_get (generated_script c.args.n) c.loop-statement.tally.statements ≡ Some (statement_view c.in-Some.statement) = sym c.in_ok-statement.ensures.value ∙ ap (option_map statement_view) c.in-Some.is in
    let parsed = subst (λ (found : Option Statement). IfSome found (λ (s : Statement). IsLikeParsed (statement_view s))) c.in-Some.is c.in_ok-statement.ensures.parsed in
    record {
      so_far = so_far_more (standing_of c.args.transactions.now) (standing_of c.loop-statement.transactions) (standing_of c.count_refusals.new.transactions) (generated_script c.args.n) c.loop-statement.tally
          (statement_view c.in-Some.statement) c.in_ok-refused.refused c.loop-statement.invariant.so_far here c.in_ok-refused.ensures.next c.in_ok-refused.ensures.count;
      keeps = keeps_more (kept_in c.args.transactions.now) (kept_in c.loop-statement.transactions) (kept_in c.count_refusals.new.transactions) (statement_view c.in-Some.statement) c.loop-statement.invariant.keeps parsed
          c.in_ok-refused.ensures.texts c.in_ok-refused.ensures.limit;
    }

pub returns-clause-tally : goal.returns-clause-tally
returns-clause-tally g c =
    (so_far_all (standing_of c.args.transactions.now) (standing_of c.loop-statement.transactions) (generated_script c.args.n) c.loop-statement.tally c.loop-statement.invariant.so_far
    (sym c.in_ok-statement.ensures.value ∙ ap (option_map statement_view) c.in_default.is)).tallies

pub returns-clause-end : goal.returns-clause-end
returns-clause-end g c =
    (so_far_all (standing_of c.args.transactions.now) (standing_of c.loop-statement.transactions) (generated_script c.args.n) c.loop-statement.tally c.loop-statement.invariant.so_far
    (sym c.in_ok-statement.ensures.value ∙ ap (option_map statement_view) c.in_default.is)).state
