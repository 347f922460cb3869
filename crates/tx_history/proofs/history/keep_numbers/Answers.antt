-- One more table has a number.
use Rattle.std.proofs.Common.{ℕ, List, get_or, take, sym, subst, arith, ◌∙◌}
use Rattle.std.proofs.lemmas.List.{take_more, take_all}
use Rattle.version_graph.specs.Sets.{In}
use Rattle.version_model.specs.Kept.{numbers_in}
use Rattle.tx_history.proofs.NumberLaws.{within_end}
use Rattle.tx_history.proofs.history.keep_numbers.Goals as goal

pub returns-in_err-keep_number-clause-more : goal.returns-in_err-keep_number-clause-more
returns-in_err-keep_number-clause-more c = λ x i. c.keep_number.ensures.more x (c.loop-table.invariant.more x i)

pub loop-table-preserved : goal.loop-table-preserved
loop-table-preserved c =
    let inv = c.loop-table.invariant in
    let all = c.args.tables.now in
    let at = c.loop-table.table-index in
    record {
      same = λ t. c.keep_number.ensures.same t ∙ inv.same t;
      more = λ x i. c.keep_number.ensures.more x (inv.more x i);
      kept = λ x i.
          within_end (take at all) (get_or all at 0) (numbers_in c.keep_number.new.changed) (λ y j. c.keep_number.ensures.more y (inv.kept y j)) c.in_ok-keep_number.ensures.ok x
          (subst (λ (l : List ℕ). In x l) (take_more all at 0 c.loop-table-test.true) i);
    }

pub returns-clause-ok : goal.returns-clause-ok
returns-clause-ok c = λ x i. c.loop-table.invariant.kept x (subst (λ (l : List ℕ). In x l) (sym (take_all c.loop-table.table-index c.args.tables.now (omega (arith, c.loop-table-test.false)))) i)
