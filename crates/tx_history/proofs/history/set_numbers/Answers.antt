-- One more table has the number.
use Rattle.std.proofs.Common.{◌==◌, if◌then◌else◌, ℕ, Bool, List, get_or, take, sym, ap, subst, ◌∙◌}
use Rattle.std.proofs.lemmas.List.{take_more}
use Rattle.version_graph.specs.Edges.{is_in}
use Rattle.version_graph.specs.Sets.{In}
use Rattle.tx_history.specs.History.{number_in}
use Rattle.tx_history.proofs.NumberLaws.{in_item}
use Rattle.tx_history.proofs.TestLaws.{any_more, chosen_twice}
use Rattle.tx_history.proofs.history.set_numbers.Goals as goal

pub loop-table-preserved : goal.loop-table-preserved
loop-table-preserved c =
    let inv = c.loop-table.invariant in
    let all = c.args.tables.now in
    let at = c.loop-table.table-index in
    let one = get_or all at 0 in
    let old = c.args.changed.now.items in
    record {
      rows = λ kept t.
          let stands = subst (λ (l : List ℕ). In one l) (sym inv.numbers) (kept one (in_item all at 0 c.loop-table-test.true)) in
          c.set_number.ensures.rows stands t
          ∙ ap (λ (n : ℕ). if t == one then c.args.at else n) (inv.rows kept t)
          ∙ chosen_twice (is_in t (take at all)) (t == one) c.args.at (number_in old t)
          ∙ ap (λ (b : Bool). if b then c.args.at else number_in old t) (sym (any_more (λ (k : ℕ). t == k) (take at all) one))
          ∙ ap (λ (l : List ℕ). if is_in t l then c.args.at else number_in old t) (sym (take_more all at 0 c.loop-table-test.true));
      numbers = c.set_number.ensures.numbers ∙ inv.numbers;
    }
