use Rattle.std.proofs.Common.{ℕ, List, ap, sym, ◌∙◌}
use Rattle.version_graph.specs.Edges.{is_in}
use Rattle.version_graph.proofs.SetLaws.{in_of_test}
use Rattle.db_state.specs.Fields.{state_for}
use Rattle.write_propagation.proofs.filling.fill_table.Goals as goal

pub read_table-requires : goal.read_table-requires
read_table-requires g c =
    let t = c.args.wanted.table in
    let ts = c.args.tree.now.tables in
    c.requires.whole.live t (in_of_test t ts (ap (λ (l : List ℕ). is_in t l) (sym c.as_slice.ensures) ∙ sym c.holds.ensures ∙ c.if-not-holds.false))

pub returns : goal.returns
returns g c = record { right = c.keep_keys.ensures (state_for g.O.Operator.meaning c.args.db.now).tables c.requires.right c.in_ok-table.ensures }
