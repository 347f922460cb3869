use Rattle.std.proofs.Common.{ℕ, List, [], sym, ap, ◌∙◌, subst}
use Rattle.row_store.specs.States.{TableState}
use Rattle.id_memory.specs.States.{CounterState, MemoryState}
use Rattle.version_graph.specs.Forest.{forest}
use Rattle.version_model.specs.declared.numbered.Numbered.{Numbered}
use Rattle.db_state.specs.Parts.{listed_in}
use Rattle.db_state.proofs.BoundLaws.{seen_none}
use Rattle.write_plans.specs.Calls.{AreToCome, CopiesTree}
use Rattle.write_plans.proofs.CopyLemmas.{copies_none}
use Rattle.write_plans.proofs.copies.copy_tree.Goals as goal

pub returns-then-are_to_come-clause-copies : goal.returns-then-are_to_come-clause-copies
returns-then-are_to_come-clause-copies g c =
    let m = g.O.Operator.meaning in
    let d = c.args.db.now in
    let tree = c.args.tree.now in
    let next = c.next.ensures.value ∙ ap (λ (x : CounterState). x.next) c.ids.ensures in
    let come = subst (λ (n : ℕ). AreToCome c.args.sight n) next (c.are_to_come.ensures c.if-are_to_come.true) in
    let none = copies_none m d c.requires.kept tree c.args.sight come in
    subst (λ (ts : List (Numbered TableState)). CopiesTree m d tree c.args.sight (record { tables = ts; memories = c.new-then-are_to_come.result })) (sym c.new.ensures)
    (subst (λ (ms : List (Numbered MemoryState)). CopiesTree m d tree c.args.sight (record { tables = []; memories = ms })) (sym c.new-then-are_to_come.ensures) none)

pub returns-then-are_to_come-clause-steps : goal.returns-then-are_to_come-clause-steps
returns-then-are_to_come-clause-steps g c = seen_none 2 c.args.sight (listed_in c.args.tree.now.operators (forest c.args.db.now.graph.edges)) c.args.steps.now
