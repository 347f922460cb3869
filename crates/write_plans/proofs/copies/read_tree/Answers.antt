use Rattle.std.proofs.Common.{ℕ, List, sym, ap, ◌∙◌, subst}
use Rattle.row_store.specs.States.{TableState}
use Rattle.id_memory.specs.States.{MemoryState}
use Rattle.version_graph.specs.Forest.{forest}
use Rattle.version_model.specs.Kept.{pairs_at, rows_now}
use Rattle.version_model.specs.declared.numbered.Numbered.{Numbered}
use Rattle.db_state.specs.Covered.{Covers, CoversItself}
use Rattle.db_state.specs.Parts.{MaySee, SeenWithin, entries_of, listed_in, seen_of}
use Rattle.db_state.specs.Fields.{state_for}
use Rattle.write_plans.specs.Calls.{beside}
use Rattle.write_plans.proofs.CopyLemmas.{copies_tree, covers_itself}
use Rattle.write_plans.proofs.copies.read_tree.Goals as goal

pub read_over-requires-clause-covers : goal.read_over-requires-clause-covers
read_over-requires-clause-covers g c =
    let d = c.args.db.now in
    subst (λ (ns : List ℕ). CoversItself (forest d.graph.edges) d.layout.operators ns) (sym c.as_slice.ensures) (covers_itself g.O.Operator.meaning d c.args.tree.now c.requires.whole)

pub read_over-requires-clause-may : goal.read_over-requires-clause-may
read_over-requires-clause-may g c =
    let d = c.args.db.now in
    let s = state_for g.O.Operator.meaning d in
    subst (λ (ns : List ℕ). MaySee g.O.Operator.meaning d.graph.edges s ns c.args.sight) (sym c.as_slice.ensures) c.requires.may

pub returns-clause-copies : goal.returns-clause-copies
returns-clause-copies g c =
    let d = c.args.db.now in
    let tree = c.args.tree.now in
    let read = c.in_ok-read.read in
    let copied =
    c.in_ok-tables.ensures ∙ ap (λ (l : List (Numbered TableState)). beside (seen_of c.args.sight (rows_now l c.as_slice-2.result.now)) c.as_slice-3.result.now) c.stored.ensures
    ∙ ap (λ (l : List (Numbered TableState)). beside (seen_of c.args.sight (rows_now d.stored l)) c.as_slice-3.result.now) c.as_slice-2.ensures ∙ ap (λ (l : List ℕ). beside (seen_of c.args.sight (rows_now d.stored read)) l) c.as_slice-3.ensures in
    let held =
    c.in_ok-memories.ensures ∙ ap (λ (l : List (Numbered MemoryState)). beside (entries_of c.args.sight (pairs_at l)) c.as_slice-operators.result.now) c.memories.ensures
    ∙ ap (λ (l : List ℕ). beside (entries_of c.args.sight (pairs_at d.memories)) l) c.as_slice-operators.ensures in
    copies_tree g.O.Operator.meaning d tree c.requires.whole c.args.sight read c.in_ok-tables.tables c.in_ok-memories.memories
    (λ t live over. c.in_ok-read.ensures.read t live (subst (λ (ns : List ℕ). Covers (forest d.graph.edges) d.layout.operators ns t) (sym c.as_slice.ensures) over)) copied held

pub returns-in_err-read-clause-steps : goal.returns-in_err-read-clause-steps
returns-in_err-read-clause-steps g c = subst (λ (ns : List ℕ). SeenWithin 2 c.args.sight (listed_in ns (forest c.args.db.now.graph.edges)) c.args.steps.now c.read_over.new.steps) c.as_slice.ensures c.in_err-read.ensures.steps

pub returns-in_err-tables-clause-steps : goal.returns-in_err-tables-clause-steps
returns-in_err-tables-clause-steps g c = subst (λ (ns : List ℕ). SeenWithin 2 c.args.sight (listed_in ns (forest c.args.db.now.graph.edges)) c.args.steps.now c.read_over.new.steps) c.as_slice.ensures c.in_ok-read.ensures.steps

pub returns-in_err-memories-clause-steps : goal.returns-in_err-memories-clause-steps
returns-in_err-memories-clause-steps g c = subst (λ (ns : List ℕ). SeenWithin 2 c.args.sight (listed_in ns (forest c.args.db.now.graph.edges)) c.args.steps.now c.read_over.new.steps) c.as_slice.ensures c.in_ok-read.ensures.steps

pub returns-clause-steps : goal.returns-clause-steps
returns-clause-steps g c = subst (λ (ns : List ℕ). SeenWithin 2 c.args.sight (listed_in ns (forest c.args.db.now.graph.edges)) c.args.steps.now c.read_over.new.steps) c.as_slice.ensures c.in_ok-read.ensures.steps
