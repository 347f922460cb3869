use Rattle.std.proofs.Common.{List, ℕ, length, ap, sym, ◌∙◌, subst, arith, Ok, Err}
use Rattle.std.proofs.lemmas.Result.{err_from_is_err_and}
use Rattle.id_memory.specs.States.{CounterState}
use Rattle.version_graph.specs.Edges.{Drawn}
use Rattle.version_graph.specs.Forest.{forest}
use Rattle.version_graph.proofs.WalkLaws.{is_forest}
use Rattle.changes_walk.specs.Calls.{MayCarryBy}
use Rattle.db_state.specs.Fields.{state_for}
use Rattle.db_state.specs.Parts.{listed_in}
use Rattle.db_state.proofs.BoundLaws.{listed_few, seen_fewer, seen_less, seen_sum}
use Rattle.write_plans.specs.Making.{CarriesWrite, CarriesWriteWithin, copied_state, first_changes}
use Rattle.write_plans.proofs.AuxLemmas.{sees_rise}
use Rattle.write_plans.proofs.SeenLemmas.{carry_within, making_is, making_refused, may_carry, of_tree}
use Rattle.write_plans.proofs.making.make_write.Goals as goal

pub copy_tree-requires-clause-kept : goal.copy_tree-requires-clause-kept
copy_tree-requires-clause-kept g c = c.requires.may.kept

pub copy_tree-requires-clause-whole : goal.copy_tree-requires-clause-whole
copy_tree-requires-clause-whole g c = of_tree g.O.Operator.meaning g.met.O.Operator.laws c.args.db.now c.requires.may.kept c.args.tree.now c.args.written c.requires.may

pub copy_tree-requires-clause-ascends : goal.copy_tree-requires-clause-ascends
copy_tree-requires-clause-ascends g c =
    let m = g.O.Operator.meaning in
    let d = c.args.db.now in
    sees_rise m d.graph.edges (state_for m d) c.args.tree.now.operators c.args.sight c.requires.sees

pub carry_write-requires : goal.carry_write-requires
carry_write-requires g c =
    let m = g.O.Operator.meaning in
    let w = c.args.written in
    let copies = c.in_ok-copies.copies in
    subst (λ (ns : List ℕ). MayCarryBy m c.graph.result.now.edges (copied_state copies c.next.result) (first_changes w) w.set ns) (sym c.as_slice-operators.ensures)
    (subst (λ (x : Drawn _). MayCarryBy m x.edges (copied_state copies c.next.result) (first_changes w) w.set c.args.tree.now.operators) (sym c.graph.ensures.graph)
    (may_carry m g.met.O.Operator.laws c.args.db.now c.requires.may.kept c.args.tree.now w c.requires.may c.args.sight c.requires.sees c.requires.named copies c.in_ok-copies.ensures.copies c.next.result
    (c.next.ensures.value ∙ ap (λ (x : CounterState). x.next) c.ids.ensures) c.requires.rise))

pub returns-in_err-made-clause-makes : goal.returns-in_err-made-clause-makes
returns-in_err-made-clause-makes g c =
    let m = g.O.Operator.meaning in
    let w = c.args.written in
    let copies = c.in_ok-copies.copies in
    let was = subst (λ (x : Drawn _). CarriesWrite m x.edges (copied_state copies c.next.result) w c.args.tree.now.operators (Err c.in_err-made.field-0.0)) c.graph.ensures.graph
    (subst (λ (ns : List ℕ). CarriesWrite m c.graph.result.now.edges (copied_state copies c.next.result) w ns (Err c.in_err-made.field-0.0)) c.as_slice-operators.ensures c.in_err-made.ensures.carries) in
    let p = err_from_is_err_and c.from_residual-in_err-made.result c.from_residual-in_err-made.ensures.1 in
    rw (p.1, p.2) (making_refused m g.met.O.Operator.laws c.args.db.now c.requires.may.kept c.args.tree.now w c.requires.may c.args.sight c.requires.sees c.requires.named copies c.in_ok-copies.ensures.copies c.next.result
    (c.next.ensures.value ∙ ap (λ (x : CounterState). x.next) c.ids.ensures) c.in_err-made.field-0.0 was)

pub returns-clause-makes : goal.returns-clause-makes
returns-clause-makes g c =
    let m = g.O.Operator.meaning in
    let w = c.args.written in
    let copies = c.in_ok-copies.copies in
    let was = subst (λ (x : Drawn _). CarriesWrite m x.edges (copied_state copies c.next.result) w c.args.tree.now.operators (Ok c.in_ok-made.made)) c.graph.ensures.graph
    (subst (λ (ns : List ℕ). CarriesWrite m c.graph.result.now.edges (copied_state copies c.next.result) w ns (Ok c.in_ok-made.made)) c.as_slice-operators.ensures c.in_ok-made.ensures.carries) in
    making_is m g.met.O.Operator.laws c.args.db.now c.requires.may.kept c.args.tree.now w c.requires.may c.args.sight c.requires.sees c.requires.named copies c.in_ok-copies.ensures.copies c.next.result
    (c.next.ensures.value ∙ ap (λ (x : CounterState). x.next) c.ids.ensures) c.in_ok-made.made was

pub returns-in_err-made-clause-steps : goal.returns-in_err-made-clause-steps
returns-in_err-made-clause-steps g c =
    let m = g.O.Operator.meaning in
    let d = c.args.db.now in
    let w = c.args.written in
    let tree = c.args.tree.now in
    let few = listed_few tree.operators (forest d.graph.edges) (is_forest d.graph.edges c.requires.may.kept.graph.edges) in
    let read = seen_fewer 2 c.args.sight (listed_in tree.operators (forest d.graph.edges)) (length tree.operators) c.args.steps.now c.copy_tree.new.steps few c.in_ok-copies.ensures.steps in
    let within = subst (λ (x : Drawn _). CarriesWriteWithin m x.edges w tree.operators c.copy_tree.new.steps c.carry_write.new.steps) c.graph.ensures.graph
    (subst (λ (ns : List ℕ). CarriesWriteWithin m c.graph.result.now.edges w ns c.copy_tree.new.steps c.carry_write.new.steps) c.as_slice-operators.ensures c.in_err-made.ensures.steps) in
    seen_sum 2 6 c.args.sight (length tree.operators) c.args.steps.now c.copy_tree.new.steps c.carry_write.new.steps read
    (carry_within m g.met.O.Operator.laws d c.requires.may.kept tree w c.requires.may c.args.sight c.requires.sees c.requires.named c.copy_tree.new.steps c.carry_write.new.steps within)

pub returns-clause-steps : goal.returns-clause-steps
returns-clause-steps g c =
    let m = g.O.Operator.meaning in
    let d = c.args.db.now in
    let w = c.args.written in
    let tree = c.args.tree.now in
    let few = listed_few tree.operators (forest d.graph.edges) (is_forest d.graph.edges c.requires.may.kept.graph.edges) in
    let read = seen_fewer 2 c.args.sight (listed_in tree.operators (forest d.graph.edges)) (length tree.operators) c.args.steps.now c.copy_tree.new.steps few c.in_ok-copies.ensures.steps in
    let within = subst (λ (x : Drawn _). CarriesWriteWithin m x.edges w tree.operators c.copy_tree.new.steps c.carry_write.new.steps) c.graph.ensures.graph
    (subst (λ (ns : List ℕ). CarriesWriteWithin m c.graph.result.now.edges w ns c.copy_tree.new.steps c.carry_write.new.steps) c.as_slice-operators.ensures c.in_ok-made.ensures.steps) in
    seen_sum 2 6 c.args.sight (length tree.operators) c.args.steps.now c.copy_tree.new.steps c.carry_write.new.steps read
    (carry_within m g.met.O.Operator.laws d c.requires.may.kept tree w c.requires.may c.args.sight c.requires.sees c.requires.named c.copy_tree.new.steps c.carry_write.new.steps within)

pub returns-in_err-copies-clause-steps : goal.returns-in_err-copies-clause-steps
returns-in_err-copies-clause-steps g c =
    let d = c.args.db.now in
    let tree = c.args.tree.now in
    let few = listed_few tree.operators (forest d.graph.edges) (is_forest d.graph.edges c.requires.may.kept.graph.edges) in
    let read = seen_fewer 2 c.args.sight (listed_in tree.operators (forest d.graph.edges)) (length tree.operators) c.args.steps.now c.copy_tree.new.steps few c.in_err-copies.ensures.steps in
    seen_less 2 8 c.args.sight (length tree.operators) c.args.steps.now c.copy_tree.new.steps (omega arith) read
