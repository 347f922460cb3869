use Rattle.std.proofs.Common.{ℕ, true, false, subst, arith}
use Rattle.version_graph.specs.Forest.{forest}
use Rattle.db_state.specs.Parts.{SeenWithin, listed_in}
use Rattle.db_state.specs.inner.Passes.{passed_in}
use Rattle.db_state.proofs.BoundLaws.{both_passed, seen_fewer, seen_more}
use Rattle.db_state.proofs.read.read_over.Goals as goal

pub returns-in_err-made-clause-steps : goal.returns-in_err-made-clause-steps
returns-in_err-made-clause-steps g c =
    let p = c.args.db.now in
    let ns = c.args.operators.now in
    let es = forest p.graph.edges in
    let both = both_passed p.layout.operators ns es in
    seen_fewer 2 c.args.sight (passed_in p.layout.operators ns true es) (listed_in ns es) c.args.steps.now c.pass_down.new.steps (omega (arith, both)) c.in_err-made.ensures.steps

pub returns-in_err-pass_up-clause-steps : goal.returns-in_err-pass_up-clause-steps
returns-in_err-pass_up-clause-steps g c =
    let p = c.args.db.now in
    let ns = c.args.operators.now in
    let es = forest p.graph.edges in
    let sum = seen_more 2 c.args.sight (passed_in p.layout.operators ns true es) (passed_in p.layout.operators ns false es) c.args.steps.now c.pass_down.new.steps c.pass_up.new.steps c.in_ok-made.ensures.steps c.in_err-pass_up.ensures.steps in
    subst (λ (n : ℕ). SeenWithin 2 c.args.sight n c.args.steps.now c.pass_up.new.steps) (both_passed p.layout.operators ns es) sum

pub returns-clause-steps : goal.returns-clause-steps
returns-clause-steps g c =
    let p = c.args.db.now in
    let ns = c.args.operators.now in
    let es = forest p.graph.edges in
    let sum = seen_more 2 c.args.sight (passed_in p.layout.operators ns true es) (passed_in p.layout.operators ns false es) c.args.steps.now c.pass_down.new.steps c.pass_up.new.steps c.in_ok-made.ensures.steps c.in_ok-pass_up.ensures.steps in
    subst (λ (n : ℕ). SeenWithin 2 c.args.sight n c.args.steps.now c.pass_up.new.steps) (both_passed p.layout.operators ns es) sum
