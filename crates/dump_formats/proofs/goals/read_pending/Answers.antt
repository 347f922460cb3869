use Rattle.std.specs.Prelude.{Option, Some}
use Rattle.std.proofs.Common.{ℕ, List, sym, subst, arith}
use Rattle.serde_json.specs.View.{items_view, view}
use Rattle.serde_json.specs.declared.value.Value.{Value as Json}
use Rattle.dump_formats.specs.inner.Read.{ReadsNumbers}
use Rattle.dump_formats.proofs.FoundLemmas.{array_is}
use Rattle.dump_formats.proofs.GoalLemmas.{goal_long, goal_read, goal_wide}
use Rattle.dump_formats.proofs.goals.read_pending.Goals as goal

pub returns-then-len-live_operators : goal.returns-then-len-live_operators
returns-then-len-live_operators c =
    goal_long c.args.graph.now.edges c.look_at_numbers.ensures.graph.edges c.args.layout.now (view c.args.json.now) c.in-Some.items.now.items (sym c.in-Some.ensures) c.live_operators.result c.live_operators.ensures.count (omega arith)

pub returns-in-Some-2 : goal.returns-in-Some-2
returns-in-Some-2 c =
    let xs = c.in-Some.items.now.items in
    let P : List Json × Option (List ℕ) → Type 0 = λ (k : List Json × Option (List ℕ)). ReadsNumbers (items_view k.0) k.1 in
    let reads : ReadsNumbers (items_view xs) (Some c.in-Some-2.goal) = subst P (λ i. (c.as_slice.ensures.value i, c.in-Some-2.is i)) c.in_ok-goal.ensures in
    goal_read c.args.graph.now.edges c.look_at_numbers.ensures.graph.edges c.args.layout.now (view c.args.json.now) xs (sym c.in-Some.ensures) c.in-Some-2.goal reads (array_is (view c.args.json.now) (items_view xs) (sym c.in-Some.ensures)) c.pending_to.result c.pending_to.ensures

pub returns-in-None : goal.returns-in-None
returns-in-None c =
    goal_wide c.args.graph.now.edges c.look_at_numbers.ensures.graph.edges c.args.layout.now (view c.args.json.now) c.in-Some.items.now.items (sym c.in-Some.ensures) c.args.graph.now.last_operator c.look_at_numbers.ensures.graph.operators c.look_at_numbers.ensures.bits
    (let P : List Json × Option (List ℕ) → Type 0 = λ (k : List Json × Option (List ℕ)). ReadsNumbers (items_view k.0) k.1 in subst P (λ i. (c.as_slice.ensures.value i, c.in-None.is i)) c.in_ok-goal.ensures)
