use Rattle.std.proofs.Common.{◌≡◌, List, ℕ, inr, refl, sym, ap, ◌∙◌}
use Rattle.version_graph.specs.Edges.{is_in}
use Rattle.version_model.specs.Kept.{rows_now}
use Rattle.version_model.proofs.AscendingLaws.{some_there}
use Rattle.db_check.proofs.PlaceLemmas.{are_same, differ, goes, may_admit, passed_by}
use Rattle.db_check.proofs.crossing.admit_at.Goals as goal

pub returns-in_default : goal.returns-in_default
returns-in_default g c f here = absurd (some_there c.args.parts.now.graph.edges c.args.place f here c.in_default.ensures)

pub returns-then-holds-backward : goal.returns-then-holds-backward
returns-then-holds-backward g c f here =
    let p = c.args.parts.now in
    let e = c.in-Some.placed.now in
    let is : c.holds.result ≡ is_in e.number p.layout.operators = c.holds.ensures ∙ ap (λ (l : List ℕ). is_in e.number l) c.as_slice.ensures in
    inr (passed_by g.O.Operator.meaning p c.requires.read.built.graph.edges c.args.place e c.in-Some.ensures c.args.backward (λ on. differ c.holds.result c.args.backward c.if-holds-backward.true (is ∙ on)) f here, refl)

pub admit-requires-clause-may : goal.admit-requires-clause-may
admit-requires-clause-may g c =
    let p = c.args.parts.now in
    let e = c.in-Some.placed.now in
    let is : c.holds.result ≡ is_in e.number p.layout.operators = c.holds.ensures ∙ ap (λ (l : List ℕ). is_in e.number l) c.as_slice.ensures in
    may_admit g.O.Operator.meaning p c.requires.read.built.graph.edges c.args.place e c.in-Some.ensures c.args.backward (sym is ∙ are_same c.holds.result c.args.backward c.if-holds-backward.false) c.args.made.now

pub returns : goal.returns
returns g c =
    let p = c.args.parts.now in
    let e = c.in-Some.placed.now in
    let is : c.holds.result ≡ is_in e.number p.layout.operators = c.holds.ensures ∙ ap (λ (l : List ℕ). is_in e.number l) c.as_slice.ensures in
    goes g.O.Operator.meaning p c.requires.read.built.graph.edges c.args.place e c.in-Some.ensures c.args.backward (sym is ∙ are_same c.holds.result c.args.backward c.if-holds-backward.false)
    (rows_now p.stored c.args.made.now) (rows_now p.stored c.admit.new.made) c.admit.result c.admit.ensures
