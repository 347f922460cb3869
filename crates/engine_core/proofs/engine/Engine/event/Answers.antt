use Rattle.std.proofs.Common.{refl}
use Rattle.statements.specs.Views.{statement_view}
use Rattle.engine_core.specs.Kept.{data_of, state_of}
use Rattle.engine_core.proofs.BoundLemmas.{takes_none}
use Rattle.engine_core.proofs.LeftLemmas.{call_leaves, leaves_same}
use Rattle.engine_core.proofs.engine.Engine.event.Goals as goal

pub returns-then-not-is_built-clause-restores : goal.returns-then-not-is_built-clause-restores
returns-then-not-is_built-clause-restores g c old is same layout =
    c.states_are_stored_once.ensures old c.args.self.now is c.versions_always_agree.ensures.stored same layout

pub returns-clause-restores : goal.returns-clause-restores
returns-clause-restores g c old is same layout =
    c.states_are_stored_once.ensures old c.carry_out-answer.new.self is c.versions_always_agree-2.ensures.stored same layout

pub returns-then-not-is_built-clause-steps : goal.returns-then-not-is_built-clause-steps
returns-then-not-is_built-clause-steps g c = takes_none (data_of c.args.self.now) (statement_view c.args.statement) c.args.steps.now

pub returns-then-not-is_built-clause-texts : goal.returns-then-not-is_built-clause-texts
returns-then-not-is_built-clause-texts g c = (leaves_same (data_of c.args.self.now) (statement_view c.args.statement) (data_of c.args.self.now) refl refl).texts

pub returns-clause-texts : goal.returns-clause-texts
returns-clause-texts g c =
    let made = c.carry_out-answer in
    (call_leaves (state_of c.args.self.now) (state_of made.new.self) (statement_view c.args.statement) made.result made.ensures.answers made.ensures.same).texts

pub returns-clause-limit : goal.returns-clause-limit
returns-clause-limit g c =
    let made = c.carry_out-answer in
    (call_leaves (state_of c.args.self.now) (state_of made.new.self) (statement_view c.args.statement) made.result made.ensures.answers made.ensures.same).limit
