use Rattle.std.proofs.Common.{arith, drop, length-drop, refl}
use Rattle.bidel_script.specs.Tails.{is_over}
use Rattle.bidel_script.proofs.ScriptLaws.{front_within}
use Rattle.statements.specs.Views.{statement_view}
use Rattle.script_stream.proofs.HoldLaws.{gives_next, gives_stop, used_within}
use Rattle.script_stream.proofs.input.Input.next.Goals as goal

pub overflow_add-self : goal.overflow_add-self
overflow_add-self c =
    let s = c.args.self.now in
    let is = c.requires in
    let found = rw c.in-Whole.is at c.in_ok-statement.ensures in
    omega (arith, front_within s.bytes.items (is_over s.tail.last) (drop s.used s.tokens.items) (statement_view c.in-Whole.statement) c.in-Whole.used found.0, length-drop s.used s.tokens.items, used_within is.0 is.1 s is.2, s.tokens.ok.0, s.tokens.ok.1, s.tokens.small)

pub returns-in-Whole-clause-ok : goal.returns-in-Whole-clause-ok
returns-in-Whole-clause-ok c = λ fed given h.
    let found = rw c.in-Whole.is at c.in_ok-statement.ensures in
    gives_next fed given c.args.self.now h _ (statement_view c.in-Whole.statement) c.in-Whole.used refl found.0 found.1

pub returns-in-Stops-clause-ok : goal.returns-in-Stops-clause-ok
returns-in-Stops-clause-ok c = λ fed given h. gives_stop fed given c.args.self.now c.stopped.result (c.stopped.ensures fed given h)
