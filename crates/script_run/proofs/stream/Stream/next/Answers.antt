use Rattle.std.proofs.Common.{ℕ, Bool, IfOk, List, subst, sym}
use Rattle.statements.specs.Views.{StatementView}
use Rattle.engine_feeds.specs.Standing.{Standing}
use Rattle.script_run.specs.Streams.{Gives, Stands}
use Rattle.script_run.proofs.StreamLemmas.{gives_going}
use Rattle.script_run.proofs.stream.Stream.next.Goals as goal

pub returns-clause-gives : goal.returns-clause-gives
returns-clause-gives g c =
    let old = c.args.self.now in
    let mid = c.give-next.new.self in
    subst (λ (b : Bool). IfOk c.give-next.result (λ n. (from : Standing) (fed : List ℕ) (answered : List StatementView) → Stands from fed answered old → Gives from fed answered old (record mid { going = b }) n))
    (sym c.is_open_behind-self.ensures) (gives_going old mid c.give-next.result c.requires.going c.give-next.ensures.gives)
