-- What sessions keep stays beside the write.
use Rattle.std.proofs.Common.{◌≡◌, ℕ, List, ap, sym, subst}
use Rattle.layout_rules.specs.declared.layout.Layout.{Layout}
use Rattle.statements.specs.Views.{statement_view}
use Rattle.engine_moves.specs.EngineCoreKept.{state_of}
use Rattle.engine_moves.specs.EngineCoreUndo.{AnswersWrite}
use Rattle.engine_moves.specs.Written.{Written}
use Rattle.engine_moves.proofs.UndoLaws.{written_layout}
use Rattle.engine_moves.specs.Moving.{Moving}
use Rattle.engine_sessions.specs.Act.{written_in}
use Rattle.engine_sessions.specs.Standing.{Standing, standing_of}
use Rattle.engine_sessions.proofs.WriteLemmas.{on_err, written_beside}
use Rattle.engine_sessions.proofs.sessions.Sessions.write_undoable.Goals as goal

pub returns-clause-answers : goal.returns-clause-answers
returns-clause-answers g c =
    let s = standing_of c.args.self.now in
    let old = c.args.self.now.mover.database in
    let new = c.write_undoable.new.self.database in
    let x = statement_view c.args.statement.now in
    let layout = ap (λ (l : Layout). l.operators) (written_layout (λ (w : Written). w.undo) old new c.write_undoable.result c.write_undoable.ensures.leaves) in
    let pending : record s { laid = state_of new } ≡ record s { laid = state_of new; pending = c.write_undoable.new.self.pending } = ap (λ (l : List ℕ). record s { laid = state_of new; pending = l }) (sym c.write_undoable.ensures.pending) in
    subst (λ (next : Standing). AnswersWrite (written_in s x) c.write_undoable.result next) pending
    (written_beside s x new layout c.write_undoable.result c.write_undoable.ensures.answers)

pub returns-clause-beside : goal.returns-clause-beside
returns-clause-beside g c = ap (λ (l : List ℕ). record (standing_of c.args.self.now) { laid = state_of c.write_undoable.new.self.database; pending = l }) c.write_undoable.ensures.pending

pub returns-clause-same : goal.returns-clause-same
returns-clause-same g c = on_err c.write_undoable.result (λ e. ap (λ (m : Moving). record (standing_of c.args.self.now) { laid = m.laid; pending = m.pending }) e) c.write_undoable.ensures.same
