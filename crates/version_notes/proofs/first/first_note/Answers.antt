-- All rows as added are the first note.
use Rattle.std.proofs.Common.{ap, ◌∙◌, List}
use Rattle.change_feed.specs.declared.note.Note.{Note}
use Rattle.change_feed.specs.declared.note.TableChange.{TableChange}
use Rattle.db_state.specs.Fields.{database_for}
use Rattle.version_notes.proofs.FirstLaws.{first_is}
use Rattle.version_notes.proofs.first.first_note.Goals as goal

pub returns : goal.returns
returns g c = λ set named.
    let d = database_for g.O.Operator.meaning c.args.database.now in
    let kept = c.graph-graph.ensures.kept in
    let notes : List TableChange → Note = λ tables. record { tables = tables } in
    ap notes (c.in_ok-tables.ensures ∙ first_is d c.args.version.now set (record { edges = kept.graph.edges; rise = λ t. (kept.sound.well.tables t).0 }) named)
