use Rattle.std.proofs.lemmas.Result.{err_from_is_err_and}
use Rattle.db_check.specs.inner.Spans.{in_span}
use Rattle.db_check.proofs.PartLemmas.{part_read, part_well}
use Rattle.db_check.proofs.SpanLemmas.{is_part, refused_part}
use Rattle.db_check.proofs.spanning.admit_span.Goals as goal

pub admit_all-requires-clause-read : goal.admit_all-requires-clause-read
admit_all-requires-clause-read g c =
    let p = c.args.parts.now in
    part_read (in_span c.args.span) p c.replace-all_stored.new.dest c.replace-all_aux.new.dest
    (is_part (in_span c.args.span) p c.as_slice.result.now c.in_ok-stored.stored c.replace-all_stored.new.dest c.as_slice-2.result.now c.in_ok-aux.aux c.replace-all_aux.new.dest
    c.replace-all_stored.ensures.after c.in_ok-stored.ensures c.as_slice.ensures c.replace-all_aux.ensures.after c.in_ok-aux.ensures.part c.as_slice-2.ensures)
    g.O.Operator.meaning c.requires.read

pub admit_all-requires-clause-well : goal.admit_all-requires-clause-well
admit_all-requires-clause-well g c =
    let p = c.args.parts.now in
    part_well (in_span c.args.span) p c.replace-all_stored.new.dest c.replace-all_aux.new.dest
    (is_part (in_span c.args.span) p c.as_slice.result.now c.in_ok-stored.stored c.replace-all_stored.new.dest c.as_slice-2.result.now c.in_ok-aux.aux c.replace-all_aux.new.dest
    c.replace-all_stored.ensures.after c.in_ok-stored.ensures c.as_slice.ensures c.replace-all_aux.ensures.after c.in_ok-aux.ensures.part c.as_slice-2.ensures)
    c.requires.well

pub returns-in_err-admit_all-clause-admits : goal.returns-in_err-admit_all-clause-admits
returns-in_err-admit_all-clause-admits g c =
    let p = c.args.parts.now in
    let q = err_from_is_err_and c.from_residual-in_err-admit_all.result c.from_residual-in_err-admit_all.ensures.1 in
    let done = refused_part g.O.Operator.meaning g.met.O.Operator.laws p c.requires.local c.args.span c.replace-all_stored.new.dest c.replace-all_aux.new.dest
    (is_part (in_span c.args.span) p c.as_slice.result.now c.in_ok-stored.stored c.replace-all_stored.new.dest c.as_slice-2.result.now c.in_ok-aux.aux c.replace-all_aux.new.dest
    c.replace-all_stored.ensures.after c.in_ok-stored.ensures c.as_slice.ensures c.replace-all_aux.ensures.after c.in_ok-aux.ensures.part c.as_slice-2.ensures)
    c.in_err-admit_all.field-0.0 c.in_err-admit_all.ensures in
    rw (q.1, q.2) done
