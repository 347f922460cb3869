use Rattle.std.proofs.lemmas.Result.{IfOk-weaker}
use Rattle.op_law.specs.Meaning.{flip}
use Rattle.op_law.specs.Calls.{tables_of, Admits}
use Rattle.op_cond_join.specs.Joinings.{joining}
use Rattle.op_cond_join.specs.JoinOn.{join_on}
use Rattle.op_cond_join.specs.inner.Admitted.{AnswersSource}
use Rattle.op_cond_join.proofs.AdmissionLemmas.{answers_admits, two_tables_are}
use Rattle.op_cond_join.proofs.admission.admit_source.Goals as goal

pub returns : goal.returns
returns c =
    let j = joining c.args.join.now in
    let near = c.args.target.now in
    let aux = tables_of c.args.aux.now in
    let m = c.args.memory.now.entries in
    let r = c.table_in.result.now.rows in
    let first = c.index-kept-0.result.rows in
    let second = c.index-kept-1.result.rows in
    let s = c.in_ok-read.read.first.rows in
    let t = c.in_ok-read.read.second.rows in
    let kept = two_tables_are c.as_slice-kept.result.now c.args.aux.now.tables c.index-kept-0.result c.index-kept-1.result c.as_slice-kept.ensures c.if-kept-ne2.false c.index-kept-0.is c.index-kept-1.is in
    IfOk-weaker c.admit_read.result (AnswersSource j r m first second s t) (Admits (flip (join_on j)) near aux m)
    (answers_admits j near aux m r first second s t c.table_in.ensures kept c.in_ok-read.ensures.rise c.in_ok-read.ensures.one c.in_ok-read.ensures.first c.in_ok-read.ensures.second)
    c.admit_read.ensures
