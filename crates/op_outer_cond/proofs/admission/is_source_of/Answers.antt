use Rattle.std.proofs.Common.{◌↔◌, IsTrue, IfOk, subst}
use Rattle.std.proofs.lemmas.Result.{IfOk-weaker}
use Rattle.row_store.specs.Rows.{Rows}
use Rattle.id_memory.specs.Pairs.{RiseFrom as PairsRise, IsOneToOne}
use Rattle.pair_rows.specs.Shown.{Joining}
use Rattle.pair_rows.specs.Sides.{table_at}
use Rattle.outer_entries.specs.Showings.{joining_of}
use Rattle.op_outer_cond.specs.inner.Admitted.{IsSource}
use Rattle.op_outer_cond.proofs.admission.is_source_of.Goals as goal

pub returns-clause-rise : goal.returns-clause-rise
returns-clause-rise c = IfOk-weaker c.is_source.result _ (λ _. PairsRise 0 c.args.memory.now.entries) (λ _ _. c.is_source.ensures.rise) c.is_source.ensures.answer

pub returns-clause-one : goal.returns-clause-one
returns-clause-one c = IfOk-weaker c.is_source.result _ (λ _. IsOneToOne c.args.memory.now.entries) (λ _ _. c.is_source.ensures.one) c.is_source.ensures.answer

pub returns-clause-answer : goal.returns-clause-answer
returns-clause-answer c =
    let found = c.is_source.result in
    let m = c.args.memory.now.entries in
    let j = joining_of c.outer_of-join.result in
    let r = table_at 0 c.args.target.now in
    let s = table_at 0 c.args.source.now in
    let t = table_at 1 c.args.source.now in
    let by_t = subst (λ (rows : Rows). IfOk found (λ yes. IsTrue yes ↔ IsSource j c.table_in-r.result.now.rows m c.table_in-s.result.now.rows rows)) c.table_in-t.ensures c.is_source.ensures.answer in
    let by_s = subst (λ (rows : Rows). IfOk found (λ yes. IsTrue yes ↔ IsSource j c.table_in-r.result.now.rows m rows t)) c.table_in-s.ensures by_t in
    let by_r = subst (λ (rows : Rows). IfOk found (λ yes. IsTrue yes ↔ IsSource j rows m s t)) c.table_in-r.ensures by_s in
    subst (λ (k : Joining). IfOk found (λ yes. IsTrue yes ↔ IsSource k r m s t)) c.outer_of-join.ensures by_r
