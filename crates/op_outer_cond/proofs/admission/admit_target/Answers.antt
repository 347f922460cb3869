use Rattle.std.proofs.Common.{◌∙◌, sym}
use Rattle.std.proofs.lemmas.Bool.{false≢true}
use Rattle.op_law.specs.Calls.{tables_of}
use Rattle.op_outer_cond.specs.Outerings.{joining}
use Rattle.op_outer_cond.proofs.AdmissionLemmas.{admits_target, refuses_target, no_tables}
use Rattle.op_outer_cond.proofs.admission.admit_target.Goals as goal

pub returns-then-not-branch : goal.returns-then-not-branch
returns-then-not-branch c =
    refuses_target (joining c.args.outer.now) c.args.source.now (tables_of c.args.aux.now) c.args.memory.now.entries c.table_in-s.result.now.rows c.table_in-t.result.now.rows c.table_in-s.ensures c.table_in-t.ensures
    (λ outer. false≢true (sym c.if-not-branch.true ∙ c.in_ok-are_outer.ensures.answer.1 outer))

pub returns : goal.returns
returns c =
    admits_target (joining c.args.outer.now) c.args.source.now (tables_of c.args.aux.now) c.args.memory.now.entries c.table_in-s.result.now.rows c.table_in-t.result.now.rows c.in_ok-read_target.field-0
    (no_tables c.args.aux.now.tables (sym c.len.ensures ∙ c.if-len-ne0.false)) c.table_in-s.ensures c.table_in-t.ensures c.in_ok-are_outer.ensures.rise c.in_ok-are_outer.ensures.one
    (c.in_ok-are_outer.ensures.answer.0 c.if-not-branch.false) c.in_ok-read_target.ensures
