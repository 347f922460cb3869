use Rattle.std.proofs.Common.{◌∙◌, sym}
use Rattle.op_law.specs.Calls.{tables_of}
use Rattle.op_outer_cond.specs.Outerings.{joining}
use Rattle.op_outer_cond.proofs.AdmissionLemmas.{admits_by, no_tables}
use Rattle.op_outer_cond.proofs.admission.admit_source.Goals as goal

pub returns : goal.returns
returns c =
    let is = c.in_ok-yes.ensures in
    admits_by (joining c.args.outer.now) c.args.target.now (tables_of c.args.aux.now) c.args.memory.now.entries c.in_ok-yes.yes c.in_ok-side.side c.side_if.result
    (no_tables c.args.aux.now.tables (sym c.len.ensures ∙ c.if-len-ne0.false)) c.in_ok-side.ensures is.rise is.one is.answer.0 is.answer.1 c.side_if.ensures
