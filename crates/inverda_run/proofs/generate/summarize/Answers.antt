use Rattle.std.specs.Prelude.{◌≡◌, IfOk}
use Rattle.std.proofs.Common.{subst}
use Rattle.script_generator.specs.Summary.{summary_lines}
use Rattle.script_generator.specs.declared.summary.Summary.{Summary}
use Rattle.inverda_run.proofs.generate.summarize.Goals as goal

pub returns-clause-text : goal.returns-clause-text
returns-clause-text c = subst (λ (s : Summary). IfOk c.summary_text.result (λ text. text ≡ summary_lines s)) c.in_ok-summary.ensures.summary c.summary_text.ensures
