-- The run of any bytes puts one text where nothing fails.
use Rattle.std.proofs.Common.{List, ◌++◌, refl, ap, ◌∙◌}
use Rattle.statements.specs.Views.{StatementView}
use Rattle.bidel_script.specs.Script.{Outcome}
use Rattle.bidel_script.proofs.ComesLaws.{run_is_one}
use Rattle.engine_feeds.specs.Replies.{out}
use Rattle.script_run.specs.Statuses.{OneText, last_line}

pub one_text : OneText
one_text from bytes ended stopped =
    let c = run_is_one bytes ended in (
      out from c.0 ++ last_line bytes stopped c.1,
      record { statements = c.0; outcome = c.1; comes = c.2; same = refl },
      λ other w.
          let same = c.3 w.statements w.outcome w.comes in
          w.same ∙ ap (λ (l : List StatementView). out from l ++ last_line bytes stopped w.outcome) same.0
          ∙ ap (λ (o : Outcome). out from c.0 ++ last_line bytes stopped o) same.1,
    )
