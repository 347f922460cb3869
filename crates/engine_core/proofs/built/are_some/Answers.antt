use Rattle.std.proofs.Common.{sym, ap, ◌∙◌}
use Rattle.std.specs.Prelude.{◌==◌, not}
use Rattle.std.proofs.lemmas.List.{length-map}
use Rattle.statements.specs.Views.{op_view}
use Rattle.engine_core.proofs.built.are_some.Goals as goal

pub returns : goal.returns
returns c =
    ap (λ b. not b) c.is_empty.ensures ∙ sym (ap (λ n. not (n == 0)) (length-map c.args.operators.now op_view))
