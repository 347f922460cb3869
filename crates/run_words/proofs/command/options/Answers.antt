use Rattle.std.proofs.Common.{◌≡◌, ◌∙◌, ap, ap₂, codes, true, rules}
use Rattle.std.proofs.lemmas.Result.{IfOk-weaker}
use Rattle.clap.specs.Walk.{rule_of}
use Rattle.clap.specs.Simple.{app_of, app_of_fields, on_top, with_rule}
use Rattle.clap.specs.declared.builder.command.Command.{Command}
use Rattle.clap.specs.declared.builder.command.Command.TheOpen.{Command-F}
use Rattle.run_words.specs.inner.Reading.{bare, option_rule}
use Rattle.run_words.proofs.command.options.Goals as goal

pub returns : goal.returns
returns c =
    let load : rule_of c.action-load.result ≡ option_rule (codes "load") = search rules in
    let dump : rule_of c.action-dump.result ≡ option_rule (codes "dump") = search rules in
    let max_ids : rule_of c.action-max_ids.result ≡ option_rule (codes "max-ids") = search rules in
    let generate : rule_of c.action-generate.result ≡ option_rule (codes "generate") = search rules in
    let bare_is : app_of c.disable_help_flag-command.result ≡ bare =
    ap app_of_fields (c.disable_help_flag-command.ensures ∙ ap (λ (f : Command-F Command). record f { disable_help_flag = true }) c.no_binary_name.ensures)
    ∙ ap (on_top (λ s. record s { no_binary_name = true; disable_help_flag = true })) (c.new-5.ensures.app) in
    let first = c.in_ok-arg.ensures.shape (search rules) ∙ ap₂ with_rule bare_is load in
    let second = c.in_ok-arg-2.ensures.shape (search rules) ∙ ap₂ with_rule first dump in
    let third = c.in_ok-arg-3.ensures.shape (search rules) ∙ ap₂ with_rule second max_ids in
    IfOk-weaker c.arg-4.result _ _ (λ command adds. adds.shape (search rules) ∙ ap₂ with_rule third generate) c.arg-4.ensures
