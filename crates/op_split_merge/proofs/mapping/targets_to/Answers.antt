use Rattle.std.proofs.Common.{ap, ◌∙◌}
use Rattle.std.specs.Option.{option_copied, option_map}
use Rattle.expr_lang.specs.Terms.{expr_term}
use Rattle.expr_lang.specs.Val.{holds_at}
use Rattle.op_split_merge.specs.Split.{test_of}
use Rattle.op_split_merge.specs.Sides.{targets_of}
use Rattle.op_split_merge.specs.Twins.{meets, wants}
use Rattle.op_split_merge.proofs.CallLemmas.{targets_made}
use Rattle.op_split_merge.proofs.mapping.targets_to.Goals as goal

pub returns-clause-ok : goal.returns-clause-ok
returns-clause-ok g c =
    let first = expr_term c.args.split.now.first in
    let second = option_map expr_term c.args.split.now.second in
    let new = option_copied c.args.new in
    let r = option_copied c.args.first in
    let s = option_copied c.args.second in
    let own = ap (option_map expr_term) c.as_ref-condition.ensures.value in
    targets_made second (holds_at first) (test_of second) new r s c.in-Some.field-0.now
    c.in_ok-meets_first.meets_first c.in_ok-meets_second.meets_second c.in_ok-wants_first.wants_first c.in_ok-wants_second.wants_second
    c.is_taken-goes_first.result c.is_taken-goes_second.result (option_copied c.row_if-new_first.result) (option_copied c.row_if.result) (option_copied c.own_or_new-new_second.result) c.in_ok-targets-2.field-0
    (ap option_copied c.in-Some.is) c.in_ok-meets_first.ensures.ok
    (c.in_ok-meets_second.ensures.ok ∙ ap (λ condition. meets (test_of condition) new) own)
    c.in_ok-wants_first.ensures.ok
    (c.in_ok-wants_second.ensures.ok ∙ ap (λ condition. wants (test_of condition) s r c.in_ok-meets_second.meets_second) own)
    c.is_taken-goes_first.ensures c.is_taken-goes_second.ensures c.row_if-new_first.ensures c.row_if.ensures c.own_or_new-new_second.ensures
    (c.in_ok-targets-2.ensures ∙ ap (λ condition. targets_of condition (option_copied c.row_if-new_first.result) (option_copied c.own_or_new-new_second.result)) own)
