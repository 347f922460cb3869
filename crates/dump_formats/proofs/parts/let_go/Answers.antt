use Rattle.std.specs.Prelude.{filter}
use Rattle.std.proofs.Common.{rules, ◌≡◌, ap, ◌∙◌}
use Rattle.std.proofs.lemmas.Fn.{filter_same}
use Rattle.dump_values.specs.Trees.{entries_view}
use Rattle.dump_formats.proofs.MemberLemmas.{is_other, others_kept}
use Rattle.dump_formats.proofs.parts.let_go.Goals as goal

pub returns : goal.returns
returns c =
    let kept : c.retain.new.self.items ≡ filter (is_other c.args.key.now) c.args.members.now.items = filter_same _ _ _ (λ x b f' k. search rules) _ _ c.retain.ensures.filtered in
    ap (λ xs. entries_view xs) kept ∙ others_kept c.args.key.now c.args.members.now.items
