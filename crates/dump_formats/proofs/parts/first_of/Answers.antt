use Rattle.std.proofs.Common.{refl, sym, ap, ◌∙◌}
use Rattle.dump_values.specs.Trees.{tree_view}
use Rattle.dump_formats.specs.Formats.{first_of}
use Rattle.dump_formats.proofs.MemberLemmas.{first_left, object_seen, one_seen}
use Rattle.dump_formats.proofs.parts.first_of.Goals as goal

pub returns-in_ok-push-in-Object : goal.returns-in_ok-push-in-Object
returns-in_ok-push-in-Object c =
    let before = c.in-Object.members in
    let after = c.push.new.self in
    object_seen after
    ∙ first_left before.items c.let_go.new.members.items c.let_go-in-Object.new.members.items after.items _
    c.let_go.ensures c.let_go-in-Object.ensures c.in_ok-push-in-Object.ensures.items refl (one_seen _ refl)
    ∙ sym (ap (λ t. first_of (tree_view t)) c.in-Object.is ∙ ap first_of (object_seen before))
