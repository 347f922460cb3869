use Rattle.std.proofs.Common.{◌≡◌, ap, ◌∙◌, subst}
use Rattle.serde_json.specs.Find.{get_member}
use Rattle.json.specs.Find.{get_member as find_member}
use Rattle.json.specs.Value.{members_view}
use Rattle.std.proofs.Common.{None}
use Rattle.json_members.specs.inner.Calls.{IsPlaceOf}
use Rattle.json_members.specs.Trees.{entries_view}
use Rattle.json_members.proofs.TreeLemmas.{leaves_others, none_there, taken_out}
use Rattle.json_members.proofs.members.take_member.Goals as goal

pub returns-in-Some-clause-value : goal.returns-in-Some-clause-value
returns-in-Some-clause-value c =
    let is = subst (λ xs. IsPlaceOf c.args.key.now c.in-Some.place xs) c.as_slice.ensures.value c.in-Some.ensures in
    taken_out c.args.key.now c.in-Some.place c.args.members.now.items is c.remove-found.result c.remove-found.ensures.value

pub returns-in-Some-clause-others : goal.returns-in-Some-clause-others
returns-in-Some-clause-others c =
    let is = subst (λ xs. IsPlaceOf c.args.key.now c.in-Some.place xs) c.as_slice.ensures.value c.in-Some.ensures in
    λ other differs. ap (λ xs. get_member other (entries_view xs)) c.remove-found.ensures.items
    ∙ leaves_others c.args.key.now c.in-Some.place c.args.members.now.items is other differs

pub returns-in-None-clause-value : goal.returns-in-None-clause-value
returns-in-None-clause-value c =
    none_there c.args.key.now c.args.members.now.items (subst (λ xs. find_member c.args.key.now (members_view xs) ≡ None) c.as_slice.ensures.value c.in-None.ensures)
