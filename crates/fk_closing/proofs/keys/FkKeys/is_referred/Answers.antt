use Rattle.std.proofs.Common.{◌∙◌, subst}
use Rattle.row_store.specs.Rows.{RiseFrom}
use Rattle.fk_closing.specs.Keys.{KeyRows}
use Rattle.fk_closing.proofs.LookLemmas.{refers_is}
use Rattle.fk_closing.proofs.keys.FkKeys.is_referred.Goals as goal

pub returns : goal.returns
returns c =
    let rise = subst (λ (k : KeyRows). RiseFrom 0 k.keys) c.self.view_is c.get.ensures.rise in
    c.is_some.ensures ∙ refers_is c.args.self.now.keys c.args.id c.next_ref.result rise c.next_ref.ensures
