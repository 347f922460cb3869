use Rattle.std.proofs.Common.{ℕ, Option, Some, None, sym, ◌∙◌, subst}
use Rattle.key_index.specs.Found.{IsLeastFrom}
use Rattle.table_keys.specs.States.{behind}
use Rattle.fk_closing.specs.Keys.{alone_among, KeyRows}
use Rattle.fk_closing.proofs.LookLemmas.{none_of, passed_more, shared_found, shared_none}
use Rattle.fk_closing.proofs.keys.FkKeys.least_shared.Goals as goal

pub loop-id-preserved : goal.loop-id-preserved
loop-id-preserved c =
    let from = behind c.loop-id.after in
    let least = subst (λ (k : KeyRows). IsLeastFrom k.rows c.args.key.now from (Some c.in-Some.id)) c.self.view_is (subst (λ (o : Option ℕ). IsLeastFrom c.self.inside.rows.now.rows c.args.key.now from o) c.in-Some.is c.least_with.ensures) in
    passed_more (alone_among c.args.self.now) c.args.self.now.rows c.args.key.now from c.loop-id.invariant c.in-Some.id least (sym c.is_alone.ensures ∙ c.if-not-is_alone.false)

pub returns-then-not-is_alone : goal.returns-then-not-is_alone
returns-then-not-is_alone c =
    let from = behind c.loop-id.after in
    let least = subst (λ (k : KeyRows). IsLeastFrom k.rows c.args.key.now from (Some c.in-Some.id)) c.self.view_is (subst (λ (o : Option ℕ). IsLeastFrom c.self.inside.rows.now.rows c.args.key.now from o) c.in-Some.is c.least_with.ensures) in
    shared_found (alone_among c.args.self.now) c.args.self.now.rows c.args.key.now from c.loop-id.invariant c.in-Some.id least (sym c.is_alone.ensures ∙ c.if-not-is_alone.true)

pub returns : goal.returns
returns c =
    let from = behind c.loop-id.after in
    let none = none_of c.least_with.result c.in_default.not-Some in
    let least = subst (λ (k : KeyRows). IsLeastFrom k.rows c.args.key.now from None) c.self.view_is (subst (λ (o : Option ℕ). IsLeastFrom c.self.inside.rows.now.rows c.args.key.now from o) none c.least_with.ensures) in
    shared_none (alone_among c.args.self.now) c.args.self.now.rows c.args.key.now from c.loop-id.invariant least
