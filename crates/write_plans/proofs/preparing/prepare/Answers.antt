use Rattle.std.specs.Prelude.{OnOk}
use Rattle.std.proofs.Common.{◌≡◌, ℕ, List, ◌++◌, length, take, drop, refl, ap, sym, subst, ◌∙◌}
use Rattle.std.proofs.lemmas.List.{take_at}
use Rattle.version_graph.specs.Sets.{Each}
use Rattle.version_model.specs.declared.numbered.Numbered.{Numbered}
use Rattle.table_keys.specs.States.{KeysState}
use Rattle.kept_keys.specs.Changed.{Both, IsPrepared, IsSameKeys}
use Rattle.write_plans.proofs.preparing.prepare.Goals as goal

-- a slice that fills a list takes its place
filled : {X : Type 0} (n : ℕ) (made items : List X) → n ≡ length items → length made ≡ length items → take n (made ++ drop (length made) items) ≡ made
filled {X} n made items all same =
    ap (λ (k : ℕ). take k (made ++ drop (length made) items)) (all ∙ sym same) ∙ take_at made (drop (length made) items) (length made) refl

pub returns-clause-same : goal.returns-clause-same
returns-clause-same c =
    let was = c.args.keys.now in
    let long = c.prepare_keys.auto.items ∙ ap (λ (l : List (Numbered KeysState)). length l) c.as_mut_slice.ensures.value in
    subst (λ (l : List (Numbered KeysState)). Both IsSameKeys was.items l) (sym (filled was.len c.prepare_keys.new.items was.items was.ok.0 long))
    (subst (λ (l : List (Numbered KeysState)). Both IsSameKeys l c.prepare_keys.new.items) c.as_mut_slice.ensures.value c.prepare_keys.ensures.same)

pub returns-clause-ok : goal.returns-clause-ok
returns-clause-ok c =
    let was = c.args.keys.now in
    let long = c.prepare_keys.auto.items ∙ ap (λ (l : List (Numbered KeysState)). length l) c.as_mut_slice.ensures.value in
    subst (λ (l : List (Numbered KeysState)). OnOk c.prepare_keys.result (Each (IsPrepared c.args.tables.now c.args.made.now) l)) (sym (filled was.len c.prepare_keys.new.items was.items was.ok.0 long)) c.prepare_keys.ensures.ok
