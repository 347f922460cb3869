use Rattle.std.specs.Prelude.{IsSome}
use Rattle.std.proofs.Common.{◌≡◌, ℕ, None, Some, refl, sym, ap, subst, ◌∙◌}
use Rattle.row_store.specs.Rows.{row_of}
use Rattle.row_store.specs.inner.Entries.{EntryState}
use Rattle.row_store.specs.inner.Passes.{PutsAt}
use Rattle.row_store.proofs.EntryLemmas.{rises, row_in, row_is, no_row, row_put}
use Rattle.row_store.proofs.rows.put_row.Goals as goal

pub put-requires : goal.put-requires
put-requires c =
    let own : c.new.result.0 ≡ c.args.id = ap (λ (e : EntryState). e.0) c.new.ensures in
    let some : IsSome c.args.row = subst IsSome (sym c.in-Some.is) refl in
    record { room = λ none. c.requires.room some (ap (row_of c.args.rows.now.entries) (sym own) ∙ no_row c.args.rows.now.entries c.new.result.0 none) }

pub returns-in-Some-clause-rises : goal.returns-in-Some-clause-rises
returns-in-Some-clause-rises c = rises c.put.new.self.entries c.put.ensures.rise

pub returns-in-Some-clause-value : goal.returns-in-Some-clause-value
returns-in-Some-clause-value c =
    let before = c.args.rows.now.entries in
    let own : c.new.result.0 ≡ c.args.id = ap (λ (e : EntryState). e.0) c.new.ensures in
    c.row_taken.ensures ∙ ap row_in c.put.ensures.value ∙ row_is before c.new.result.0 ∙ ap (row_of before) own

pub returns-in-Some-clause-rows : goal.returns-in-Some-clause-rows
returns-in-Some-clause-rows c =
    let before = c.args.rows.now.entries in
    let now = c.put.new.self.entries in
    let own : c.new.result.0 ≡ c.args.id = ap (λ (e : EntryState). e.0) c.new.ensures in
    let slot : Some c.new.result.1 ≡ c.args.row = ap (λ (e : EntryState). Some e.1) c.new.ensures ∙ sym c.in-Some.is in
    subst (λ row. PutsAt c.args.id row before now) slot
    (subst (λ (id : ℕ). PutsAt id (Some c.new.result.1) before now) own
    (row_put before now c.new.result.0 (Some c.new.result) c.put.ensures.entries))

pub returns-in-None-clause-rises : goal.returns-in-None-clause-rises
returns-in-None-clause-rises c = rises c.take.new.self.entries c.take.ensures.rise

pub returns-in-None-clause-value : goal.returns-in-None-clause-value
returns-in-None-clause-value c =
    c.row_taken-in-None.ensures ∙ ap row_in c.take.ensures.value ∙ row_is c.args.rows.now.entries c.args.id

pub returns-in-None-clause-rows : goal.returns-in-None-clause-rows
returns-in-None-clause-rows c =
    let before = c.args.rows.now.entries in
    let now = c.take.new.self.entries in
    subst (λ row. PutsAt c.args.id row before now) (sym c.in-None.is) (row_put before now c.args.id None c.take.ensures.entries)
