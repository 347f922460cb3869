use Rattle.std.proofs.Common.{◌≡◌, None, Some, ap, sym, subst, ◌∙◌, arith}
use Rattle.ordered_pages.specs.Entries.{count_of}
use Rattle.key_index.specs.inner.Entries.{keys_by_id, PutsRow}
use Rattle.key_index.proofs.EntryLemmas.{keys_are, put_each, put_keys, rows_put, no_entry}
use Rattle.key_index.proofs.exchange.put_key.Goals as goal

pub returns-in-Some-clause-each : goal.returns-in-Some-clause-each
returns-in-Some-clause-each c =
    put_each c.args.pages.now.entries c.put.new.self.entries c.args.id c.in-Some.key _ c.fits.ensures.rise c.put.ensures.rise c.requires.each (sym (keys_are c.args.pages.now.entries c.args.id) ∙ c.requires.none) c.put.ensures.entries

pub returns-in-Some-clause-rows : goal.returns-in-Some-clause-rows
returns-in-Some-clause-rows c =
    subst (λ slot. PutsRow c.args.id slot (keys_by_id c.args.pages.now.entries) (keys_by_id c.put.new.self.entries)) (sym c.in-Some.is)
    (rows_put c.args.pages.now.entries c.put.new.self.entries c.args.id (Some c.in-Some.key)
    (put_keys c.args.pages.now.entries c.put.new.self.entries c.args.id c.in-Some.key _ c.fits.ensures.rise c.put.ensures.rise c.requires.each (sym (keys_are c.args.pages.now.entries c.args.id) ∙ c.requires.none) c.put.ensures.entries))

pub returns-in-Some-clause-len : goal.returns-in-Some-clause-len
returns-in-Some-clause-len c =
    let gone : c.put.result ≡ None = c.put.ensures.value ∙ no_entry c.args.pages.now.entries c.args.id c.in-Some.key c.fits.ensures.rise c.requires.each (sym (keys_are c.args.pages.now.entries c.args.id) ∙ c.requires.none) in
    let none : count_of c.put.result ≡ 0 = ap count_of gone in
    let one : count_of c.args.key ≡ 1 = ap count_of c.in-Some.is in
    omega (arith, c.put.ensures.len, none, one)
