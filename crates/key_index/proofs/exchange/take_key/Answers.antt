use Rattle.std.proofs.Common.{◌≡◌, None, Some, ap, sym, ◌∙◌}
use Rattle.key_index.proofs.EntryLemmas.{key_of, keys_are, take_keys, taken, rows_put}
use Rattle.key_index.proofs.exchange.take_key.Goals as goal

pub returns-in-Some-take-clause-rows : goal.returns-in-Some-take-clause-rows
returns-in-Some-take-clause-rows c =
    let key = c.as_slice-key.result.now in
    let was : key_of c.args.pages.now.entries c.args.id ≡ Some key = sym (keys_are c.args.pages.now.entries c.args.id) ∙ sym c.requires.own ∙ c.in-Some.is ∙ ap (λ k. Some k) (sym c.as_slice-key.ensures) in
    rows_put c.args.pages.now.entries c.take.new.self.entries c.args.id None
    (take_keys c.args.pages.now.entries c.take.new.self.entries c.args.id key c.fits.ensures.rise c.take.ensures.rise c.requires.each was c.take.ensures.entries)

pub returns-in-Some-take-clause-value : goal.returns-in-Some-take-clause-value
returns-in-Some-take-clause-value c =
    let key = c.as_slice-key.result.now in
    let was : key_of c.args.pages.now.entries c.args.id ≡ Some key = sym (keys_are c.args.pages.now.entries c.args.id) ∙ sym c.requires.own ∙ c.in-Some.is ∙ ap (λ k. Some k) (sym c.as_slice-key.ensures) in
    let there = taken c.args.pages.now.entries c.take.new.self.entries c.args.id key c.fits.ensures.rise c.take.ensures.rise c.requires.each was c.take.ensures.entries c.take.result c.take.ensures.value in
    let both : Some c.in-Some-take.keyed ≡ Some there.0 = sym c.in-Some-take.is ∙ there.1 in
    let same : c.in-Some-take.keyed ≡ there.0 = cc in
    ap (λ keyed. Some keyed.key) same ∙ ap (λ k. Some k) there.2 ∙ ap (λ k. Some k) c.as_slice-key.ensures ∙ sym c.in-Some.is

pub returns-in-None-take-clause-rows : goal.returns-in-None-take-clause-rows
returns-in-None-take-clause-rows c =
    let key = c.as_slice-key.result.now in
    let was : key_of c.args.pages.now.entries c.args.id ≡ Some key = sym (keys_are c.args.pages.now.entries c.args.id) ∙ sym c.requires.own ∙ c.in-Some.is ∙ ap (λ k. Some k) (sym c.as_slice-key.ensures) in
    rows_put c.args.pages.now.entries c.take.new.self.entries c.args.id None
    (take_keys c.args.pages.now.entries c.take.new.self.entries c.args.id key c.fits.ensures.rise c.take.ensures.rise c.requires.each was c.take.ensures.entries)

pub returns-in-None-take-clause-value : goal.returns-in-None-take-clause-value
returns-in-None-take-clause-value c =
    let key = c.as_slice-key.result.now in
    let was : key_of c.args.pages.now.entries c.args.id ≡ Some key = sym (keys_are c.args.pages.now.entries c.args.id) ∙ sym c.requires.own ∙ c.in-Some.is ∙ ap (λ k. Some k) (sym c.as_slice-key.ensures) in
    let there = taken c.args.pages.now.entries c.take.new.self.entries c.args.id key c.fits.ensures.rise c.take.ensures.rise c.requires.each was c.take.ensures.entries c.take.result c.take.ensures.value in
    let no : None ≡ Some there.0 = sym c.in-None-take.is ∙ there.1 in
    cc
