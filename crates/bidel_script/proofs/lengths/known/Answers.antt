use Rattle.std.proofs.Common.{◌∙◌, length, sym, ap}
use Rattle.std.proofs.lemmas.Bool.{ltb-false}
use Rattle.bidel_script.specs.Tails.{known_of}
use Rattle.bidel_script.proofs.LengthLemmas.{token_fits, some_at, none_at}
use Rattle.bidel_script.proofs.lengths.known.Goals as goal

pub shown-requires-clause-order : goal.shown-requires-clause-order
shown-requires-clause-order c =
    let found = some_at c.args.tokens.now c.args.at c.in-Some.token.now c.in-Some.ensures.lookup.3.0 c.in-Some.ensures.lookup.1 in
    (token_fits c.args.bytes.now c.args.tokens.now c.args.at c.in-Some.token.now c.requires.tokens found).0

pub shown-requires-clause-within : goal.shown-requires-clause-within
shown-requires-clause-within c =
    let found = some_at c.args.tokens.now c.args.at c.in-Some.token.now c.in-Some.ensures.lookup.3.0 c.in-Some.ensures.lookup.1 in
    (token_fits c.args.bytes.now c.args.tokens.now c.args.at c.in-Some.token.now c.requires.tokens found).1

pub returns-in-Some : goal.returns-in-Some
returns-in-Some c =
    let found = some_at c.args.tokens.now c.args.at c.in-Some.token.now c.in-Some.ensures.lookup.3.0 c.in-Some.ensures.lookup.1 in
    c.shown.ensures ∙ ap (known_of c.args.bytes.now c.args.tail) (sym found)

pub returns-in-None : goal.returns-in-None
returns-in-None c =
    let none = none_at c.args.tokens.now c.args.at (ltb-false c.args.at (length c.args.tokens.now) (sym c.in-None.ensures.lookup.0)) in
    c.shown_behind.ensures ∙ ap (known_of c.args.bytes.now c.args.tail) (sym none)
