use Rattle.std.proofs.Common.{◌+◌, ◌≡◌, ◌∙◌, Result, Ok, Err, IsOk, is_ok, true, false, if◌then◌else◌, refl, arith}
use Rattle.ordered_pages.proofs.BalanceLemmas.{parts, large_is}
use Rattle.ordered_pages.proofs.balance.part_page.Goals as goal

at_ok : {T E A : Type 0} (r : Result T E) (a b : A) → IsOk r → (if is_ok r then a else b) ≡ a
at_ok (Ok v) a b h = refl
at_ok (Err e) a b h = let no : false ≡ true = h in cc

pub returns-clause-entries : goal.returns-clause-entries
returns-clause-entries g c =
    (parts c.args.pages.now.items c.insert.new.self.items c.args.at (c.args.at + 1) c.index_mut.result.now c.part.new.self c.part.new.other
    c.requires.others c.index_mut.ensures.value (large_is c.args.pages.now.items c.args.at c.index_mut.result.now c.requires.large c.index_mut.ensures.value) c.part.ensures.own c.part.ensures.other (omega arith)
    (c.insert.ensures.items ∙ at_ok c.insert.result _ _ (c.insert.ensures.succeeds c.requires.room))).entries

pub returns-clause-sized : goal.returns-clause-sized
returns-clause-sized g c =
    (parts c.args.pages.now.items c.insert.new.self.items c.args.at (c.args.at + 1) c.index_mut.result.now c.part.new.self c.part.new.other
    c.requires.others c.index_mut.ensures.value (large_is c.args.pages.now.items c.args.at c.index_mut.result.now c.requires.large c.index_mut.ensures.value) c.part.ensures.own c.part.ensures.other (omega arith)
    (c.insert.ensures.items ∙ at_ok c.insert.result _ _ (c.insert.ensures.succeeds c.requires.room))).sizes
