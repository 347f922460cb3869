use Rattle.std.proofs.Common.{◌≡◌, ◌+◌, ◌<◌, [], ◌∷◌, ◌++◌, length, vec_len, vec_capacity, Result, Ok, Err, IsOk, is_ok, true, false, if◌then◌else◌, refl, ◌∙◌, arith, rules}
use Rattle.ordered_pages.proofs.PagesLemmas.{moved_one, first_part, last_part}
use Rattle.ordered_pages.proofs.page.part_entries.Goals as goal

at_ok : {T E A : Type 0} (r : Result T E) (a b : A) → IsOk r → (if is_ok r then a else b) ≡ a
at_ok (Ok v) a b h = refl
at_ok (Err e) a b h = let no : false ≡ true = h in cc

pub loop-entries-preserved-in-Some-2 : goal.loop-entries-preserved-in-Some-2
loop-entries-preserved-in-Some-2 g c =
    let inv = c.loop-entries.invariant in
    let room : vec_len c.loop-entries.other < vec_capacity c.loop-entries.other = omega (arith, inv.1, inv.2, inv.4, c.loop-entries-test.true, c.len.ensures) in
    let ok = c.push.ensures.succeeds room in
    let items : c.push.new.self.items ≡ c.loop-entries.other.items ++ c.in-Some.entry ∷ [] = c.push.ensures.items ∙ at_ok c.push.result _ _ ok in
    let len : vec_len c.push.new.self ≡ vec_len c.loop-entries.other + 1 = c.push.ensures.len ∙ at_ok c.push.result _ _ ok in
    let popped : c.loop-entries.entries.items ≡ c.pop.new.self.items ++ c.in-Some.entry ∷ [] = c.in-Some.ensures.items in
    let shorter : vec_len c.pop.new.self + 1 ≡ vec_len c.loop-entries.entries = c.in-Some.ensures.len in (
      rw items (moved_one _ c.pop.new.self.items c.loop-entries.entries.items c.loop-entries.other.items c.in-Some.entry inv.0 popped),
      omega (arith, shorter, c.loop-entries-test.true, c.len.ensures),
      omega (arith, shorter, len, inv.2),
      c.in-Some.ensures.capacity ∙ inv.3,
      omega (arith, c.push.ensures.capacity, inv.4),
    )

pub returns-clause-own : goal.returns-clause-own
returns-clause-own g c =
    let is : vec_len c.loop-entries.entries ≡ length c.loop-entries.entries.items = search rules in
    let long : length c.loop-entries.entries.items ≡ 32 = omega (arith, is, c.loop-entries.invariant.1, c.len.ensures, c.loop-entries-test.false) in
    first_part _ c.loop-entries.entries.items _ 32 c.loop-entries.invariant.0 long

pub returns-clause-other : goal.returns-clause-other
returns-clause-other g c =
    let is : vec_len c.loop-entries.entries ≡ length c.loop-entries.entries.items = search rules in
    let long : length c.loop-entries.entries.items ≡ 32 = omega (arith, is, c.loop-entries.invariant.1, c.len.ensures, c.loop-entries-test.false) in
    c.reverse.ensures.items ∙ last_part _ c.loop-entries.entries.items _ 32 c.loop-entries.invariant.0 long
