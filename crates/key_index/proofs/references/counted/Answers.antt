use Rattle.std.proofs.Common.{◌≡◌, ◌+◌, false, length, ap, sym, subst, ◌∙◌, arith}
use Rattle.ordered_pages.specs.Entries.{entries_from}
use Rattle.key_index.specs.Tables.{refers_to}
use Rattle.key_index.specs.inner.Entries.{keyed_order}
use Rattle.key_index.proofs.ReferenceLemmas.{count_refs, run_of, reference_key, refs_are, run_is, run_none, from_length}
use Rattle.key_index.proofs.references.counted.Goals as goal

pub loop-keyed-init : goal.loop-keyed-init
loop-keyed-init c =
    let entries = c.args.pages.now.entries in
    let is : c.into_iter-keyed-iterator.result ≡ entries_from keyed_order entries (reference_key c.args.id) = c.into_iter-keyed-iterator.ensures.into_iter_gives ∙ c.iter_from-keyed-items.ensures.from in
    let run = ap (λ es. run_of es c.args.id) is ∙ run_is entries c.args.id c.iter_from-keyed-items.ensures.rise in
    (omega (arith, run), omega (arith, ap length is, from_length entries c.args.id))

pub returns-then-not-is_reference : goal.returns-then-not-is_reference
returns-then-not-is_reference c =
    let entries = c.args.pages.now.entries in
    let none : refers_to c.in-Some.keyed.now.key c.args.id ≡ false = ap (λ key. refers_to key c.args.id) (sym c.as_slice.ensures) ∙ sym c.if-not-is_reference.ensures in
    let run = ap (λ es. run_of es c.args.id) c.in-Some.ensures.steps ∙ run_none c.in-Some.keyed.now c.next.new.self c.args.id none in
    let same : c.loop-keyed.count ≡ count_refs entries c.args.id = omega (arith, c.loop-keyed.invariant.0, run) in
    same ∙ refs_are entries c.args.id c.iter_from-keyed-items.ensures.rise c.requires

pub returns : goal.returns
returns c =
    let entries = c.args.pages.now.entries in
    let total : c.loop-keyed.count + 0 ≡ count_refs entries c.args.id = subst (λ es. c.loop-keyed.count + run_of es c.args.id ≡ count_refs entries c.args.id) c.in-None.ensures.steps.0 c.loop-keyed.invariant.0 in
    let same : c.loop-keyed.count ≡ count_refs entries c.args.id = omega (arith, total) in
    same ∙ refs_are entries c.args.id c.iter_from-keyed-items.ensures.rise c.requires
