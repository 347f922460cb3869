use Rattle.std.proofs.Common.{◌≡◌, ◌+◌, ◌≤◌, length}
use Rattle.key_index.proofs.ReferenceLemmas.{count_refs, run_of}
use Rattle.key_index.proofs.references.counted.Given as goal

abbrev pub invariant-loop-keyed : goal.invariant-loop-keyed
invariant-loop-keyed l =
    (l.count + run_of l.keyed-iterator l.id ≡ count_refs l.pages.entries l.id)
    × (l.count + length l.keyed-iterator ≤ length l.pages.entries)
