use Rattle.std.specs.Prelude.{option_map}
use Rattle.std.proofs.Common.{ℕ, List, sym, ap, ◌∙◌}
use Rattle.id_memory.specs.States.{MemoryState}
use Rattle.row_store.specs.States.{TableState}
use Rattle.json_members.specs.Trees.{tree_view, trees_view}
use Rattle.dump_values.specs.Dumps.{auxes_seen, memories_seen, stored_seen}
use Rattle.dump_values.specs.Lines.{aux_of, memory_of, stored_of}
use Rattle.json_members.specs.Members.{list_of}
use Rattle.dump_values.proofs.KeptLemmas.{kept_read, lists_read}
use Rattle.dump_values.proofs.dumps.read_kept.Goals as goal

pub returns-in-Some-3-clause-value : goal.returns-in-Some-3-clause-value
returns-in-Some-3-clause-value c =
    let taken = c.in-Some-take_lists in
    let found = c.in-Some-3 in
    let stored = sym (ap (option_map (λ (ls : List (ℕ × TableState)). stored_seen ls)) c.in-Some-2.is) ∙ c.in_ok-stored.ensures in
    let others = sym (ap (option_map (λ (l : List (ℕ × List TableState) × List (ℕ × MemoryState)). (auxes_seen l.0, memories_seen l.1))) found.is) ∙ c.in_ok-auxes.ensures in
    kept_read (tree_view c.args.tree) (c.in-Some.layout, c.in-Some.next) (stored_seen c.in-Some-2.stored, (auxes_seen found.auxes, memories_seen found.memories))
    (sym c.in_ok-layout.ensures.value ∙ c.in-Some.is)
    (lists_read (list_of stored_of) (list_of aux_of) (list_of memory_of) _ _ _ (trees_view taken.stored.items, (trees_view taken.auxes.items, trees_view taken.memories.items)) _ _ taken.ensures stored others)
