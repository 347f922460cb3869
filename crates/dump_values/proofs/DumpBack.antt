-- A whole dump is read back.
use Rattle.std.specs.Prelude.{option_map}
use Rattle.std.proofs.Common.{◌≡◌, Option, Some, ap, ℕ, List}
use Rattle.id_memory.specs.Pairs.{Pairs}
use Rattle.row_store.specs.Rows.{Rows}
use Rattle.dump_values.specs.Dumps.{Dump, Kept, dump_json, dump_of, graph_of, kept_of, lists_of}
use Rattle.dump_values.specs.Laws.{AuxFits, DumpFits, MemoryFits, OperatorFits, StoredFits, VersionFits}
use Rattle.dump_values.specs.Lines.{aux_json, aux_of, memory_json, memory_of, operator_json, operator_of, stored_json, stored_of, version_json, version_of}
use Rattle.json_members.specs.Members.{next_of, number_json}
use Rattle.dump_values.specs.declared.dumps.GraphLines.{GraphLines}
use Rattle.dump_values.specs.declared.lines.OperatorLine.{OperatorLine}
use Rattle.dump_values.specs.declared.lines.VersionLine.{VersionLine}
use Rattle.dump_values.proofs.BackLaws.{aux_back, both_back, list_back, memory_back, numbers_back, operator_back, small_back, stored_back, version_back, within_back}

graph_back : (d : Dump) → DumpFits d → graph_of (dump_json d) ≡ Some d.graph
graph_back d fit =
    ap (λ (o : Option ((List OperatorLine × List VersionLine) × (ℕ × ℕ))). option_map (λ (f : (List OperatorLine × List VersionLine) × (ℕ × ℕ)). record { operators = f.0.0; versions = f.0.1; last_operator = f.1.0; last_table = f.1.1 }) o)
    (both_back _ _ (d.graph.operators, d.graph.versions) (d.graph.last_operator, d.graph.last_table)
    (both_back _ _ d.graph.operators d.graph.versions (list_back operator_json operator_of OperatorFits operator_back d.graph.operators fit.operators) (list_back version_json version_of VersionFits version_back d.graph.versions fit.versions))
    (both_back _ _ d.graph.last_operator d.graph.last_table (small_back d.graph.last_operator fit.last_operator) (small_back d.graph.last_table fit.last_table)))

lists_back : (d : Dump) → DumpFits d → lists_of (dump_json d) ≡ Some (d.kept.stored, (d.kept.auxes, d.kept.memories))
lists_back d fit =
    both_back _ _ d.kept.stored (d.kept.auxes, d.kept.memories) (list_back stored_json stored_of StoredFits stored_back d.kept.stored fit.stored)
    (both_back _ _ d.kept.auxes d.kept.memories (list_back aux_json aux_of AuxFits aux_back d.kept.auxes fit.auxes) (list_back memory_json memory_of MemoryFits memory_back d.kept.memories fit.memories))

kept_back : (d : Dump) → DumpFits d → kept_of (dump_json d) ≡ Some d.kept
kept_back d fit =
    let next : next_of (number_json d.kept.next) ≡ Some d.kept.next = within_back 1 9223372036854775808 d.kept.next fit.from_one fit.at_most in
    ap (λ (o : Option ((List ℕ × ℕ) × (List (ℕ × Rows) × (List (ℕ × List Rows) × List (ℕ × Pairs))))). option_map (λ (f : (List ℕ × ℕ) × (List (ℕ × Rows) × (List (ℕ × List Rows) × List (ℕ × Pairs)))). record { layout = f.0.0; stored = f.1.0; auxes = f.1.1.0; memories = f.1.1.1; next = f.0.1 }) o)
    (both_back _ _ (d.kept.layout, d.kept.next) (d.kept.stored, (d.kept.auxes, d.kept.memories))
    (both_back _ _ d.kept.layout d.kept.next (numbers_back d.kept.layout fit.layout) next) (lists_back d fit))

pub dump_back : (d : Dump) → DumpFits d → dump_of (dump_json d) ≡ Some d
dump_back d fit =
    ap (λ (o : Option (GraphLines × Kept)). option_map (λ (f : GraphLines × Kept). record { graph = f.0; kept = f.1 }) o)
    (both_back _ _ d.graph d.kept (graph_back d fit) (kept_back d fit))
