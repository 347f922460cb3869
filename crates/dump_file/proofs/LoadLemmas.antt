-- What is loaded stands for the dump, and where nothing is loaded nothing does.
use Rattle.std.specs.Prelude.{Some, Result, Ok, Err}
use Rattle.std.proofs.Common.{◌≡◌, ℕ, [], true, map, refl, sym, ap, subst, ◌∙◌}
use mathlib.Core.List.{reverse}
use Rattle.par_base.specs.declared.fault.Fault.{Fault}
use Rattle.par_base.specs.declared.fault.Fault.TheVariants.{Refused, Memory}
use Rattle.par_base.specs.declared.fault.Memory.{Memory as NoMemory}
use Rattle.serde_json.specs.Data.{Data}
use Rattle.version_graph.specs.Edges.{Drawn, IsGraph, numbers}
use Rattle.version_graph.specs.Finished.{IsFinished}
use Rattle.version_graph.specs.Forest.{Link, forest}
use Rattle.version_graph.proofs.SetLaws.{each_more}
use Rattle.op_any.specs.Operators.{AnyView, Built, CreateTable, DropTable, Rename, AddColumn, AddTracked, DropColumn, Split, Merge, DecomposeSingle, DecomposePk, OuterJoinPk, JoinPk, DecomposeFk, OuterJoinFk, JoinFk, JoinOn, DecomposeOn, OuterJoinOn, any_meaning, meaning_of}
use Rattle.version_model.specs.Kept.{HasSides}
use Rattle.version_model.specs.States.{headings}
use Rattle.db_state.specs.Fields.{IsDatabase}
use Rattle.db_state.specs.declared.parts.Parts.{Parts}
use Rattle.db_check.specs.Checked.{IsBuilt}
use Rattle.dump_values.specs.Dumps.{Dump, Kept, dump_of}
use Rattle.dump_values.specs.declared.dumps.GraphLines.{GraphLines}
use Rattle.dump_graph.specs.Graphs.{AreNames, BuildsGraph, IsToldBy}
use Rattle.dump_graph.specs.Laws.{ToldGraphsAreOne}
use Rattle.dump_graph.specs.Texts.{AreFromTexts}
use Rattle.dump_graph.specs.Told.{graph_told}
use Rattle.dump_graph.specs.declared.refused.DumpRefused.{DumpRefused}
use Rattle.dump_file.specs.Stands.{HasNoOther, Loads, LoadsDump, Stands}
use Rattle.dump_file.specs.Told.{aux_line, dump_told, has_tables, kept_told, memory_line}
use Rattle.dump_file.specs.inner.Loading.{AreFields, AreKept, AreMemories, AreOnly, Keeps, MakesFields, is_told}
use Rattle.dump_file.proofs.BuiltLemmas.{IsBuiltFor, all_built}
use Rattle.dump_file.proofs.FillLemmas.{one_filling}
use Rattle.dump_file.proofs.KeptLemmas.{aux_entries, memory_entries}
use Rattle.dump_file.proofs.NumberLemmas.{numbers_once}
use Rattle.dump_file.proofs.SameLemmas.{same_database}

-- ---- the check may be made

-- the source of each operator is read back
built_reads : (o : Built) → (meaning_of o).reads_source ≡ true
built_reads CreateTable = refl
built_reads (DropTable width) = refl
built_reads Rename = refl
built_reads (AddColumn place e) = refl
built_reads (AddTracked e) = refl
built_reads (DropColumn place e) = refl
built_reads (Split width first second) = refl
built_reads (Merge width first second) = refl
built_reads (DecomposeSingle columns width) = refl
built_reads (DecomposePk first second) = refl
built_reads (OuterJoinPk first second) = refl
built_reads (JoinPk first second) = refl
built_reads (DecomposeFk first second place) = refl
built_reads (OuterJoinFk first second place) = refl
built_reads (JoinFk first second place) = refl
built_reads (JoinOn first second c) = refl
built_reads (DecomposeOn first second c) = refl
built_reads (OuterJoinOn first second c) = refl

-- the operators of such fields are built for their tables
pub is_built : (dump : Dump) (p : Parts AnyView) → AreFields dump p → IsBuilt any_meaning p
is_built dump p are =
    let es = p.graph.edges in
    let all = all_built p.ids.next es are.graph.edges es are.graph.edges (λ v i. i) are.texts.1 in
    record {
      reads = λ o. built_reads o.operator;
      graph = are.graph;
      finished = are.finished;
      sides = each_more (IsBuiltFor p.ids.next es) HasSides (λ e is. is.sides) (forest es) all;
      fits = each_more (IsBuiltFor p.ids.next es) (λ (e : Link AnyView). (any_meaning e.operator).Fits (map (headings es) e.sources) (map (headings es) e.targets)) (λ e is. is.fits) (forest es) all;
      closed = each_more (IsBuiltFor p.ids.next es) (λ (e : Link AnyView). (any_meaning e.operator).Closed p.ids.next) (λ e is. is.closed) (forest es) all;
    }

-- ---- fields of which a dump tells

-- over the graph of the lines, with what is kept
are_fields : (lines : GraphLines) (kept : Kept) (g : Drawn AnyView) (p : Parts AnyView) → IsToldBy kept.next lines g → AreKept g kept p → AreFields (record { graph = lines; kept = kept }) p
are_fields lines kept g p told are =
    let graph = ap (λ (h : Drawn AnyView). graph_told h) are.graph_is ∙ told.told in
    let next : p.ids.next ≡ kept.next = ap (λ (k : Kept). k.next) are.told in
    let same = are.graph_is in
    record {
      told = λ i. record { graph = graph i; kept = are.told i };
      texts = subst (λ (x : ℕ × Drawn AnyView). AreFromTexts x.0 x.1.edges) (λ i. (sym next i, sym same i)) told.texts;
      names = subst (λ (h : Drawn AnyView). AreNames h.versions) (sym same) told.names;
      others = subst (λ (h : Drawn AnyView). HasNoOther h.edges p.memories) (sym same) are.others;
      graph = subst (λ h. IsGraph h) (sym same) are.graph;
      finished = subst (λ h. IsFinished h) (sym same) told.finished;
      auxes = are.auxes ∙ ap (λ (h : Drawn AnyView). reverse (numbers h.edges)) (sym same);
      memories = are.memories ∙ ap (λ (h : Drawn AnyView). reverse (numbers h.edges)) (sym same);
    }

-- the graph of such fields is told by the lines
fields_graph : (dump : Dump) (p : Parts AnyView) → AreFields dump p → IsToldBy dump.kept.next dump.graph p.graph
fields_graph dump p are = record {
  told = ap (λ (d : Dump). d.graph) are.told;
  texts = subst (λ n. AreFromTexts n p.graph.edges) (ap (λ (d : Dump). d.kept.next) are.told) are.texts;
  names = are.names;
  finished = are.finished;
}

-- and what is stored is kept over it
fields_kept : (dump : Dump) (g : Drawn AnyView) (p : Parts AnyView) → p.graph ≡ g → AreFields dump p → AreKept g dump.kept p
fields_kept dump g p same are = record {
  graph_is = same;
  graph = subst (λ h. IsGraph h) same are.graph;
  told = ap (λ (d : Dump). d.kept) are.told;
  others = subst (λ (h : Drawn AnyView). HasNoOther h.edges p.memories) same are.others;
  auxes = are.auxes ∙ ap (λ (h : Drawn AnyView). reverse (numbers h.edges)) same;
  memories = are.memories ∙ ap (λ (h : Drawn AnyView). reverse (numbers h.edges)) same;
}

fields_memories : (dump : Dump) (p : Parts AnyView) → AreFields dump p → AreMemories p.graph.edges (reverse (numbers p.graph.edges)) dump.kept.memories p.memories
fields_memories dump p are = record { numbers = are.memories; told = ap (λ (d : Dump). d.kept.memories) are.told; others = are.others }

module _ (one : ToldGraphsAreOne) (dump : Dump) where
  fields_same_graph : (p q : Parts AnyView) → AreFields dump p → AreFields dump q → p.graph ≡ q.graph
  fields_same_graph p q a b =
      one dump.kept.next dump.graph p.graph q.graph (fields_graph dump p a) (fields_graph dump q b)

  -- a dump tells of one list of fields
  pub only_fields : (p : Parts AnyView) → AreFields dump p → AreOnly dump p
  only_fields p are q other =
      let graph = fields_same_graph q p other are in
      let ns = reverse (numbers p.graph.edges) in
      let once = numbers_once p.graph.edges are.graph.edges in
      let live : reverse (numbers q.graph.edges) ≡ ns = ap (λ (g : Drawn AnyView). reverse (numbers g.edges)) graph in
      let same_kept : kept_told q ≡ kept_told p = ap (λ (d : Dump). d.kept) (other.told ∙ sym are.told) in
      let memories : AreMemories p.graph.edges ns dump.kept.memories q.memories =
      subst (λ (g : Drawn AnyView). AreMemories g.edges (reverse (numbers g.edges)) dump.kept.memories q.memories) graph (fields_memories dump q other) in
      record {
        graph = graph;
        layout = ap (λ (k : Kept). k.layout) same_kept;
        stored = ap (λ (k : Kept). k.stored) same_kept;
        auxes = one_filling has_tables [] ns dump.kept.auxes (map aux_line q.aux) (map aux_line p.aux) once
            (aux_entries ns dump.kept.auxes q.aux (other.auxes ∙ live) (ap (λ (d : Dump). d.kept.auxes) other.told))
            (aux_entries ns dump.kept.auxes p.aux are.auxes (ap (λ (d : Dump). d.kept.auxes) are.told));
        memories = one_filling (is_told p.graph.edges) [] ns dump.kept.memories (map memory_line q.memories) (map memory_line p.memories) once
            (memory_entries p.graph.edges ns dump.kept.memories q.memories memories)
            (memory_entries p.graph.edges ns dump.kept.memories p.memories (fields_memories dump p are));
        next = ap (λ (k : Kept). k.next) same_kept;
      }

-- what is kept over the graph of the lines makes the fields
pub fields_made : ToldGraphsAreOne → (lines : GraphLines) (kept : Kept) (limit : ℕ) (g : Drawn AnyView) (r : Result (Parts AnyView) (Fault DumpRefused))
    → BuildsGraph kept.next lines (Ok g) → Keeps g kept limit r → MakesFields (record { graph = lines; kept = kept }) limit r
fields_made one lines kept limit g (Ok p) builds keeps =
    let dump : Dump = record { graph = lines; kept = kept } in
    let are = are_fields lines kept g p builds.1 keeps.0 in
    (are, only_fields one dump p are, keeps.1)
fields_made one lines kept limit g (Err (Refused r)) builds keeps = λ p are.
    let dump : Dump = record { graph = lines; kept = kept } in
    let same = one kept.next lines p.graph g (fields_graph dump p are) builds.1 in
    keeps p (fields_kept dump g p same are)
fields_made one lines kept limit g (Err (Memory memory)) builds keeps = tt

-- without a graph there are no fields
pub no_graph : (lines : GraphLines) (kept : Kept) (limit : ℕ) (fault : Fault DumpRefused) → BuildsGraph kept.next lines (Err fault) → MakesFields (record { graph = lines; kept = kept }) limit (Err fault)
no_graph lines kept limit (Refused r) none = λ p are. none p.graph are.graph (fields_graph (record { graph = lines; kept = kept }) p are)
no_graph lines kept limit (Memory memory) none = tt

-- ---- the whole

-- the database that stands for JSON has the fields of which that tells
stood_fields : (d : Data) (dump : Dump) (p : Parts AnyView) → dump_of d ≡ Some dump → Stands d p → AreFields dump p
stood_fields d dump p tells stands = record {
  told = dump_is (dump_told p) dump (sym stands.told ∙ tells);
  texts = stands.texts;
  names = stands.names;
  others = stands.others;
  graph = stands.database.graph;
  finished = stands.database.finished;
  auxes = stands.database.auxes;
  memories = stands.database.memories;
}
  where
    dump_is : (x y : Dump) → Some x ≡ Some y → x ≡ y
    dump_is x y e = cc

-- where the fields are a database it stands for what tells of them
pub is_loaded : (d : Data) (dump : Dump) (limit : ℕ) (p db : Parts AnyView) → dump_of d ≡ Some dump → MakesFields dump limit (Ok p) → IsDatabase any_meaning p × (db ≡ p) → Loads d limit (Ok db)
is_loaded d dump limit p db tells makes checks =
    let are = makes.0 in
    let stands : Stands d p = record {
      told = tells ∙ ap (λ d. Some d) (sym are.told);
      texts = are.texts;
      names = are.names;
      others = are.others;
      database = checks.0;
    } in
    subst (λ (x : Parts AnyView). Stands d x × (x.ids.limit ≡ limit)) (sym checks.1) (stands, makes.2)

-- where they are none nothing stands for it
pub not_loaded : (d : Data) (dump : Dump) (limit : ℕ) (p : Parts AnyView) → dump_of d ≡ Some dump → MakesFields dump limit (Ok p) → (IsDatabase any_meaning p → ⊥) → (q : Parts AnyView) → Stands d q → ⊥
not_loaded d dump limit p tells makes none q stands = none (same_database q p (makes.1 q (stood_fields d dump q tells stands)) stands.database)

-- nothing stands for what tells of no fields
pub none_made : (d : Data) (dump : Dump) (limit : ℕ) (fault : Fault DumpRefused) → dump_of d ≡ Some dump → MakesFields dump limit (Err fault) → Loads d limit (Err fault)
none_made d dump limit (Refused r) tells none = λ q stands. none q (stood_fields d dump q tells stands)
none_made d dump limit (Memory memory) tells none = tt

-- ---- whatever JSON told it

pub dump_loaded : (dump : Dump) (limit : ℕ) (p db : Parts AnyView) → MakesFields dump limit (Ok p) → IsDatabase any_meaning p × (db ≡ p) → LoadsDump dump limit (Ok db)
unfolding LoadsDump
dump_loaded dump limit p db makes checks = λ d tells. is_loaded d dump limit p db tells makes checks

pub dump_unmade : (dump : Dump) (limit : ℕ) (fault : Fault DumpRefused) → MakesFields dump limit (Err fault) → LoadsDump dump limit (Err fault)
unfolding LoadsDump
dump_unmade dump limit fault none = λ d tells. none_made d dump limit fault tells none

pub dump_alone : (dump : Dump) (limit : ℕ) (p : Parts AnyView) (r : DumpRefused) → MakesFields dump limit (Ok p) → (IsDatabase any_meaning p → ⊥) → LoadsDump dump limit (Err (Refused r))
unfolding LoadsDump
dump_alone dump limit p r makes none = λ d tells. not_loaded d dump limit p tells makes none

pub dump_waits : (dump : Dump) (limit : ℕ) (memory : NoMemory) → LoadsDump dump limit (Err (Memory memory))
unfolding LoadsDump
dump_waits dump limit memory = λ d tells. tt
