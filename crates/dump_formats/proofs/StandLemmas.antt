-- What is loaded stands for the dump, where nothing is loaded nothing does, and a dump is of one run.
use Rattle.std.specs.Prelude.{◌==◌, ◌⊎◌, Option, Some, None, is_some, option_and_then, Result, Ok, Err, codes}
use Rattle.std.specs.Option.{option_map_or}
use Rattle.std.proofs.Common.{◌≡◌, ℕ, List, [], true, false, inl, inr, refl, sym, ap, ◌∙◌, subst}
use Rattle.std.proofs.lemmas.Bool.{cond-false, eqb-true, false≢true}
use Rattle.par_base.specs.declared.fault.Fault.{Fault}
use Rattle.par_base.specs.declared.fault.Fault.TheVariants.{Refused, Memory}
use Rattle.par_base.specs.declared.fault.Memory.{Memory as NoMemory}
use Rattle.serde_json.specs.Data.{Data}
use Rattle.serde_json.specs.Find.{get}
use Rattle.serde_json.specs.View.{view}
use Rattle.version_graph.specs.Edges.{AreEdges, Drawn}
use Rattle.layout_planner.specs.Counts.{AreCounts, counts_told}
use Rattle.layout_planner.specs.declared.planning.TableCount.{TableCount}
use Rattle.migration.specs.Pending.{IsPending}
use Rattle.op_any.specs.Operators.{AnyView, any_meaning}
use Rattle.db_state.specs.Fields.{database_for}
use Rattle.db_state.specs.declared.parts.Parts.{Parts}
use Rattle.dump_values.specs.Dumps.{dump_of, dump_seen, has_format}
use Rattle.dump_values.specs.Members.{number_of, within}
use Rattle.dump_values.specs.Trees.{FindsTree}
use Rattle.dump_values.specs.declared.dumps.DumpLines.{DumpLines}
use Rattle.dump_graph.specs.declared.refused.DumpRefused.{DumpRefused}
use Rattle.dump_file.specs.Laws.{DumpsAreOfOneDatabase, DumpsAreOfOneGraph}
use Rattle.dump_file.specs.Stands.{LoadsDump, Stands, Loads as LoadsDatabase}
use Rattle.dump_file.specs.Told.{dump_told}
use Rattle.dump_file.specs.States.{state_json, state_told}
use Rattle.dump_formats.specs.Formats.{counts_json, first_of, goal_json, goal_told, is_second, run_json}
use Rattle.dump_formats.specs.Laws.{DumpsAreOfOneRun}
use Rattle.dump_formats.specs.Stands.{IsDumpOf, Loads, Spells, StandsFor}
use Rattle.dump_formats.specs.inner.Read.{AreBeside, AreParts, FindsBeside, LoadsJson, LoadsRead, ReadsDump}
use Rattle.dump_formats.specs.declared.loaded.Loaded.{Loaded}
use Rattle.dump_formats.specs.declared.loading.ReadDump.{ReadDump}
use Rattle.dump_formats.specs.declared.loading.ReadDump.TheVariants.{First, Second}
use Rattle.dump_formats.specs.declared.parts.Members.{Members}
use Rattle.dump_formats.proofs.CountLemmas.{same_counts}
use Rattle.dump_formats.proofs.GoalLemmas.{same_pending}
use Rattle.dump_formats.proofs.SecondLemmas.{whole_counts, whole_first, whole_goal, whole_second}
use Rattle.dump_formats.proofs.SpelledLemmas.{counts_one, goals_one}

some_is : {A : Type 0} (a b : A) → Some a ≡ Some b → a ≡ b
some_is a b e = cc

-- ---- the formats exclude each other

second_format : (o : Option Data) → option_map_or (λ n. n == 2) (option_and_then number_of o) false ≡ true → is_some (option_and_then (λ f. option_and_then (within 1 1) (number_of f)) o) ≡ false
second_format None h = absurd (false≢true h)
second_format (Some f) h = go (number_of f) refl h
  where
    go : (o : Option ℕ) → number_of f ≡ o → option_map_or (λ n. n == 2) o false ≡ true → is_some (option_and_then (within 1 1) (number_of f)) ≡ false
    go None is k = absurd (false≢true k)
    go (Some n) is k = ap (λ (o : Option ℕ). is_some (option_and_then (within 1 1) o)) is ∙ ap (λ (m : ℕ). is_some (within 1 1 m)) (eqb-true n 2 k)

-- a dump of the second format is none of the first
not_first : (d : Data) (p : Parts AnyView) → is_second d ≡ true → Stands d p → ⊥
not_first d p second stands =
    let off : has_format d ≡ false = second_format (get (codes "format") d) second in
    let none : dump_of d ≡ None = cond-false (has_format d) _ None off in
    let clash : None ≡ Some (dump_told p) = sym none ∙ stands.told in
    cc

-- ---- loading

module _ (d : Data) (limit : ℕ) where
  pub first_loaded : (p : Parts AnyView) → LoadsDatabase d limit (Ok p) → (counts : List TableCount) (pending : List ℕ) → counts ≡ [] → pending ≡ []
      → LoadsJson d limit (Ok (record { database = p; counts = counts; pending = pending }))
  first_loaded p loads counts pending c e = (inl (record { database = loads.0; counts = c; pending = e }), loads.1)

  pub first_refused : (fault : Fault DumpRefused) → is_second d ≡ false → LoadsDatabase d limit (Err fault) → LoadsJson d limit (Err fault)
  first_refused (Refused r) off none = λ l is. elim is as (λ _. ⊥) [ inl first ↦ none l.database first.database | inr second ↦ false≢true (sym off ∙ second.format) ]
  first_refused (Memory memory) off none = tt

  module _ (second : is_second d ≡ true) where
    module _ (s : Members) (parts : AreParts d s) where
      -- what is left is no dump of the first format
      pub second_refused : (fault : Fault DumpRefused) → LoadsDatabase (first_of d) limit (Err fault) → LoadsJson d limit (Err fault)
      second_refused (Refused r) none = λ l stands. elim stands as (λ _. ⊥) [
        | inl first ↦ not_first d l.database second first.database
        | inr is ↦ none l.database is.database
      ]
      second_refused (Memory memory) none = tt

      module _ (p : Parts AnyView) (loads : LoadsDatabase (first_of d) limit (Ok p)) where
        pub second_loaded : (counts : List TableCount) (pending : List ℕ) → AreBeside p (view s.counts) (view s.goal) counts pending → LoadsJson d limit (Ok (record { database = p; counts = counts; pending = pending }))
        second_loaded counts pending are = (
          inr (record {
            format = second;
            database = loads.0;
            counts = parts.counts ∙ ap (λ (e : Data). Some e) are.counts_are;
            goal = parts.goal ∙ ap (λ (e : Data). Some e) are.goal_is;
            counted = are.counted;
            leads = are.leads;
          }),
          loads.1,
        )

        -- nothing is kept beside it that the members spell
        pub second_alone : DumpsAreOfOneGraph → FindsBeside p (view s.counts) (view s.goal) None → (l : Loaded) → StandsFor d l → ⊥
        second_alone one none l (inl first) = not_first d l.database second first.database
        second_alone one none l (inr is) =
            let same = one (first_of d) l.database p is.database loads.0 in
            let counts : view s.counts ≡ counts_json (counts_told l.database.graph.edges l.counts) = some_is _ _ (sym parts.counts ∙ is.counts) in
            let goal : view s.goal ≡ goal_json (goal_told l.database.graph.edges l.database.layout.operators l.pending) = some_is _ _ (sym parts.goal ∙ is.goal) in
            let P : Drawn AnyView × List ℕ → Type 0 = λ (k : Drawn AnyView × List ℕ).
            AreCounts k.0.edges l.counts × (view s.counts ≡ counts_json (counts_told k.0.edges l.counts)) × IsPending k.0.edges k.1 l.pending × (view s.goal ≡ goal_json (goal_told k.0.edges k.1 l.pending)) in
            let there : P (p.graph, p.layout.operators) = subst P (λ i. (same.graph i, same.layout i)) (is.counted, counts, is.leads, goal) in
            none l.counts l.pending (record { counted = there.0; counts_are = there.1; leads = there.2; goal_is = there.3 })

-- ---- loading what was read

module _ (limit : ℕ) where
  pub first_read : (lines : DumpLines) (p : Parts AnyView) (counts : List TableCount) (pending : List ℕ) → LoadsDump (dump_seen lines) limit (Ok p) → counts ≡ [] → pending ≡ []
      → LoadsRead (First lines) limit (Ok (record { database = p; counts = counts; pending = pending }))
  unfolding LoadsDump LoadsRead
  first_read lines p counts pending loads c e = λ d is. first_loaded d limit p (loads d is.1) counts pending c e

  pub first_none : (lines : DumpLines) (fault : Fault DumpRefused) → LoadsDump (dump_seen lines) limit (Err fault) → LoadsRead (First lines) limit (Err fault)
  unfolding LoadsDump LoadsRead
  first_none lines fault loads = λ d is. first_refused d limit fault is.0 (loads d is.1)

  module _ (s : Members) where
    pub second_none : (fault : Fault DumpRefused) → LoadsDump (dump_seen s.first) limit (Err fault) → LoadsRead (Second s) limit (Err fault)
    unfolding LoadsDump LoadsRead
    second_none fault loads = λ d is. second_refused d limit is.0 s is.1 fault (loads (first_of d) is.1.first)

    module _ (p : Parts AnyView) (loads : LoadsDump (dump_seen s.first) limit (Ok p)) where
      pub second_read : (counts : List TableCount) (pending : List ℕ) → AreBeside p (view s.counts) (view s.goal) counts pending
          → LoadsRead (Second s) limit (Ok (record { database = p; counts = counts; pending = pending }))
      unfolding LoadsDump LoadsRead
      second_read counts pending are = λ d is. second_loaded d limit is.0 s is.1 p (loads (first_of d) is.1.first) counts pending are

      pub second_lonely : DumpsAreOfOneGraph → FindsBeside p (view s.counts) (view s.goal) None → (r : DumpRefused) → LoadsRead (Second s) limit (Err (Refused r))
      unfolding LoadsDump LoadsRead
      second_lonely one none r = λ d is. second_alone d limit is.0 s is.1 p (loads (first_of d) is.1.first) one none

  pub waits : (r : ReadDump) (memory : NoMemory) → LoadsRead r limit (Err (Memory memory))
  unfolding LoadsRead
  waits r memory = λ d is. tt

-- ---- dumping

-- a database, and what is kept beside it, stand for what is dumped of them
pub dumped : (p : Parts AnyView) (counts : List TableCount) (pending : List ℕ) → AreCounts p.graph.edges counts → IsPending p.graph.edges p.layout.operators pending
    → Stands (state_json (database_for any_meaning p) p.layout.operators) p
    → StandsFor (run_json (database_for any_meaning p) p.layout.operators counts pending) (record { database = p; counts = counts; pending = pending })
dumped p counts pending counted leads stands =
    let told = state_told (database_for any_meaning p) p.layout.operators in
    let c = counts_json (counts_told p.graph.edges counts) in
    let g = goal_json (goal_told p.graph.edges p.layout.operators pending) in
    inr (record {
      format = whole_second c g told;
      database = subst (λ (e : Data). Stands e p) (sym (whole_first c g told)) stands;
      counts = whole_counts c g told;
      goal = whole_goal c g told;
      counted = counted;
      leads = leads;
    })

-- bytes that spell what is dumped, said of equal ones
pub spelled : (bytes text : List ℕ) (d e : Data) → bytes ≡ text → d ≡ e → Spells text d → Spells bytes e
spelled bytes text d e same is spells = subst (λ (b : List ℕ). Spells b e) (sym same) (subst (λ (x : Data). Spells text x) is spells)

-- ---- bytes

pub bytes_load : (bytes : List ℕ) (d : Data) (limit : ℕ) (r : Result Loaded (Fault DumpRefused)) → Spells bytes d → LoadsJson d limit r → Loads bytes limit r
bytes_load bytes d limit (Ok l) spells loads = ((d, spells, loads.0), loads.1)
bytes_load bytes d limit (Err (Refused r)) spells none = λ l is. none l (subst (λ (e : Data). StandsFor e l) (some_is is.0 d (sym is.1.1 ∙ spells.1)) is.2)
bytes_load bytes d limit (Err (Memory memory)) spells none = tt

-- what the bytes tell is loaded
pub bytes_read : (bytes : List ℕ) (r : ReadDump) (limit : ℕ) (loaded : Result Loaded (Fault DumpRefused)) → ReadsDump bytes (Ok r) → LoadsRead r limit loaded → Loads bytes limit loaded
unfolding LoadsRead
bytes_read bytes r limit loaded reads loads = bytes_load bytes reads.0 limit loaded reads.1 (loads reads.0 reads.2)

-- bytes that spell nothing, or nothing that stands for anything, are no dump
pub none_spelled : (bytes : List ℕ) → FindsTree bytes None → (l : Loaded) → IsDumpOf bytes l → ⊥
none_spelled bytes none l is = let spells = is.1 in let clash : None ≡ Some _ = sym (none spells.0) ∙ spells.1 in cc

-- ---- a dump is of one run

module _ (one : DumpsAreOfOneDatabase) (graph : DumpsAreOfOneGraph) where
  pub one_run : DumpsAreOfOneRun
  one_run d l m (inl a) (inl b) limit =
      let same = one d l.database m.database a.database b.database limit in
      record { model = same.model; layout = same.layout; counts = a.counts ∙ sym b.counts; pending = a.pending ∙ sym b.pending }
  one_run d l m (inl a) (inr b) limit = absurd (not_first d l.database b.format a.database)
  one_run d l m (inr a) (inl b) limit = absurd (not_first d m.database a.format b.database)
  one_run d l m (inr a) (inr b) limit =
      let same = one (first_of d) l.database m.database a.database b.database limit in
      let drawn = graph (first_of d) l.database m.database a.database b.database in
      let edges : AreEdges l.database.graph.edges = a.database.database.graph.edges in
      let counts : counts_told l.database.graph.edges l.counts ≡ counts_told m.database.graph.edges m.counts = counts_one _ _ (some_is _ _ (sym a.counts ∙ b.counts)) in
      let goal : goal_told l.database.graph.edges l.database.layout.operators l.pending ≡ goal_told m.database.graph.edges m.database.layout.operators m.pending = goals_one _ _ (some_is _ _ (sym a.goal ∙ b.goal)) in
      let P : Drawn AnyView × List ℕ → Type 0 = λ (k : Drawn AnyView × List ℕ).
      AreCounts k.0.edges m.counts × (counts_told l.database.graph.edges l.counts ≡ counts_told k.0.edges m.counts) × IsPending k.0.edges k.1 m.pending × (goal_told l.database.graph.edges l.database.layout.operators l.pending ≡ goal_told k.0.edges k.1 m.pending) in
      let here : P (l.database.graph, l.database.layout.operators) = subst P (λ i. (sym drawn.graph i, sym drawn.layout i)) (b.counted, counts, b.leads, goal) in
      record {
        model = same.model;
        layout = same.layout;
        counts = same_counts l.database.graph.edges edges l.counts m.counts a.counted here.0 here.1;
        pending = same_pending l.database.graph.edges edges l.database.layout.operators l.pending m.pending a.leads here.2 here.3;
      }
