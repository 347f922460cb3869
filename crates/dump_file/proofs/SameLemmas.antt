-- Whether fields are a database rests on what a dump tells of them, not on spare room nor on the limit.
use Rattle.std.specs.Prelude.{◌==◌, ◌↔◌}
use Rattle.std.specs.List.{find}
use Rattle.std.specs.Option.{option_map, option_map_or}
use Rattle.std.proofs.Common.{◌≡◌, ℕ, List, [], ◌∷◌, true, false, cond, map, Some, refl, sym, ap, subst, ◌∙◌}
use Rattle.std.proofs.Math.Path.{fun_ext}
use mathlib.Core.List.{reverse}
use Rattle.row_store.specs.States.{TableState}
use Rattle.id_memory.specs.States.{MemoryState}
use Rattle.version_graph.specs.Edges.{Drawn, IsGraph, Rises, is_in, made, numbers}
use Rattle.version_graph.specs.Tables.{table_numbers}
use Rattle.version_graph.specs.Finished.{IsFinished}
use Rattle.version_graph.specs.Forest.{forest}
use Rattle.version_graph.specs.Sets.{Each, In}
use Rattle.version_graph.proofs.TakenLaws.{map_map}
use Rattle.layout_rules.specs.Layouts.{IsStored, IsValid}
use Rattle.op_law.specs.Calls.{tables_of}
use Rattle.op_any.specs.Operators.{AnyView, any_meaning}
use Rattle.storage_law.specs.Reading.{read_all}
use Rattle.storage_law.specs.Storage.{Stands, Storage}
use Rattle.version_model.specs.Kept.{HasSides, pairs_at, rows_at, value_of, auxes_at, numbers_in}
use Rattle.version_model.specs.Sound.{IsSound}
use Rattle.version_model.specs.States.{State}
use Rattle.version_model.specs.declared.numbered.Numbered.{Numbered}
use Rattle.db_state.specs.Fields.{IsDatabase, state_for, storage_in}
use Rattle.db_state.specs.declared.parts.Parts.{Parts}
use Rattle.dump_file.specs.inner.Loading.{IsSame}

-- values under numbers as lines
abbrev line_of : {T V : Type 0} → (T → V) → Numbered T → ℕ × V
line_of show i = (i.number, show i.value)

abbrev lines_of : {T V : Type 0} → (T → V) → List (Numbered T) → List (ℕ × V)
lines_of show items = map (line_of show) items

-- what stands under a number is told in the line of that number
told_at : {T V : Type 0} (show : T → V) (none : V) (n : ℕ) (items : List (Numbered T))
    → option_map_or show (value_of items n) none ≡ option_map_or (λ (l : ℕ × V). l.1) (find (λ (l : ℕ × V). n == l.0) (lines_of show items)) none
told_at show none n [] = refl
told_at {T} {V} show none n (x ∷ xs) =
    elim (n == x.number) as (λ b. option_map_or show (option_map (λ (i : Numbered T). i.value) (cond b (Some x) (find (λ (i : Numbered T). n == i.number) xs))) none
    ≡ option_map_or (λ (l : ℕ × V). l.1) (cond b (Some (line_of show x)) (find (λ (l : ℕ × V). n == l.0) (lines_of show xs))) none) [
      | true ↦ refl
      | false ↦ told_at show none n xs
    ]

-- items that are told the same hold the same under each number
same_at : {T V : Type 0} (show : T → V) (none : V) (xs ys : List (Numbered T)) → lines_of show xs ≡ lines_of show ys
    → (n : ℕ) → option_map_or show (value_of xs n) none ≡ option_map_or show (value_of ys n) none
same_at {T} {V} show none xs ys is n =
    told_at show none n xs ∙ ap (λ ls. option_map_or (λ (l : ℕ × V). l.1) (find (λ (l : ℕ × V). n == l.0) ls) none) is ∙ sym (told_at show none n ys)

-- and stand under the same numbers
same_numbers : {T V : Type 0} (show : T → V) (xs ys : List (Numbered T)) → lines_of show xs ≡ lines_of show ys → numbers_in xs ≡ numbers_in ys
same_numbers {T} {V} show xs ys is =
    sym (map_map (λ (l : ℕ × V). l.0) (line_of show) xs) ∙ ap (map (λ (l : ℕ × V). l.0)) is
    ∙ map_map (λ (l : ℕ × V). l.0) (line_of show) ys

module _ (p q : Parts AnyView) (same : IsSame p q) where
  graph_is : p.graph ≡ q.graph
  graph_is = same.graph

  layout_is : p.layout.operators ≡ q.layout.operators
  layout_is = same.layout

  rows_are : rows_at p.stored ≡ rows_at q.stored
  rows_are = fun_ext (same_at (λ (t : TableState). t.rows) [] p.stored q.stored same.stored)

  auxes_are : auxes_at p.aux ≡ auxes_at q.aux
  auxes_are = fun_ext (same_at tables_of [] p.aux q.aux same.auxes)

  pairs_are : pairs_at p.memories ≡ pairs_at q.memories
  pairs_are = fun_ext (same_at (λ (m : MemoryState). m.entries) [] p.memories q.memories same.memories)

  storage_is : storage_in p ≡ storage_in q
  storage_is = λ i. record { layout = layout_is i; stored = rows_are i; aux = auxes_are i; memory = pairs_are i }

  -- they stand for one state
  state_is : state_for any_meaning p ≡ state_for any_meaning q
  state_is = λ i. record {
    tables = λ t. cond (is_in t (table_numbers (made (graph_is i).edges)))
        (read_all any_meaning (storage_is i) (forest (graph_is i).edges) t) [];
    memory = pairs_are i;
    next = same.next i;
  }

  tables_are : numbers_in p.stored ≡ numbers_in q.stored
  tables_are = same_numbers (λ (t : TableState). t.rows) p.stored q.stored same.stored

  -- IF ONE IS A DATABASE, SO IS THE OTHER
  pub same_database : IsDatabase any_meaning p → IsDatabase any_meaning q
  same_database is = record {
    reads = is.reads;
    graph = subst (λ g. IsGraph g) graph_is is.graph;
    finished = subst (λ g. IsFinished g) graph_is is.finished;
    sides = subst (λ (g : Drawn AnyView). Each HasSides (forest g.edges)) graph_is is.sides;
    valid = subst (λ (x : Drawn AnyView × List ℕ). IsValid (forest x.0.edges) x.1) (λ i. (graph_is i, layout_is i)) is.valid;
    ascending = subst (λ ns. Rises 0 ns) layout_is is.ascending;
    tables = subst (λ (x : List ℕ × (Drawn AnyView × List ℕ)). (t : ℕ) → In t x.0 ↔ IsStored (forest x.1.0.edges) x.1.1 t) (λ i. (tables_are i, (graph_is i, layout_is i))) is.tables;
    tables_ascending = subst (λ ns. Rises 0 ns) tables_are is.tables_ascending;
    auxes = sym (same_numbers tables_of p.aux q.aux same.auxes) ∙ is.auxes ∙ ap (λ (g : Drawn AnyView). reverse (numbers g.edges)) graph_is;
    memories = sym (same_numbers (λ (m : MemoryState). m.entries) p.memories q.memories same.memories) ∙ is.memories ∙ ap (λ (g : Drawn AnyView). reverse (numbers g.edges)) graph_is;
    stands = subst (λ (x : Drawn AnyView × (Storage × State)). Stands any_meaning x.0.edges x.1.0 x.1.1) (λ i. (graph_is i, (storage_is i, state_is i))) is.stands;
    sound = subst (λ (x : Drawn AnyView × State). IsSound any_meaning x.0.edges x.1) (λ i. (graph_is i, state_is i)) is.sound;
  }
