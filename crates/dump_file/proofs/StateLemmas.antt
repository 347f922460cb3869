-- What is kept of a database is what its layout stores of its state.
use Rattle.std.specs.Option.{option_map_or}
use Rattle.std.proofs.Common.{◌≡◌, ℕ, List, [], ◌∷◌, ◌++◌, filter, map, Option, inl, inr, refl, sym, ap, ◌∙◌, subst}
use Rattle.std.proofs.lemmas.List.{map-append}
use mathlib.Core.List.{reverse}
use Rattle.row_store.specs.Rows.{Rows}
use Rattle.row_store.specs.States.{TableState}
use Rattle.id_memory.specs.Pairs.{Pairs}
use Rattle.id_memory.specs.States.{MemoryState}
use Rattle.version_graph.specs.Edges.{numbers}
use Rattle.version_graph.specs.Forest.{Link, forest}
use Rattle.version_graph.specs.Sets.{Distinct, In}
use Rattle.version_graph.specs.declared.parts.Placed.{Placed}
use Rattle.version_graph.proofs.SetLaws.{each_at, in_map}
use Rattle.version_graph.proofs.TableLaws.{rises_apart, same_rising}
use Rattle.version_graph.proofs.TakenLaws.{map_map}
use Rattle.op_law.specs.Calls.{tables_of}
use Rattle.op_law.specs.Tables.{Tables}
use Rattle.op_law.specs.declared.side.Aux.{Aux}
use Rattle.op_any.specs.Operators.{AnyView, any_meaning}
use Rattle.layout_rules.specs.Lookups.{is_stored, tables_up}
use Rattle.layout_rules.proofs.PassLaws.{reverse_next, stored_listed, stored_rise}
use Rattle.version_model.specs.Kept.{Database, pairs_at, auxes_at, numbers_in}
use Rattle.version_model.specs.States.{State, headings}
use Rattle.version_model.specs.declared.numbered.Numbered.{Numbered}
use Rattle.storage_law.specs.Storage.{StandsOver, aux_of, stored_way}
use Rattle.db_state.specs.Fields.{IsDatabase, database_for, state_for, storage_in}
use Rattle.db_state.specs.declared.parts.Parts.{Parts}
use Rattle.dump_graph.specs.Told.{graph_told}
use Rattle.dump_file.specs.Laws.{DumpsTellTheState}
use Rattle.dump_file.specs.States.{auxes_stored, memories_stored, tables_stored}
use Rattle.dump_file.specs.Told.{aux_line, has_tables, memory_line, remembers, stored_line}
use Rattle.dump_file.proofs.ListedLemmas.{numbers_once, of_reverse, value_held}

-- functions that are equal on the items of a list
map_alike : {X Y : Type 0} (f g : X → Y) (xs : List X) → ((x : X) → In x xs → f x ≡ g x) → map f xs ≡ map g xs
map_alike f g [] h = refl
map_alike {X} {Y} f g (x ∷ xs) h = ap (λ (y : Y). y ∷ map f xs) (h x (inl refl)) ∙ ap (λ (l : List Y). g x ∷ l) (map_alike f g xs (λ y i. h y (inr i)))

map_back : {X Y : Type 0} (f : X → Y) (xs : List X) → reverse (map f xs) ≡ map f (reverse xs)
map_back f [] = refl
map_back {X} {Y} f (x ∷ xs) =
    reverse_next (f x) (map f xs) ∙ ap (λ (l : List Y). l ++ f x ∷ []) (map_back f xs) ∙ sym (map-append f (reverse xs) (x ∷ [])) ∙ sym (ap (map f) (reverse_next x xs))

-- a forest has the numbers of its edges
forest_numbers : {O : Type 0} (es : List (Placed O)) → numbers es ≡ map (λ (l : Link O). l.number) (forest es)
forest_numbers [] = refl
forest_numbers (e ∷ es) = ap (λ (ns : List ℕ). e.number ∷ ns) (forest_numbers es)

module _ (p : Parts AnyView) (is : IsDatabase any_meaning p) where
  abbrev es : List (Placed AnyView)
  es = p.graph.edges

  abbrev s : State
  s = state_for any_meaning p

  abbrev d : Database AnyView
  d = database_for any_meaning p

  -- ---- each under its number

  -- a stored table has the rows of its state
  pub rows_there : (i : Numbered TableState) → In i p.stored → i.value.rows ≡ s.tables i.number
  rows_there i at =
      let held = value_held p.stored (rises_apart 0 (numbers_in p.stored) is.tables_ascending) i at in
      sym (ap (λ (o : Option TableState). option_map_or (λ (t : TableState). t.rows) o []) held)
      ∙ is.stands.stored i.number ((is.tables i.number).0 (in_map (λ (j : Numbered TableState). j.number) i p.stored at))

  -- the auxiliary tables of an operator
  pub aux_there : (i : Numbered Aux) → In i p.aux → auxes_at p.aux i.number ≡ tables_of i.value
  aux_there i at =
      ap (λ (o : Option Aux). option_map_or tables_of o [])
      (value_held p.aux (subst (λ (l : List ℕ). Distinct l) (sym is.auxes) (numbers_once es is.graph.edges)) i at)

  pub memory_lives : (i : Numbered MemoryState) → In i p.memories → In i.number (numbers es)
  memory_lives i at = of_reverse i.number (numbers es) (subst (λ (l : List ℕ). In i.number l) is.memories (in_map (λ (j : Numbered MemoryState). j.number) i p.memories at))

  -- the memory of an operator
  pub memory_there : (i : Numbered MemoryState) → In i p.memories → pairs_at p.memories i.number ≡ i.value.entries
  memory_there i at =
      ap (λ (o : Option MemoryState). option_map_or (λ (m : MemoryState). m.entries) o [])
      (value_held p.memories (subst (λ (l : List ℕ). Distinct l) (sym is.memories) (numbers_once es is.graph.edges)) i at)

  -- ---- all, by ascending number

  stored_numbers : numbers_in p.stored ≡ filter (is_stored es p.layout.operators) (tables_up es)
  stored_numbers =
      let listed = stored_listed es is.graph.edges p.layout.operators (filter (is_stored es p.layout.operators) (tables_up es)) refl in
      let rise = stored_rise es is.graph.edges p.layout.operators (filter (is_stored es p.layout.operators) (tables_up es)) refl in
      same_rising 0 (numbers_in p.stored) (filter (is_stored es p.layout.operators) (tables_up es)) is.tables_ascending rise
      (λ t i. (listed t).1 ((is.tables t).0 i))
      (λ t i. (is.tables t).1 ((listed t).0 i))

  stored_told : map stored_line p.stored ≡ tables_stored d p.layout.operators
  stored_told =
      let line : ℕ → ℕ × Rows = λ t. (t, s.tables t) in
      map_alike stored_line (λ (i : Numbered TableState). line i.number) p.stored (λ i at. ap (λ (rows : Rows). (i.number, rows)) (rows_there i at))
      ∙ sym (map_map line (λ (i : Numbered TableState). i.number) p.stored)
      ∙ ap (map line) stored_numbers

  -- what is kept of an operator is what is stored of its pair
  entries_right : (l : Link AnyView) → In l (forest es) → auxes_at p.aux l.number ≡ aux_of any_meaning s (stored_way p.layout.operators l)
  entries_right l i = (each_at (λ (f : Link AnyView). StandsOver any_meaning (headings es) (storage_in p) s (stored_way p.layout.operators f)) (forest es) l i is.stands.edges).aux

  aux_lines : map aux_line p.aux ≡ map (λ (l : Link AnyView). (l.number, aux_of any_meaning s (stored_way p.layout.operators l))) (reverse (forest es))
  aux_lines =
      let line : ℕ → ℕ × List Rows = λ n. (n, auxes_at p.aux n) in
      map_alike aux_line (λ (i : Numbered Aux). line i.number) p.aux (λ i at. ap (λ (tables : Tables). (i.number, tables)) (sym (aux_there i at)))
      ∙ sym (map_map line (λ (i : Numbered Aux). i.number) p.aux)
      ∙ ap (map line) (is.auxes ∙ ap (λ (ns : List ℕ). reverse ns) (forest_numbers es) ∙ map_back (λ (l : Link AnyView). l.number) (forest es))
      ∙ map_map line (λ (l : Link AnyView). l.number) (reverse (forest es))
      ∙ map_alike (λ (l : Link AnyView). line l.number) (λ (l : Link AnyView). (l.number, aux_of any_meaning s (stored_way p.layout.operators l))) (reverse (forest es))
      (λ l i. ap (λ (tables : Tables). (l.number, tables)) (entries_right l (of_reverse l (forest es) i)))

  auxes_told : filter has_tables (map aux_line p.aux) ≡ auxes_stored d p.layout.operators
  auxes_told = ap (filter has_tables) aux_lines

  memory_lines : map memory_line p.memories ≡ map (λ (n : ℕ). (n, s.memory n)) (reverse (numbers es))
  memory_lines =
      let line : ℕ → ℕ × Pairs = λ n. (n, pairs_at p.memories n) in
      map_alike memory_line (λ (i : Numbered MemoryState). line i.number) p.memories (λ i at. ap (λ (pairs : Pairs). (i.number, pairs)) (sym (memory_there i at)))
      ∙ sym (map_map line (λ (i : Numbered MemoryState). i.number) p.memories)
      ∙ ap (map line) is.memories

  memories_told : filter (λ (line : ℕ × Pairs). remembers es line.0) (map memory_line p.memories) ≡ memories_stored d
  memories_told = ap (filter (λ (line : ℕ × Pairs). remembers es line.0)) memory_lines

pub tells_the_state : DumpsTellTheState
tells_the_state p is = λ i. record {
  graph = graph_told p.graph;
  kept = record {
    layout = p.layout.operators;
    stored = stored_told p is i;
    auxes = auxes_told p is i;
    memories = memories_told p is i;
    next = p.ids.next;
  };
}
