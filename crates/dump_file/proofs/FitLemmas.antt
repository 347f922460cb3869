-- The numbers, rows and memories of a database are such as a dump tells.
use Rattle.std.specs.Prelude.{◌≤◌, ◌<◌, ◌^◌, ℤ, pos, negsuc, FitsSigned}
use Rattle.std.specs.Int.{w64}
use Rattle.std.proofs.Common.{◌≡◌, ℕ, List, [], ◌∷◌, Bool, true, false, map, inl, inr, refl, sym, ap, ◌∙◌, subst, arith}
use Rattle.std.proofs.lemmas.List.{map-append}
use mathlib.Core.List.{reverse}
use Rattle.par_base.specs.declared.value.Value.{Value}
use Rattle.par_base.specs.declared.value.Value.TheVariants.{Null, Int, Text, Reference}
use Rattle.row_store.specs.Rows.{RiseFrom, Rows}
use Rattle.row_store.specs.States.{TableState}
use Rattle.id_memory.specs.Pairs.{Pairs}
use Rattle.version_graph.specs.Edges.{AreEdges, is_in, made, made_by_edge, numbers, version_sets}
use Rattle.version_graph.specs.Forest.{Link, crossing, forest}
use Rattle.version_graph.specs.Sets.{In}
use Rattle.version_graph.specs.Tables.{TableVersion, table_numbers}
use Rattle.version_graph.specs.declared.parts.Placed.{Placed}
use Rattle.version_graph.proofs.SetLaws.{each_at, in_left, in_map, in_right}
use Rattle.version_graph.proofs.TableLaws.{numbers_made}
use Rattle.op_law.specs.Calls.{tables_of}
use Rattle.op_law.specs.Laws.{HalfLaws}
use Rattle.op_law.specs.Sound.{IsBelow, PairsSound, RowsSound, TablesSound, ValueSound, ValuesSound}
use Rattle.op_law.specs.Tables.{AllRise, Tables, contents}
use Rattle.op_law.specs.declared.side.Aux.{Aux}
use Rattle.op_any.specs.Operators.{AnyView, any_laws, any_meaning}
use Rattle.layout_rules.proofs.ChangeLaws.{number_lives}
use Rattle.version_graph.proofs.WalkLaws.{Of, all_of, is_forest}
use Rattle.version_model.proofs.CrossingLaws.{is_within}
use Rattle.version_model.specs.Kept.{pairs_at, auxes_at}
use Rattle.version_model.specs.States.{State, headings}
use Rattle.version_model.specs.Steps.{IsRelated, directed}
use Rattle.version_model.specs.declared.numbered.Numbered.{Numbered}
use Rattle.storage_law.specs.Storage.{StandsOver, stored_way}
use Rattle.db_state.specs.Fields.{IsDatabase, state_for, storage_in}
use Rattle.db_state.specs.declared.parts.Parts.{Parts}
use Rattle.dump_graph.specs.Told.{operator_line, version_line}
use Rattle.dump_values.specs.Laws.{AllFit, AuxFits, DumpFits, IdFits, IntFits, MemoryFits, NumberFits, OperatorFits, RowFits, StoredFits, TableFits, ValueFits, VersionFits}
use Rattle.dump_file.specs.Told.{aux_line, dump_told, has_tables, memory_line, remembers, stored_line}
use Rattle.dump_file.specs.inner.Calls.{HasWords}
use Rattle.dump_file.proofs.AuxLemmas.{AuxSound, aux_sound}
use Rattle.dump_file.proofs.ListedLemmas.{fit_filter, fit_map, fit_of, of_reverse}
use Rattle.dump_file.proofs.MemoryLemmas.{IsMemory, are_pairs, link_number}
use Rattle.dump_file.proofs.StateLemmas.{aux_there, memory_lives, memory_there, rows_there}

-- ---- rows and pairs

id_fits : (next id : ℕ) → next ≤ 2 ^ 63 → IsBelow next id → IdFits id
id_fits next id most below = let less = below.1 in (below.0, omega (arith, less, most))

integer_fits : (z : ℤ) → FitsSigned w64 z → IntFits z
integer_fits (pos n) fits = fits.sfits
integer_fits (negsuc n) fits = fits.sfits

value_fits : (next : ℕ) (v : Value) → next ≤ 2 ^ 63 → ValueSound next v → ValueFits v
value_fits next Null most sound = tt
value_fits next (Int z) most sound = integer_fits z sound
value_fits next (Text text) most sound = tt
value_fits next (Reference id) most sound = id_fits next id most sound

values_fit : (next : ℕ) (vs : List Value) → next ≤ 2 ^ 63 → ValuesSound next vs → AllFit ValueFits vs
values_fit next [] most sound = tt
values_fit next (v ∷ vs) most sound = (value_fits next v most sound.0, values_fit next vs most sound.1)

rows_fit : (next : ℕ) (rows : Rows) → next ≤ 2 ^ 63 → RowsSound next rows → AllFit RowFits rows
rows_fit next [] most sound = tt
rows_fit next (r ∷ rs) most sound = ((id_fits next r.0 most sound.0.0, values_fit next r.1 most sound.0.1), rows_fit next rs most sound.1)

tables_fit : (next : ℕ) (ts : List TableState) → next ≤ 2 ^ 63 → TablesSound next (contents ts) → AllRise (contents ts) → AllFit TableFits (contents ts)
tables_fit next [] most sound rise = tt
tables_fit next (t ∷ ts) most sound rise = ((rise.0, rows_fit next t.rows most sound.0), tables_fit next ts most sound.1 rise.1)

pairs_fit : (next : ℕ) (es : Pairs) → next ≤ 2 ^ 63 → PairsSound next es → AllFit (λ (e : ℕ × ℕ × ℕ). IdFits e.0) es
pairs_fit next [] most sound = tt
pairs_fit next (e ∷ es) most sound = (id_fits next e.0 most sound.0.0, pairs_fit next es most sound.1)

-- ---- operators

module _ (a b : ℕ) (operators : a < 2 ^ 32) (tables : b < 2 ^ 32) where
  edge_fits : (es : List (Placed AnyView)) → AreEdges es → ((n : ℕ) → In n (numbers es) → n ≤ a) → ((t : ℕ) → In t (table_numbers (made es)) → t ≤ b) → (e : Placed AnyView) → In e es → OperatorFits (operator_line e)
  edge_fits [] edges low tables_low e i = absurd i
  edge_fits (x ∷ xs) edges low tables_low e (inl same) =
      subst (λ (y : Placed AnyView). OperatorFits (operator_line y)) (sym same) (record {
        number = here x.number (low x.number (inl refl));
        parent = elim edges.0.placed as (λ _. NumberFits x.parent) [ inl zero ↦ omega (arith, zero) | inr i ↦ here x.parent (low x.parent (inr i)) ];
        targets = fit_of NumberFits x.tables (λ t i. let most = tables_low t (own t i) in omega (arith, most, tables));
      })
    where
      here : (n : ℕ) → n ≤ a → NumberFits n
      here n most = omega (arith, most, operators)

      own : (t : ℕ) → In t x.tables → In t (table_numbers (made (x ∷ xs)))
      own t i =
          subst (λ (l : List ℕ). In t l) (sym (map-append (λ (v : TableVersion). v.number) (made_by_edge x) (made xs)))
          (in_left t (table_numbers (made_by_edge x)) (table_numbers (made xs)) (subst (λ (l : List ℕ). In t l) (sym (numbers_made x.tables x.edge.targets edges.0.counted)) i))
  edge_fits (x ∷ xs) edges low tables_low e (inr i) =
      edge_fits xs edges.1 (λ n j. low n (inr j))
      (λ t j. tables_low t (subst (λ (l : List ℕ). In t l) (sym (map-append (λ (v : TableVersion). v.number) (made_by_edge x) (made xs))) (in_right t (table_numbers (made_by_edge x)) (table_numbers (made xs)) j)))
      e i

-- ---- what is stored

-- each of some tables may stand
each_sound : (n : ℕ) (rows : ℕ → Rows) → ((t : ℕ) → RowsSound n (rows t)) → (ks : List ℕ) → TablesSound n (map rows ks)
each_sound n rows sound [] = tt
each_sound n rows sound (k ∷ ks) = (sound k, each_sound n rows sound ks)

way_sound : (b : Bool) (o : AnyView) → AuxSound (directed b (any_meaning o))
way_sound false o = (aux_sound o.operator).0
way_sound true o = (aux_sound o.operator).1

way_laws : (b : Bool) (o : AnyView) → HalfLaws (directed b (any_meaning o))
way_laws false o = (any_laws o).0
way_laws true o = (any_laws o).1

module _ (p : Parts AnyView) (is : IsDatabase any_meaning p) (words : HasWords p) where
  abbrev es : List (Placed AnyView)
  es = p.graph.edges

  abbrev s : State
  s = state_for any_meaning p

  number_fits : (n : ℕ) → In n (numbers es) → NumberFits n
  number_fits n i =
      let most = each_at (λ (k : ℕ). k ≤ p.graph.last_operator) (numbers es) n i is.graph.operators in
      let top = words.last_operator in
      omega (arith, most, top)

  operators_fit : AllFit OperatorFits (map operator_line (reverse es))
  operators_fit =
      fit_map OperatorFits operator_line (reverse es) (λ e i.
      edge_fits p.graph.last_operator p.graph.last_table words.last_operator words.last_table es is.graph.edges
      (λ n j. each_at (λ (k : ℕ). k ≤ p.graph.last_operator) (numbers es) n j is.graph.operators)
      (λ t j. each_at (λ (k : ℕ). k ≤ p.graph.last_table) (table_numbers (made es)) t j is.graph.tables)
      e (of_reverse e es i))

  versions_fit : AllFit VersionFits (map version_line p.graph.versions)
  versions_fit =
      fit_map VersionFits version_line p.graph.versions (λ v i.
      number_fits v.1 (each_at (λ (n : ℕ). In n (numbers es)) (version_sets p.graph.versions) v.1 (in_map (λ (w : List ℕ × ℕ). w.1) v p.graph.versions i) is.graph.named))

  layout_fits : AllFit NumberFits p.layout.operators
  layout_fits =
      fit_of NumberFits p.layout.operators (λ n i.
      let l = is.valid.live n i in
      subst NumberFits (sym l.2) (number_fits l.0.number (link_number es l.0 l.1)))

  table_fits : (t : ℕ) → In t (table_numbers (made es)) → NumberFits t
  table_fits t i =
      let most = each_at (λ (k : ℕ). k ≤ p.graph.last_table) (table_numbers (made es)) t i is.graph.tables in
      let top = words.last_table in
      omega (arith, most, top)

  -- a stored table is one that an operator made
  stored_made : (i : Numbered TableState) → In i p.stored → In i.number (table_numbers (made es))
  stored_made i at =
      let stored = (is.tables i.number).0 (in_map (λ (j : Numbered TableState). j.number) i p.stored at) in
      let f = stored.made.0 in
      let of = each_at (λ (g : Link AnyView). Of (forest es) (crossing false g)) (forest es) f stored.made.1 (all_of (forest es) (is_forest es is.graph.edges)) in
      (is_within es is.graph.edges (crossing false f) of).far i.number stored.made.3

  stored_fit : AllFit StoredFits (map stored_line p.stored)
  stored_fit =
      fit_map StoredFits stored_line p.stored (λ i at.
      let there = rows_there p is i at in
      let rise = subst (λ (rows : Rows). RiseFrom 0 rows) (sym there) (is.sound.well.tables i.number).0 in
      let sound = subst (λ (rows : Rows). RowsSound s.next rows) (sym there) (is.sound.well.rows i.number) in
      (table_fits i.number (stored_made i at), (rise, rows_fit s.next i.value.rows words.at_most sound)))

  -- ---- what an operator keeps

  aux_lives : (i : Numbered Aux) → In i p.aux → In i.number (numbers es)
  aux_lives i at = of_reverse i.number (numbers es) (subst (λ (l : List ℕ). In i.number l) is.auxes (in_map (λ (j : Numbered Aux). j.number) i p.aux at))

  -- they ascend, and nothing in them is above the next identifier
  aux_stands : (l : Link AnyView) → In l (forest es) → AllRise (auxes_at p.aux l.number) × TablesSound s.next (auxes_at p.aux l.number)
  aux_stands l at =
      let back = is_in l.number p.layout.operators in
      let over = each_at (λ (f : Link AnyView). StandsOver any_meaning (headings es) (storage_in p) s (stored_way p.layout.operators f)) (forest es) l at is.stands.edges in (
        subst AllRise (sym over.aux) ((way_laws back l.operator).aux_rises _ _ _ over.related),
        subst (λ (ts : Tables). TablesSound s.next ts) (sym over.aux)
            (way_sound back l.operator s.next _ (each_sound s.next s.tables is.sound.well.rows _) (each_sound s.next s.tables is.sound.well.rows _)),
      )

  auxes_fit : AllFit AuxFits (map aux_line p.aux)
  auxes_fit =
      fit_map AuxFits aux_line p.aux (λ i at.
      let l = number_lives es i.number (aux_lives i at) in
      let there : auxes_at p.aux l.0.number ≡ tables_of i.value = ap (λ (n : ℕ). auxes_at p.aux n) (sym l.2) ∙ aux_there p is i at in
      let stands = aux_stands l.0 l.1 in
      let rise = subst AllRise there stands.0 in
      let sound = subst (λ (ts : Tables). TablesSound s.next ts) there stands.1 in
      (number_fits i.number (aux_lives i at), tables_fit s.next i.value.tables words.at_most sound rise))

  memories_fit : AllFit MemoryFits (map memory_line p.memories)
  memories_fit =
      fit_map MemoryFits memory_line p.memories (λ i at.
      let l = number_lives es i.number (memory_lives p is i at) in
      let there : pairs_at p.memories l.0.number ≡ i.value.entries = ap (λ (n : ℕ). pairs_at p.memories n) (sym l.2) ∙ memory_there p is i at in
      let pair = each_at (λ (f : Link AnyView). IsRelated any_meaning (headings es) s (crossing false f)) (forest es) l.0 l.1 is.sound.related in
      let both = subst IsMemory there (are_pairs l.0.operator.operator _ _ _ pair.related) in
      let sound = subst (λ (m : Pairs). PairsSound s.next m) there (is.sound.well.memories l.0.number) in
      (number_fits i.number (memory_lives p is i at), record { rise = both.0; one = both.1; ids = pairs_fit s.next i.value.entries words.at_most sound }))

  pub told_fits : DumpFits (dump_told p)
  told_fits = record {
    operators = operators_fit;
    versions = versions_fit;
    last_operator = words.last_operator;
    last_table = words.last_table;
    layout = layout_fits;
    stored = stored_fit;
    auxes = fit_filter AuxFits has_tables (map aux_line p.aux) auxes_fit;
    memories = fit_filter MemoryFits (λ (line : ℕ × Pairs). remembers es line.0) (map memory_line p.memories) memories_fit;
    from_one = is.sound.drawn;
    at_most = words.at_most;
  }
