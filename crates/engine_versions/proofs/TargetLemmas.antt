-- An operator makes as many tables as its text says.
use Rattle.std.proofs.Common.{◌≡◌, ℕ, List, [], ◌∷◌, ◌++◌, length, Bool, true, false, Some, None, Ok, ap, sym, ◌∙◌}
use Rattle.std.specs.Prelude.{◌||◌}
use Rattle.std.specs.List.{remove}
use Rattle.std.specs.Str.{bytes_eq}
use Rattle.statements.specs.Views.{Tree, BranchView, OpView}
use Rattle.statements.specs.Views as «text»
use Rattle.expr_lang.specs.Resolved.{place_of, resolved}
use Rattle.version_graph.specs.declared.parts.Heading.{Heading}
use Rattle.version_graph.specs.declared.parts.Edge.{Edge}
use Rattle.op_any.specs.Operators.{Built, AnyView}
use Rattle.op_checks.specs.NameChecks.{heading_named, is_passing, repeated, known_places, well_divided, known_table, new_table, known_column, known_columns, new_columns, few_columns, known_ids, other_table, same_columns}
use Rattle.op_any.specs.Build.{creating_table, dropping_table, renaming_table, renaming_column, adding_column, dropping_column, splitting_in_one, splitting_in_two, splitting_table, merging_tables, planned_edge, with_text, built}
use Rattle.op_any.specs.BuildJoins.{parting, divided, decomposing_in_one, decomposing_table, joining_tables, decomposing_on_pk, decomposing_on_fk, decomposing_on, meeting, columns_of_both, joining_on_pk, joining_on_fk, joining_on}
use Rattle.engine_versions.specs.Evolve.{target_count}
use Rattle.engine_versions.proofs.ChainLaws.{both_give, ok_is}

abbrev many : {O : Type 0} → Edge O → ℕ
many e = length e.targets

module _ (set : List Heading) (next : ℕ) where
  creating : (table : List ℕ) (columns : List (List ℕ)) (e : Edge Built) → creating_table set table columns ≡ Ok e → many e ≡ 1
  unfolding creating_table
  creating table columns e h =
      let a = both_give (new_table table (is_passing set [] table)) _ e h in
      let b = both_give (new_columns [] columns) _ e a.2 in
      let c = both_give (few_columns table columns) _ e b.2 in
      ap many (sym (ok_is _ e c.2))

  dropping : (table : List ℕ) (e : Edge Built) → dropping_table set table ≡ Ok e → many e ≡ 0
  unfolding dropping_table
  dropping table e h =
      let a = both_give (known_table table (heading_named set table)) _ e h in
      ap many (sym (ok_is _ e a.2))

  renaming : (table new : List ℕ) (e : Edge Built) → renaming_table set table new ≡ Ok e → many e ≡ 1
  unfolding renaming_table
  renaming table new e h =
      let a = both_give (known_table table (heading_named set table)) _ e h in
      let b = both_give (new_table new (is_passing set (table ∷ []) new)) _ e a.2 in
      ap many (sym (ok_is _ e b.2))

  column_renamed : (column table new : List ℕ) (e : Edge Built) → renaming_column set column table new ≡ Ok e → many e ≡ 1
  unfolding renaming_column
  column_renamed column table new e h =
      let a = both_give (known_table table (heading_named set table)) _ e h in
      let b = both_give (known_column column (place_of a.0.columns column)) _ e a.2 in
      let c = both_give (new_columns (remove a.0.columns b.0) (new ∷ [])) _ e b.2 in
      ap many (sym (ok_is _ e c.2))

  adding : (column : List ℕ) (value : Tree) (table : List ℕ) (tracked : Bool) (e : Edge Built) → adding_column set next column value table tracked ≡ Ok e → many e ≡ 1
  unfolding adding_column
  adding column value table tracked e h =
      let a = both_give (known_table table (heading_named set table)) _ e h in
      let b = both_give (known_columns (resolved a.0.columns value)) _ e a.2 in
      let c = both_give (new_columns a.0.columns (column ∷ [])) _ e b.2 in
      let d = both_give (few_columns table (a.0.columns ++ column ∷ [])) _ e c.2 in
      let f = both_give (known_ids next value) _ e d.2 in
      ap many (sym (ok_is _ e f.2))

  column_dropped : (column table : List ℕ) (value : Tree) (e : Edge Built) → dropping_column set next column table value ≡ Ok e → many e ≡ 1
  unfolding dropping_column
  column_dropped column table value e h =
      let a = both_give (known_table table (heading_named set table)) _ e h in
      let b = both_give (known_column column (place_of a.0.columns column)) _ e a.2 in
      let c = both_give (known_columns (resolved (remove a.0.columns b.0) value)) _ e b.2 in
      let d = both_give (known_ids next value) _ e c.2 in
      ap many (sym (ok_is _ e d.2))

  split_in_one : (table : List ℕ) (r : BranchView) (e : Edge Built) → splitting_in_one set next table r ≡ Ok e → many e ≡ 1
  split_in_one table r e h =
      let a = both_give (known_table table (heading_named set table)) _ e h in
      let b = both_give (new_table r.table (is_passing set (table ∷ []) r.table)) _ e a.2 in
      let c = both_give (known_columns (resolved a.0.columns r.condition)) _ e b.2 in
      let d = both_give (known_ids next r.condition) _ e c.2 in
      ap many (sym (ok_is _ e d.2))

  split_in_two : (table : List ℕ) (r s : BranchView) (e : Edge Built) → splitting_in_two set next table r s ≡ Ok e → many e ≡ 2
  split_in_two table r s e h =
      let a = both_give (known_table table (heading_named set table)) _ e h in
      let b = both_give (new_table r.table (is_passing set (table ∷ []) r.table)) _ e a.2 in
      let c = both_give (new_table s.table (bytes_eq s.table r.table || is_passing set (table ∷ []) s.table)) _ e b.2 in
      let d = both_give (known_columns (resolved a.0.columns r.condition)) _ e c.2 in
      let f = both_give (known_columns (resolved a.0.columns s.condition)) _ e d.2 in
      let k = both_give (known_ids next r.condition) _ e f.2 in
      let l = both_give (known_ids next s.condition) _ e k.2 in
      ap many (sym (ok_is _ e l.2))

  merging : (r s : BranchView) (target : List ℕ) (e : Edge Built) → merging_tables set next r s target ≡ Ok e → many e ≡ 1
  unfolding merging_tables
  merging r s target e h =
      let a = both_give (known_table r.table (heading_named set r.table)) _ e h in
      let b = both_give (known_table s.table (heading_named set s.table)) _ e a.2 in
      let c = both_give (other_table s.table (bytes_eq s.table r.table)) _ e b.2 in
      let d = both_give (new_table target (is_passing set (r.table ∷ s.table ∷ []) target)) _ e c.2 in
      let f = both_give (known_columns (resolved a.0.columns r.condition)) _ e d.2 in
      let k = both_give (known_columns (resolved b.0.columns s.condition)) _ e f.2 in
      let l = both_give (same_columns a.0 b.0) _ e k.2 in
      let m = both_give (known_ids next r.condition) _ e l.2 in
      let n = both_give (known_ids next s.condition) _ e m.2 in
      ap many (sym (ok_is _ e n.2))

  decomposing : (table : List ℕ) (s : Heading) (e : Edge Built) → decomposing_in_one set table s ≡ Ok e → many e ≡ 1
  unfolding decomposing_in_one
  decomposing table s e h =
      let a = both_give (known_table table (heading_named set table)) _ e h in
      let b = both_give (new_table s.name (is_passing set (table ∷ []) s.name)) _ e a.2 in
      let c = both_give (known_places a.0.columns s.columns) _ e b.2 in
      let d = both_give (well_divided (repeated [] s.columns)) _ e c.2 in
      ap many (sym (ok_is _ e d.2))

  decomposing_by_pk : (table : List ℕ) (s u : Heading) (e : Edge Built) → decomposing_on_pk set table s u ≡ Ok e → many e ≡ 2
  decomposing_by_pk table s u e h =
      let a = both_give (parting set table s u) _ e h in
      let b = both_give (divided a.0.source s u) _ e a.2 in
      ap many (sym (ok_is _ e b.2))

  decomposing_by_fk : (table : List ℕ) (s u : Heading) (key : List ℕ) (e : Edge Built) → decomposing_on_fk set table s u key ≡ Ok e → many e ≡ 2
  decomposing_by_fk table s u key e h =
      let a = both_give (parting set table s u) _ e h in
      let b = both_give (divided a.0.source s u) _ e a.2 in
      let c = both_give (new_columns s.columns (key ∷ [])) _ e b.2 in
      let d = both_give (few_columns s.name (s.columns ++ key ∷ [])) _ e c.2 in
      ap many (sym (ok_is _ e d.2))

  decomposing_by : (table : List ℕ) (s u : Heading) (condition : Tree) (e : Edge Built) → decomposing_on set next table s u condition ≡ Ok e → many e ≡ 2
  decomposing_by table s u condition e h =
      let a = both_give (parting set table s u) _ e h in
      let b = both_give (known_columns (resolved a.0.source.columns condition)) _ e a.2 in
      let c = both_give (divided a.0.source s u) _ e b.2 in
      let d = both_give (known_ids next condition) _ e c.2 in
      ap many (sym (ok_is _ e d.2))

  joining_by_pk : (outer : Bool) (first second target : List ℕ) (e : Edge Built) → joining_on_pk set outer first second target ≡ Ok e → many e ≡ 1
  joining_by_pk outer first second target e h =
      let a = both_give (meeting set first second target) _ e h in
      let b = both_give (columns_of_both target a.0.first.columns a.0.second.columns) _ e a.2 in
      ap many (sym (ok_is _ e b.2))

  joining_by_fk : (outer : Bool) (first second target key : List ℕ) (e : Edge Built) → joining_on_fk set outer first second target key ≡ Ok e → many e ≡ 1
  joining_by_fk outer first second target key e h =
      let a = both_give (meeting set first second target) _ e h in
      let b = both_give (known_column key (place_of a.0.first.columns key)) _ e a.2 in
      let c = both_give (columns_of_both target (remove a.0.first.columns b.0) a.0.second.columns) _ e b.2 in
      ap many (sym (ok_is _ e c.2))

  joining_by : (outer : Bool) (first second target : List ℕ) (condition : Tree) (e : Edge Built) → joining_on set next outer first second target condition ≡ Ok e → many e ≡ 1
  joining_by outer first second target condition e h =
      let a = both_give (meeting set first second target) _ e h in
      let b = both_give (known_columns (resolved (a.0.first.columns ++ a.0.second.columns) condition)) _ e a.2 in
      let c = both_give (columns_of_both target a.0.first.columns a.0.second.columns) _ e b.2 in
      let d = both_give (known_ids next condition) _ e c.2 in
      ap many (sym (ok_is _ e d.2))

  planned_many : (text : OpView) (e : Edge Built) → planned_edge set next text ≡ Ok e → many e ≡ target_count text
  unfolding splitting_table decomposing_table joining_tables
  planned_many («text».CreateTable table columns) e h = creating table columns e h
  planned_many («text».DropTable table) e h = dropping table e h
  planned_many («text».RenameTable table new) e h = renaming table new e h
  planned_many («text».RenameColumn column table new) e h = column_renamed column table new e h
  planned_many («text».AddColumn column value table tracked) e h = adding column value table tracked e h
  planned_many («text».DropColumn column table value) e h = column_dropped column table value e h
  planned_many («text».DecomposeSingle table target columns) e h = decomposing table (record { name = target; columns = columns }) e h
  planned_many («text».Decompose table first first_columns second second_columns «text».Primary) e h =
      decomposing_by_pk table (record { name = first; columns = first_columns }) (record { name = second; columns = second_columns }) e h
  planned_many («text».Decompose table first first_columns second second_columns («text».Foreign key)) e h =
      decomposing_by_fk table (record { name = first; columns = first_columns }) (record { name = second; columns = second_columns }) key e h
  planned_many («text».Decompose table first first_columns second second_columns («text».Condition condition)) e h =
      decomposing_by table (record { name = first; columns = first_columns }) (record { name = second; columns = second_columns }) condition e h
  planned_many («text».Join outer first second target «text».Primary) e h = joining_by_pk outer first second target e h
  planned_many («text».Join outer first second target («text».Foreign key)) e h = joining_by_fk outer first second target key e h
  planned_many («text».Join outer first second target («text».Condition condition)) e h = joining_by outer first second target condition e h
  planned_many («text».Split table first None) e h = split_in_one table first e h
  planned_many («text».Split table first (Some second)) e h = split_in_two table first second e h
  planned_many («text».Merge first second target) e h = merging first second target e h

  pub targets_counted : (text : OpView) (e : Edge AnyView) → built set next text ≡ Ok e → length e.targets ≡ target_count text
  targets_counted text e h =
      let a = both_give (planned_edge set next text) (λ p. Ok (with_text text p)) e h in
      ap many (sym (ok_is _ e a.2)) ∙ planned_many text a.0 a.1
