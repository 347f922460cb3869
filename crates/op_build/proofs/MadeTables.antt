-- From which tables to which a built edge goes, form by form.
use Rattle.std.proofs.Common.{◌≡◌, ℕ, List, [], ◌∷◌, ◌++◌, Bool, true, false, Option, Some, None, Ok, IfOk, refl, ap}
use Rattle.std.specs.Prelude.{◌||◌}
use Rattle.std.specs.List.{remove}
use Rattle.std.specs.Str.{bytes_eq}
use Rattle.expr_lang.specs.Resolved.{place_of, resolved}
use Rattle.statements.specs.Views.{Tree, KeyView, BranchView, OpView}
use Rattle.statements.specs.Views as «text»
use Rattle.version_graph.specs.declared.parts.Heading.{Heading}
use Rattle.version_graph.specs.declared.parts.Edge.{Edge}
use Rattle.op_checks.specs.NameChecks.{heading_named, is_passing, repeated, known_table, other_table, new_table, known_column, known_places, known_columns, well_divided, new_columns, same_columns, few_columns, known_ids}
use Rattle.op_any.specs.BuildJoins.{parting, divided, decomposing_in_one, decomposing_table, meeting, columns_of_both, joining_tables}
use Rattle.op_any.specs.Build.{creating_table, dropping_table, renaming_table, renaming_column, adding_column, dropping_column, splitting_table, merging_tables, planned_edge, with_text, built}
use Rattle.op_build.specs.Refusals.{heading, sources_in, targets_in, BuiltHasItsTables}
use Rattle.op_build.proofs.Suits.{if_then, at_ok, table_is, column_is}
use Rattle.op_build.proofs.JoinLaws.{AreMet, met, HasBoth, has_both}

-- it goes from the sources of its text to the targets of its text
abbrev HasTables : {O : Type 0} → List Heading → OpView → Edge O → Type 0
HasTables set text e = (e.sources ≡ sources_in text) × (e.targets ≡ targets_in set text)

module _ (set : List Heading) (next : ℕ) where
  creating : (table : List ℕ) (columns : List (List ℕ)) → IfOk (creating_table set table columns) (HasTables set («text».CreateTable table columns))
  unfolding creating_table
  creating table columns =
      if_then _ (new_table table (is_passing set [] table)) _ (λ u free.
      if_then _ (new_columns [] columns) _ (λ v once.
      if_then _ (few_columns table columns) _ (λ w few. (refl, refl))))

  dropping : (table : List ℕ) → IfOk (dropping_table set table) (HasTables set («text».DropTable table))
  unfolding dropping_table
  dropping table = if_then _ (known_table table (heading_named set table)) _ (λ h known. (refl, refl))

  renaming : (table new : List ℕ) → IfOk (renaming_table set table new) (HasTables set («text».RenameTable table new))
  unfolding renaming_table
  renaming table new =
      if_then _ (known_table table (heading_named set table)) _ (λ h known.
      if_then _ (new_table new (is_passing set (table ∷ []) new)) _ (λ u free. rw (table_is table _ h known) (refl, refl)))

  renaming_one : (column table new : List ℕ) → IfOk (renaming_column set column table new) (HasTables set («text».RenameColumn column table new))
  unfolding renaming_column
  renaming_one column table new =
      if_then _ (known_table table (heading_named set table)) _ (λ h known.
      if_then _ (known_column column (place_of h.columns column)) _ (λ place there.
      if_then _ (new_columns (remove h.columns place) (new ∷ [])) _ (λ u once.
      rw (table_is table _ h known) (rw (column_is column _ place there) (refl, refl)))))

  adding : (column : List ℕ) (value : Tree) (table : List ℕ) (tracked : Bool) → IfOk (adding_column set next column value table tracked) (HasTables set («text».AddColumn column value table tracked))
  unfolding adding_column
  adding column value table tracked =
      if_then _ (known_table table (heading_named set table)) _ (λ h known.
      if_then _ (known_columns (resolved h.columns value)) _ (λ e read.
      if_then _ (new_columns h.columns (column ∷ [])) _ (λ u once.
      if_then _ (few_columns table (h.columns ++ column ∷ [])) _ (λ v few.
      if_then _ (known_ids next value) _ (λ w ids. rw (table_is table _ h known) (refl, refl))))))

  dropping_one : (column table : List ℕ) (value : Tree) → IfOk (dropping_column set next column table value) (HasTables set («text».DropColumn column table value))
  unfolding dropping_column
  dropping_one column table value =
      if_then _ (known_table table (heading_named set table)) _ (λ h known.
      if_then _ (known_column column (place_of h.columns column)) _ (λ place there.
      if_then _ (known_columns (resolved (remove h.columns place) value)) _ (λ e read.
      if_then _ (known_ids next value) _ (λ u ids.
      rw (table_is table _ h known) (rw (column_is column _ place there) (refl, refl))))))

  splitting : (table : List ℕ) (r : BranchView) (o : Option BranchView) → IfOk (splitting_table set next table r o) (HasTables set («text».Split table r o))
  unfolding splitting_table
  splitting table r None =
      if_then _ (known_table table (heading_named set table)) _ (λ h known.
      if_then _ (new_table r.table (is_passing set (table ∷ []) r.table)) _ (λ u free.
      if_then _ (known_columns (resolved h.columns r.condition)) _ (λ c read.
      if_then _ (known_ids next r.condition) _ (λ v ids. rw (table_is table _ h known) (refl, refl)))))
  splitting table r (Some s) =
      if_then _ (known_table table (heading_named set table)) _ (λ h known.
      if_then _ (new_table r.table (is_passing set (table ∷ []) r.table)) _ (λ u free.
      if_then _ (new_table s.table (bytes_eq s.table r.table || is_passing set (table ∷ []) s.table)) _ (λ v other.
      if_then _ (known_columns (resolved h.columns r.condition)) _ (λ c read.
      if_then _ (known_columns (resolved h.columns s.condition)) _ (λ d more.
      if_then _ (known_ids next r.condition) _ (λ w ids.
      if_then _ (known_ids next s.condition) _ (λ x also. rw (table_is table _ h known) (refl, refl))))))))

  merging : (r s : BranchView) (target : List ℕ) → IfOk (merging_tables set next r s target) (HasTables set («text».Merge r s target))
  unfolding merging_tables
  merging r s target =
      if_then _ (known_table r.table (heading_named set r.table)) _ (λ h known.
      if_then _ (known_table s.table (heading_named set s.table)) _ (λ k also.
      if_then _ (other_table s.table (bytes_eq s.table r.table)) _ (λ u other.
      if_then _ (new_table target (is_passing set (r.table ∷ s.table ∷ []) target)) _ (λ v free.
      if_then _ (known_columns (resolved h.columns r.condition)) _ (λ c read.
      if_then _ (known_columns (resolved k.columns s.condition)) _ (λ d more.
      if_then _ (same_columns h k) _ (λ w same.
      if_then _ (known_ids next r.condition) _ (λ x ids.
      if_then _ (known_ids next s.condition) _ (λ y all. rw (table_is r.table _ h known) (refl, refl))))))))))

  decomposing_single : (table target : List ℕ) (columns : List (List ℕ)) → IfOk (decomposing_in_one set table (heading target columns)) (HasTables set («text».DecomposeSingle table target columns))
  unfolding decomposing_in_one
  decomposing_single table target columns =
      if_then _ (known_table table (heading_named set table)) _ (λ h known.
      if_then _ (new_table target (is_passing set (table ∷ []) target)) _ (λ u free.
      if_then _ (known_places h.columns columns) _ (λ places listed.
      if_then _ (well_divided (repeated [] columns)) _ (λ v once. (refl, refl)))))

  decomposing : (table first : List ℕ) (first_columns : List (List ℕ)) (second : List ℕ) (second_columns : List (List ℕ)) (key : KeyView)
      → IfOk (decomposing_table set next table (heading first first_columns) (heading second second_columns) key) (HasTables set («text».Decompose table first first_columns second second_columns key))
  unfolding decomposing_table
  decomposing table first first_columns second second_columns «text».Primary =
      if_then _ (parting set table (heading first first_columns) (heading second second_columns)) _ (λ parts are.
      if_then _ (divided parts.source (heading first first_columns) (heading second second_columns)) _ (λ v once. (refl, refl)))
  decomposing table first first_columns second second_columns («text».Foreign key) =
      if_then _ (parting set table (heading first first_columns) (heading second second_columns)) _ (λ parts are.
      if_then _ (divided parts.source (heading first first_columns) (heading second second_columns)) _ (λ v once.
      if_then _ (new_columns first_columns (key ∷ [])) _ (λ w new.
      if_then _ (few_columns first (first_columns ++ key ∷ [])) _ (λ x few. (refl, refl)))))
  decomposing table first first_columns second second_columns («text».Condition condition) =
      if_then _ (parting set table (heading first first_columns) (heading second second_columns)) _ (λ parts are.
      if_then _ (known_columns (resolved parts.source.columns condition)) _ (λ c read.
      if_then _ (divided parts.source (heading first first_columns) (heading second second_columns)) _ (λ v once.
      if_then _ (known_ids next condition) _ (λ w ids. (refl, refl)))))

  module _ (first second target : List ℕ) where
    -- a target with the columns of both sources
    made : (h k columns : List (List ℕ)) → columns_of_both target h k ≡ Ok columns → (heading target columns ∷ []) ≡ (heading target (h ++ k) ∷ [])
    made h k columns e = ap (λ (l : List (List ℕ)). heading target l ∷ []) (at_ok (HasBoth h k) (columns_of_both target h k) columns e (has_both target h k)).are

    joining : (outer : Bool) (key : KeyView) → IfOk (joining_tables set next outer first second target key) (HasTables set («text».Join outer first second target key))
    unfolding joining_tables
    joining outer «text».Primary =
        if_then _ (meeting set first second target) _ (λ t is.
        let m = at_ok (AreMet set first second target) (meeting set first second target) t is (met set first second target) in
        if_then _ (columns_of_both target t.first.columns t.second.columns) _ (λ columns are.
        rw (m.found, m.other_found) (refl, made t.first.columns t.second.columns columns are)))
    joining outer («text».Foreign key) =
        if_then _ (meeting set first second target) _ (λ t is.
        let m = at_ok (AreMet set first second target) (meeting set first second target) t is (met set first second target) in
        if_then _ (known_column key (place_of t.first.columns key)) _ (λ place there.
        if_then _ (columns_of_both target (remove t.first.columns place) t.second.columns) _ (λ columns are.
        rw (m.found, m.other_found) (rw (column_is key _ place there) (refl, made (remove t.first.columns place) t.second.columns columns are)))))
    joining outer («text».Condition condition) =
        if_then _ (meeting set first second target) _ (λ t is.
        let m = at_ok (AreMet set first second target) (meeting set first second target) t is (met set first second target) in
        if_then _ (known_columns (resolved (t.first.columns ++ t.second.columns) condition)) _ (λ c read.
        if_then _ (columns_of_both target t.first.columns t.second.columns) _ (λ columns are.
        if_then _ (known_ids next condition) _ (λ u ids.
        rw (m.found, m.other_found) (refl, made t.first.columns t.second.columns columns are)))))

  planned : (text : OpView) → IfOk (planned_edge set next text) (HasTables set text)
  planned («text».CreateTable table columns) = creating table columns
  planned («text».DropTable table) = dropping table
  planned («text».RenameTable table new) = renaming table new
  planned («text».RenameColumn column table new) = renaming_one column table new
  planned («text».AddColumn column value table tracked) = adding column value table tracked
  planned («text».DropColumn column table value) = dropping_one column table value
  planned («text».DecomposeSingle table target columns) = decomposing_single table target columns
  planned («text».Decompose table first first_columns second second_columns key) = decomposing table first first_columns second second_columns key
  planned («text».Join outer first second target key) = joining first second target outer key
  planned («text».Split table first second) = splitting table first second
  planned («text».Merge first second target) = merging first second target

pub built_tables : BuiltHasItsTables
built_tables set next text e is =
    at_ok (HasTables set text) (built set next text) e is
    (if_then (HasTables set text) (planned_edge set next text) (λ p. Ok (with_text text p)) (λ p it. at_ok (HasTables set text) (planned_edge set next text) p it (planned set next text)))
