-- The first check that an operator fails refuses it, form by form.
use Rattle.std.proofs.Common.{◌≡◌, ℕ, List, [], ◌∷◌, ◌++◌, Bool, true, Option, Some, None, Ok, Err, refl, sym, ◌∙◌, ap, subst}
use Rattle.std.specs.Prelude.{◌||◌}
use Rattle.std.specs.List.{remove}
use Rattle.std.specs.Option.{option_map, option_or}
use Rattle.std.specs.Str.{bytes_eq}
use Rattle.par_base.specs.Checked.{Checked, ◌then◌}
use Rattle.par_base.specs.declared.refusal.Refusal.{Refusal}
use Rattle.par_base.specs.declared.refusal.Refusal.TheVariants.{UnknownTable, TableExists, UnknownColumn, ColumnExists, BadPartition, TooManyColumns, UnknownId, ColumnsDiffer, SameTable}
use Rattle.expr_lang.specs.Terms.{columns_in}
use Rattle.expr_lang.specs.Resolved.{place_of, resolved, first_unknown_id}
use Rattle.statements.specs.Views.{Tree, BranchView, OpView}
use Rattle.statements.specs.Views as «text»
use Rattle.version_graph.specs.Tables.{column_limit, row_name, heading_names, headings_passing}
use Rattle.version_graph.specs.declared.parts.Heading.{Heading}
use Rattle.version_graph.specs.declared.parts.Edge.{Edge}
use Rattle.op_kinds.specs.Operators.{Built}
use Rattle.op_checks.specs.NameChecks.{heading_named, is_passing, left_out, repeated, known_table, other_table, new_table, known_column, known_columns, new_columns, same_columns, few_columns}
use Rattle.op_any.specs.Build.{creating_table, dropping_table, renaming_table, renaming_column, adding_column, dropping_column, splitting_in_one, splitting_in_two, splitting_table, merging_tables, planned_edge, with_text}
use Rattle.op_build.specs.Refusals.{refusal_in, without, unknown_table, same_table, existing_table, unknown_column, misplaced_column, differing, existing_column, wide_table, unknown_id, first_of, checks, FirstFailedRefuses, IsCause, EachRefusalHasItsCause}
use Rattle.op_build.proofs.TableListsLaws.{found_stands}
use Rattle.op_build.proofs.Suits.{table_is, column_is}
use Rattle.op_build.proofs.Stops.{then_or, leads, skip, merge, both_out, columns_at, table_stop, tables_stop, other_stop, target_stop, second_stop, both_exist, own_name, expression_stop, column_stop, once_stop, few_stop, same_stop, one_id, two_ids}
use Rattle.op_build.proofs.RefusedJoins.{decomposing_single, decomposing, joining}

-- the last check is that a column is new
abbrev once_in : List (List ℕ) → List ℕ → Option Refusal
once_in seen new = option_or (option_map (λ name. ColumnExists name) (repeated seen (new ∷ []))) None

module _ (set : List Heading) (next : ℕ) where
  creating : (table : List ℕ) (columns : List (List ℕ)) → refusal_in (creating_table set table columns) ≡ first_of (checks set next («text».CreateTable table columns))
  unfolding creating_table repeated
  creating table columns =
      then_or (new_table table (is_passing set [] table)) _ _ _ (target_stop set [] table) (λ u free.
      then_or (new_columns [] columns) _ _ _ (once_stop _) (λ v once.
      then_or (few_columns table columns) _ _ _ (few_stop table columns) (λ w few. refl)))

  dropping : (table : List ℕ) → refusal_in (dropping_table set table) ≡ first_of (checks set next («text».DropTable table))
  unfolding dropping_table repeated
  dropping table = then_or (known_table table (heading_named set table)) _ _ _ (table_stop set table) (λ h known. refl)

  renaming : (table new : List ℕ) → refusal_in (renaming_table set table new) ≡ first_of (checks set next («text».RenameTable table new))
  unfolding renaming_table repeated
  renaming table new =
      then_or (known_table table (heading_named set table)) _ _ _ (table_stop set table) (λ h known.
      then_or (new_table new (is_passing set (table ∷ []) new)) _ _ _ (target_stop set (table ∷ []) new) (λ u free. refl))

  renaming_one : (column table new : List ℕ) → refusal_in (renaming_column set column table new) ≡ first_of (checks set next («text».RenameColumn column table new))
  unfolding renaming_column repeated
  renaming_one column table new =
      then_or (known_table table (heading_named set table)) _ _ _ (table_stop set table) (λ h known.
      let at = columns_at set table h (table_is table _ h known) in
      skip _ _ _ (own_name set table) (
      leads (ap (λ (columns : List (List ℕ)). option_or (option_map (λ name. UnknownColumn name) (left_out (column ∷ []) columns)) (once_in (row_name ∷ without columns column) new)) at) (
      then_or (known_column column (place_of h.columns column)) _ _ (once_in (row_name ∷ without h.columns column) new) (column_stop h.columns column) (λ place there.
      rw (column_is column _ place there) (
      then_or (new_columns (remove h.columns place) (new ∷ [])) _ _ _ (once_stop _) (λ u once. refl))))))

  adding : (column : List ℕ) (value : Tree) (table : List ℕ) (tracked : Bool) → refusal_in (adding_column set next column value table tracked) ≡ first_of (checks set next («text».AddColumn column value table tracked))
  unfolding adding_column repeated
  adding column value table tracked =
      then_or (known_table table (heading_named set table)) _ _ _ (table_stop set table) (λ h known.
      rw (table_is table _ h known) (
      skip _ _ _ (own_name set table) (
      then_or (known_columns (resolved h.columns value)) _ _ _ (expression_stop h.columns value) (λ e read.
      then_or (new_columns h.columns (column ∷ [])) _ _ _ (once_stop _) (λ u once.
      then_or (few_columns table (h.columns ++ column ∷ [])) _ _ _ (few_stop table (h.columns ++ column ∷ [])) (λ v few.
      one_id next (first_unknown_id next value) _))))))

  dropping_one : (column table : List ℕ) (value : Tree) → refusal_in (dropping_column set next column table value) ≡ first_of (checks set next («text».DropColumn column table value))
  unfolding dropping_column repeated
  dropping_one column table value =
      then_or (known_table table (heading_named set table)) _ _ _ (table_stop set table) (λ h known.
      rw (table_is table _ h known) (
      skip _ _ _ (own_name set table) (
      leads (merge (λ name. UnknownColumn name) (left_out (column ∷ []) h.columns) (left_out (columns_in value) (without h.columns column)) _) (
      then_or (known_column column (place_of h.columns column)) _ _ _ (column_stop h.columns column) (λ place there.
      rw (column_is column _ place there) (
      then_or (known_columns (resolved (remove h.columns place) value)) _ _ _ (expression_stop (remove h.columns place) value) (λ e read.
      one_id next (first_unknown_id next value) _)))))))

  splitting_one : (table : List ℕ) (r : BranchView) → refusal_in (splitting_in_one set next table r) ≡ first_of (checks set next («text».Split table r None))
  unfolding repeated
  splitting_one table r =
      then_or (known_table table (heading_named set table)) _ _ _ (table_stop set table) (λ h known.
      rw (table_is table _ h known) (
      then_or (new_table r.table (is_passing set (table ∷ []) r.table)) _ _ _ (target_stop set (table ∷ []) r.table) (λ u free.
      then_or (known_columns (resolved h.columns r.condition)) _ _ _ (expression_stop h.columns r.condition) (λ c read.
      one_id next (first_unknown_id next r.condition) _))))

  splitting_two : (table : List ℕ) (r s : BranchView) → refusal_in (splitting_in_two set next table r s) ≡ first_of (checks set next («text».Split table r (Some s)))
  unfolding repeated
  splitting_two table r s =
      then_or (known_table table (heading_named set table)) _ _ _ (table_stop set table) (λ h known.
      rw (table_is table _ h known) (
      leads (both_exist (heading_names (headings_passing set (table ∷ []))) r.table s.table _) (
      then_or (new_table r.table (is_passing set (table ∷ []) r.table)) _ _ _ (target_stop set (table ∷ []) r.table) (λ u free.
      then_or (new_table s.table (bytes_eq s.table r.table || is_passing set (table ∷ []) s.table)) _ _ _ (second_stop set (table ∷ []) r.table s.table) (λ v other.
      leads (both_out (λ name. UnknownColumn name) (columns_in r.condition) (columns_in s.condition) h.columns _) (
      then_or (known_columns (resolved h.columns r.condition)) _ _ _ (expression_stop h.columns r.condition) (λ c read.
      then_or (known_columns (resolved h.columns s.condition)) _ _ _ (expression_stop h.columns s.condition) (λ d more.
      two_ids next (first_unknown_id next r.condition) (first_unknown_id next s.condition) _))))))))

  splitting : (table : List ℕ) (r : BranchView) (o : Option BranchView) → refusal_in (splitting_table set next table r o) ≡ first_of (checks set next («text».Split table r o))
  unfolding splitting_table
  splitting table r None = splitting_one table r
  splitting table r (Some s) = splitting_two table r s

  merging : (r s : BranchView) (target : List ℕ) → refusal_in (merging_tables set next r s target) ≡ first_of (checks set next («text».Merge r s target))
  unfolding merging_tables repeated
  merging r s target =
      leads (tables_stop set r.table s.table _) (
      then_or (known_table r.table (heading_named set r.table)) _ _ _ (table_stop set r.table) (λ h known.
      then_or (known_table s.table (heading_named set s.table)) _ _ _ (table_stop set s.table) (λ k also.
      let first = found_stands set r.table h (table_is r.table _ h known) in
      let second = found_stands set s.table k (table_is s.table _ k also) in
      rw (table_is r.table _ h known, table_is s.table _ k also) (
      then_or (other_table s.table (bytes_eq s.table r.table)) _ _ _ (other_stop r.table s.table) (λ u other.
      then_or (new_table target (is_passing set (r.table ∷ s.table ∷ []) target)) _ _ _ (target_stop set (r.table ∷ s.table ∷ []) target) (λ v free.
      leads (merge (λ name. UnknownColumn name) (left_out (columns_in r.condition) h.columns) (left_out (columns_in s.condition) k.columns) _) (
      then_or (known_columns (resolved h.columns r.condition)) _ _ _ (expression_stop h.columns r.condition) (λ c read.
      then_or (known_columns (resolved k.columns s.condition)) _ _ _ (expression_stop k.columns s.condition) (λ d more.
      then_or (same_columns h k) _ _ _ (same_stop h k r.table s.table first.named second.named) (λ w same.
      two_ids next (first_unknown_id next r.condition) (first_unknown_id next s.condition) _))))))))))

  planned : (text : OpView) → refusal_in (planned_edge set next text) ≡ first_of (checks set next text)
  planned («text».CreateTable table columns) = creating table columns
  planned («text».DropTable table) = dropping table
  planned («text».RenameTable table new) = renaming table new
  planned («text».RenameColumn column table new) = renaming_one column table new
  planned («text».AddColumn column value table tracked) = adding column value table tracked
  planned («text».DropColumn column table value) = dropping_one column table value
  planned («text».DecomposeSingle table target columns) = decomposing_single set next table target columns
  planned («text».Decompose table first first_columns second second_columns key) = decomposing set next table first first_columns second second_columns key
  planned («text».Join outer first second target key) = joining set next outer first second target key
  planned («text».Split table first second) = splitting table first second
  planned («text».Merge first second target) = merging first second target

-- an edge keeps its text once nothing refuses it
kept : (text : OpView) (c : Checked (Edge Built)) → refusal_in (c then λ e. Ok (with_text text e)) ≡ refusal_in c
kept text (Ok e) = refl
kept text (Err r) = refl

pub first_failed : FirstFailedRefuses
first_failed set next text = kept text (planned_edge set next text) ∙ planned set next text

-- ---- causes

-- the first that is there is one of them
one_of : {P : Type 0} (o rest : Option Refusal) (r : Refusal) → option_or o rest ≡ Some r → (o ≡ Some r → P) → (rest ≡ Some r → P) → P
one_of None rest r e here later = later e
one_of (Some x) rest r e here later = here e

-- a refusal comes of what was found
found_so : {X : Type 0} (F : X → Refusal) (o : Option X) (r : Refusal) (P : Refusal → Type 0) → option_map F o ≡ Some r → ((x : X) → o ≡ Some x → P (F x)) → P r
found_so F None r P e h = absurd (cc)
found_so F (Some x) r P e h = let same : F x ≡ r = cc in subst P same (h x refl)

pub caused : EachRefusalHasItsCause
caused set next text r e =
    let P = IsCause set next text in
    one_of _ _ r (sym (first_failed set next text) ∙ ap refusal_in e) (λ a. found_so (λ name. UnknownTable name) (unknown_table set text) r P a (λ x it. it)) (λ b.
    one_of _ _ r b (λ a. found_so (λ name. SameTable name) (same_table text) r P a (λ x it. it)) (λ c.
    one_of _ _ r c (λ a. found_so (λ name. TableExists name) (existing_table set text) r P a (λ x it. it)) (λ d.
    one_of _ _ r d (λ a. found_so (λ name. UnknownColumn name) (unknown_column set text) r P a (λ x it. it)) (λ f.
    one_of _ _ r f (λ a. found_so (λ name. BadPartition name) (misplaced_column set text) r P a (λ x it. it)) (λ g.
    one_of _ _ r g (λ a. found_so (λ tables. ColumnsDiffer tables.0 tables.1) (differing set text) r P a (λ x it. it)) (λ h.
    one_of _ _ r h (λ a. found_so (λ name. ColumnExists name) (existing_column set text) r P a (λ x it. it)) (λ i.
    one_of _ _ r i (λ a. found_so (λ name. TooManyColumns name column_limit) (wide_table set text) r P a (λ x it. (it, refl))) (λ j.
    one_of _ _ r j (λ a. found_so (λ id. UnknownId id next) (unknown_id next text) r P a (λ x it. (it, refl))) (λ k. absurd (cc))))))))))
