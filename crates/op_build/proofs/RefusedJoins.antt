-- The first check that a DECOMPOSE or JOIN fails refuses it.
use Rattle.std.proofs.Common.{◌≡◌, ℕ, List, [], ◌∷◌, ◌++◌, Bool, true, false, Option, Some, refl, ◌∙◌, ap}
use Rattle.std.specs.Prelude.{◌||◌}
use Rattle.std.specs.List.{remove}
use Rattle.std.specs.Option.{option_map, option_or}
use Rattle.std.specs.Str.{bytes_eq}
use Rattle.std.proofs.lemmas.Bool.{false≢true}
use Rattle.par_base.specs.Checked.{Checked, ◌then◌}
use Rattle.par_base.specs.declared.refusal.Refusal.{Refusal}
use Rattle.par_base.specs.declared.refusal.Refusal.TheVariants.{UnknownTable, SameTable, TableExists, UnknownColumn, BadPartition, ColumnExists, TooManyColumns}
use Rattle.expr_lang.specs.Terms.{columns_in}
use Rattle.expr_lang.specs.Resolved.{place_of, resolved, first_unknown_id}
use Rattle.statements.specs.Views.{KeyView}
use Rattle.statements.specs.Views as «text»
use Rattle.version_graph.specs.Tables.{column_limit, row_name, heading_names, headings_passing}
use Rattle.version_graph.specs.declared.parts.Heading.{Heading}
use Rattle.op_checks.specs.NameChecks.{heading_named, is_passing, left_out, repeated, misdivided, known_table, other_table, new_table, known_column, known_places, known_columns, well_divided, new_columns, few_columns}
use Rattle.op_any.specs.BuildJoins.{Parting, parting, divided, decomposing_in_one, decomposing_table, Sources, meeting, columns_of_both, joining_tables}
use Rattle.op_build.specs.Refusals.{refusal_in, heading, columns_named, too_wide, first_of, checks}
use Rattle.op_build.proofs.Suits.{table_is, column_is}
use Rattle.op_build.proofs.Stops.{then_or, inner_or, leads, both_out, columns_at, table_stop, tables_stop, other_stop, target_stop, second_stop, both_exist, expression_stop, column_stop, places_stop, division_stop, once_stop, few_stop, one_id}

listed_stop : (columns others names : List (List ℕ)) → columns ≡ others → refusal_in (known_places columns names) ≡ option_map (λ name. UnknownColumn name) (left_out names others)
listed_stop columns others names same = places_stop columns names ∙ ap (λ (l : List (List ℕ)). option_map (λ name. UnknownColumn name) (left_out names l)) same

module _ (set : List Heading) where
  pub decomposing_single : (next : ℕ) (table target : List ℕ) (columns : List (List ℕ))
      → refusal_in (decomposing_in_one set table (heading target columns)) ≡ first_of (checks set next («text».DecomposeSingle table target columns))
  unfolding decomposing_in_one repeated
  decomposing_single next table target columns =
      then_or (known_table table (heading_named set table)) _ _ _ (table_stop set table) (λ h known.
      rw (table_is table _ h known) (
      then_or (new_table target (is_passing set (table ∷ []) target)) _ _ _ (target_stop set (table ∷ []) target) (λ u free.
      then_or (known_places h.columns columns) _ _ _ (places_stop h.columns columns) (λ places listed.
      then_or (well_divided (repeated [] columns)) _ _ _ (division_stop _) (λ v once. refl)))))

  -- the checks of two targets, of further names that are read, and then others
  parting_then : {A : Type 0} (table : List ℕ) (s u : Heading) (more : List (List ℕ)) (g : Parting → Checked A) (after : Option Refusal)
      → ((h : Heading) (first second : List ℕ) → heading_named set table ≡ Some h
      → refusal_in (g (record { source = h; first = first; second = second })) ≡ option_or (option_map (λ name. UnknownColumn name) (left_out more (columns_named set table))) after)
      → refusal_in (parting set table s u then g)
      ≡ option_or (option_map (λ name. UnknownTable name) (left_out (table ∷ []) (heading_names set)))
      (option_or (option_map (λ name. TableExists name) (repeated (heading_names (headings_passing set (table ∷ []))) (s.name ∷ u.name ∷ [])))
      (option_or (option_map (λ name. UnknownColumn name) (left_out ((s.columns ++ u.columns) ++ more) (columns_named set table))) after))
  unfolding parting
  parting_then table s u more g after later =
      let columns = columns_named set table in
      inner_or (known_table table (heading_named set table)) _ g _ _ (table_stop set table) (λ h known.
      let found = table_is table _ h known in
      let at = columns_at set table h found in
      leads (both_exist (heading_names (headings_passing set (table ∷ []))) s.name u.name _) (
      inner_or (new_table s.name (is_passing set (table ∷ []) s.name)) _ g _ _ (target_stop set (table ∷ []) s.name) (λ v free.
      inner_or (new_table u.name (bytes_eq u.name s.name || is_passing set (table ∷ []) u.name)) _ g _ _ (second_stop set (table ∷ []) s.name u.name) (λ w other.
      leads (both_out (λ name. UnknownColumn name) (s.columns ++ u.columns) more columns after) (
      leads (both_out (λ name. UnknownColumn name) s.columns u.columns columns _) (
      inner_or (known_places h.columns s.columns) _ g _ _ (listed_stop h.columns columns s.columns at) (λ first listed.
      inner_or (known_places h.columns u.columns) _ g _ _ (listed_stop h.columns columns u.columns at) (λ second also. later h first second found))))))))

  divided_stop : (source s u : Heading) → refusal_in (divided source s u) ≡ option_map (λ name. BadPartition name) (misdivided source.columns (s.columns ++ u.columns))
  unfolding divided
  divided_stop source s u = division_stop _

  pub decomposing : (next : ℕ) (table first : List ℕ) (first_columns : List (List ℕ)) (second : List ℕ) (second_columns : List (List ℕ)) (key : KeyView)
      → refusal_in (decomposing_table set next table (heading first first_columns) (heading second second_columns) key)
      ≡ first_of (checks set next («text».Decompose table first first_columns second second_columns key))
  unfolding decomposing_table repeated
  decomposing next table first first_columns second second_columns «text».Primary =
      let s = heading first first_columns in
      let u = heading second second_columns in
      parting_then table s u [] _ _ (λ h a b found.
      rw found (
      then_or (divided h s u) _ _ _ (divided_stop h s u) (λ v once. refl)))
  decomposing next table first first_columns second second_columns («text».Foreign key) =
      let s = heading first first_columns in
      let u = heading second second_columns in
      parting_then table s u [] _ _ (λ h a b found.
      rw found (
      then_or (divided h s u) _ _ _ (divided_stop h s u) (λ v once.
      then_or (new_columns first_columns (key ∷ [])) _ _ _ (once_stop _) (λ w new.
      then_or (few_columns first (first_columns ++ key ∷ [])) _ _ _ (few_stop first (first_columns ++ key ∷ [])) (λ x few. refl)))))
  decomposing next table first first_columns second second_columns («text».Condition condition) =
      let s = heading first first_columns in
      let u = heading second second_columns in
      parting_then table s u (columns_in condition) _ _ (λ h a b found.
      rw found (
      then_or (known_columns (resolved h.columns condition)) _ _ _ (expression_stop h.columns condition) (λ c read.
      then_or (divided h s u) _ _ _ (divided_stop h s u) (λ v once.
      one_id next (first_unknown_id next condition) _))))

  -- the checks of two sources, and then others
  meeting_then : {A : Type 0} (first second target : List ℕ) (g : Sources → Checked A) (after : Option Refusal)
      → ((h k : Heading) → heading_named set first ≡ Some h → heading_named set second ≡ Some k → refusal_in (g (record { first = h; second = k })) ≡ after)
      → refusal_in (meeting set first second target then g)
      ≡ option_or (option_map (λ name. UnknownTable name) (left_out (first ∷ second ∷ []) (heading_names set)))
      (option_or (option_map (λ name. SameTable name) (repeated [] (first ∷ second ∷ [])))
      (option_or (option_map (λ name. TableExists name) (repeated (heading_names (headings_passing set (first ∷ second ∷ []))) (target ∷ []))) after))
  unfolding meeting
  meeting_then first second target g after later =
      leads (tables_stop set first second _) (
      inner_or (known_table first (heading_named set first)) _ g _ _ (table_stop set first) (λ h known.
      inner_or (known_table second (heading_named set second)) _ g _ _ (table_stop set second) (λ k also.
      inner_or (other_table second (bytes_eq second first)) _ g _ _ (other_stop first second) (λ u other.
      inner_or (new_table target (is_passing set (first ∷ second ∷ []) target)) _ g _ _ (target_stop set (first ∷ second ∷ []) target) (λ v free.
      later h k (table_is first _ h known) (table_is second _ k also))))))

  -- the checks of a join's columns, and then others
  both_then : {A : Type 0} (target : List ℕ) (first second : List (List ℕ)) (g : List (List ℕ) → Checked A) (after : Option Refusal) → refusal_in (g (first ++ second)) ≡ after
      → refusal_in (columns_of_both target first second then g)
      ≡ option_or (option_map (λ name. ColumnExists name) (repeated (row_name ∷ first) second)) (option_or (option_map (λ name. TooManyColumns name column_limit) (too_wide target (first ++ second))) after)
  unfolding columns_of_both
  both_then target first second g after later =
      inner_or (new_columns first second) _ g _ _ (once_stop _) (λ u once.
      inner_or (few_columns target (first ++ second)) _ g _ _ (few_stop target (first ++ second)) (λ v few. later))

  pub joining : (next : ℕ) (outer : Bool) (first second target : List ℕ) (key : KeyView)
      → refusal_in (joining_tables set next outer first second target key) ≡ first_of (checks set next («text».Join outer first second target key))
  unfolding joining_tables
  joining next outer first second target «text».Primary =
      meeting_then first second target _ _ (λ h k found also.
      rw (found, also) (both_then target h.columns k.columns _ _ refl))
  joining next outer first second target («text».Foreign key) =
      meeting_then first second target _ _ (λ h k found also.
      rw (found, also) (
      then_or (known_column key (place_of h.columns key)) _ _ _ (column_stop h.columns key) (λ place there.
      rw (column_is key _ place there) (both_then target (remove h.columns place) k.columns _ _ refl))))
  joining next outer first second target («text».Condition condition) =
      meeting_then first second target _ _ (λ h k found also.
      rw (found, also) (
      then_or (known_columns (resolved (h.columns ++ k.columns) condition)) _ _ _ (expression_stop (h.columns ++ k.columns) condition) (λ c read.
      both_then target h.columns k.columns _ _ (one_id next (first_unknown_id next condition) _))))
