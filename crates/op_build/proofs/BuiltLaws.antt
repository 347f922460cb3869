-- What each operator builds suits the working set, case by case.
use Rattle.std.proofs.Common.{◌≡◌, ℕ, suc, Bool, ◌≤◌, List, [], ◌∷◌, ◌++◌, length, map, get_or, true, false, Ok, IfOk, inl, inr, refl, sym, ◌∙◌, ap, subst, arith}
use Rattle.std.specs.Prelude.{◌↔◌}
use Rattle.std.specs.List.{insert, remove}
use Rattle.std.proofs.lemmas.Bool.{false≢true}
use Rattle.std.proofs.lemmas.List.Edits.{insert_end, length-insert, length-remove}
use Rattle.expr_lang.specs.Terms.{Term}
use Rattle.expr_lang.specs.Resolved.{place_of, resolved}
use Rattle.statements.specs.Views.{Tree, OpView}
use Rattle.statements.specs.Views as «text»
use Rattle.version_graph.specs.Sets.{In, Each}
use Rattle.version_graph.specs.Tables.{IsHeading, FitsSet, row_name, heading_names, headings_passing}
use Rattle.version_graph.specs.declared.parts.Heading.{Heading}
use Rattle.version_graph.specs.declared.parts.Edge.{Edge}
use Rattle.op_kinds.specs.Operators.{Built, AnyView, any_meaning, meaning_of}
use Rattle.op_kinds.specs.Operators as «any»
use Rattle.op_law.specs.Tables.{Heading as SeenHeading}
use Rattle.op_law.specs.SoundTerms.{TermSound}
use Rattle.op_column.specs.AddColumn.{AddColumnFits}
use Rattle.op_checks.specs.NameChecks.{heading_named, is_passing, known_table, new_table, known_column, known_columns, new_columns, few_columns, known_ids}
use Rattle.op_any.specs.Build.{creating_table, dropping_table, renaming_table, renaming_column, column_adder, adding_column, dropping_column, planned_edge, with_text, built}
use Rattle.op_any.specs.BuildJoins.{decomposing_table, joining_tables}
use Rattle.op_any.specs.Texts.{TextsFit}
use Rattle.op_build.specs.Laws.{as_seen, headings_taken, is_create_table, is_local_form}
use Rattle.op_build.proofs.NameLists.{distinct_insert, distinct_remove, distinct_front, insert-remove}
use Rattle.op_build.proofs.TableListsLaws.{found_stands, stands_named, none_passing, source_gone}
use Rattle.op_build.proofs.Suits.{Suits, if_then, at_ok, table_is, is_new, column_is, expression_is, are_few, ids_known, new_once, place_within, heading_at, without_column, reads_columns, is_closed, one_fits, one_taken}
use Rattle.op_build.proofs.SplitMergeLaws.{splitting_suits, merging_suits}
use Rattle.op_build.proofs.DecomposeLaws.{decomposing_suits, decomposing_on_pk_suits, decomposing_on_fk_suits, decomposing_on_suits}
use Rattle.op_build.proofs.JoinLaws.{joining_on_pk_suits, joining_on_fk_suits, joining_on_suits}

-- an added column, tracked or not, is built for a table and the same with the column behind all others
adder_fits : (tracked : Bool) (e : Term ℕ) (source target : SeenHeading) → AddColumnFits (length source.columns) e (source ∷ []) (target ∷ []) → (meaning_of (column_adder tracked (length source.columns) e)).Fits (source ∷ []) (target ∷ [])
adder_fits true e source target fits = fits
adder_fits false e source target fits = fits

adder_closed : (tracked : Bool) (count n : ℕ) (e : Term ℕ) → TermSound n e → (meaning_of (column_adder tracked count e)).Closed n
adder_closed true count n e closed = closed
adder_closed false count n e closed = closed

adder_local : (tracked : Bool) (count : ℕ) (e : Term ℕ) → (meaning_of (column_adder tracked count e)).is_local ≡ true
adder_local true count e = refl
adder_local false count e = refl

module _ (set : List Heading) (next : ℕ) where
  creating_suits : (table : List ℕ) (columns : List (List ℕ)) → IfOk (creating_table set table columns) (Suits set next («text».CreateTable table columns))
  unfolding creating_table
  creating_suits table columns =
      if_then _ (new_table table (is_passing set [] table)) _ (λ u free.
      if_then _ (new_columns [] columns) _ (λ v once.
      if_then _ (few_columns table columns) _ (λ w few.
      record {
        set_fits = λ tables. record {
          known = tt;
          sources_once = tt;
          targets_new = λ name i j. elim i [ inl same ↦ none_passing set [] table (is_new table _ u free) (subst (λ (n : List ℕ). In n (heading_names (headings_passing set []))) same j) | inr none ↦ none ];
          targets_once = ((λ i. i), tt);
          columns = (record { once = new_once [] columns v once ((λ i. i), tt); few = are_few table columns w few }, tt);
        };
        fits = λ tables. (refl, refl);
        closed = λ _. tt;
        few = (omega arith, omega arith);
        sources = (λ _. refl, λ _. refl);
        local = refl;
      })))

  dropping_suits : (table : List ℕ) → IfOk (dropping_table set table) (Suits set next («text».DropTable table))
  unfolding dropping_table
  dropping_suits table =
      if_then _ (known_table table (heading_named set table)) _ (λ h known.
      let found = table_is table _ h known in
      record {
        set_fits = λ tables. record {
          known = (stands_named set table h (found_stands set table h found), tt);
          sources_once = ((λ i. i), tt);
          targets_new = λ name i j. i;
          targets_once = tt;
          columns = tt;
        };
        fits = λ tables. rw (one_taken set table h found) (refl, refl);
        closed = λ _. tt;
        few = (omega arith, omega arith);
        sources = (λ e. absurd (cc), λ e. absurd (false≢true e));
        local = refl;
      })

  renaming_table_suits : (table new : List ℕ) → IfOk (renaming_table set table new) (Suits set next («text».RenameTable table new))
  unfolding renaming_table
  renaming_table_suits table new =
      if_then _ (known_table table (heading_named set table)) _ (λ h known.
      if_then _ (new_table new (is_passing set (table ∷ []) new)) _ (λ u free.
      let found = table_is table _ h known in
      record {
        set_fits = λ tables.
            let is = heading_at set table h tables found in
            one_fits set «any».Rename table (record { name = new; columns = h.columns }) (stands_named set table h (found_stands set table h found)) (none_passing set (table ∷ []) new (is_new new _ u free)) (record { once = is.once; few = is.few });
        fits = λ tables. rw (one_taken set table h found) (refl, refl, refl);
        closed = λ _. tt;
        few = (omega arith, omega arith);
        sources = (λ e. absurd (cc), λ e. absurd (false≢true e));
        local = refl;
      }))

  renaming_column_suits : (column table new : List ℕ) → IfOk (renaming_column set column table new) (Suits set next («text».RenameColumn column table new))
  unfolding renaming_column
  renaming_column_suits column table new =
      if_then _ (known_table table (heading_named set table)) _ (λ h known.
      if_then _ (known_column column (place_of h.columns column)) _ (λ place there.
      if_then _ (new_columns (remove h.columns place) (new ∷ [])) _ (λ u once.
      let found = table_is table _ h known in
      let within = place_within h.columns column place (column_is column _ place there) in
      let shorter = length-remove h.columns place within in
      let fit : place ≤ length (remove h.columns place) = omega (arith, shorter, within) in
      let long : length (insert (remove h.columns place) place new) ≡ length h.columns = length-insert (remove h.columns place) place new fit ∙ shorter in
      record {
        set_fits = λ tables.
            let is = heading_at set table h tables found in
            let both = distinct_front (row_name ∷ remove h.columns place) new (new_once (remove h.columns place) (new ∷ []) u once (distinct_remove (row_name ∷ h.columns) (suc place) is.once)) in
            one_fits set «any».Rename table (record { name = table; columns = insert (remove h.columns place) place new }) (stands_named set table h (found_stands set table h found)) (source_gone table set)
            (record { once = distinct_insert (row_name ∷ remove h.columns place) (suc place) new both.0 both.1; few = omega (arith, long, is.few) });
        fits = λ tables. rw (one_taken set table h found) (refl, refl, ap (λ (n : ℕ). n ∷ []) (sym long));
        closed = λ _. tt;
        few = (omega arith, omega arith);
        sources = (λ e. absurd (cc), λ e. absurd (false≢true e));
        local = refl;
      })))

  adding_suits : (column : List ℕ) (value : Tree) (table : List ℕ) (tracked : Bool) → IfOk (adding_column set next column value table tracked) (Suits set next («text».AddColumn column value table tracked))
  unfolding adding_column
  adding_suits column value table tracked =
      if_then _ (known_table table (heading_named set table)) _ (λ h known.
      if_then _ (known_columns (resolved h.columns value)) _ (λ e reads.
      if_then _ (new_columns h.columns (column ∷ [])) _ (λ u once.
      if_then _ (few_columns table (h.columns ++ column ∷ [])) _ (λ v few.
      if_then _ (known_ids next value) _ (λ w ids.
      let found = table_is table _ h known in
      let read : resolved h.columns value ≡ Ok e = expression_is _ e reads in
      record {
        set_fits = λ tables.
            let is = heading_at set table h tables found in
            one_fits set (column_adder tracked (length h.columns) e) table (record { name = table; columns = h.columns ++ column ∷ [] }) (stands_named set table h (found_stands set table h found)) (source_gone table set)
            (record { once = new_once h.columns (column ∷ []) u once is.once; few = are_few table (h.columns ++ column ∷ []) v few });
        fits = λ tables. rw (one_taken set table h found) (adder_fits tracked e (as_seen h) (record { name = table; columns = h.columns ++ column ∷ [] }) (record {
          source = as_seen h;
          target = record { name = table; columns = h.columns ++ column ∷ [] };
          column = column;
          source_is = refl;
          target_is = refl;
          columns = sym (insert_end h.columns column);
          within = omega arith;
          reads = reads_columns e h.columns value read;
        }));
        closed = λ fits. adder_closed tracked (length h.columns) next e (is_closed next e h.columns value read (ids_known next _ w ids) fits.0);
        few = (omega arith, omega arith);
        sources = (λ e. absurd (cc), λ e. absurd (false≢true e));
        local = adder_local tracked (length h.columns) e;
      })))))

  dropping_column_suits : (column table : List ℕ) (value : Tree) → IfOk (dropping_column set next column table value) (Suits set next («text».DropColumn column table value))
  unfolding dropping_column
  dropping_column_suits column table value =
      if_then _ (known_table table (heading_named set table)) _ (λ h known.
      if_then _ (known_column column (place_of h.columns column)) _ (λ place there.
      if_then _ (known_columns (resolved (remove h.columns place) value)) _ (λ e reads.
      if_then _ (known_ids next value) _ (λ u ids.
      let found = table_is table _ h known in
      let read : resolved (remove h.columns place) value ≡ Ok e = expression_is _ e reads in
      let within = place_within h.columns column place (column_is column _ place there) in
      let shorter = length-remove h.columns place within in
      record {
        set_fits = λ tables.
            one_fits set («any».DropColumn place e) table (record { name = table; columns = remove h.columns place }) (stands_named set table h (found_stands set table h found)) (source_gone table set)
            (without_column h place within (heading_at set table h tables found) table);
        fits = λ tables. rw (one_taken set table h found) (record {
          source = record { name = table; columns = remove h.columns place };
          target = as_seen h;
          column = get_or h.columns place [];
          source_is = refl;
          target_is = refl;
          columns = sym (insert-remove h.columns place [] within);
          within = omega (arith, shorter, within);
          reads = reads_columns e (remove h.columns place) value read;
        });
        closed = λ fits. is_closed next e (remove h.columns place) value read (ids_known next _ u ids) fits.0;
        few = (omega arith, omega arith);
        sources = (λ e. absurd (cc), λ e. absurd (false≢true e));
        local = refl;
      }))))

  planned_suits : (text : OpView) → IfOk (planned_edge set next text) (Suits set next text)
  unfolding decomposing_table joining_tables
  planned_suits («text».CreateTable table columns) = creating_suits table columns
  planned_suits («text».DropTable table) = dropping_suits table
  planned_suits («text».RenameTable table new) = renaming_table_suits table new
  planned_suits («text».RenameColumn column table new) = renaming_column_suits column table new
  planned_suits («text».AddColumn column value table tracked) = adding_suits column value table tracked
  planned_suits («text».DropColumn column table value) = dropping_column_suits column table value
  planned_suits («text».DecomposeSingle table target columns) = decomposing_suits set next table (record { name = target; columns = columns })
  planned_suits («text».Decompose table first first_columns second second_columns «text».Primary) =
      decomposing_on_pk_suits set next table (record { name = first; columns = first_columns }) (record { name = second; columns = second_columns })
  planned_suits («text».Decompose table first first_columns second second_columns («text».Foreign key)) =
      decomposing_on_fk_suits set next table (record { name = first; columns = first_columns }) (record { name = second; columns = second_columns }) key
  planned_suits («text».Decompose table first first_columns second second_columns («text».Condition condition)) =
      decomposing_on_suits set next table (record { name = first; columns = first_columns }) (record { name = second; columns = second_columns }) condition
  planned_suits («text».Join outer first second target «text».Primary) = joining_on_pk_suits set next outer first second target
  planned_suits («text».Join outer first second target («text».Foreign key)) = joining_on_fk_suits set next outer first second target key
  planned_suits («text».Join outer first second target («text».Condition condition)) = joining_on_suits set next outer first second target condition
  planned_suits («text».Split table first second) = splitting_suits set next table first second
  planned_suits («text».Merge first second target) = merging_suits set next first second target

-- the same of an edge whose operator keeps its text
pub record SuitsText (set : List Heading) (next : ℕ) (text : OpView) (e : Edge AnyView) : Type 0 where
  pub set_fits : Each IsHeading set → FitsSet set e
  pub fits : Each IsHeading set → (any_meaning e.operator).Fits (map as_seen (headings_taken set e.sources)) (map as_seen e.targets)
  pub closed : TextsFit text → (any_meaning e.operator).Closed next
  pub few : (length e.sources ≤ 2) × (length e.targets ≤ 2)
  pub sources : (e.sources ≡ []) ↔ (is_create_table text ≡ true)
  pub keeps : e.operator.text ≡ text
  pub local : (any_meaning e.operator).is_local ≡ is_local_form text

with_text_suits : (set : List Heading) (next : ℕ) (text : OpView) (e : Edge Built) → Suits set next text e → SuitsText set next text (with_text text e)
with_text_suits set next text e suits = record {
  set_fits = λ tables. let f = suits.set_fits tables in record { known = f.known; sources_once = f.sources_once; targets_new = f.targets_new; targets_once = f.targets_once; columns = f.columns };
  fits = suits.fits;
  closed = suits.closed;
  few = suits.few;
  sources = suits.sources;
  keeps = refl;
  local = suits.local;
}

pub built_suits : (set : List Heading) (next : ℕ) (text : OpView) (e : Edge AnyView) → built set next text ≡ Ok e → SuitsText set next text e
built_suits set next text e is =
    at_ok (SuitsText set next text) (built set next text) e is
    (if_then (SuitsText set next text) (planned_edge set next text) (λ p. Ok (with_text text p)) (λ p e. with_text_suits set next text p (at_ok (Suits set next text) (planned_edge set next text) p e (planned_suits set next text))))
