-- What SPLIT and MERGE build suits the working set.
use Rattle.std.proofs.Common.{◌≡◌, ℕ, List, [], ◌∷◌, length, true, Option, Some, None, Ok, IfOk, refl, sym, ap, subst, arith}
use Rattle.std.specs.Prelude.{◌||◌}
use Rattle.std.specs.Str.{bytes_eq}
use Rattle.std.proofs.lemmas.Bool.{false≢true, or_parts}
use Rattle.expr_lang.specs.Val.{fits_row}
use Rattle.expr_lang.specs.Resolved.{resolved}
use Rattle.statements.specs.Views.{BranchView}
use Rattle.statements.specs.Views as «text»
use Rattle.version_graph.specs.Tables.{IsHeading}
use Rattle.version_graph.specs.declared.parts.Heading.{Heading}
use Rattle.op_kinds.specs.Operators as «any»
use Rattle.op_checks.specs.NameChecks.{heading_named, is_passing, known_table, other_table, new_table, known_columns, same_columns, known_ids}
use Rattle.op_any.specs.Build.{splitting_in_one, splitting_in_two, splitting_table, merging_tables}
use Rattle.op_build.proofs.TableListsLaws.{found_stands, stands_named, none_passing}
use Rattle.op_build.proofs.Suits.{Suits, if_then, table_is, is_new, names_differ, sources_differ, expression_is, are_same, ids_known, heading_at, reads_columns, is_closed, one_fits, two_targets_fit, two_sources_fit, one_taken, two_taken}

-- a table under another name
renamed : (h : Heading) (name : List ℕ) → IsHeading h → IsHeading (record { name = name; columns = h.columns })
renamed h name is = record { once = is.once; few = is.few }

module _ (set : List Heading) (next : ℕ) where
  splitting_in_one_suits : (table : List ℕ) (r : BranchView) → IfOk (splitting_in_one set next table r) (Suits set next («text».Split table r None))
  splitting_in_one_suits table r =
      if_then _ (known_table table (heading_named set table)) _ (λ h known.
      if_then _ (new_table r.table (is_passing set (table ∷ []) r.table)) _ (λ u free.
      if_then _ (known_columns (resolved h.columns r.condition)) _ (λ c reads.
      if_then _ (known_ids next r.condition) _ (λ v ids.
      let found = table_is table _ h known in
      let read : resolved h.columns r.condition ≡ Ok c = expression_is _ c reads in
      record {
        set_fits = λ tables.
            one_fits set («any».Split (length h.columns) c None) table (record { name = r.table; columns = h.columns }) (stands_named set table h (found_stands set table h found)) (none_passing set (table ∷ []) r.table (is_new r.table _ u free))
            (renamed h r.table (heading_at set table h tables found));
        fits = λ tables. rw (one_taken set table h found) (record { source = refl; target = refl; first_reads = reads_columns c h.columns r.condition read; second_reads = refl });
        closed = λ fits. (is_closed next c h.columns r.condition read (ids_known next _ v ids) fits.0, tt);
        few = (omega arith, omega arith);
        sources = (λ e. absurd (cc), λ e. absurd (false≢true e));
        local = refl;
      }))))

  splitting_in_two_suits : (table : List ℕ) (r s : BranchView) → IfOk (splitting_in_two set next table r s) (Suits set next («text».Split table r (Some s)))
  splitting_in_two_suits table r s =
      if_then _ (known_table table (heading_named set table)) _ (λ h known.
      if_then _ (new_table r.table (is_passing set (table ∷ []) r.table)) _ (λ u free.
      if_then _ (new_table s.table (bytes_eq s.table r.table || is_passing set (table ∷ []) s.table)) _ (λ v other_free.
      if_then _ (known_columns (resolved h.columns r.condition)) _ (λ c reads.
      if_then _ (known_columns (resolved h.columns s.condition)) _ (λ d other_reads.
      if_then _ (known_ids next r.condition) _ (λ w ids.
      if_then _ (known_ids next s.condition) _ (λ x other_ids.
      let found = table_is table _ h known in
      let apart = or_parts (bytes_eq s.table r.table) (is_passing set (table ∷ []) s.table) (is_new s.table _ v other_free) in
      let read : resolved h.columns r.condition ≡ Ok c = expression_is _ c reads in
      let other_read : resolved h.columns s.condition ≡ Ok d = expression_is _ d other_reads in
      record {
        set_fits = λ tables.
            let is = heading_at set table h tables found in
            two_targets_fit set («any».Split (length h.columns) c (Some d)) table (record { name = r.table; columns = h.columns }) (record { name = s.table; columns = h.columns })
            (stands_named set table h (found_stands set table h found)) (none_passing set (table ∷ []) r.table (is_new r.table _ u free)) (none_passing set (table ∷ []) s.table apart.1)
            (names_differ r.table s.table apart.0) (renamed h r.table is) (renamed h s.table is);
        fits = λ tables. rw (one_taken set table h found) (record { source = refl; target = refl; first_reads = reads_columns c h.columns r.condition read; second_reads = reads_columns d h.columns s.condition other_read });
        closed = λ fits. (
          is_closed next c h.columns r.condition read (ids_known next _ w ids) fits.0,
          is_closed next d h.columns s.condition other_read (ids_known next _ x other_ids) fits.1.0,
        );
        few = (omega arith, omega arith);
        sources = (λ e. absurd (cc), λ e. absurd (false≢true e));
        local = refl;
      })))))))

  pub splitting_suits : (table : List ℕ) (r : BranchView) (o : Option BranchView) → IfOk (splitting_table set next table r o) (Suits set next («text».Split table r o))
  unfolding splitting_table
  splitting_suits table r None = splitting_in_one_suits table r
  splitting_suits table r (Some s) = splitting_in_two_suits table r s

  pub merging_suits : (r s : BranchView) (target : List ℕ) → IfOk (merging_tables set next r s target) (Suits set next («text».Merge r s target))
  unfolding merging_tables
  merging_suits r s target =
      if_then _ (known_table r.table (heading_named set r.table)) _ (λ h known.
      if_then _ (known_table s.table (heading_named set s.table)) _ (λ k other_known.
      if_then _ (other_table s.table (bytes_eq s.table r.table)) _ (λ u differ.
      if_then _ (new_table target (is_passing set (r.table ∷ s.table ∷ []) target)) _ (λ v free.
      if_then _ (known_columns (resolved h.columns r.condition)) _ (λ c reads.
      if_then _ (known_columns (resolved k.columns s.condition)) _ (λ d other_reads.
      if_then _ (same_columns h k) _ (λ w alike.
      if_then _ (known_ids next r.condition) _ (λ x ids.
      if_then _ (known_ids next s.condition) _ (λ y other_ids.
      let found = table_is r.table _ h known in
      let other_found = table_is s.table _ k other_known in
      let read : resolved h.columns r.condition ≡ Ok c = expression_is _ c reads in
      let other_read : resolved k.columns s.condition ≡ Ok d = expression_is _ d other_reads in
      let long : length k.columns ≡ length h.columns = ap (λ (columns : List (List ℕ)). length columns) (sym (are_same h k w alike)) in
      record {
        set_fits = λ tables.
            two_sources_fit set («any».Merge (length h.columns) c (Some d)) r.table s.table (record { name = target; columns = h.columns })
            (stands_named set r.table h (found_stands set r.table h found)) (stands_named set s.table k (found_stands set s.table k other_found))
            (sources_differ r.table s.table u differ) (none_passing set (r.table ∷ s.table ∷ []) target (is_new target _ v free)) (renamed h target (heading_at set r.table h tables found));
        fits = λ tables. rw (two_taken set r.table s.table h k found other_found) (record {
          source = refl;
          target = ap (λ (n : ℕ). length h.columns ∷ n ∷ []) long;
          first_reads = reads_columns c h.columns r.condition read;
          second_reads = subst (λ (n : ℕ). fits_row d n ≡ true) long (reads_columns d k.columns s.condition other_read);
        });
        closed = λ fits. (
          is_closed next c h.columns r.condition read (ids_known next _ x ids) fits.0,
          is_closed next d k.columns s.condition other_read (ids_known next _ y other_ids) fits.1.0,
        );
        few = (omega arith, omega arith);
        sources = (λ e. absurd (cc), λ e. absurd (false≢true e));
        local = refl;
      })))))))))
