-- What JOIN and OUTER JOIN build suits the working set.
use Rattle.std.proofs.Common.{◌≡◌, ℕ, suc, ◌+◌, ◌<◌, ◌≤◌, List, [], ◌∷◌, ◌++◌, length, Bool, true, false, Some, Ok, IfOk, get_or, refl, sym, ◌∙◌, ap, subst, arith}
use Rattle.std.specs.List.{insert, remove}
use Rattle.std.specs.Str.{bytes_eq}
use Rattle.std.proofs.lemmas.Bool.{false≢true}
use Rattle.std.proofs.lemmas.List.{length-append}
use Rattle.std.proofs.lemmas.List.Edits.{length-remove}
use Rattle.expr_lang.specs.Val.{fits_row}
use Rattle.expr_lang.specs.Resolved.{place_of, resolved}
use Rattle.statements.specs.Views.{Tree, OpView}
use Rattle.statements.specs.Views as «text»
use Rattle.version_graph.specs.Sets.{Each, Distinct}
use Rattle.expr_lang.specs.Terms.{Term}
use Rattle.op_law.specs.Tables.{Heading as SeenHeading}
use Rattle.version_graph.specs.Tables.{IsHeading, row_name}
use Rattle.version_graph.specs.declared.parts.Heading.{Heading}
use Rattle.row_parts.specs.Places.{names_at}
use Rattle.row_parts.specs.Partition.{Divides}
use Rattle.op_kinds.specs.Operators.{Built, meaning_of}
use Rattle.op_any.specs.Edges.{two_to_one}
use Rattle.op_checks.specs.NameChecks.{heading_named, is_passing, known_table, other_table, new_table, known_column, known_columns, new_columns, few_columns, known_ids}
use Rattle.op_outer_cond.specs.Outerings.{places_from}
use Rattle.op_any.specs.BuildJoins.{Sources, meeting, columns_of_both, on_pk, on_fk, on_condition, joining_on_pk, joining_on_fk, joining_on}
use Rattle.op_build.specs.Laws.{as_seen, is_create_table, is_local_form}
use Rattle.op_any.specs.Texts.{TextsFit}
use Rattle.op_build.proofs.NameLists.{distinct_remove, insert-remove}
use Rattle.op_build.proofs.TableListsLaws.{found_stands, stands_named, none_passing}
use Rattle.op_build.proofs.Suits.{Suits, if_then, at_ok, table_is, is_new, sources_differ, column_is, expression_is, are_few, ids_known, new_once, place_within, heading_at, reads_columns, is_closed, two_sources_fit, two_taken}
use Rattle.op_build.proofs.Ranges.{length-range, ranges_divide, first_names, second_names}

-- both sources were found, they differ, and the target's name is free
pub record AreMet (set : List Heading) (first second target : List ℕ) (t : Sources) : Type 0 where
  pub found : heading_named set first ≡ Some t.first
  pub other_found : heading_named set second ≡ Some t.second
  differ : first ≡ second → ⊥
  free : is_passing set (first ∷ second ∷ []) target ≡ false

pub met : (set : List Heading) (first second target : List ℕ) → IfOk (meeting set first second target) (AreMet set first second target)
unfolding meeting
met set first second target =
    if_then _ (known_table first (heading_named set first)) _ (λ h known.
    if_then _ (known_table second (heading_named set second)) _ (λ k other_known.
    if_then _ (other_table second (bytes_eq second first)) _ (λ u apart.
    if_then _ (new_table target (is_passing set (first ∷ second ∷ []) target)) _ (λ v new.
    record {
      found = table_is first _ h known;
      other_found = table_is second _ k other_known;
      differ = sources_differ first second u apart;
      free = is_new target _ v new;
    }))))

-- the target has the columns of both, and may have them
pub record HasBoth (first second columns : List (List ℕ)) : Type 0 where
  pub are : columns ≡ first ++ second
  once : Distinct (row_name ∷ first) → Distinct (row_name ∷ columns)
  few : length columns ≤ 64

pub has_both : (target : List ℕ) (first second : List (List ℕ)) → IfOk (columns_of_both target first second) (HasBoth first second)
unfolding columns_of_both
has_both target first second =
    if_then _ (new_columns first second) _ (λ u new.
    if_then _ (few_columns target (first ++ second)) _ (λ v few.
    record { are = refl; once = new_once first second u new; few = are_few target (first ++ second) v few }))

module _ (set : List Heading) (first second target : List ℕ) (t : Sources) (are : meeting set first second target ≡ Ok t) where
  abbrev facts : AreMet set first second target t
  facts = at_ok (AreMet set first second target) (meeting set first second target) t are (met set first second target)

  first_is : Each IsHeading set → IsHeading t.first
  first_is tables = heading_at set first t.first tables facts.found

  -- an edge to a target under this name suits, where its operator is built for it
  join_suits : (next : ℕ) (text : OpView) (operator : Built) (columns : List (List ℕ)) → is_create_table text ≡ false → (meaning_of operator).is_local ≡ is_local_form text
      → (Each IsHeading set → IsHeading (record { name = target; columns = columns }))
      → (meaning_of operator).Fits (as_seen t.first ∷ as_seen t.second ∷ []) (record { name = target; columns = columns } ∷ [])
      → (TextsFit text → (meaning_of operator).Closed next) → Suits set next text (two_to_one operator first second target columns)
  join_suits next text operator columns other local heading fits closed = record {
    set_fits = λ tables.
        two_sources_fit set operator first second (record { name = target; columns = columns })
        (stands_named set first t.first (found_stands set first t.first facts.found))
        (stands_named set second t.second (found_stands set second t.second facts.other_found))
        facts.differ (none_passing set (first ∷ second ∷ []) target facts.free) (heading tables);
    fits = λ tables. rw (two_taken set first second t.first t.second facts.found facts.other_found) fits;
    closed = closed;
    few = (omega arith, omega arith);
    sources = (λ e. absurd (cc), λ e. absurd (false≢true (sym other ∙ e)));
    local = local;
  }

-- the first columns are at the first places, and the second at the second
record AreDivided (first second columns : List (List ℕ)) : Type 0 where
  divides : Divides (places_from 0 (length first)) (places_from (length first) (length second)) (length columns)
  first_are : first ≡ names_at (places_from 0 (length first)) columns
  second_are : second ≡ names_at (places_from (length first) (length second)) columns

both_divided : (first second columns : List (List ℕ)) → columns ≡ first ++ second → AreDivided first second columns
both_divided first second columns are =
    let parts = ranges_divide (length first) (length second) in
    let wide = parts.wide in
    let long : length columns ≡ length first + length second = ap (λ (l : List (List ℕ)). length l) are ∙ length-append first second in
    record {
      divides = record { wide = long ∙ wide; divided = parts.divided };
      first_are = sym (ap (names_at (places_from 0 (length first))) are ∙ first_names first second);
      second_are = sym (ap (names_at (places_from (length first) (length second))) are ∙ second_names first second);
    }

-- ---- on the primary key

on_pk_fits : (outer : Bool) (s u : Heading) (target : List ℕ) (columns : List (List ℕ)) → columns ≡ s.columns ++ u.columns
    → (meaning_of (on_pk outer (length s.columns) (length u.columns))).Fits (as_seen s ∷ as_seen u ∷ []) (record { name = target; columns = columns } ∷ [])
on_pk_fits false s u target columns are = record {
  s = as_seen s;
  t = as_seen u;
  target = record { name = target; columns = columns };
  source_is = refl;
  target_is = refl;
  s_wide = refl;
  t_wide = refl;
  columns = are;
}
on_pk_fits true s u target columns are =
    let parts = both_divided s.columns u.columns columns are in
    record {
      source = record { name = target; columns = columns };
      s = as_seen s;
      t = as_seen u;
      source_is = refl;
      target_is = refl;
      divided = parts.divides.divided;
      source_wide = parts.divides.wide;
      s_columns = parts.first_are;
      t_columns = parts.second_are;
    }

on_pk_closed : (outer : Bool) (first second next : ℕ) → (meaning_of (on_pk outer first second)).Closed next
on_pk_closed false first second next = tt
on_pk_closed true first second next = tt

on_pk_local : (outer : Bool) (first second : ℕ) → (meaning_of (on_pk outer first second)).is_local ≡ true
on_pk_local false first second = refl
on_pk_local true first second = refl

-- ---- on a foreign key

on_fk_fits : (outer : Bool) (s u : Heading) (place : ℕ) → place < length s.columns → (target : List ℕ) (columns : List (List ℕ)) → columns ≡ remove s.columns place ++ u.columns
    → (meaning_of (on_fk outer (length s.columns) (length (remove s.columns place)) (length u.columns) place)).Fits (as_seen s ∷ as_seen u ∷ []) (record { name = target; columns = columns } ∷ [])
on_fk_fits false s u place within target columns are = record {
  s = as_seen s;
  t = as_seen u;
  target = record { name = target; columns = columns };
  source_is = refl;
  target_is = refl;
  s_columns = refl;
  t_columns = refl;
  within = within;
  columns = are;
}
on_fk_fits true s u place within target columns are =
    let rest = remove s.columns place in
    let parts = both_divided rest u.columns columns are in
    let key = get_or s.columns place [] in
    let shorter = length-remove s.columns place within in
    let long = length-range 0 (length rest) in
    record {
      source = record { name = target; columns = columns };
      s = as_seen s;
      t = as_seen u;
      key = key;
      source_is = refl;
      target_is = refl;
      divided = parts.divides.divided;
      columns = parts.divides.wide;
      s_columns = sym (insert-remove s.columns place [] within) ∙ ap (λ (l : List (List ℕ)). insert l place key) parts.first_are;
      t_columns = parts.second_are;
      within = omega (arith, shorter, within, long);
    }

on_fk_closed : (outer : Bool) (first rest second place next : ℕ) → (meaning_of (on_fk outer first rest second place)).Closed next
on_fk_closed false first rest second place next = tt
on_fk_closed true first rest second place next = tt

on_fk_local : (outer : Bool) (first rest second place : ℕ) → (meaning_of (on_fk outer first rest second place)).is_local ≡ false
on_fk_local false first rest second place = refl
on_fk_local true first rest second place = refl

on_condition_fits : (outer : Bool) (first second : ℕ) (c : Term ℕ) (sources targets : List SeenHeading)
    → (meaning_of (on_condition false first second c)).Fits sources targets → (meaning_of (on_condition outer first second c)).Fits sources targets
on_condition_fits false first second c sources targets fits = fits
on_condition_fits true first second c sources targets fits = fits

on_condition_closed : (outer : Bool) (first second : ℕ) (c : Term ℕ) (next : ℕ)
    → (meaning_of (on_condition false first second c)).Closed next → (meaning_of (on_condition outer first second c)).Closed next
on_condition_closed false first second c next closed = closed
on_condition_closed true first second c next closed = closed

on_condition_local : (outer : Bool) (first second : ℕ) (c : Term ℕ) → (meaning_of (on_condition outer first second c)).is_local ≡ false
on_condition_local false first second c = refl
on_condition_local true first second c = refl

-- ---- the joins

module _ (set : List Heading) (next : ℕ) where
  pub joining_on_pk_suits : (outer : Bool) (first second target : List ℕ) → IfOk (joining_on_pk set outer first second target) (Suits set next («text».Join outer first second target «text».Primary))
  joining_on_pk_suits outer first second target =
      if_then _ (meeting set first second target) _ (λ t are.
      if_then _ (columns_of_both target t.first.columns t.second.columns) _ (λ columns both.
      let has = at_ok (HasBoth t.first.columns t.second.columns) (columns_of_both target t.first.columns t.second.columns) columns both (has_both target t.first.columns t.second.columns) in
      join_suits set first second target t are next («text».Join outer first second target «text».Primary) (on_pk outer (length t.first.columns) (length t.second.columns)) columns refl (on_pk_local outer (length t.first.columns) (length t.second.columns))
      (λ tables. record { once = has.once (first_is set first second target t are tables).once; few = has.few })
      (on_pk_fits outer t.first t.second target columns has.are)
      (λ _. on_pk_closed outer (length t.first.columns) (length t.second.columns) next)))

  pub joining_on_fk_suits : (outer : Bool) (first second target key : List ℕ) → IfOk (joining_on_fk set outer first second target key) (Suits set next («text».Join outer first second target («text».Foreign key)))
  joining_on_fk_suits outer first second target key =
      if_then _ (meeting set first second target) _ (λ t are.
      if_then _ (known_column key (place_of t.first.columns key)) _ (λ place there.
      if_then _ (columns_of_both target (remove t.first.columns place) t.second.columns) _ (λ columns both.
      let rest = remove t.first.columns place in
      let has = at_ok (HasBoth rest t.second.columns) (columns_of_both target rest t.second.columns) columns both (has_both target rest t.second.columns) in
      let within = place_within t.first.columns key place (column_is key _ place there) in
      join_suits set first second target t are next («text».Join outer first second target («text».Foreign key)) (on_fk outer (length t.first.columns) (length rest) (length t.second.columns) place) columns refl (on_fk_local outer (length t.first.columns) (length rest) (length t.second.columns) place)
      (λ tables. record { once = has.once (distinct_remove (row_name ∷ t.first.columns) (suc place) (first_is set first second target t are tables).once); few = has.few })
      (on_fk_fits outer t.first t.second place within target columns has.are)
      (λ _. on_fk_closed outer (length t.first.columns) (length rest) (length t.second.columns) place next))))

  pub joining_on_suits : (outer : Bool) (first second target : List ℕ) (condition : Tree) → IfOk (joining_on set next outer first second target condition) (Suits set next («text».Join outer first second target («text».Condition condition)))
  joining_on_suits outer first second target condition =
      if_then _ (meeting set first second target) _ (λ t are.
      if_then _ (known_columns (resolved (t.first.columns ++ t.second.columns) condition)) _ (λ c reads.
      if_then _ (columns_of_both target t.first.columns t.second.columns) _ (λ columns both.
      if_then _ (known_ids next condition) _ (λ u ids.
      let has = at_ok (HasBoth t.first.columns t.second.columns) (columns_of_both target t.first.columns t.second.columns) columns both (has_both target t.first.columns t.second.columns) in
      let parts = both_divided t.first.columns t.second.columns columns has.are in
      let read : resolved (t.first.columns ++ t.second.columns) condition ≡ Ok c = expression_is _ c reads in
      let long = length-range 0 (length t.first.columns) in
      let other_long = length-range (length t.first.columns) (length t.second.columns) in
      let wide = ap (λ (l : List (List ℕ)). length l) (sym has.are) ∙ parts.divides.wide in
      join_suits set first second target t are next («text».Join outer first second target («text».Condition condition)) (on_condition outer (length t.first.columns) (length t.second.columns) c) columns refl (on_condition_local outer (length t.first.columns) (length t.second.columns) c)
      (λ tables. record { once = has.once (first_is set first second target t are tables).once; few = has.few })
      (on_condition_fits outer (length t.first.columns) (length t.second.columns) c _ _ (record {
        source = rw (long, other_long) refl;
        target = ap (λ (n : ℕ). n ∷ []) parts.divides.wide;
        places = parts.divides.divided;
        reads = subst (λ (n : ℕ). fits_row c n ≡ true) wide (reads_columns c (t.first.columns ++ t.second.columns) condition read);
      }))
      (λ fits. on_condition_closed outer (length t.first.columns) (length t.second.columns) c next (is_closed next c (t.first.columns ++ t.second.columns) condition read (ids_known next _ u ids) fits.0))))))
