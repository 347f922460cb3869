-- What DECOMPOSE builds suits the working set.
use Rattle.std.proofs.Common.{◌≡◌, ℕ, List, [], ◌∷◌, ◌++◌, length, true, false, Some, Ok, IfOk, refl, sym, ◌∙◌, ap, subst, arith}
use Rattle.std.specs.Prelude.{◌||◌}
use Rattle.std.specs.List.{insert}
use Rattle.std.specs.Str.{bytes_eq}
use Rattle.std.proofs.lemmas.Bool.{false≢true, or_parts}
use Rattle.std.proofs.lemmas.List.Edits.{insert_end}
use Rattle.expr_lang.specs.Val.{fits_row}
use Rattle.expr_lang.specs.Resolved.{resolved}
use Rattle.statements.specs.Views.{Tree, OpView}
use Rattle.statements.specs.Views as «text»
use Rattle.version_graph.specs.Sets.{Each}
use Rattle.version_graph.specs.Tables.{IsHeading}
use Rattle.version_graph.specs.declared.parts.Heading.{Heading}
use Rattle.row_parts.specs.Partition.{Divides}
use Rattle.op_kinds.specs.Operators.{Built, meaning_of}
use Rattle.op_kinds.specs.Operators as «any»
use Rattle.op_any.specs.Edges.{one_to_both}
use Rattle.op_checks.specs.NameChecks.{heading_named, is_passing, repeated, known_table, new_table, known_places, known_columns, well_divided, new_columns, few_columns, known_ids}
use Rattle.op_any.specs.BuildJoins.{Parting, parting, divided, with_column, decomposing_in_one, decomposing_on_pk, decomposing_on_fk, decomposing_on}
use Rattle.op_build.specs.Laws.{as_seen, headings_taken, is_create_table, is_local_form}
use Rattle.op_any.specs.Texts.{TextsFit}
use Rattle.op_build.proofs.TableListsLaws.{found_stands, stands_named, none_passing}
use Rattle.op_build.proofs.Suits.{Suits, if_then, at_ok, table_is, is_new, names_differ, expression_is, are_few, ids_known, new_once, heading_at, reads_columns, is_closed, one_fits, two_targets_fit, one_taken}
use Rattle.op_build.proofs.Placed.{ArePlaced, placed_at, placed_once, many_placed, some_columns, listed_once, divided_names, names_divide, distinct_left, distinct_right}

-- ---- one target

module _ (set : List Heading) (next : ℕ) where
  pub decomposing_suits : (table : List ℕ) (s : Heading) → IfOk (decomposing_in_one set table s) (Suits set next («text».DecomposeSingle table s.name s.columns))
  unfolding decomposing_in_one
  decomposing_suits table s =
      if_then _ (known_table table (heading_named set table)) _ (λ h known.
      if_then _ (new_table s.name (is_passing set (table ∷ []) s.name)) _ (λ u free.
      if_then _ (known_places h.columns s.columns) _ (λ places listed.
      if_then _ (well_divided (repeated [] s.columns)) _ (λ v once.
      let found = table_is table _ h known in
      let placed = placed_at h.columns s.columns places listed in
      let distinct = listed_once s.columns v once in
      record {
        set_fits = λ tables.
            one_fits set («any».DecomposeSingle places (length h.columns)) table s (stands_named set table h (found_stands set table h found)) (none_passing set (table ∷ []) s.name (is_new s.name _ u free))
            (some_columns h (heading_at set table h tables found) s.name s.columns places placed distinct);
        fits = λ tables. rw (one_taken set table h found) (record {
          source = as_seen h;
          target = as_seen s;
          source_is = refl;
          target_is = refl;
          source_wide = refl;
          once = placed_once h.columns s.columns places placed distinct;
          within = placed.within;
          columns_are = sym placed.named;
        });
        closed = λ _. tt;
        few = (omega arith, omega arith);
        sources = (λ e. absurd (cc), λ e. absurd (false≢true e));
        local = refl;
      }))))

-- ---- two targets

-- the source was found, both names are free, and the places are those of the listed columns
record ArePartsOf (set : List Heading) (table : List ℕ) (s u : Heading) (parts : Parting) : Type 0 where
  found : heading_named set table ≡ Some parts.source
  first_free : is_passing set (table ∷ []) s.name ≡ false
  second_free : is_passing set (table ∷ []) u.name ≡ false
  apart : s.name ≡ u.name → ⊥
  first : ArePlaced parts.source.columns s.columns parts.first
  second : ArePlaced parts.source.columns u.columns parts.second

parting_found : (set : List Heading) (table : List ℕ) (s u : Heading) → IfOk (parting set table s u) (ArePartsOf set table s u)
unfolding parting
parting_found set table s u =
    if_then _ (known_table table (heading_named set table)) _ (λ h known.
    if_then _ (new_table s.name (is_passing set (table ∷ []) s.name)) _ (λ v free.
    if_then _ (new_table u.name (bytes_eq u.name s.name || is_passing set (table ∷ []) u.name)) _ (λ w other_free.
    if_then _ (known_places h.columns s.columns) _ (λ first listed.
    if_then _ (known_places h.columns u.columns) _ (λ second other_listed.
    let neither = or_parts (bytes_eq u.name s.name) (is_passing set (table ∷ []) u.name) (is_new u.name _ w other_free) in
    record {
      found = table_is table _ h known;
      first_free = is_new s.name _ v free;
      second_free = neither.1;
      apart = names_differ s.name u.name neither.0;
      first = placed_at h.columns s.columns first listed;
      second = placed_at h.columns u.columns second other_listed;
    })))))

-- both lists name each of the source's columns once
record AreDivided (s u : Heading) (parts : Parting) : Type 0 where
  divides : Divides parts.first parts.second (length parts.source.columns)
  first : IsHeading s
  second : IsHeading u

module _ (set : List Heading) (table : List ℕ) (s u : Heading) (parts : Parting) (are : parting set table s u ≡ Ok parts) where
  abbrev facts : ArePartsOf set table s u parts
  facts = at_ok (ArePartsOf set table s u) (parting set table s u) parts are (parting_found set table s u)

  abbrev source : Heading
  source = parts.source

  source_is : Each IsHeading set → IsHeading source
  source_is tables = heading_at set table source tables facts.found

  parts_divide : (v : Unit {0}) → divided source s u ≡ Ok v → (is : IsHeading source) → AreDivided s u parts
  unfolding divided
  parts_divide v once is =
      let names = divided_names source.columns (s.columns ++ u.columns) v once in
      record {
        divides = names_divide source.columns s.columns u.columns parts.first parts.second is.once.1 facts.first facts.second names.0 names.1;
        first = some_columns source is s.name s.columns parts.first facts.first (distinct_left s.columns u.columns names.0);
        second = some_columns source is u.name u.columns parts.second facts.second (distinct_right s.columns u.columns names.0);
      }

  taken_is : headings_taken set (table ∷ []) ≡ source ∷ []
  taken_is = one_taken set table source facts.found

  -- an edge to two targets under these names suits, where its operator is built for them
  parts_suit : (next : ℕ) (text : OpView) (operator : Built) (first : Heading) → first.name ≡ s.name → is_create_table text ≡ false → (meaning_of operator).is_local ≡ is_local_form text
      → (Each IsHeading set → IsHeading first × IsHeading u)
      → (Each IsHeading set → (meaning_of operator).Fits (as_seen source ∷ []) (as_seen first ∷ as_seen u ∷ []))
      → (TextsFit text → (meaning_of operator).Closed next) → Suits set next text (one_to_both operator table first u)
  parts_suit next text operator first same other local headings fits closed = record {
    set_fits = λ tables.
        let are = headings tables in
        two_targets_fit set operator table first u (stands_named set table source (found_stands set table source facts.found))
        (none_passing set (table ∷ []) first.name (subst (λ (n : List ℕ). is_passing set (table ∷ []) n ≡ false) (sym same) facts.first_free))
        (none_passing set (table ∷ []) u.name facts.second_free)
        (λ e. facts.apart (sym same ∙ e)) are.0 are.1;
    fits = λ tables. rw taken_is (fits tables);
    closed = closed;
    few = (omega arith, omega arith);
    sources = (λ e. absurd (cc), λ e. absurd (false≢true (sym other ∙ e)));
    local = local;
  }

module _ (set : List Heading) (next : ℕ) where
  pub decomposing_on_pk_suits : (table : List ℕ) (s u : Heading) → IfOk (decomposing_on_pk set table s u) (Suits set next («text».Decompose table s.name s.columns u.name u.columns «text».Primary))
  decomposing_on_pk_suits table s u =
      if_then _ (parting set table s u) _ (λ parts are.
      if_then _ (divided parts.source s u) _ (λ v once.
      let divides : Each IsHeading set → AreDivided s u parts = λ tables. parts_divide set table s u parts are v once (source_is set table s u parts are tables) in
      let placed = facts set table s u parts are in
      parts_suit set table s u parts are next («text».Decompose table s.name s.columns u.name u.columns «text».Primary) («any».DecomposePk parts.first parts.second) s refl refl refl
      (λ tables. ((divides tables).first, (divides tables).second))
      (λ tables. record {
        source = as_seen parts.source;
        s = as_seen s;
        t = as_seen u;
        source_is = refl;
        target_is = refl;
        divided = (divides tables).divides.divided;
        source_wide = (divides tables).divides.wide;
        s_columns = sym placed.first.named;
        t_columns = sym placed.second.named;
      })
      (λ _. tt)))

  pub decomposing_on_fk_suits : (table : List ℕ) (s u : Heading) (key : List ℕ) → IfOk (decomposing_on_fk set table s u key) (Suits set next («text».Decompose table s.name s.columns u.name u.columns («text».Foreign key)))
  decomposing_on_fk_suits table s u key =
      if_then _ (parting set table s u) _ (λ parts are.
      if_then _ (divided parts.source s u) _ (λ v once.
      if_then _ (new_columns s.columns (key ∷ [])) _ (λ w new.
      if_then _ (few_columns s.name (s.columns ++ key ∷ [])) _ (λ x few.
      let divides : Each IsHeading set → AreDivided s u parts = λ tables. parts_divide set table s u parts are v once (source_is set table s u parts are tables) in
      let placed = facts set table s u parts are in
      let many = many_placed parts.source.columns s.columns parts.first placed.first in
      parts_suit set table s u parts are next («text».Decompose table s.name s.columns u.name u.columns («text».Foreign key)) («any».DecomposeFk parts.first parts.second (length s.columns)) (with_column s key) refl refl refl
      (λ tables. (
        record { once = new_once s.columns (key ∷ []) w new (divides tables).first.once; few = are_few s.name (s.columns ++ key ∷ []) x few },
        (divides tables).second,
      ))
      (λ tables. record {
        source = as_seen parts.source;
        s = as_seen (with_column s key);
        t = as_seen u;
        key = key;
        source_is = refl;
        target_is = refl;
        divided = (divides tables).divides.divided;
        columns = (divides tables).divides.wide;
        s_columns = sym (ap (λ (l : List (List ℕ)). insert l (length s.columns) key) placed.first.named ∙ insert_end s.columns key);
        t_columns = sym placed.second.named;
        within = omega (arith, many);
      })
      (λ _. tt)))))

  pub decomposing_on_suits : (table : List ℕ) (s u : Heading) (condition : Tree) → IfOk (decomposing_on set next table s u condition) (Suits set next («text».Decompose table s.name s.columns u.name u.columns («text».Condition condition)))
  decomposing_on_suits table s u condition =
      if_then _ (parting set table s u) _ (λ parts are.
      if_then _ (known_columns (resolved parts.source.columns condition)) _ (λ c reads.
      if_then _ (divided parts.source s u) _ (λ v once.
      if_then _ (known_ids next condition) _ (λ w ids.
      let divides : Each IsHeading set → AreDivided s u parts = λ tables. parts_divide set table s u parts are v once (source_is set table s u parts are tables) in
      let placed = facts set table s u parts are in
      let many = many_placed parts.source.columns s.columns parts.first placed.first in
      let other_many = many_placed parts.source.columns u.columns parts.second placed.second in
      let read : resolved parts.source.columns condition ≡ Ok c = expression_is _ c reads in
      parts_suit set table s u parts are next («text».Decompose table s.name s.columns u.name u.columns («text».Condition condition)) («any».DecomposeOn parts.first parts.second c) s refl refl refl
      (λ tables. ((divides tables).first, (divides tables).second))
      (λ tables.
      let wide = (divides tables).divides.wide in
      record {
        source = rw (many, other_many) refl;
        target = ap (λ (n : ℕ). n ∷ []) wide;
        places = (divides tables).divides.divided;
        reads = subst (λ (n : ℕ). fits_row c n ≡ true) wide (reads_columns c parts.source.columns condition read);
      })
      (λ fits. is_closed next c parts.source.columns condition read (ids_known next _ w ids) fits.0)))))
