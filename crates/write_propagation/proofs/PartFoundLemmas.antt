-- Identifiers that are closed over a tree by kept keys, and see all that a write of what stands at them does: what was made of these is the part of the write.
use Rattle.std.specs.Prelude.{if◌then◌else◌}
use Rattle.std.proofs.Common.{◌≡◌, ℕ, ◌<◌, ◌≤◌, List, [], Bool, true, false, not, map, Option, Some, inl, inr, refl, sym, ap, ◌∙◌, subst, arith}
use Rattle.std.proofs.lemmas.Bool.{cases_lt}
use Rattle.std.proofs.Math.Path.{fun_ext}
use Rattle.par_base.specs.declared.value.Value.{Value}
use Rattle.row_store.specs.Rows.{Rows, RiseFrom, row_of}
use Rattle.row_store.specs.Changes.{AreOld, ChangesRise}
use Rattle.row_store.specs.declared.change.Change.{Change}
use Rattle.version_graph.specs.Sets.{Each, In}
use Rattle.version_graph.specs.Edges.{is_in}
use Rattle.version_graph.specs.Forest.{Crossing, Link, crossing, forest, walk}
use Rattle.version_graph.specs.declared.parts.Placed.{Placed}
use Rattle.version_graph.proofs.SetLaws.{each_at, each_of, in_map}
use Rattle.version_graph.proofs.WalkLaws.{is_forest, walk_in_order}
use Rattle.layout_rules.proofs.LinkLaws.{same_link}
use Rattle.op_law.specs.Tables.{Heading, Tables}
use Rattle.op_law.specs.Sound.{PairsSound, RowsSound, TablesSound}
use Rattle.op_law.specs.Identifiers.{has_id}
use Rattle.op_law.specs.Laws.{Laws}
use Rattle.op_law.specs.Calls.{first_refused}
use Rattle.op_law.specs.Local.{only, pair_only, rows_only}
use Rattle.op_law.specs.Meaning.{Meaning, PairState}
use Rattle.op_law.specs.Premises.{IsPair}
use Rattle.op_law.proofs.OnlyLaws.{by_test}
use Rattle.op_law.proofs.SoundLaws.{pairs_more, rows_more, sound_at}
use Rattle.row_changes.specs.Changed.{AreChangesOf, changed, changed_tables}
use Rattle.row_changes.specs.Differences.{AreDifferences}
use Rattle.row_changes.specs.Touched.{AllPass}
use Rattle.row_changes.specs.declared.change.SideChanges.{SideChanges}
use Rattle.row_changes.proofs.ChangedLaws.{changed_rise}
use Rattle.row_changes.proofs.DifferenceLaws.{part_makes, whole_old}
use Rattle.operator_changes.specs.Footprint.{passes, with_drawn}
use Rattle.pair_parts.specs.Apart.{KeepsApart, SameElsewhere}
use Rattle.pair_parts.specs.Parts.{IsMemory}
use Rattle.pair_parts.proofs.MemoryLaws.{memory_same, none_stand}
use Rattle.id_memory.specs.Pairs.{Pairs}
use Rattle.sought_ids.specs.Known.{Known}
use Rattle.sought_ids.specs.Places.{AreKnown, PassKnown, side_at}
use Rattle.sought_ids.specs.Seeking.{ApartOver, IsChangedPair, IsMappedPair, SeekLaws}
use Rattle.sought_ids.specs.SeekPlace.{SeekPlace}
use Rattle.table_keys.specs.States.{KeysState}
use Rattle.kept_keys.specs.Kept.{AreKeysOf}
use Rattle.changes_walk.specs.Changing.{latest_changes}
use Rattle.changes_walk.specs.Reach.{IsWhole}
use Rattle.changes_walk.proofs.ReachLaws.{IsInside, each_reached}
use Rattle.storage_law.specs.Storage.{StandsOver, aux_of, stored_way}
use Rattle.version_model.specs.Kept.{auxes_at, rows_at}
use Rattle.version_model.specs.Sound.{IsSound}
use Rattle.version_model.specs.States.{State, headings}
use Rattle.version_model.specs.Steps.{IsRelated, directed, pair_in}
use Rattle.version_model.specs.Writes.{write, written}
use Rattle.version_model.specs.declared.numbered.Numbered.{Numbered}
use Rattle.version_model.proofs.CrossingLaws.{GoesOver}
use Rattle.version_model.proofs.ProgressLaws.{state_is}
use Rattle.version_model.proofs.PutLaws.{map_same}
use Rattle.version_model.proofs.RunLaws.{IsReady, way_laws}
use Rattle.version_model.proofs.WriteLaws.{walk_is_ready, written_well}
use Rattle.db_state.specs.Fields.{IsDatabase, state_for, storage_in}
use Rattle.db_state.specs.Parts.{SplitsAt}
use Rattle.db_state.specs.declared.parts.Parts.{Parts}
use Rattle.db_state.proofs.PartLaws.{only_map}
use Rattle.sought_ids.specs.Sought.{AreKeptOf, SeesOver, key_tables}
use Rattle.sought_ids.proofs.SplitLaws.{listed_self, split_by as splits_closed}
use Rattle.operator_changes.proofs.DrawnLemmas.{over_passes, passes_with, under_passes}
use Rattle.write_plans.specs.Making.{IsMaking, IsPlanOf, MayPlan, auxes_over, made_over, seen_write}
use Rattle.write_propagation.specs.PartMade.{ClosesTree, NamesPart, SeesTree, kept_with, named_in}
use Rattle.write_plans.specs.Plans.{rows_written}
use Rattle.write_plans.specs.Trees.{part}
use Rattle.write_plans.specs.declared.making.Making.{Making}
use Rattle.write_plans.specs.declared.plans.Plan.{Plan}
use Rattle.write_plans.specs.declared.plans.RowWrite.{RowWrite}
use Rattle.write_plans.specs.declared.tree.Tree.{Tree}
use Rattle.write_plans.proofs.ApartLemmas.{CarriesAt, local_maps}
use Rattle.write_propagation.proofs.CrossedLemmas.{IsCrossedAt, mapped_by, run_crossed}
use Rattle.write_propagation.proofs.FootprintLemmas.{footprint_carries}
use Rattle.write_plans.proofs.PartLemmas.{IsPartOf, Rests}
use Rattle.write_propagation.proofs.PartRowsLemmas.{all_listed, below_alike, foot_over, half_local, key_among, key_numbers, left_alone, memory_of, pass_known, rows_alike, side_sound, tables_changed, tables_fit, tables_pass, tables_rise, tables_sound}
use Rattle.write_plans.proofs.PartShownLemmas.{CarriesAll, before_part, end_up, local_keeps, of_end, ordered_reached, part_shown, rests, small_old, small_sound}
use Rattle.write_plans.proofs.SeenLemmas.{named_pass, pass_wider}
use Rattle.write_plans.proofs.ShownLemmas.{Remembers, Shows, end_is, end_sound, small_is}
use Rattle.write_plans.proofs.TreeLemmas.{part_table}
use Rattle.write_plans.proofs.WholeLemmas.{crossing_at, lives, number_of, path, path_inside, path_over}

-- ---- the write of the part

module _ {O : Type 0} (meaning : O → Meaning) (seeks : O → Option SeekPlace) (laws : (o : O) → Laws (meaning o)) (seeking : (o : O) → SeekLaws (meaning o) (seeks o)) (d : Parts O) (good : IsDatabase meaning d) (tree : Tree) (w : RowWrite) (plans : MayPlan meaning d tree w)
    (items : List (Numbered KeysState)) (right : AreKeysOf (state_for meaning d).tables items) (ids : List ℕ) (closed : ClosesTree meaning seeks d items tree w ids) where
  abbrev es : List (Placed O)
  es = d.graph.edges

  abbrev s : State
  s = state_for meaning d

  abbrev rows : Rows
  rows = rows_written meaning d w

  of_tree : IsWhole es tree.operators tree.tables
  of_tree = plans.walked.whole

  -- the listed ones, and those that weren't drawn before the write
  abbrev pub test : ℕ → Bool
  test = passes ids d.ids.next

  abbrev fails : ℕ → Bool
  fails = λ q. not (test q)

  -- what is kept is that of the state before
  kept_right : AreKeptOf s (kept_with d items)
  kept_right = record { keys = right; memories = λ n. refl }

  -- they split the state before
  split_by : (P : ℕ → Bool) → ((place : Option SeekPlace) (p : PairState) → TablesSound d.ids.next (side_at place p) → PairsSound d.ids.next p.memory → PassKnown P ids place p) → SplitsAt meaning es s tree.operators P
  split_by P listed e i own related =
      splits_closed meaning seeks laws seeking es s (kept_with d items) kept_right tree.operators ids closed.closed P
      (λ f.
      let p = pair_in s (crossing false f) in
      listed (seeks f.operator) p (side_sound (seeks f.operator) d.ids.next p (tables_sound s.tables d.ids.next f.sources good.sound.well.rows) (tables_sound s.tables d.ids.next f.targets good.sound.well.rows)) (good.sound.well.memories f.number))
      e i own related

  pub split_ids : SplitsAt meaning es s tree.operators (has_id ids)
  split_ids = split_by (has_id ids) (λ place p sound entries. record { rows = listed_self ids (side_at place p); entries = record { own = λ id a b at h. h; first = λ id a b at h. h; second = λ id a b at h. h } })

  pub split_test : SplitsAt meaning es s tree.operators test
  split_test = split_by test (pass_known ids d.ids.next)

  -- either sees the same of the state before, and of the write
  same_part : part (has_id ids) tree s ≡ part test tree s
  same_part =
      state_is _ _ _ _ _ _
      (fun_ext (λ t. ap (λ (x : Rows). if is_in t tree.tables then x else []) (rows_alike (has_id ids) test (s.tables t) (good.sound.well.tables t).0 (below_alike ids d.ids.next (s.tables t) (good.sound.well.rows t)))))
      (fun_ext (λ n. ap (λ (x : Pairs). if is_in n tree.operators then x else []) (memory_same (has_id ids) test d.ids.next (s.memory n) (under_passes ids d.ids.next) (good.sound.well.memories n))))
      refl

  pub named_ids : AllPass (has_id ids) w.changes
  named_ids = pass_wider (has_id (named_in w.changes)) (has_id ids) closed.begins w.changes (named_pass w.changes)

  pub named_test : AllPass test w.changes
  named_test = pass_wider (has_id ids) test (λ q h. all_listed ids d.ids.next q h) w.changes named_ids

  rows_rise : RiseFrom 0 rows
  rows_rise = changed_rise (s.tables w.table) w.changes (good.sound.well.tables w.table).0

  -- a row of the write that wasn't drawn before is named
  written_alike : (q : ℕ) (v : List Value) → row_of rows q ≡ Some v → has_id ids q ≡ test q
  written_alike q v at =
      elim (cases_lt q d.ids.next) as (λ _. has_id ids q ≡ test q) [
        | inl less ↦ under_passes ids d.ids.next q less
        | inr more ↦
            by_test (has_id ids q)
            (λ e. e ∙ sym (over_passes ids d.ids.next q more))
            (λ e.
            let was : row_of (s.tables w.table) q ≡ Some v = sym (left_alone (has_id ids) (s.tables w.table) w.changes q (good.sound.well.tables w.table).0 named_ids e) ∙ at in
            let less : q < d.ids.next = (sound_at d.ids.next (s.tables w.table) q v (good.sound.well.rows w.table) was).0.1 in
            absurd (omega (arith, less, more)))
      ]

  same_write : seen_write meaning d tree w (has_id ids) ≡ seen_write meaning d tree w test
  same_write =
      ap (λ (x : State). write meaning es x w.set w.table (rows_only (has_id ids) rows) w.ids.next) same_part
      ∙ ap (λ (x : Rows). write meaning es (part test tree s) w.set w.table x w.ids.next) (rows_alike (has_id ids) test rows rows_rise written_alike)

  -- what is kept beside stored sides of what passes either
  pub same_aux : (e : Link O) → In e (forest es) → In e.number tree.operators → only (has_id ids) (aux_of meaning s (stored_way d.layout.operators e)) ≡ only test (aux_of meaning s (stored_way d.layout.operators e))
  same_aux e i own =
      sym (before_part meaning laws d good tree w plans (has_id ids) split_ids e i own)
      ∙ ap (λ (x : State). aux_of meaning x (stored_way d.layout.operators e)) same_part
      ∙ before_part meaning laws d good tree w plans test split_test e i own

  module _ (making : Making) (made : IsMaking meaning d tree w (has_id ids) (λ id. true) making) (names : NamesPart d ids making) where
    -- it was made of what passes the test
    pub made_test : IsMaking meaning d tree w test test making
    made_test = record {
      tables = λ t. made.tables t ∙ ap (λ (x : State). x.tables t) same_part;
      memories = λ n. made.memories n ∙ ap (λ (x : State). x.memory n) same_part;
      made = made.made ∙ same_write;
      fits = made.fits;
      pass = names;
      within = subst (λ (x : State). x.next ≤ first_refused w.ids) same_write made.within;
      limit = made.limit;
    }

    -- the plan of it, too
    pub plan_test : (plan : Plan) → IsPlanOf meaning d tree (has_id ids) making plan → IsPlanOf meaning d tree test making plan
    plan_test plan is = record {
      stored = is.stored;
      auxes = record {
        listed = is.auxes.listed;
        values = λ i j e k same.
            let own : In e.number tree.operators = subst (λ (n : ℕ). In n tree.operators) (sym same) (subst (λ (l : List ℕ). In i.number l) is.auxes.listed (in_map (λ (x : Numbered SideChanges). x.number) i plan.auxes j)) in
            let stood : auxes_at d.aux e.number ≡ aux_of meaning s (stored_way d.layout.operators e) = (each_at (λ (f : Link O). StandsOver meaning (headings es) (storage_in d) s (stored_way d.layout.operators f)) (forest es) e k good.stands.edges).aux in
            let kept : auxes_at d.aux i.number ≡ aux_of meaning s (stored_way d.layout.operators e) = ap (auxes_at d.aux) (sym same) ∙ stood in
            let seen : only (has_id ids) (auxes_at d.aux i.number) ≡ only test (auxes_at d.aux i.number) = ap (only (has_id ids)) kept ∙ same_aux e k own ∙ ap (only test) (sym kept) in
            subst (λ (ts : Tables). AreDifferences ts (auxes_over meaning d (made_over making) e) i.value.tables) seen (is.auxes.values i j e k same);
      };
      memories = is.memories;
      ids = is.ids;
      changed = is.changed;
      carried = is.carried;
    }

    abbrev small : State
    small = part test tree s

    abbrev small_end : State
    small_end = seen_write meaning d tree w test

    -- the last changes of each table
    abbrev last : ℕ → List Change
    last = latest_changes making.made.tables

    abbrev seen : List ℕ
    seen = with_drawn ids d.ids.next making.made.ids.next

    seen_of : (t : ℕ) → In t tree.tables → rows_at making.copies.tables t ≡ rows_only test (s.tables t)
    seen_of t i = made_test.tables t ∙ part_table test tree s t i

    table_fits : (t : ℕ) → In t tree.tables → ChangesRise 0 (last t) × AreOld (s.tables t) (last t)
    table_fits t i = ((made_test.fits t).0, whole_old test (s.tables t) (last t) (names t) (subst (λ (x : Rows). AreOld x (last t)) (seen_of t i) (made_test.fits t).1))

    table_made : (t : ℕ) → In t tree.tables → changed (rows_only test (s.tables t)) (last t) ≡ small_end.tables t
    table_made t i = ap (λ (x : Rows). changed x (last t)) (sym (seen_of t i)) ∙ ap (λ (x : State). x.tables t) made_test.made

    end_next : making.made.ids.next ≡ small_end.next
    end_next = ap (λ (x : State). x.next) made_test.made

    -- with those that were drawn, the same ones pass all along
    same_test : (k : ℕ) → d.ids.next ≤ k → k ≤ small_end.next → passes seen k ≡ test
    same_test k low high = passes_with ids d.ids.next making.made.ids.next k low (subst (λ (n : ℕ). k ≤ n) (sym end_next) high)

    module _ (enough : SeesTree meaning seeks d items tree w ids making) where
      abbrev ps : List (Crossing O)
      ps = path es w.set w.table tree plans.walked

      abbrev whole_small : IsSound meaning es small
      whole_small = small_sound meaning laws d good tree w plans test split_test

      abbrev Carries : State → Crossing O → Type 0
      Carries end p = CarriesAt meaning laws tree (headings es) s small good.sound.well whole_small.well test (small_old meaning laws d good tree w plans test split_test) end p

      carries_at : (p : Crossing O) → IsInside tree.operators tree.tables p → SeesOver meaning seeks (kept_with d items) making.made.tables seen p → Carries small_end p
      carries_at p inside (inl local) a may more less here there =
          local_maps (directed p.backward (meaning p.operator)) (way_laws p.backward (meaning p.operator) (laws p.operator)) (half_local p.backward (meaning p.operator) (laws p.operator) local) test
          (map (headings es) p.near) (map (headings es) p.far) (map a.tables p.near) (pair_in s p) a.next may there
      carries_at p inside (inr by) a may more less here there =
          footprint_carries meaning (headings es) s test p small_end (map last p.near) seen
          (tables_rise s.tables p.near (λ t. (good.sound.well.tables t).0))
          (tables_fit s.tables last p.near (λ t i. table_fits t (inside.near t i)))
          (tables_pass test last p.near (λ t i. names t))
          (tables_changed (λ t. rows_only test (s.tables t)) small_end.tables last p.near (λ t i. table_made t (inside.near t i)) ∙ ap (λ (ts : Tables). changed_tables ts (map last p.near)) (only_map test s.tables p.near))
          same_test
          (foot_over (meaning p.operator) (seeks p.operator) by.known (map last p.near) seen p.backward (pair_in s p) (by.are s kept_right) by.foot)
          a may more less here there

      carries : CarriesAll meaning laws d good tree w plans test split_test
      carries =
          subst (λ (x : State). Each (Carries x) ps) (small_is meaning laws d good tree w plans test whole_small)
          (each_of (Carries small_end) ps (λ p i.
          carries_at p (each_at (IsInside tree.operators tree.tables) ps p i (path_inside es w.set w.table tree plans.walked)) (each_at (SeesOver meaning seeks (kept_with d items) making.made.tables seen) ps p i enough)))

      -- ---- after the write

      abbrev end : State
      end = write meaning es s w.set w.table rows w.ids.next

      sound_end : IsSound meaning es end
      sound_end = end_sound meaning laws d good tree w plans

      is_part : IsPartOf test tree end small_end
      is_part = of_end meaning laws d good tree w plans test split_test named_test carries

      elsewhere : Rests fails tree s end
      elsewhere = rests meaning laws d good tree w plans test split_test named_test carries

      up : s.next ≤ end.next
      up = subst (λ (n : ℕ). s.next ≤ n) (sym is_part.next) (end_up meaning laws d good tree w plans test split_test)

      end_test : passes seen end.next ≡ test
      end_test = same_test end.next up (omega (arith, is_part.next))

      end_tables : (t : ℕ) → In t tree.tables → changed (s.tables t) (last t) ≡ end.tables t
      end_tables t i =
          part_makes test (s.tables t) (end.tables t) (last t) (good.sound.well.tables t).0 (sound_end.well.tables t).0 (sym (elsewhere.tables t i)) (names t)
          (table_made t i ∙ sym (is_part.tables t i))

      module _ (e : Link O) (i : In e (forest es)) (own : In e.number tree.operators) where
        abbrev old : PairState
        old = pair_in s (crossing false e)

        abbrev new : PairState
        new = pair_in end (crossing false e)

        abbrev hs : List Heading
        hs = map (headings es) e.sources

        abbrev ht : List Heading
        ht = map (headings es) e.targets

        before : IsPair (meaning e.operator) hs ht old
        before = each_at (λ (f : Link O). IsRelated meaning (headings es) s (crossing false f)) (forest es) e i good.sound.related

        after : IsPair (meaning e.operator) hs ht new
        after = each_at (λ (f : Link O). IsRelated meaning (headings es) end (crossing false f)) (forest es) e i sound_end.related

        rows_up : (t : ℕ) → RowsSound end.next (s.tables t)
        rows_up t = rows_more s.next end.next up (s.tables t) (good.sound.well.rows t)

        in_sources : (t : ℕ) → In t e.sources → In t tree.tables
        in_sources t k = of_tree.tables e i own t (inl k)

        in_targets : (t : ℕ) → In t e.targets → In t tree.tables
        in_targets t k = of_tree.tables e i own t (inr k)

        same_rows : (ns : List ℕ) → ((t : ℕ) → In t ns → In t tree.tables) → only fails (map end.tables ns) ≡ only fails (map s.tables ns)
        same_rows ns inside = sym (only_map fails end.tables ns) ∙ map_same (λ t. rows_only fails (end.tables t)) (λ t. rows_only fails (s.tables t)) ns (λ t k. elsewhere.tables t (inside t k)) ∙ only_map fails s.tables ns

        beside : SameElsewhere test old new
        beside = record { source = same_rows e.sources in_sources; target = same_rows e.targets in_targets; memory = elsewhere.memory e.number own }

        keeps_local : (meaning e.operator).is_local ≡ true → KeepsApart (meaning e.operator) old new test
        keeps_local local =
            let here = half_local false (meaning e.operator) (laws e.operator) local in
            let none : new.memory ≡ old.memory = here.no_memory hs ht new after ∙ sym (here.no_memory hs ht old before) in
            let one = same_rows e.sources in_sources in
            let two = same_rows e.targets in_targets in
            let same : pair_only fails new ≡ pair_only fails old = cc in
            local_keeps (meaning e.operator) (laws e.operator) local hs ht old new test before after same

        changed_pair : (back : Bool) → IsChangedPair (meaning e.operator) (seeks e.operator) (map last (key_tables (seeks e.operator) (crossing back e))) old new end.next
        changed_pair back =
            let fk = seeks e.operator in
            let ns = key_tables fk (crossing back e) in
            let inside : (t : ℕ) → In t ns → In t tree.tables = λ t k. of_tree.tables e i own t (key_among fk e back t k) in
            record {
              hs = hs;
              ht = ht;
              before = record {
                pair = before;
                source = tables_sound s.tables end.next e.sources rows_up;
                target = tables_sound s.tables end.next e.targets rows_up;
                memory = pairs_more s.next end.next up old.memory (good.sound.well.memories e.number);
              };
              after = record {
                pair = after;
                source = tables_sound end.tables end.next e.sources sound_end.well.rows;
                target = tables_sound end.tables end.next e.targets sound_end.well.rows;
                memory = sound_end.well.memories e.number;
              };
              closed = each_at (λ (f : Link O). (meaning f.operator).Closed end.next) (forest es) e i sound_end.closed;
              fit = subst (λ (ts : Tables). AreChangesOf ts (map last ns)) (sym (key_numbers fk s e back)) (tables_fit s.tables last ns (λ t k. table_fits t (inside t k)));
              makes = key_numbers fk end e back ∙ tables_changed s.tables end.tables last ns (λ t k. end_tables t (inside t k)) ∙ ap (λ (ts : Tables). changed_tables ts (map last ns)) (sym (key_numbers fk s e back));
            }

        near_inside : (back : Bool) (t : ℕ) → In t (crossing back e).near → In t tree.tables
        near_inside true t k = in_targets t k
        near_inside false t k = in_sources t k

        -- it is what its crossing mapped
        mapped_pair : (back : Bool) → IsCrossedAt meaning (headings es) s end (crossing back e) → IsMappedPair (meaning e.operator) back (map last (crossing back e).near) old new end.next seen
        mapped_pair back crossed =
            let near = (crossing back e).near in
            mapped_by meaning (headings es) s end e back (map last near) seen crossed
            (tables_changed s.tables end.tables last near (λ t k. end_tables t (near_inside back t k)))
            (tables_fit s.tables last near (λ t k. table_fits t (near_inside back t k)))
            (same_test crossed.next crossed.up (subst (λ (n : ℕ). crossed.next ≤ n) is_part.next crossed.less) ∙ sym end_test)

        keeps_by : (back : Bool) (known : Known) → AreKnown (seeks e.operator) old known → IsCrossedAt meaning (headings es) s end (crossing back e)
            → ApartOver (meaning e.operator) (seeks e.operator) back known (map last (crossing back e).near) (map last (key_tables (seeks e.operator) (crossing back e))) seen → KeepsApart (meaning e.operator) old new test
        keeps_by back known are crossed apart =
            subst (λ (P : ℕ → Bool). KeepsApart (meaning e.operator) old new P) end_test
            (apart old new end.next are (changed_pair back) (mapped_pair back crossed) (subst (λ (P : ℕ → Bool). SameElsewhere P old new) (sym end_test) beside))

        keeps_over : (back : Bool) → IsCrossedAt meaning (headings es) s end (crossing back e) → SeesOver meaning seeks (kept_with d items) making.made.tables seen (crossing back e) → KeepsApart (meaning e.operator) old new test
        keeps_over true crossed (inl local) = keeps_local local
        keeps_over false crossed (inl local) = keeps_local local
        keeps_over true crossed (inr by) = keeps_by true by.known (by.are s kept_right) crossed by.apart
        keeps_over false crossed (inr by) = keeps_by false by.known (by.are s kept_right) crossed by.apart

      -- each crossing is mapped
      all_crossed : Each (IsCrossedAt meaning (headings es) s end) ps
      all_crossed =
          subst (λ (x : State). Each (IsCrossedAt meaning (headings es) s x) ps) (sym (end_is meaning laws d good tree w plans))
          (run_crossed meaning laws (headings es) s good.sound.well ps (written s w.table rows w.ids.next) (written_well meaning es s good.sound w.set w.table rows w.ids.next plans.may) plans.may.more
          (each_reached tree.operators (IsReady meaning (headings es) s) (walk (forest es) w.set) (walk_is_ready meaning es s good.sound w.set))
          (ordered_reached tree.operators (walk (forest es) w.set) (walk_in_order es good.graph.edges w.set)))

      -- each operator keeps the change to what passes
      keeps : (e : Link O) → In e (forest es) → In e.number tree.operators → KeepsApart (meaning e.operator) (pair_in s (crossing false e)) (pair_in end (crossing false e)) test
      keeps e i own =
          let o = crossing_at es w.set w.table tree plans.walked e.number own in
          let over = each_at (GoesOver (forest es)) ps o.0 o.1 (path_over es w.set w.table tree plans.walked) in
          let number : e.number ≡ over.over.number = o.2 ∙ ap (λ (p : Crossing O). p.number) over.is ∙ number_of over.over over.back in
          let same : e ≡ over.over = same_link (forest es) e over.over (is_forest es good.graph.edges) i over.among number in
          let sees = subst (λ (p : Crossing O). SeesOver meaning seeks (kept_with d items) making.made.tables seen p) over.is (each_at (SeesOver meaning seeks (kept_with d items) making.made.tables seen) ps o.0 o.1 enough) in
          let crossed = subst (λ (p : Crossing O). IsCrossedAt meaning (headings es) s end p) over.is (each_at (IsCrossedAt meaning (headings es) s end) ps o.0 o.1 all_crossed) in
          keeps_over e i own over.back (subst (λ (f : Link O). IsCrossedAt meaning (headings es) s end (crossing over.back f)) (sym same) crossed) (subst (λ (f : Link O). SeesOver meaning seeks (kept_with d items) making.made.tables seen (crossing over.back f)) (sym same) sees)

      -- each has a memory before and after
      module _ (e : Link O) (i : In e (forest es)) (own : In e.number tree.operators) where
        stood : IsPair (meaning e.operator) (map (headings es) e.sources) (map (headings es) e.targets) (pair_in s (crossing false e))
        stood = each_at (λ (f : Link O). IsRelated meaning (headings es) s (crossing false f)) (forest es) e i good.sound.related

        stands_now : IsPair (meaning e.operator) (map (headings es) e.sources) (map (headings es) e.targets) (pair_in end (crossing false e))
        stands_now = each_at (λ (f : Link O). IsRelated meaning (headings es) end (crossing false f)) (forest es) e i sound_end.related

        has_memories : IsMemory (s.memory e.number) × IsMemory (end.memory e.number)
        has_memories = elim (closed.closed e i own) as (λ _. IsMemory (s.memory e.number) × IsMemory (end.memory e.number)) [
          | inl local ↦
              let here = half_local false (meaning e.operator) (laws e.operator) local in
              let hs = map (headings es) e.sources in
              let ht = map (headings es) e.targets in
              (none_stand (s.memory e.number) (here.no_memory hs ht (pair_in s (crossing false e)) stood), none_stand (end.memory e.number) (here.no_memory hs ht (pair_in end (crossing false e)) stands_now))
          | inr by ↦
              let of_pair = memory_of (meaning e.operator) (seeks e.operator) (seeking e.operator) by.known (pair_in s (crossing false e)) (by.are s kept_right) (map (headings es) e.sources) (map (headings es) e.targets) in
              (of_pair (pair_in s (crossing false e)) stood, of_pair (pair_in end (crossing false e)) stands_now)
        ]

      remembered : (n : ℕ) → In n tree.operators → Remembers test (s.memory n) × Remembers test (end.memory n)
      remembered n i =
          let l = lives es w.set w.table tree plans.walked n i in
          let has = has_memories l.0 l.1 (subst (λ (k : ℕ). In k tree.operators) l.2 i) in
          (λ is. subst (λ (k : ℕ). IsMemory (s.memory k)) (sym l.2) has.0, λ is. subst (λ (k : ℕ). IsMemory (end.memory k)) (sym l.2) has.1)

      -- THE WRITE OF THE PART IS THE PART OF THE WRITE
      pub part_found : Shows meaning d tree w test
      part_found = part_shown meaning laws d good tree w plans test split_test named_test carries keeps remembered
