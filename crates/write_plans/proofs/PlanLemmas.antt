-- The plan of what was made of what is seen of a tree is the plan of the whole write.
use Rattle.std.specs.Option.{option_map_or}
use Rattle.std.proofs.Common.{◌≡◌, ℕ, ◌<◌, ◌≤◌, List, [], Bool, true, false, if◌then◌else◌, map, Ok, Err, Option, inl, inr, refl, sym, ap, ◌∙◌, subst, filter}
use Rattle.par_base.specs.declared.fault.Fault.{Fault}
use Rattle.par_base.specs.declared.fault.Fault.TheVariants.{Refused, Memory as OutOfMemory}
use Rattle.par_base.specs.declared.refusal.IdsSpent.{IdsSpent}
use Rattle.row_store.specs.Rows.{Rows}
use Rattle.row_store.specs.Changes.{AreOld}
use Rattle.row_store.specs.declared.change.Change.{Change}
use Rattle.version_graph.specs.Sets.{Distinct, Each, In}
use Rattle.version_graph.specs.Forest.{Crossing, Link, crossing, forest}
use Rattle.version_graph.specs.declared.parts.Placed.{Placed}
use Rattle.std.proofs.lemmas.Bool.{false≢true}
use Rattle.version_graph.proofs.SetLaws.{each_at, each_of, in_map, in_of_test, is_in_true}
use Rattle.version_graph.proofs.TableLaws.{in_filter}
use Rattle.version_graph.proofs.WalkStepLaws.{in_reverse}
use Rattle.layout_rules.proofs.ChangeLaws.{filter_in, link_number}
use Rattle.id_memory.specs.States.{CounterState}
use Rattle.db_state.proofs.FieldLaws.{none_at}
use Rattle.op_law.specs.Tables.{AllRise, Tables}
use Rattle.op_law.specs.Calls.{IsSpent, first_refused}
use Rattle.op_law.specs.Laws.{HalfLaws, Laws}
use Rattle.op_law.specs.Local.{only, rows_only}
use Rattle.op_law.specs.Meaning.{Meaning, PairState}
use Rattle.layout_rules.specs.Layouts.{IsStored}
use Rattle.row_changes.specs.Changed.{AreChangesOf, TableChanges, changed, changed_tables}
use Rattle.row_changes.specs.Differences.{AreDifferences}
use Rattle.row_changes.specs.declared.change.SideChanges.{SideChanges}
use Rattle.row_changes.specs.Touched.{AllPass}
use Rattle.row_changes.proofs.DifferenceLaws.{differences_of_part, differences_fit, differences_make, part_makes, whole_old}
use Rattle.changes_walk.specs.Changing.{latest_changes}
use Rattle.version_model.specs.Kept.{Database, pairs_at, pairs_now, rows_at, auxes_at, numbers_in}
use Rattle.version_model.specs.Sound.{IsSound}
use Rattle.version_model.specs.States.{State, headings}
use Rattle.version_model.specs.Steps.{directed, pair_in, run}
use Rattle.version_model.specs.Writes.{write, written}
use Rattle.version_model.specs.declared.numbered.Numbered.{Numbered}
use Rattle.version_model.proofs.ToldLaws.{same_refused}
use Rattle.version_model.proofs.HeadingLaws.{in_or_not}
use Rattle.version_model.proofs.RunLaws.{way_laws}
use Rattle.version_graph.specs.Edges.{is_in, numbers}
use Rattle.storage_law.specs.Storage.{StandsOver, aux_of, stored_way}
use Rattle.db_state.specs.Fields.{IsDatabase, state_for, storage_in}
use Rattle.db_state.specs.declared.parts.Parts.{Parts}
use Rattle.table_keys.specs.States.{KeysState}
use Rattle.kept_keys.specs.Kept.{AreKeysOf, changes_in}
use Rattle.kept_keys.specs.Changed.{IsPrepared}
use Rattle.kept_keys.proofs.KeptLaws.{committed_right, prepared_ready}
use Rattle.kept_changes.specs.Changes.{changes_at, sides_at, pair_changes_at, IsMemoryAt, IsOldAt, IsSideAt}
use Rattle.pair_changes.specs.declared.change.PairChange.{PairChange}
use Rattle.pair_changes.specs.Changed.{PairsLeadTo, changed_pairs}
use Rattle.write_plans.specs.Calls.{IsMemoryChange, stored_in}
use Rattle.write_plans.specs.Making.{IsMaking, IsPlanOf, MakesWrite, MayPlan, made_over, seen_write}
use Rattle.write_plans.specs.Keys.{KeysLead}
use Rattle.write_plans.specs.Plans.{Plans, rows_written}
use Rattle.write_plans.specs.Room.{HasOld}
use Rattle.write_plans.specs.Told.{ChangesLead, TellsApart, TellsCarried, TellsChanged, has_change}
use Rattle.changes_walk.specs.Reach.{IsWhole}
use Rattle.changes_walk.proofs.ReachLaws.{IsInside, write_reached}
use Rattle.write_plans.specs.Trees.{part}
use Rattle.write_plans.specs.declared.making.Making.{Making}
use Rattle.write_plans.specs.declared.plans.RowWrite.{RowWrite}
use Rattle.write_plans.specs.declared.tree.Tree.{Tree}
use Rattle.write_plans.proofs.ItemLemmas.{item_at, stored_apart, stored_beside}
use Rattle.write_plans.proofs.LeadLemmas.{IsPlanTo, leads, no_changes}
use Rattle.write_plans.proofs.ToldLemmas.{listed, tells_apart, unlisted}
use Rattle.write_plans.proofs.TreeLemmas.{outside_memory, outside_table, part_memory, part_table, same_pair}
use Rattle.write_plans.proofs.WholeLemmas.{lives, operators_apart, path, path_inside}
use Rattle.id_memory.specs.Pairs.{Pairs, RiseFrom}
use Rattle.pair_parts.specs.Parts.{IsMemory, memory_only}
use Rattle.operator_changes.proofs.MemoryLaws.{whole_difference}
use Rattle.write_plans.proofs.MemoryLemmas.{lead_makes}
use Rattle.write_plans.specs.declared.plans.Plan.{Plan}
use Rattle.write_plans.proofs.ShownLemmas.{Shows, end_sound, related_in}

module _ {O : Type 0} (meaning : O → Meaning) (laws : (o : O) → Laws (meaning o)) (d : Parts O) (good : IsDatabase meaning d) (tree : Tree) (w : RowWrite) (plans : MayPlan meaning d tree w)
    (test : ℕ → Bool) (shows : Shows meaning d tree w test) where
  abbrev es : List (Placed O)
  es = d.graph.edges

  abbrev s : State
  s = state_for meaning d

  abbrev rows : Rows
  rows = rows_written meaning d w

  -- after the whole write, and after that of what passes the test
  abbrev end : State
  end = write meaning es s w.set w.table rows w.ids.next

  abbrev small : State
  small = seen_write meaning d tree w test

  of_tree : IsWhole es tree.operators tree.tables
  of_tree = plans.walked.whole

  -- the crossings that the write can reach make it
  abbrev ps : List (Crossing O)
  ps = path es w.set w.table tree plans.walked

  inside : Each (IsInside tree.operators tree.tables) ps
  inside = path_inside es w.set w.table tree plans.walked

  end_is : end ≡ run meaning s (written s w.table rows w.ids.next) ps
  end_is = write_reached es w.set w.table tree.operators tree.tables plans.walked meaning s laws good.sound rows w.ids.next plans.may

  sound_end : IsSound meaning es end
  sound_end = end_sound meaning laws d good tree w plans

  same_table : (t : ℕ) → (In t tree.tables → ⊥) → end.tables t ≡ s.tables t
  same_table t none = ap (λ (x : State). x.tables t) end_is ∙ outside_table meaning tree s ps w.table rows w.ids.next inside plans.walked.held t none

  same_memory : (n : ℕ) → (In n tree.operators → ⊥) → end.memory n ≡ s.memory n
  same_memory n none = ap (λ (x : State). x.memory n) end_is ∙ outside_memory meaning tree s ps w.table rows w.ids.next inside n none

  -- ---- stored tables

  module _ (t : ℕ) (cs : List Change) (i : In t tree.tables) (pass : AllPass test cs) (before : Rows) (copied : before ≡ (part test tree s).tables t) where
    seen_before : before ≡ rows_only test (s.tables t)
    seen_before = copied ∙ part_table test tree s t i

    -- the old rows of changes of what was seen are those of the whole table
    has_rows : AreOld before cs → AreOld (s.tables t) cs
    has_rows old = whole_old test (s.tables t) cs pass (subst (λ (x : Rows). AreOld x cs) seen_before old)

    -- and what they make of it they make of the whole table
    makes_rows : changed before cs ≡ small.tables t → changed (s.tables t) cs ≡ end.tables t
    makes_rows made =
        part_makes test (s.tables t) (end.tables t) cs (good.sound.well.tables t).0 (sound_end.well.tables t).0 (sym (shows.rests.tables t i)) pass
        (ap (λ (x : Rows). changed x cs) (sym seen_before) ∙ made ∙ sym (shows.part.tables t i))

  -- ---- auxiliary tables

  abbrev over : Link O → Crossing O
  over e = stored_way d.layout.operators e

  abbrev at : Link O → Meaning
  at e = directed (over e).backward (meaning e.operator)

  module _ (e : Link O) (i : In e (forest es)) (own : In e.number tree.operators) where
    half : HalfLaws (at e)
    half = way_laws (over e).backward (meaning e.operator) (laws e.operator)

    abbrev kept : Tables
    kept = aux_of meaning s (over e)

    abbrev wanted : Tables
    wanted = aux_of meaning end (over e)

    rises : (x : State) → IsSound meaning es x → AllRise (aux_of meaning x (over e))
    rises x sound = half.aux_rises (map (headings es) (over e).near) (map (headings es) (over e).far) (pair_in x (over e)) (related_in meaning laws d good tree w plans x sound e i)

    aux_difference : (newer : Tables) (cs : TableChanges) → newer ≡ aux_of meaning small (over e) → AreDifferences (only test kept) newer cs → AreDifferences kept wanted cs
    aux_difference newer cs is differs =
        differences_of_part test kept wanted cs (rises s good.sound) (rises end sound_end) (shows.aux_rests e i own)
        (subst (λ (x : Tables). AreDifferences (only test kept) x cs) (is ∙ shows.aux_part e i own) differs)

  -- ---- the plan

  module _ (making : Making) (is : IsMaking meaning d tree w test test making) where
    stood : (e : Link O) → In e (forest es) → auxes_at d.aux e.number ≡ aux_of meaning s (over e)
    stood e i = (each_at (λ (f : Link O). StandsOver meaning (headings es) (storage_in d) s (stored_way d.layout.operators f)) (forest es) e i good.stands.edges).aux

    -- ---- every table of the tree, and all others

    -- the changes that were made of a table of the tree
    abbrev made_in : ℕ → List Change
    made_in = changes_in tree.tables making.made.tables

    tables_old : (t : ℕ) → AreOld (s.tables t) (made_in t)
    tables_old t =
        elim (is_in t tree.tables) as (λ b. is_in t tree.tables ≡ b → AreOld (s.tables t) (if b then latest_changes making.made.tables t else [])) [
          | true ↦ λ e. has_rows t (latest_changes making.made.tables t) (in_of_test t tree.tables e) (is.pass t) _ (is.tables t) (is.fits t).1
          | false ↦ λ e. tt
        ] refl

    tables_after : (t : ℕ) → changed (s.tables t) (made_in t) ≡ end.tables t
    tables_after t =
        elim (is_in t tree.tables) as (λ b. is_in t tree.tables ≡ b → changed (s.tables t) (if b then latest_changes making.made.tables t else []) ≡ end.tables t) [
          | true ↦ λ e. makes_rows t (latest_changes making.made.tables t) (in_of_test t tree.tables e) (is.pass t) _ (is.tables t) (ap (λ (x : State). x.tables t) is.made)
          | false ↦ λ e. sym (same_table t (λ i. false≢true (sym e ∙ is_in_true t tree.tables i)))
        ] refl

    module _ (plan : Plan) (for : IsPlanOf meaning d tree test making plan) where
      -- the changes of a table are the last ones that were made
      module _ (i : Numbered (List Change)) (j : In i plan.stored) where
        in_stored : In i.number (stored_in d tree)
        in_stored = subst (λ (l : List ℕ). In i.number l) for.stored.listed (in_map (λ (x : Numbered (List Change)). x.number) i plan.stored j)

        abbrev last : List Change
        last = latest_changes making.made.tables i.number

        stored_old : AreOld (s.tables i.number) i.value
        stored_old = subst (λ (cs : List Change). AreOld (s.tables i.number) cs) (sym (for.stored.values i j)) (has_rows i.number last (stored_beside d tree i.number in_stored) (is.pass i.number) _ (is.tables i.number) (is.fits i.number).1)

        stored_made : changed (s.tables i.number) i.value ≡ end.tables i.number
        stored_made =
            ap (λ (cs : List Change). changed (s.tables i.number) cs) (for.stored.values i j)
            ∙ makes_rows i.number last (stored_beside d tree i.number in_stored) (is.pass i.number) _ (is.tables i.number) (ap (λ (x : State). x.tables i.number) is.made)

      aux_listed : numbers_in plan.auxes ≡ tree.operators
      aux_listed = for.auxes.listed

      side_difference : (i : Numbered SideChanges) → In i plan.auxes → (e : Link O) → In e (forest es) → e.number ≡ i.number → AreDifferences (aux_of meaning s (over e)) (aux_of meaning end (over e)) i.value.tables
      side_difference i j e k same =
          let own : In e.number tree.operators = subst (λ (n : ℕ). In n tree.operators) (sym same) (subst (λ (l : List ℕ). In i.number l) aux_listed (in_map (λ (x : Numbered SideChanges). x.number) i plan.auxes j)) in
          let old : auxes_at d.aux i.number ≡ aux_of meaning s (over e) = ap (auxes_at d.aux) (sym same) ∙ stood e k in
          aux_difference e k own (aux_of meaning (made_over making) (over e)) i.value.tables (ap (λ (x : State). aux_of meaning x (over e)) is.made)
          (subst (λ (x : Tables). AreDifferences (only test x) (aux_of meaning (made_over making) (over e)) i.value.tables) old (for.auxes.values i j e k same))

      to_stored : (t : ℕ) → IsStored (forest es) d.layout.operators t → changed (s.tables t) (changes_at plan.stored t) ≡ end.tables t
      to_stored t stored =
          let here = (good.tables t).1 stored in
          in_or_not t tree.tables (changed (s.tables t) (changes_at plan.stored t) ≡ end.tables t)
          (λ own.
          let listed : In t (numbers_in plan.stored) = subst (λ (l : List ℕ). In t l) (sym for.stored.listed) (filter_in (λ u. is_in u tree.tables) t (numbers_in d.stored) here (is_in_true t tree.tables own)) in
          let m = item_at plan.stored t listed in
          ap (λ (o : Option (List Change)). changed (s.tables t) (option_map_or (λ (cs : List Change). cs) o [])) m.2
          ∙ subst (λ (n : ℕ). changed (s.tables n) m.0.value ≡ end.tables n) m.3 (stored_made m.0 m.1))
          (λ other.
          let none = none_at plan.stored t (λ j. other (stored_beside d tree t (subst (λ (l : List ℕ). In t l) for.stored.listed j))) in
          ap (λ (o : Option (List Change)). changed (s.tables t) (option_map_or (λ (cs : List Change). cs) o [])) none
          ∙ sym (same_table t other))

      others_pair : (e : Link O) (x : Bool) → In e (forest es) → (In e.number tree.operators → ⊥) → pair_in s (crossing x e) ≡ pair_in end (crossing x e)
      others_pair e true i other = same_pair s end (crossing true e) (λ t k. sym (same_table t (λ j. other (of_tree.operators e i t j (inr k))))) (λ t k. sym (same_table t (λ j. other (of_tree.operators e i t j (inl k))))) (sym (same_memory e.number other))
      others_pair e false i other = same_pair s end (crossing false e) (λ t k. sym (same_table t (λ j. other (of_tree.operators e i t j (inl k))))) (λ t k. sym (same_table t (λ j. other (of_tree.operators e i t j (inr k))))) (sym (same_memory e.number other))

      to_aux : (e : Link O) → In e (forest es) → changed_tables (aux_of meaning s (over e)) (sides_at plan.auxes e.number) ≡ aux_of meaning end (over e)
      to_aux e i =
          in_or_not e.number tree.operators (changed_tables (aux_of meaning s (over e)) (sides_at plan.auxes e.number) ≡ aux_of meaning end (over e))
          (λ own.
          let m = item_at plan.auxes e.number (subst (λ (l : List ℕ). In e.number l) (sym aux_listed) own) in
          ap (λ (o : Option SideChanges). changed_tables (aux_of meaning s (over e)) (option_map_or (λ (side : SideChanges). side.tables) o [])) m.2
          ∙ differences_make (aux_of meaning s (over e)) (aux_of meaning end (over e)) m.0.value.tables (side_difference m.0 m.1 e i (sym m.3)))
          (λ other.
          let none = none_at plan.auxes e.number (λ j. other (subst (λ (l : List ℕ). In e.number l) aux_listed j)) in
          ap (λ (o : Option SideChanges). changed_tables (aux_of meaning s (over e)) (option_map_or (λ (side : SideChanges). side.tables) o [])) none
          ∙ no_changes (aux_of meaning s (over e)) ∙ ap (λ (x : PairState). (at e).aux_at_source x) (others_pair e (is_in e.number d.layout.operators) i other))

      -- ---- memories

      memory_own : (i : Numbered (List PairChange)) → In i plan.memories → In i.number tree.operators
      memory_own i j = subst (λ (l : List ℕ). In i.number l) for.memories.listed (in_map (λ (x : Numbered (List PairChange)). x.number) i plan.memories j)

      -- what was copied of a memory, and what was made of it, are parts of the whole ones
      memory_before : (n : ℕ) → In n tree.operators → pairs_at making.copies.memories n ≡ memory_only test (s.memory n)
      memory_before n own = is.memories n ∙ part_memory test tree s n own

      memory_now : (n : ℕ) → In n tree.operators → pairs_now making.copies.memories making.made.memories n ≡ memory_only test (end.memory n)
      memory_now n own = ap (λ (x : State). x.memory n) is.made ∙ sym (shows.part.memory n own)

      -- so the changes lead from the whole one to the whole one
      module _ (i : Numbered (List PairChange)) (j : In i plan.memories) where
        change : IsMemoryChange (memory_only test (s.memory i.number)) (memory_only test (end.memory i.number)) i.value
        change =
            subst (λ (x : Pairs). IsMemoryChange x (memory_only test (end.memory i.number)) i.value) (memory_before i.number (memory_own i j))
            (subst (λ (x : Pairs). IsMemoryChange (pairs_at making.copies.memories i.number) x i.value) (memory_now i.number (memory_own i j)) (for.memories.values i j))

        memory_rises : RiseFrom 0 (s.memory i.number)
        memory_rises = ((shows.remembered i.number (memory_own i j)).0 change.stood).rises

        memory_kept : IsMemory (end.memory i.number)
        memory_kept = (shows.remembered i.number (memory_own i j)).1 (record { rises = change.lead.rises; one = change.lead.one })

        memory_lead : PairsLeadTo (s.memory i.number) (end.memory i.number) i.value
        memory_lead = record {
          rises = memory_kept.rises;
          one = memory_kept.one;
          difference = whole_difference test (s.memory i.number) (end.memory i.number) i.value (shows.rests.memory i.number (memory_own i j)) change.lead.difference;
        }

        -- they make it
        memory_made : changed_pairs (s.memory i.number) i.value ≡ end.memory i.number
        memory_made = lead_makes (s.memory i.number) (end.memory i.number) i.value memory_rises memory_lead

      to_memory : (e : Link O) → In e (forest es) → changed_pairs (pairs_at d.memories e.number) (pair_changes_at plan.memories e.number) ≡ end.memory e.number
      to_memory e i =
          let n = e.number in
          in_or_not n tree.operators (changed_pairs (pairs_at d.memories n) (pair_changes_at plan.memories n) ≡ end.memory n)
          (λ own.
          let m = item_at plan.memories n (subst (λ (l : List ℕ). In n l) (sym for.memories.listed) own) in
          ap (λ (o : Option (List PairChange)). changed_pairs (pairs_at d.memories n) (option_map_or (λ (cs : List PairChange). cs) o [])) m.2
          ∙ subst (λ (k : ℕ). changed_pairs (pairs_at d.memories k) m.0.value ≡ end.memory k) m.3 (memory_made m.0 m.1))
          (λ other.
          let none = none_at plan.memories n (λ j. other (subst (λ (l : List ℕ). In n l) for.memories.listed j)) in
          ap (λ (o : Option (List PairChange)). changed_pairs (pairs_at d.memories n) (option_map_or (λ (cs : List PairChange). cs) o [])) none
          ∙ sym (same_memory n other))

      to : IsPlanTo meaning d end plan
      to = record {
        stored = to_stored;
        aux = to_aux;
        memory = to_memory;
        next = ap (λ (c : CounterState). c.next) for.ids ∙ ap (λ (x : State). x.next) is.made ∙ sym shows.part.next;
        limit = ap (λ (c : CounterState). c.limit) for.ids ∙ is.limit ∙ plans.limit;
      }

      refuses_same : first_refused w.ids ≡ first_refused d.ids
      refuses_same = same_refused d.ids w.ids plans.may.more plans.drawn plans.limit

      -- THE PLAN OF A WRITE
      pub planned : Plans meaning d w.set w.table rows w.ids.next (Ok plan)
      planned = (
        subst (λ (n : ℕ). n ≤ first_refused d.ids) (sym shows.part.next) (subst (λ (n : ℕ). small.next ≤ n) refuses_same is.within),
        λ new puts. leads meaning laws d good end sound_end plan to new puts,
      )

      -- THE TABLES THAT A WRITE CHANGES
      pub tells_changed : TellsChanged meaning d w plan
      tells_changed t =
          let test : ℕ → Bool = λ n. has_change (latest_changes making.made.tables n) in
          let last : List Change = latest_changes making.made.tables t in
          let told : (b : Bool) → is_in t (filter test tree.tables) ≡ b → TellsApart (s.tables t) (end.tables t) b → TellsApart (s.tables t) (end.tables t) (is_in t plan.changed) =
          λ b is tells. subst (λ (x : Bool). TellsApart (s.tables t) (end.tables t) x) (sym (ap (λ (l : List ℕ). is_in t l) for.changed ∙ is)) tells in
          in_or_not t tree.tables (TellsApart (s.tables t) (end.tables t) (is_in t plan.changed))
          (λ own.
          let old : AreOld (s.tables t) last = has_rows t last own (is.pass t) _ (is.tables t) (is.fits t).1 in
          let makes : changed (s.tables t) last ≡ end.tables t = makes_rows t last own (is.pass t) _ (is.tables t) (ap (λ (x : State). x.tables t) is.made) in
          told (test t) (listed test t tree.tables own) (tells_apart (s.tables t) (end.tables t) last (good.sound.well.tables t).0 (is.fits t).0 old makes))
          (λ other. told false (unlisted test t tree.tables other) (same_table t other))

      -- WHAT CHANGES IN THEM
      pub tells_carried : TellsCarried meaning d w plan
      tells_carried t i =
          let last : List Change = latest_changes making.made.tables t in
          let own : In t tree.tables = in_filter (λ n. has_change (latest_changes making.made.tables n)) t tree.tables (subst (λ (l : List ℕ). In t l) for.changed i) in
          subst (λ (l : List (Numbered (List Change))). ChangesLead (s.tables t) (end.tables t) (latest_changes l t)) (sym for.carried)
          (record {
            rise = (is.fits t).0;
            old = has_rows t last own (is.pass t) _ (is.tables t) (is.fits t).1;
            new = makes_rows t last own (is.pass t) _ (is.tables t) (ap (λ (x : State). x.tables t) is.made);
          })

      -- KEPT KEYS THAT WERE MADE READY LEAD TO THOSE OF THE NEW STATE
      pub keys_lead : (keys : List (Numbered KeysState)) → AreKeysOf s.tables keys → Each (IsPrepared tree.tables making.made.tables) keys → KeysLead meaning d keys plan
      keys_lead keys right prepared = record {
        ready = prepared_ready s.tables tree.tables making.made.tables keys tables_old right prepared;
        leads = λ new puts after both.
            subst (λ (x : State). AreKeysOf x.tables after) (sym (ap (λ (x : Database O). x.state) (planned.1 new puts).1))
            (committed_right s.tables end.tables tree.tables making.made.tables keys after tables_after right prepared both);
      }

      -- and each change has the old row of its table
      pub has_old : HasOld d plan
      has_old = record {
        stored = (
          subst (λ (l : List ℕ). Distinct l) (sym for.stored.listed) (stored_apart d tree good.tables_ascending),
          each_of (λ (i : Numbered (List Change)). IsOldAt d.stored i) plan.stored (λ i j.
              let listed : In i.number (stored_in d tree) = subst (λ (l : List ℕ). In i.number l) for.stored.listed (in_map (λ (x : Numbered (List Change)). x.number) i plan.stored j) in
              let kept : In i.number (numbers_in d.stored) = in_filter (λ u. is_in u tree.tables) i.number (numbers_in d.stored) listed in
              let rows_are : rows_at d.stored i.number ≡ s.tables i.number = good.stands.stored i.number ((good.tables i.number).0 kept) in
              (kept, subst (λ (x : Rows). AreOld x i.value) (sym rows_are) (stored_old i j))),
        );
        auxes = (
          subst (λ (l : List ℕ). Distinct l) (sym aux_listed) (operators_apart es w.set w.table tree plans.walked good.graph.edges),
          each_of (λ (i : Numbered SideChanges). IsSideAt d.aux i) plan.auxes (λ i j.
              let own : In i.number tree.operators = subst (λ (l : List ℕ). In i.number l) aux_listed (in_map (λ (x : Numbered SideChanges). x.number) i plan.auxes j) in
              let l = lives es w.set w.table tree plans.walked i.number own in
              subst (λ (x : Tables). AreChangesOf x i.value.tables) (sym (ap (auxes_at d.aux) l.2 ∙ stood l.0 l.1))
              (differences_fit (aux_of meaning s (over l.0)) (aux_of meaning end (over l.0)) i.value.tables (side_difference i j l.0 l.1 (sym l.2)))),
        );
        memories = (
          subst (λ (l : List ℕ). Distinct l) (sym for.memories.listed) (operators_apart es w.set w.table tree plans.walked good.graph.edges),
          each_of (λ (i : Numbered (List PairChange)). IsMemoryAt d.memories i) plan.memories (λ i j.
              let l = lives es w.set w.table tree plans.walked i.number (memory_own i j) in
              let live : In i.number (numbers es) = subst (λ (n : ℕ). In n (numbers es)) (sym l.2) (link_number es l.0 l.1) in
              let kept : In i.number (numbers_in d.memories) = subst (λ (ns : List ℕ). In i.number ns) (sym good.memories) (in_reverse i.number (numbers es) live) in
              (kept, (end.memory i.number, memory_lead i j))),
        );
      }

  -- where the write of the part is refused, so is the whole
  pub refused : (fault : Fault IdsSpent) → MakesWrite meaning d tree w test test (Err fault) → Plans meaning d w.set w.table rows w.ids.next (Err fault)
  refused (Refused spent) h =
      let same = same_refused d.ids w.ids plans.may.more plans.drawn plans.limit in
      let at = subst (λ (n : ℕ). IsSpent n w.ids w.ids spent) (sym shows.part.next) h in
      (subst (λ (n : ℕ). n < end.next) same at.0, at.1 ∙ same, at.2 ∙ plans.limit, refl)
  refused (OutOfMemory memory) h = tt
