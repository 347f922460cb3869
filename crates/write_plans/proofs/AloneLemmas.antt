-- The write of a table that stands alone in its tree is that of the table alone.
use Rattle.std.specs.Prelude.{◌==◌, if◌then◌else◌}
use Rattle.std.specs.Option.{option_map_or}
use Rattle.std.proofs.Common.{◌≡◌, ℕ, ◌+◌, ◌<◌, ◌≤◌, take, get_or, length, List, [], ◌∷◌, Bool, true, false, map, Ok, Some, None, option_map, inl, inr, refl, sym, ap, ◌∙◌, subst}
use Rattle.std.proofs.lemmas.Bool.{eq-eqb, eqb-true, false≢true}
use Rattle.std.proofs.lemmas.List.{take_more}
use Rattle.std.proofs.Math.Path.{fun_ext}
use Rattle.row_store.specs.Rows.{Rows}
use Rattle.row_store.specs.Changes.{AreOld, ChangesRise}
use Rattle.row_store.specs.States.{TableState}
use Rattle.row_changes.specs.Changed.{TableChanges}
use Rattle.row_changes.specs.Differences.{AreDifferences}
use Rattle.row_changes.specs.declared.change.SideChanges.{SideChanges}
use Rattle.op_law.specs.Calls.{first_refused}
use Rattle.op_law.specs.Laws.{HalfLaws, Laws}
use Rattle.op_law.specs.Local.{HalfLocal, only, rows_only}
use Rattle.op_law.specs.Meaning.{Meaning}
use Rattle.op_law.specs.Tables.{Tables}
use Rattle.op_law.specs.declared.side.Aux.{Aux}
use Rattle.version_graph.specs.Forest.{Crossing, Link, crossing, forest, walk}
use Rattle.version_graph.specs.Sets.{Each, In}
use Rattle.version_graph.specs.declared.parts.Placed.{Placed}
use Rattle.version_graph.proofs.SetLaws.{each_at, in_append, in_map}
use Rattle.version_model.specs.Kept.{auxes_at, numbers_in, rows_at}
use Rattle.version_model.specs.Laws.{WriteIsOrdinary}
use Rattle.version_model.specs.Sound.{IsSound}
use Rattle.version_model.specs.States.{State, headings}
use Rattle.version_model.specs.Steps.{IsRelated, directed, pair_in}
use Rattle.version_model.specs.Writes.{MayWrite, written}
use Rattle.version_model.specs.declared.numbered.Numbered.{Numbered}
use Rattle.version_model.proofs.HeadingLaws.{in_or_not}
use Rattle.version_model.proofs.ProgressLaws.{state_is}
use Rattle.version_model.proofs.RunLaws.{IsReady, way_laws}
use Rattle.version_model.proofs.ToldLaws.{same_refused}
use Rattle.version_model.proofs.WriteLaws.{walk_is_ready, write_is_ordinary, written_well}
use Rattle.changes_walk.specs.Changing.{latest_changes}
use Rattle.changes_walk.specs.declared.progress.Changing.{Changing}
use Rattle.changes_walk.specs.Reach.{IsWhole}
use Rattle.changes_walk.proofs.ReachLaws.{each_reached}
use Rattle.changes_walk.proofs.StartLaws.{first_fit}
use Rattle.storage_law.specs.Storage.{StandsOver, aux_of, stored_way}
use Rattle.db_state.specs.Fields.{IsDatabase, state_for, storage_in}
use Rattle.db_state.specs.Parts.{AreLocalAt, passes}
use Rattle.db_state.specs.declared.parts.Parts.{Parts}
use Rattle.db_state.specs.declared.sight.Sight.TheVariants.{All}
use Rattle.table_keys.specs.States.{KeysState}
use Rattle.kept_keys.specs.Kept.{AreKeysOf}
use Rattle.kept_keys.specs.Changed.{IsPrepared}
use Rattle.write_plans.specs.Alone.{AreNoChanges, IsAlone}
use Rattle.pair_changes.specs.declared.change.PairChange.{PairChange}
use Rattle.write_plans.specs.Calls.{AreMemoryChangesNow, CopiesTree}
use Rattle.write_plans.specs.Making.{AreAuxChanges, IsMaking, IsPlanOf, IsPlanWith, MayPlan, first_changes, made_over, seen_write}
use Rattle.write_plans.specs.Keys.{KeysLead}
use Rattle.write_plans.specs.Plans.{Plans, rows_written}
use Rattle.write_plans.specs.Room.{HasOld}
use Rattle.write_plans.specs.Told.{TellsCarried, TellsChanged}
use Rattle.write_plans.specs.Trees.{part}
use Rattle.write_plans.specs.declared.copies.Copies.{Copies}
use Rattle.write_plans.specs.declared.making.Making.{Making}
use Rattle.write_plans.specs.declared.plans.Plan.{Plan}
use Rattle.write_plans.specs.declared.plans.RowWrite.{RowWrite}
use Rattle.write_plans.specs.declared.tree.Tree.{Tree}
use Rattle.write_plans.proofs.PartLemmas.{run_draws_none}
use Rattle.write_plans.proofs.PlanLemmas.{has_old, keys_lead, planned, tells_carried, tells_changed}
use Rattle.write_plans.proofs.SeenLemmas.{all_pass, copied_is, first_is}
use Rattle.write_plans.proofs.ShownLemmas.{Shows, here, related_in, shown, small_is}
use Rattle.write_plans.proofs.TreeLemmas.{all_rows, all_sound, no_memory as not_remembered, no_table, outside_memory, outside_table, part_may, part_table}
use Rattle.write_plans.proofs.WholeLemmas.{lives, path, path_inside}

-- ---- what stands alone

-- the one item of a list
only_item : (ns : List ℕ) (n : ℕ) → length ns ≡ 1 → In n ns → ns ≡ n ∷ []
only_item [] n one i = absurd i
only_item (k ∷ []) n one i = elim i as (λ _. k ∷ [] ≡ n ∷ []) [ inl same ↦ ap (λ (x : ℕ). x ∷ []) (sym same) | inr none ↦ absurd none ]
only_item (k ∷ m ∷ ns) n one i = absurd (let none : ⊥ = cc in none)

-- no tables
no_tables : (ts us : Tables) → length ts ≡ length us → us ≡ [] → ts ≡ []
no_tables [] us long none = refl
no_tables (t ∷ ts) [] long none = absurd (let clash : ⊥ = cc in clash)
no_tables (t ∷ ts) (u ∷ us) long none = absurd (let clash : ⊥ = cc in clash)

-- one operator more for which none are kept
pub bare_more : (kept : List (Numbered Aux)) (ns : List ℕ) (i : ℕ) → i < length ns → ((n : ℕ) → In n (take i ns) → auxes_at kept n ≡ []) → auxes_at kept (get_or ns i 0) ≡ [] → (n : ℕ) → In n (take (i + 1) ns) → auxes_at kept n ≡ []
bare_more kept ns i within before new n j =
    elim (in_append n (take i ns) (get_or ns i 0 ∷ []) (subst (λ (l : List ℕ). In n l) (take_more ns i 0 within) j)) as (λ _. auxes_at kept n ≡ []) [
      | inl k ↦ before n k
      | inr (inl same) ↦ ap (auxes_at kept) same ∙ new
      | inr (inr none) ↦ absurd none
    ]

-- ---- its write

module _ {O : Type 0} (meaning : O → Meaning) (laws : (o : O) → Laws (meaning o)) (d : Parts O) (good : IsDatabase meaning d) (tree : Tree) (w : RowWrite) (plans : MayPlan meaning d tree w)
    (alone : IsAlone d tree) (local : AreLocalAt meaning d.graph.edges tree.operators) (rise : ChangesRise 0 w.changes) where
  abbrev es : List (Placed O)
  es = d.graph.edges

  abbrev s : State
  s = state_for meaning d

  abbrev rows : Rows
  rows = rows_written meaning d w

  -- all rows are seen
  abbrev pub test : ℕ → Bool
  test = passes All

  of_tree : IsWhole es tree.operators tree.tables
  of_tree = plans.walked.whole

  single : tree.tables ≡ w.table ∷ []
  single = only_item tree.tables w.table alone.one plans.walked.held

  other_table : (t : ℕ) → (t == w.table) ≡ false → In t tree.tables → ⊥
  other_table t e i =
      elim (subst (λ (l : List ℕ). In t l) single i) as (λ _. ⊥) [ inl same ↦ false≢true (sym e ∙ eq-eqb t w.table same) | inr none ↦ none ]

  -- the crossings that the write can reach
  abbrev ps : List (Crossing O)
  ps = path es w.set w.table tree plans.walked

  abbrev small : State
  small = part test tree s

  small_sound : IsSound meaning es small
  small_sound = all_sound meaning laws es s good.sound tree of_tree test (λ q. refl)

  small_may : MayWrite es small w.set w.table (rows_only test rows) w.ids.next
  small_may = part_may meaning laws es s good.sound tree of_tree test w.set w.table rows w.ids.next plans.may

  abbrev start : State
  start = written small w.table (rows_only test rows) w.ids.next

  abbrev end : State
  end = seen_write meaning d tree w test

  ordinary : WriteIsOrdinary meaning es small w.set w.table (rows_only test rows) w.ids.next
  ordinary = write_is_ordinary meaning es small small_sound w.set w.table (rows_only test rows) w.ids.next small_may laws good.graph.edges

  -- no operator of the tree has a memory
  no_memory : (x : State) → IsSound meaning es x → (n : ℕ) → In n tree.operators → x.memory n ≡ []
  no_memory x sound n own =
      let l = lives es w.set w.table tree plans.walked n own in
      let law : HalfLocal (meaning l.0.operator) = (laws l.0.operator).0.local (local l.0 l.1 (subst (λ (k : ℕ). In k tree.operators) l.2 own)) in
      ap (λ (k : ℕ). x.memory k) l.2
      ∙ law.no_memory (map (headings es) l.0.sources) (map (headings es) l.0.targets) (pair_in x (crossing false l.0))
      (each_at (λ (f : Link O). IsRelated meaning (headings es) x (crossing false f)) (forest es) l.0 l.1 sound.related)

  end_next : end.next ≡ w.ids.next
  end_next =
      ap (λ (x : State). x.next) (small_is meaning laws d good tree w plans test small_sound)
      ∙ run_draws_none meaning laws tree (headings es) small small_sound.well ps start
      (written_well meaning es small small_sound w.set w.table (rows_only test rows) w.ids.next small_may) small_may.more
      (each_reached tree.operators (IsReady meaning (headings es) small) (walk (forest es) w.set) (walk_is_ready meaning es small small_sound w.set))
      (here meaning laws d good tree w plans local test (all_pass w.changes))

  end_table : (t : ℕ) → start.tables t ≡ end.tables t
  end_table t =
      elim (t == w.table) as (λ b. (t == w.table) ≡ b → (if b then rows_only test rows else small.tables t) ≡ end.tables t) [
        | true ↦ λ e. sym ordinary.table ∙ ap end.tables (sym (eqb-true t w.table e))
        | false ↦ λ e.
            sym (ap (λ (x : State). x.tables t) (small_is meaning laws d good tree w plans test small_sound)
            ∙ outside_table meaning tree small ps w.table (rows_only test rows) w.ids.next (path_inside es w.set w.table tree plans.walked) plans.walked.held t (other_table t e))
      ] refl

  end_memory : (n : ℕ) → small.memory n ≡ end.memory n
  end_memory n =
      in_or_not n tree.operators (small.memory n ≡ end.memory n)
      (λ own. no_memory small small_sound n own ∙ sym (no_memory end ordinary.sound n own))
      (λ other.
      sym (ap (λ (x : State). x.memory n) (small_is meaning laws d good tree w plans test small_sound)
      ∙ outside_memory meaning tree small ps w.table (rows_only test rows) w.ids.next (path_inside es w.set w.table tree plans.walked) n other))

  -- NOTHING ELSE CHANGES
  start_is : start ≡ end
  start_is = state_is _ _ _ _ _ _ (fun_ext end_table) (fun_ext end_memory) (sym end_next)

  -- ---- what is made of it

  -- the table alone, as if it had been copied
  abbrev item : Numbered TableState
  item = record { number = w.table; value = record { rows = s.tables w.table; spare = 0 } }

  abbrev pub copies : Copies
  copies = record { tables = item ∷ []; memories = [] }

  copied_table : (t : ℕ) → rows_at copies.tables t ≡ small.tables t
  copied_table t =
      elim (t == w.table) as (λ b. (t == w.table) ≡ b → option_map_or (λ (table : TableState). table.rows) (option_map (λ (i : Numbered TableState). i.value) (if b then Some item else None)) [] ≡ small.tables t) [
        | true ↦ λ e.
            let same : w.table ≡ t = sym (eqb-true t w.table e) in
            ap s.tables same ∙ sym (all_rows test (λ q. refl) (s.tables t)) ∙ sym (part_table test tree s t (subst (λ (k : ℕ). In k tree.tables) same plans.walked.held))
        | false ↦ λ e. sym (no_table test tree s t (other_table t e))
      ] refl

  copied : CopiesTree meaning d tree All copies
  copied = record {
    tables = copied_table;
    memories = λ n. in_or_not n tree.operators ([] ≡ small.memory n) (λ own. sym (no_memory small small_sound n own)) (λ other. sym (not_remembered test tree s n other));
  }

  copied_old : AreOld (rows_at copies.tables w.table) w.changes
  copied_old =
      subst (λ (x : Rows). AreOld x w.changes)
      (sym (copied_table w.table ∙ part_table test tree s w.table plans.walked.held ∙ all_rows test (λ q. refl) (s.tables w.table))) plans.old

  module _ (made : Changing) (is : made ≡ first_changes w) where
    abbrev pub making : Making
    making = record { copies = copies; made = made }

    -- THE CHANGES OF THE TABLE ARE WHAT THE WRITE MAKES
    pub making_is : IsMaking meaning d tree w test test making
    making_is =
        subst (λ (x : Changing). IsMaking meaning d tree w test test (record { copies = copies; made = x })) (sym is) (record {
          tables = copied.tables;
          memories = copied.memories;
          made = first_is meaning laws d good tree w plans All tt (all_pass w.changes) copies copied d.ids.next refl
              ∙ ap (λ (x : State). written x w.table (rows_only test rows) w.ids.next) (copied_is meaning laws d good tree w plans All tt (all_pass w.changes) copies copied d.ids.next refl)
              ∙ start_is;
          fits = first_fit (record { tables = rows_at copies.tables; memory = λ n. []; next = w.ids.next }) w.table w.changes rise copied_old;
          pass = λ t. all_pass (latest_changes (first_changes w).tables t);
          within = subst (λ (n : ℕ). n ≤ first_refused w.ids) (sym end_next) (subst (λ (n : ℕ). w.ids.next ≤ n) (sym (same_refused d.ids w.ids plans.may.more plans.drawn plans.limit)) plans.drawn);
          limit = refl;
        })

    pub shows : Shows meaning d tree w test
    shows = shown meaning laws d good tree w plans All tt (all_pass w.changes)

    -- there are no auxiliary tables, as before
    module _ (e : Link O) (i : In e (forest es)) (own : In e.number tree.operators) where
      abbrev over : Crossing O
      over = stored_way d.layout.operators e

      half : HalfLaws (directed over.backward (meaning e.operator))
      half = way_laws over.backward (meaning e.operator) (laws e.operator)

      none_before : aux_of meaning s over ≡ []
      none_before =
          sym (each_at (λ (f : Link O). StandsOver meaning (headings es) (storage_in d) s (stored_way d.layout.operators f)) (forest es) e i good.stands.edges).aux
          ∙ alone.bare e.number own

      none_after : aux_of meaning end over ≡ []
      none_after =
          no_tables (aux_of meaning end over) (aux_of meaning s over)
          (half.aux_many (map (headings es) over.near) (map (headings es) over.far) (pair_in end over) (pair_in s over)
          (related_in meaning laws d good tree w plans end ordinary.sound e i) (related_in meaning laws d good tree w plans s good.sound e i))
          none_before

    none_differ : (before now : Tables) (changes : TableChanges) → before ≡ [] → now ≡ [] → changes ≡ [] → AreDifferences before now changes
    none_differ before now changes a b c =
        subst (λ (x : Tables). AreDifferences x now changes) (sym a) (subst (λ (x : Tables). AreDifferences [] x changes) (sym b) (subst (λ (x : TableChanges). AreDifferences [] [] x) (sym c) tt))

    -- SO NONE OF THEM CHANGES
    pub no_aux : (auxes : List (Numbered SideChanges)) → AreNoChanges tree.operators auxes → AreAuxChanges meaning d test making tree.operators auxes
    no_aux auxes none = record {
      listed = none.listed;
      values = λ i j e k same.
          let listed : In i.number tree.operators = subst (λ (l : List ℕ). In i.number l) none.listed (in_numbers i auxes j) in
          let own : In e.number tree.operators = subst (λ (n : ℕ). In n tree.operators) (sym same) listed in
          none_differ (only test (auxes_at d.aux i.number)) (aux_of meaning (made_over making) (stored_way d.layout.operators e)) i.value.tables
          (ap (only test) (alone.bare i.number listed))
          (ap (λ (x : State). aux_of meaning x (stored_way d.layout.operators e)) making_is.made ∙ none_after e k own)
          (none.values i j);
    }
      where
        in_numbers : (i : Numbered SideChanges) (items : List (Numbered SideChanges)) → In i items → In i.number (numbers_in items)
        in_numbers i items j = in_map (λ (x : Numbered SideChanges). x.number) i items j

    -- ---- the plan of it

    module _ (auxes : List (Numbered SideChanges)) (none : AreNoChanges tree.operators auxes) (memories : List (Numbered (List PairChange))) (are : AreMemoryChangesNow [] made.memories tree.operators memories)
        (plan : Plan) (with_it : IsPlanWith meaning d tree made auxes memories plan) where
      plan_of_it : IsPlanOf meaning d tree test making plan
      plan_of_it = with_it test copies (no_aux auxes none) are

      -- THE PLAN OF THE CHANGES ALONE IS THAT OF THE WRITE
      pub alone_planned : Plans meaning d w.set w.table rows w.ids.next (Ok plan)
      alone_planned = planned meaning laws d good tree w plans test shows making making_is plan plan_of_it

      pub alone_tells_changed : TellsChanged meaning d w plan
      alone_tells_changed = tells_changed meaning laws d good tree w plans test shows making making_is plan plan_of_it

      pub alone_tells_carried : TellsCarried meaning d w plan
      alone_tells_carried = tells_carried meaning laws d good tree w plans test shows making making_is plan plan_of_it

      pub alone_has_old : HasOld d plan
      alone_has_old = has_old meaning laws d good tree w plans test shows making making_is plan plan_of_it

      pub alone_keys_lead : (keys : List (Numbered KeysState)) → AreKeysOf s.tables keys → Each (IsPrepared tree.tables made.tables) keys → KeysLead meaning d keys plan
      alone_keys_lead = keys_lead meaning laws d good tree w plans test shows making making_is plan plan_of_it
