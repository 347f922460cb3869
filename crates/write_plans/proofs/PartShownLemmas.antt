-- What passes a test of a write is the write of what passes, over any operators: where the identifiers that pass split what each operator relates before, each crossing maps them by itself, and they keep the change of each operator's pair to themselves.
use Rattle.std.proofs.Common.{◌≡◌, ◌≤◌, arith, ℕ, List, [], ◌∷◌, Bool, true, false, not, map, inl, inr, refl, sym, ap, ◌∙◌, subst}
use Rattle.std.proofs.lemmas.Bool.{not-true}
use Rattle.row_store.specs.Rows.{Rows}
use Rattle.version_graph.specs.Sets.{Each, In}
use Rattle.version_graph.specs.Laws.{Leaves, Ordered}
use Rattle.version_graph.specs.Forest.{Crossing, Link, crossing, forest, walk}
use Rattle.version_graph.specs.Edges.{is_in}
use Rattle.version_graph.specs.declared.parts.Placed.{Placed}
use Rattle.version_graph.proofs.SetLaws.{each_at}
use Rattle.version_graph.proofs.WalkLaws.{walk_in_order}
use Rattle.op_law.specs.Tables.{Heading}
use Rattle.op_law.specs.Laws.{Laws}
use Rattle.op_law.specs.Local.{only, pair_only, rows_only}
use Rattle.op_law.specs.Meaning.{Meaning, PairState, exchanged}
use Rattle.op_law.specs.Premises.{IsPair}
use Rattle.op_law.proofs.OnlyLaws.{by_test}
use Rattle.pair_parts.specs.Splits.{Splits}
use Rattle.pair_parts.proofs.SplitLaws.{keeps_behind, splits_anywhere, splits_behind, turned}
use Rattle.pair_parts.specs.Apart.{KeepsApart}
use Rattle.pair_parts.specs.Parts.{memory_only, part_of_pair}
use Rattle.row_changes.specs.Touched.{AllPass}
use Rattle.row_changes.proofs.ChangedLaws.{other_changed}
use Rattle.version_model.specs.Put.{put}
use Rattle.version_model.specs.Sound.{IsSound}
use Rattle.version_model.specs.States.{State, headings}
use Rattle.version_model.specs.Steps.{IsRelated, directed, pair_in, run}
use Rattle.version_model.specs.Writes.{MayWrite, write, written}
use Rattle.version_model.proofs.PutLaws.{map_same}
use Rattle.version_model.proofs.RunLaws.{IsReady, run_rises}
use Rattle.version_model.proofs.WriteLaws.{walk_is_ready, written_well}
use Rattle.storage_law.specs.Storage.{aux_of, stored_way}
use Rattle.db_state.specs.Fields.{IsDatabase, state_for}
use Rattle.db_state.specs.Parts.{SplitsAt}
use Rattle.db_state.specs.declared.parts.Parts.{Parts}
use Rattle.db_state.proofs.PartLaws.{only_map}
use Rattle.changes_walk.specs.Reach.{IsWhole, reached}
use Rattle.changes_walk.proofs.ReachLaws.{IsInside, each_reached, passes_by, reaches}
use Rattle.write_plans.specs.Making.{MayPlan, seen_write}
use Rattle.write_plans.specs.Plans.{rows_written}
use Rattle.write_plans.specs.Trees.{part}
use Rattle.write_plans.specs.declared.plans.RowWrite.{RowWrite}
use Rattle.write_plans.specs.declared.tree.Tree.{Tree}
use Rattle.write_plans.proofs.ApartLemmas.{CarriesAt, run_apart}
use Rattle.write_plans.proofs.PartLemmas.{IsPartOf, Rests, put_only, put_own}
use Rattle.write_plans.proofs.ShownLemmas.{Remembers, Shows, end_is, small_is}
use Rattle.write_plans.proofs.TreeLemmas.{part_may, part_memory, part_table, tree_sound}
use Rattle.write_plans.proofs.WholeLemmas.{path, path_inside}

-- an operator that treats each identifier by itself keeps any change to itself
pub local_keeps : (m : Meaning) → Laws m → m.is_local ≡ true → (hs ht : List Heading) (old new : PairState) (P : ℕ → Bool) → IsPair m hs ht old → IsPair m hs ht new
    → pair_only (λ q. not (P q)) new ≡ pair_only (λ q. not (P q)) old → KeepsApart m old new P
local_keeps m laws local hs ht old new P before after same =
    let Q : ℕ → Bool = λ q. not (P q) in
    record {
      splits = splits_anywhere m laws P hs ht new local after;
      at_source = sym ((laws.0.local local).aux Q hs ht new after) ∙ ap (λ (x : PairState). m.aux_at_source x) same ∙ (laws.0.local local).aux Q hs ht old before;
      at_target = sym ((laws.1.local local).aux Q ht hs (exchanged new) (turned m hs ht new after)) ∙ ap (λ (x : PairState). m.aux_at_target x) same ∙ (laws.1.local local).aux Q ht hs (exchanged old) (turned m hs ht old before);
    }

-- what is reached of crossings in order is in order
pub ordered_reached : {O : Type 0} (operators : List ℕ) (ps : List (Crossing O)) → Ordered ps → Ordered (reached operators ps)
ordered_reached {O} operators [] order = tt
ordered_reached {O} operators (p ∷ ps) order =
    let rest = ordered_reached operators ps order.3 in
    let leaves = each_reached operators (Leaves p) ps order.2 in
    by_test (is_in p.number operators)
    (λ e. subst (λ (l : List (Crossing O)). Ordered l) (sym (reaches operators p ps e)) (order.0, order.1, leaves, rest))
    (λ e. subst (λ (l : List (Crossing O)). Ordered l) (sym (passes_by operators p ps e)) rest)

-- a state's pair, restricted
pub only_pair : {O : Type 0} (P : ℕ → Bool) (a b : State) (p : Crossing O) → ((t : ℕ) → In t p.near → rows_only P (a.tables t) ≡ b.tables t) → ((t : ℕ) → In t p.far → rows_only P (a.tables t) ≡ b.tables t) → memory_only P (a.memory p.number) ≡ b.memory p.number
    → part_of_pair P (pair_in a p) ≡ pair_in b p
only_pair P a b p near far memory =
    let n : only P (map a.tables p.near) ≡ map b.tables p.near = sym (only_map P a.tables p.near) ∙ map_same (λ t. rows_only P (a.tables t)) b.tables p.near near in
    let f : only P (map a.tables p.far) ≡ map b.tables p.far = sym (only_map P a.tables p.far) ∙ map_same (λ t. rows_only P (a.tables t)) b.tables p.far far in
    let m : memory_only P (a.memory p.number) ≡ b.memory p.number = memory in
    cc

module _ {O : Type 0} (meaning : O → Meaning) (laws : (o : O) → Laws (meaning o)) (d : Parts O) (good : IsDatabase meaning d) (tree : Tree) (w : RowWrite) (plans : MayPlan meaning d tree w)
    (test : ℕ → Bool) (split : SplitsAt meaning d.graph.edges (state_for meaning d) tree.operators test) where
  abbrev es : List (Placed O)
  es = d.graph.edges

  abbrev s : State
  s = state_for meaning d

  abbrev rows : Rows
  rows = rows_written meaning d w

  abbrev small : State
  small = part test tree s

  abbrev fails : ℕ → Bool
  fails = λ q. not (test q)

  of_tree : IsWhole es tree.operators tree.tables
  of_tree = plans.walked.whole

  related_before : (e : Link O) → In e (forest es) → IsRelated meaning (headings es) s (crossing false e)
  related_before e i = each_at (λ (f : Link O). IsRelated meaning (headings es) s (crossing false f)) (forest es) e i good.sound.related

  pub small_old : IsPartOf test tree s small
  small_old = record { tables = λ t i. sym (part_table test tree s t i); memory = λ n i. sym (part_memory test tree s n i); next = refl }

  -- the tables of an operator of the tree are of the tree
  sides : (e : Link O) (b : Bool) → In e (forest es) → In e.number tree.operators → (t : ℕ) → In t (crossing b e).near → In t tree.tables
  sides e true i own t k = of_tree.tables e i own t (inr k)
  sides e false i own t k = of_tree.tables e i own t (inl k)

  others : (e : Link O) (b : Bool) → In e (forest es) → In e.number tree.operators → (t : ℕ) → In t (crossing b e).far → In t tree.tables
  others e true i own t k = of_tree.tables e i own t (inl k)
  others e false i own t k = of_tree.tables e i own t (inr k)

  -- the pair of the part is the part of the pair
  part_pair : (a b : State) → IsPartOf test tree a b → (e : Link O) (back : Bool) → In e (forest es) → In e.number tree.operators → part_of_pair test (pair_in a (crossing back e)) ≡ pair_in b (crossing back e)
  part_pair a b is e back i own = only_pair test a b (crossing back e) (λ t k. is.tables t (sides e back i own t k)) (λ t k. is.tables t (others e back i own t k)) (is.memory e.number own)

  -- THE PART IS SOUND
  pub small_sound : IsSound meaning es small
  small_sound =
      tree_sound meaning laws es s good.sound tree of_tree test (λ e i own.
      let related = related_before e i in
      let split_here = (split e i own related).related (map (headings es) e.sources) (map (headings es) e.targets) related in
      subst (λ (x : PairState). IsPair (meaning e.operator) (map (headings es) e.sources) (map (headings es) e.targets) x) (part_pair s small small_old e false i own) split_here)

  -- from the side on which an operator is stored
  split_over : (e : Link O) (back : Bool) → In e (forest es) → In e.number tree.operators → Splits (directed back (meaning e.operator)) (pair_in s (crossing back e)) test
  split_over e false i own = split e i own (related_before e i)
  split_over e true i own = splits_behind (meaning e.operator) test (pair_in s (crossing false e)) (split e i own (related_before e i))

  -- the crossings that the write can reach
  abbrev ps : List (Crossing O)
  ps = path es w.set w.table tree plans.walked

  inside : Each (IsInside tree.operators tree.tables) ps
  inside = path_inside es w.set w.table tree plans.walked

  ordered : Ordered ps
  ordered = ordered_reached tree.operators (walk (forest es) w.set) (walk_in_order es good.graph.edges w.set)

  ready : Each (IsReady meaning (headings es) s) ps
  ready = each_reached tree.operators (IsReady meaning (headings es) s) (walk (forest es) w.set) (walk_is_ready meaning es s good.sound w.set)

  ready_small : Each (IsReady meaning (headings es) small) ps
  ready_small = each_reached tree.operators (IsReady meaning (headings es) small) (walk (forest es) w.set) (walk_is_ready meaning es small small_sound w.set)

  small_may : MayWrite es small w.set w.table (rows_only test rows) w.ids.next
  small_may = part_may meaning laws es s good.sound tree of_tree test w.set w.table rows w.ids.next plans.may

  -- where the write begins, and its part
  abbrev start : State
  start = written s w.table rows w.ids.next

  abbrev small_begin : State
  small_begin = written small w.table (rows_only test rows) w.ids.next

  abbrev end : State
  end = write meaning es s w.set w.table rows w.ids.next

  small_start : IsPartOf test tree start small_begin
  small_start = record {
    tables = λ t i. put_only test s.tables small.tables (w.table ∷ []) (rows ∷ []) t (small_old.tables t i);
    memory = small_old.memory;
    next = refl;
  }

  -- each crossing maps what passes by itself, by the near tables at the end of the part
  abbrev pub CarriesAll : Type 0
  CarriesAll = Each (CarriesAt meaning laws tree (headings es) s small good.sound.well small_sound.well test small_old (run meaning small small_begin ps)) ps

  -- its next identifier isn't below that of the state before
  pub end_up : s.next ≤ (seen_write meaning d tree w test).next
  end_up =
      let more : s.next ≤ w.ids.next = plans.may.more in
      let up : w.ids.next ≤ (run meaning small small_begin ps).next =
      run_rises meaning laws (headings es) small small_sound.well ps small_begin (written_well meaning es small small_sound w.set w.table (rows_only test rows) w.ids.next small_may) plans.may.more ready_small in
      subst (λ (x : State). s.next ≤ x.next) (sym (small_is meaning laws d good tree w plans test small_sound)) (omega (arith, more, up))

  -- what is kept beside the stored side of the part
  pub before_part : (e : Link O) → In e (forest es) → In e.number tree.operators → aux_of meaning small (stored_way d.layout.operators e) ≡ only test (aux_of meaning s (stored_way d.layout.operators e))
  before_part e i own =
      let b = is_in e.number d.layout.operators in
      ap (λ (x : PairState). (directed b (meaning e.operator)).aux_at_source x) (sym (part_pair s small small_old e b i own)) ∙ (split_over e b i own).at_source

  module _ (named : AllPass test w.changes) where
    rests_start : Rests fails tree s start
    rests_start =
        let same : rows_only fails rows ≡ rows_only fails (s.tables w.table) = other_changed test fails (s.tables w.table) w.changes (good.sound.well.tables w.table).0 named (λ q e. not-true (test q) e) in
        record {
          tables = λ t i.
              put_only fails s.tables (λ u. rows_only fails (s.tables u)) (w.table ∷ []) (rows ∷ []) t refl
              ∙ ap (λ (x : Rows). put (λ u. rows_only fails (s.tables u)) (w.table ∷ []) (x ∷ []) t) same
              ∙ put_own (λ u. rows_only fails (s.tables u)) (λ u. rows_only fails (s.tables u)) (w.table ∷ []) t refl;
          memory = λ n i. refl;
        }

    module _ (carries : CarriesAll) where
      both : IsPartOf test tree (run meaning s start ps) (run meaning small small_begin ps) × Rests fails tree s (run meaning s start ps)
      both =
          run_apart meaning laws tree (headings es) s small good.sound.well small_sound.well test small_old ps start small_begin small_start rests_start
          (written_well meaning es s good.sound w.set w.table rows w.ids.next plans.may) plans.may.more
          (written_well meaning es small small_sound w.set w.table (rows_only test rows) w.ids.next small_may) plans.may.more ready ready_small inside ordered carries

      -- the part of the write, and what it leaves
      pub of_end : IsPartOf test tree end (seen_write meaning d tree w test)
      of_end =
          subst (λ (x : State). IsPartOf test tree x (seen_write meaning d tree w test)) (sym (end_is meaning laws d good tree w plans))
          (subst (λ (x : State). IsPartOf test tree (run meaning s start ps) x) (sym (small_is meaning laws d good tree w plans test small_sound)) both.0)

      pub rests : Rests fails tree s end
      rests = subst (λ (x : State). Rests fails tree s x) (sym (end_is meaning laws d good tree w plans)) both.1

      module _ (apart : (e : Link O) → In e (forest es) → In e.number tree.operators → KeepsApart (meaning e.operator) (pair_in s (crossing false e)) (pair_in end (crossing false e)) test)
          (remembered : (n : ℕ) → In n tree.operators → Remembers test (s.memory n) × Remembers test (end.memory n)) where
        apart_over : (e : Link O) (back : Bool) → In e (forest es) → In e.number tree.operators → KeepsApart (directed back (meaning e.operator)) (pair_in s (crossing back e)) (pair_in end (crossing back e)) test
        apart_over e false i own = apart e i own
        apart_over e true i own = keeps_behind (meaning e.operator) test (pair_in s (crossing false e)) (pair_in end (crossing false e)) (apart e i own)

        -- from what is stored
        abbrev back : Link O → Bool
        back e = is_in e.number d.layout.operators

        -- THE WRITE OF WHAT PASSES IS WHAT PASSES OF THE WRITE
        pub part_shown : Shows meaning d tree w test
        part_shown = record {
          part = of_end;
          rests = rests;
          remembered = remembered;
          aux_before = before_part;
          aux_part = λ e i own.
              ap (λ (x : PairState). (directed (back e) (meaning e.operator)).aux_at_source x) (sym (part_pair end (seen_write meaning d tree w test) of_end e (back e) i own)) ∙ (apart_over e (back e) i own).splits.at_source;
          aux_rests = λ e i own. sym (apart_over e (back e) i own).at_source;
        }
