-- What passes a test of a write is the write of what passes, over operators that treat each identifier by itself, and over any where all passes.
use Rattle.std.specs.Prelude.{Result}
use Rattle.std.proofs.Common.{◌≡◌, ℕ, List, [], ◌∷◌, Bool, true, false, not, cond, length, map, inl, inr, refl, sym, ap, ◌∙◌, subst}
use Rattle.std.proofs.lemmas.Bool.{cond-false, not-true}
use Rattle.std.proofs.Math.Path.{fun_ext}
use Rattle.par_base.specs.declared.fault.Fault.{Fault}
use Rattle.par_base.specs.declared.refusal.IdsSpent.{IdsSpent}
use Rattle.row_store.specs.Rows.{Rows, RiseFrom}
use Rattle.version_graph.specs.Sets.{Each, In}
use Rattle.version_graph.specs.Forest.{Crossing, Link, crossing, forest, walk}
use Rattle.version_graph.specs.declared.parts.Placed.{Placed}
use Rattle.version_graph.proofs.SetLaws.{each_at, each_of}
use Rattle.op_law.specs.Tables.{Heading, Tables}
use Rattle.op_law.specs.Laws.{HalfLaws, Laws}
use Rattle.op_law.specs.Local.{HalfLocal, only, pair_only, rows_only}
use Rattle.op_law.specs.Meaning.{Meaning, PairState}
use Rattle.op_law.specs.Premises.{IsPair}
use Rattle.id_memory.specs.Pairs.{Pairs}
use Rattle.pair_parts.specs.Parts.{IsMemory, memory_only}
use Rattle.pair_parts.proofs.MemoryLaws.{none_stand}
use Rattle.row_changes.specs.Touched.{AllPass}
use Rattle.row_changes.proofs.ChangedLaws.{other_changed}
use Rattle.version_model.specs.Sound.{IsSound}
use Rattle.version_model.specs.States.{State, headings}
use Rattle.version_model.specs.Steps.{IsRelated, directed, pair_in, run}
use Rattle.version_model.specs.Writes.{write, written}
use Rattle.version_model.proofs.CrossingLaws.{GoesOver, walk_goes_over}
use Rattle.version_model.specs.Put.{put}
use Rattle.version_model.proofs.PutLaws.{map_same}
use Rattle.version_model.proofs.RunLaws.{IsReady, way_laws}
use Rattle.version_model.proofs.WriteLaws.{walk_is_ready, write_is_ordinary, written_well}
use Rattle.version_graph.specs.Edges.{is_in}
use Rattle.storage_law.proofs.CanonicalLaws.{either_way}
use Rattle.storage_law.specs.Storage.{aux_of, stored_way}
use Rattle.db_state.specs.Fields.{IsDatabase, state_for}
use Rattle.db_state.specs.Parts.{AreLocalAt, passes}
use Rattle.db_state.specs.declared.parts.Parts.{Parts}
use Rattle.write_plans.specs.Making.{MakesWrite, MayPlan, MayShow, names_of, seen_write}
use Rattle.write_plans.specs.Plans.{rows_written}
use Rattle.changes_walk.specs.Reach.{IsWhole}
use Rattle.changes_walk.proofs.ReachLaws.{IsInside, each_reached, write_reached}
use Rattle.write_plans.specs.Trees.{part}
use Rattle.write_plans.specs.declared.making.Making.{Making}
use Rattle.write_plans.specs.declared.plans.RowWrite.{RowWrite}
use Rattle.write_plans.specs.declared.tree.Tree.{Tree}
use Rattle.write_plans.proofs.PartLemmas.{IsLocalInside, IsPartOf, Rests, put_only, put_own, run_part, run_rests}
use Rattle.db_state.proofs.PartLaws.{only_map}
use Rattle.write_plans.proofs.TreeLemmas.{Agrees, all_agrees, all_entries, all_rows, all_sound, local_sound, part_may, part_memory, part_table, same_pair, write_agrees}
use Rattle.write_plans.proofs.WholeLemmas.{lives, path, path_inside}
use Rattle.db_state.specs.declared.sight.Sight.{Sight}
use Rattle.db_state.specs.declared.sight.Sight.TheVariants.{All, Of, Part}

-- where all pass, all rows do, and none fails
all_tables : (test : ℕ → Bool) → ((q : ℕ) → test q ≡ true) → (ts : Tables) → only test ts ≡ ts
all_tables test all [] = refl
all_tables test all (t ∷ ts) = ap (λ (x : Rows). x ∷ only test ts) (all_rows test all t) ∙ ap (λ (x : Tables). t ∷ x) (all_tables test all ts)

no_rows : (test : ℕ → Bool) → ((q : ℕ) → test q ≡ true) → (rows : Rows) → rows_only (λ q. not (test q)) rows ≡ []
no_rows test all [] = refl
no_rows test all (r ∷ rs) = cond-false (not (test r.0)) (r ∷ rows_only (λ q. not (test q)) rs) (rows_only (λ q. not (test q)) rs) (ap not (all r.0)) ∙ no_rows test all rs

no_entries : (test : ℕ → Bool) → ((q : ℕ) → test q ≡ true) → (es : Pairs) → memory_only (λ q. not (test q)) es ≡ []
no_entries test all [] = refl
no_entries test all (e ∷ es) = cond-false (not (test e.0)) (e ∷ memory_only (λ q. not (test q)) es) (memory_only (λ q. not (test q)) es) (ap not (all e.0)) ∙ no_entries test all es

no_tables : (test : ℕ → Bool) → ((q : ℕ) → test q ≡ true) → (ts us : Tables) → length ts ≡ length us → only (λ q. not (test q)) ts ≡ only (λ q. not (test q)) us
no_tables test all [] [] long = refl
no_tables test all [] (u ∷ us) long = absurd (let none : ⊥ = cc in none)
no_tables test all (t ∷ ts) [] long = absurd (let none : ⊥ = cc in none)
no_tables test all (t ∷ ts) (u ∷ us) long =
    let rest : length ts ≡ length us = cc in
    ap (λ (x : Rows). x ∷ only (λ q. not (test q)) ts) (no_rows test all t ∙ sym (no_rows test all u)) ∙ ap (λ (x : Tables). rows_only (λ q. not (test q)) u ∷ x) (no_tables test all ts us rest)

-- where what passes is a memory, all is
abbrev pub Remembers : (ℕ → Bool) → Pairs → Type 0
Remembers test es = IsMemory (memory_only test es) → IsMemory es

-- ---- what a write shows of a tree

module _ {O : Type 0} (meaning : O → Meaning) (d : Parts O) (tree : Tree) (w : RowWrite) (test : ℕ → Bool) where
  abbrev whole_end : State
  whole_end = write meaning d.graph.edges (state_for meaning d) w.set w.table (rows_written meaning d w) w.ids.next

  abbrev aux_in : State → Link O → Tables
  aux_in x e = aux_of meaning x (stored_way d.layout.operators e)

  -- what passes the test, of the tables and memories of the tree and of the auxiliary tables of its operators, is what the write of what passes makes, and what fails stays
  pub record Shows : Type 0 where
    pub aux_before : (e : Link O) → In e (forest d.graph.edges) → In e.number tree.operators → aux_in (part test tree (state_for meaning d)) e ≡ only test (aux_in (state_for meaning d) e)
    pub part : IsPartOf test tree whole_end (seen_write meaning d tree w test)
    pub rests : Rests (λ id. not (test id)) tree (state_for meaning d) whole_end
    pub remembered : (n : ℕ) → In n tree.operators → Remembers test ((state_for meaning d).memory n) × Remembers test (whole_end.memory n)
    pub aux_part : (e : Link O) → In e (forest d.graph.edges) → In e.number tree.operators → aux_in (seen_write meaning d tree w test) e ≡ only test (aux_in whole_end e)
    pub aux_rests : (e : Link O) → In e (forest d.graph.edges) → In e.number tree.operators → only (λ id. not (test id)) (aux_in (state_for meaning d) e) ≡ only (λ id. not (test id)) (aux_in whole_end e)

-- ---- the operators of the tree

module _ {O : Type 0} (meaning : O → Meaning) (laws : (o : O) → Laws (meaning o)) (d : Parts O) (good : IsDatabase meaning d) (tree : Tree) (w : RowWrite) (plans : MayPlan meaning d tree w) where
  abbrev es : List (Placed O)
  es = d.graph.edges

  abbrev s : State
  s = state_for meaning d

  abbrev rows : Rows
  rows = rows_written meaning d w

  abbrev start : State
  start = written s w.table rows w.ids.next

  -- after the whole write
  abbrev end : State
  end = write meaning es s w.set w.table rows w.ids.next

  of_tree : IsWhole es tree.operators tree.tables
  of_tree = plans.walked.whole

  -- the crossings that the write can reach
  abbrev ps : List (Crossing O)
  ps = path es w.set w.table tree plans.walked

  inside : Each (IsInside tree.operators tree.tables) ps
  inside = path_inside es w.set w.table tree plans.walked

  -- they make the whole write
  pub end_is : end ≡ run meaning s start ps
  end_is = write_reached es w.set w.table tree.operators tree.tables plans.walked meaning s laws good.sound rows w.ids.next plans.may

  -- and that of a part that is sound
  pub small_is : (test : ℕ → Bool) → IsSound meaning es (part test tree s) → seen_write meaning d tree w test ≡ run meaning (part test tree s) (written (part test tree s) w.table (rows_only test rows) w.ids.next) ps
  small_is test sound =
      write_reached es w.set w.table tree.operators tree.tables plans.walked meaning (part test tree s) laws sound (rows_only test rows) w.ids.next
      (part_may meaning laws es s good.sound tree of_tree test w.set w.table rows w.ids.next plans.may)

  pub end_sound : IsSound meaning es end
  end_sound = (write_is_ordinary meaning es s good.sound w.set w.table rows w.ids.next plans.may laws good.graph.edges).sound

  -- the way over an operator from what is stored
  abbrev over : Link O → Crossing O
  over e = stored_way d.layout.operators e

  abbrev at : Link O → Meaning
  at e = directed (over e).backward (meaning e.operator)

  half : (e : Link O) → HalfLaws (at e)
  half e = way_laws (over e).backward (meaning e.operator) (laws e.operator)

  pub related_in : (x : State) → IsSound meaning es x → (e : Link O) → In e (forest es) → IsPair (at e) (map (headings es) (over e).near) (map (headings es) (over e).far) (pair_in x (over e))
  related_in x sound e i = either_way meaning (headings es) x false (is_in e.number d.layout.operators) e (each_at (λ (f : Link O). IsRelated meaning (headings es) x (crossing false f)) (forest es) e i sound.related)

  sides : (e : Link O) → In e (forest es) → In e.number tree.operators → (t : ℕ) → In t (over e).near → In t tree.tables
  sides e i own t k = elim (is_in e.number d.layout.operators) as (λ b. In t (cond b e.targets e.sources) → In t tree.tables) [ true ↦ λ j. of_tree.tables e i own t (inr j) | false ↦ λ j. of_tree.tables e i own t (inl j) ] k

  others : (e : Link O) → In e (forest es) → In e.number tree.operators → (t : ℕ) → In t (over e).far → In t tree.tables
  others e i own t k = elim (is_in e.number d.layout.operators) as (λ b. In t (cond b e.sources e.targets) → In t tree.tables) [ true ↦ λ j. of_tree.tables e i own t (inl j) | false ↦ λ j. of_tree.tables e i own t (inr j) ] k

  -- ---- where all identifiers pass

  module _ (test : ℕ → Bool) (all : (q : ℕ) → test q ≡ true) where
    abbrev all_small : State
    all_small = seen_write meaning d tree w test

    agree : Agrees tree end all_small
    agree =
        subst (λ (x : State). Agrees tree x all_small) (sym end_is)
        (subst (λ (x : State). Agrees tree (run meaning s start ps) x) (sym (small_is test (all_sound meaning laws es s good.sound tree of_tree test all)))
        (subst (λ (x : Rows). Agrees tree (run meaning s start ps) (run meaning (part test tree s) (written (part test tree s) w.table x w.ids.next) ps)) (sym (all_rows test all rows))
        (write_agrees meaning tree s ps w.table rows w.ids.next inside (part test tree s) (all_agrees test all tree s))))

    -- THE WRITE OF THE TREE IS THE WRITE THERE
    pub all_shown : Shows meaning d tree w test
    all_shown = record {
      part = record { tables = λ t i. all_rows test all (end.tables t) ∙ agree.tables t i; memory = λ n i. all_entries test all (end.memory n) ∙ agree.memory n i; next = agree.next };
      rests = record {
        tables = λ t i. no_rows test all (end.tables t) ∙ sym (no_rows test all (s.tables t));
        memory = λ n i. no_entries test all (end.memory n) ∙ sym (no_entries test all (s.memory n));
      };
      remembered = λ n i. (λ is. subst (λ (x : Pairs). IsMemory x) (all_entries test all (s.memory n)) is, λ is. subst (λ (x : Pairs). IsMemory x) (all_entries test all (end.memory n)) is);
      aux_before = λ e i own.
          let before = all_agrees test all tree s in
          ap (λ (x : PairState). (at e).aux_at_source x)
          (same_pair (part test tree s) s (over e) (λ t k. sym (before.tables t (sides e i own t k))) (λ t k. sym (before.tables t (others e i own t k))) (sym (before.memory e.number own)))
          ∙ sym (all_tables test all (aux_of meaning s (over e)));
      aux_part = λ e i own.
          ap (λ (x : PairState). (at e).aux_at_source x)
          (same_pair all_small end (over e) (λ t k. sym (agree.tables t (sides e i own t k))) (λ t k. sym (agree.tables t (others e i own t k))) (sym (agree.memory e.number own)))
          ∙ sym (all_tables test all (aux_of meaning end (over e)));
      aux_rests = λ e i own.
          no_tables test all (aux_of meaning s (over e)) (aux_of meaning end (over e))
          ((half e).aux_many (map (headings es) (over e).near) (map (headings es) (over e).far) (pair_in s (over e)) (pair_in end (over e)) (related_in s good.sound e i) (related_in end end_sound e i));
    }

  -- ---- where each operator treats each identifier by itself

  module _ (local : AreLocalAt meaning d.graph.edges tree.operators) (test : ℕ → Bool) (named : AllPass test w.changes) where
    abbrev small : State
    small = seen_write meaning d tree w test

    abbrev fails : ℕ → Bool
    fails = λ id. not (test id)

    -- each crossing of the walk is over an operator that treats each identifier by itself
    over_local : (e : Link O) (back : Bool) → In e (forest es) → In e.number tree.operators → HalfLocal (directed back (meaning e.operator))
    over_local e true i own = (way_laws true (meaning e.operator) (laws e.operator)).local (local e i own)
    over_local e false i own = (way_laws false (meaning e.operator) (laws e.operator)).local (local e i own)

    pub here : Each (IsLocalInside meaning laws tree) ps
    here =
        each_of (IsLocalInside meaning laws tree) ps (λ p i.
        let at = each_at (IsInside tree.operators tree.tables) ps p i inside in
        let over = each_at (GoesOver (forest es)) ps p i (each_reached tree.operators (GoesOver (forest es)) (walk (forest es) w.set) (walk_goes_over (forest es) w.set)) in
        let own : In over.over.number tree.operators = subst (λ (q : Crossing O). In q.number tree.operators) over.is at.number in
        record {
          inside = at;
          local = subst (λ (q : Crossing O). HalfLocal (directed q.backward (meaning q.operator))) (sym over.is) (local_of over.over over.back over.among own);
        })
      where
        local_of : (e : Link O) (back : Bool) → In e (forest es) → In e.number tree.operators → HalfLocal (directed (crossing back e).backward (meaning (crossing back e).operator))
        local_of e true i own = over_local e true i own
        local_of e false i own = over_local e false i own

    ready : Each (IsReady meaning (headings es) s) ps
    ready = each_reached tree.operators (IsReady meaning (headings es) s) (walk (forest es) w.set) (walk_is_ready meaning es s good.sound w.set)

    rise_before : (t : ℕ) → RiseFrom 0 (s.tables t)
    rise_before t = (good.sound.well.tables t).0

    -- the part of the write

    small_old : IsPartOf test tree s (part test tree s)
    small_old = record { tables = λ t i. sym (part_table test tree s t i); memory = λ n i. sym (part_memory test tree s n i); next = refl }

    small_start : IsPartOf test tree start (written (part test tree s) w.table (rows_only test rows) w.ids.next)
    small_start = record {
      tables = λ t i. put_part t (small_old.tables t i);
      memory = small_old.memory;
      next = refl;
    }
      where
        put_part : (t : ℕ) → rows_only test (s.tables t) ≡ (part test tree s).tables t → rows_only test (start.tables t) ≡ (written (part test tree s) w.table (rows_only test rows) w.ids.next).tables t
        put_part t h = put_only test s.tables (part test tree s).tables (w.table ∷ []) (rows ∷ []) t h

    of_end : IsPartOf test tree end small
    of_end =
        subst (λ (x : State). IsPartOf test tree x small) (sym end_is)
        (subst (λ (x : State). IsPartOf test tree (run meaning s start ps) x) (sym (small_is test (local_sound meaning laws es s good.sound tree of_tree test local)))
        (run_part meaning laws tree (headings es) s good.sound.well test (part test tree s) small_old ps start (written (part test tree s) w.table (rows_only test rows) w.ids.next)
        small_start (written_well meaning es s good.sound w.set w.table rows w.ids.next plans.may) plans.may.more ready here))

    -- elsewhere nothing changes

    rests_start : Rests fails tree s start
    rests_start =
        let same : rows_only fails rows ≡ rows_only fails (s.tables w.table) = other_changed test fails (s.tables w.table) w.changes (rise_before w.table) named (λ q e. not-true (test q) e) in
        record {
          tables = λ t i. put_only fails s.tables (λ u. rows_only fails (s.tables u)) (w.table ∷ []) (rows ∷ []) t refl ∙ put_same_at t same;
          memory = λ n i. refl;
        }
      where
        put_same_at : (t : ℕ) → rows_only fails rows ≡ rows_only fails (s.tables w.table) → put (λ u. rows_only fails (s.tables u)) (w.table ∷ []) (rows_only fails rows ∷ []) t ≡ rows_only fails (s.tables t)
        put_same_at t same = ap (λ (x : Rows). put (λ u. rows_only fails (s.tables u)) (w.table ∷ []) (x ∷ []) t) same ∙ put_own (λ u. rows_only fails (s.tables u)) (λ u. rows_only fails (s.tables u)) (w.table ∷ []) t refl

    rests : Rests fails tree s end
    rests =
        subst (λ (x : State). Rests fails tree s x) (sym end_is)
        (run_rests meaning laws tree (headings es) s good.sound.well fails ps start rests_start (written_well meaning es s good.sound w.set w.table rows w.ids.next plans.may) plans.may.more ready here)

    -- no operator of the tree has a memory
    none_before : (e : Link O) → In e (forest es) → In e.number tree.operators → s.memory e.number ≡ []
    none_before e i own =
        (over_local e false i own).no_memory (map (headings es) e.sources) (map (headings es) e.targets) (pair_in s (crossing false e))
        (each_at (λ (f : Link O). IsRelated meaning (headings es) s (crossing false f)) (forest es) e i good.sound.related)

    none_after : (e : Link O) → In e (forest es) → In e.number tree.operators → end.memory e.number ≡ []
    none_after e i own =
        (over_local e false i own).no_memory (map (headings es) e.sources) (map (headings es) e.targets) (pair_in end (crossing false e))
        (each_at (λ (f : Link O). IsRelated meaning (headings es) end (crossing false f)) (forest es) e i end_sound.related)

    -- a state's pair of an operator of the tree, restricted
    only_pair : (P : ℕ → Bool) (a b : State) (p : Crossing O) → ((t : ℕ) → In t p.near → rows_only P (a.tables t) ≡ b.tables t) → ((t : ℕ) → In t p.far → rows_only P (a.tables t) ≡ b.tables t) → a.memory p.number ≡ b.memory p.number → pair_only P (pair_in a p) ≡ pair_in b p
    only_pair P a b p near far memory =
        let n : only P (map a.tables p.near) ≡ map b.tables p.near = sym (only_map P a.tables p.near) ∙ map_same (λ t. rows_only P (a.tables t)) b.tables p.near near in
        let f : only P (map a.tables p.far) ≡ map b.tables p.far = sym (only_map P a.tables p.far) ∙ map_same (λ t. rows_only P (a.tables t)) b.tables p.far far in
        let m : a.memory p.number ≡ b.memory p.number = memory in
        cc

    module _ (e : Link O) (i : In e (forest es)) (own : In e.number tree.operators) where
      abbrev hs : List Heading
      hs = map (headings es) (over e).near

      abbrev ht : List Heading
      ht = map (headings es) (over e).far

      law : HalfLocal (at e)
      law = over_local e (over e).backward i own

      same_memory : end.memory e.number ≡ s.memory e.number
      same_memory = none_after e i own ∙ sym (none_before e i own)

      -- nor has the part one
      old_memory : s.memory e.number ≡ (part test tree s).memory e.number
      old_memory = let none = none_before e i own in none ∙ sym (ap (memory_only test) none) ∙ small_old.memory e.number own

      new_memory : end.memory e.number ≡ small.memory e.number
      new_memory = let none = none_after e i own in none ∙ sym (ap (memory_only test) none) ∙ of_end.memory e.number own

      -- what passes of the old ones is that of the part
      old_part : aux_of meaning (part test tree s) (over e) ≡ only test (aux_of meaning s (over e))
      old_part =
          ap (λ (x : PairState). (at e).aux_at_source x) (sym (only_pair test s (part test tree s) (over e) (λ t k. small_old.tables t (sides e i own t k)) (λ t k. small_old.tables t (others e i own t k)) old_memory))
          ∙ law.aux test hs ht (pair_in s (over e)) (related_in s good.sound e i)

      -- what passes of the new ones was made
      made_part : aux_of meaning small (over e) ≡ only test (aux_of meaning end (over e))
      made_part =
          ap (λ (x : PairState). (at e).aux_at_source x) (sym (only_pair test end small (over e) (λ t k. of_end.tables t (sides e i own t k)) (λ t k. of_end.tables t (others e i own t k)) new_memory))
          ∙ law.aux test hs ht (pair_in end (over e)) (related_in end end_sound e i)

      -- what fails stays
      same_rest : only fails (aux_of meaning s (over e)) ≡ only fails (aux_of meaning end (over e))
      same_rest =
          let rest : State = record { tables = λ t. rows_only fails (s.tables t); memory = s.memory; next = s.next } in
          let old = only_pair fails s rest (over e) (λ t k. refl) (λ t k. refl) refl in
          let new = only_pair fails end rest (over e) (λ t k. rests.tables t (sides e i own t k)) (λ t k. rests.tables t (others e i own t k)) same_memory in
          sym (law.aux fails hs ht (pair_in s (over e)) (related_in s good.sound e i)) ∙ ap (λ (x : PairState). (at e).aux_at_source x) (old ∙ sym new)
          ∙ law.aux fails hs ht (pair_in end (over e)) (related_in end end_sound e i)

    -- THE WRITE OF WHAT PASSES IS WHAT PASSES OF THE WRITE
    pub local_shown : Shows meaning d tree w test
    local_shown = record { part = of_end; rests = rests; remembered = all_remembered; aux_before = old_part; aux_part = made_part; aux_rests = same_rest }
      where
        all_remembered : (n : ℕ) → In n tree.operators → Remembers test (s.memory n) × Remembers test (end.memory n)
        all_remembered n i =
            let l = lives es w.set w.table tree plans.walked n i in
            let own : In l.0.number tree.operators = subst (λ (k : ℕ). In k tree.operators) l.2 i in
            (λ is. none_stand (s.memory n) (ap s.memory l.2 ∙ none_before l.0 l.1 own), λ is. none_stand (end.memory n) (ap end.memory l.2 ∙ none_after l.0 l.1 own))

  -- so it is of whatever is seen
  pub shown : (sight : Sight) → MayShow meaning es tree.operators sight → AllPass (passes sight) w.changes → Shows meaning d tree w (passes sight)
  shown All sees named = all_shown (passes All) (λ q. refl)
  shown (Of ids) sees named = local_shown sees.1 (passes (Of ids)) named
  shown (Part ids) sees named = absurd sees

-- what is seen of it is all that its changes name
pub named_seen : {O : Type 0} (meaning : O → Meaning) (es : List (Placed O)) (ns : List ℕ) (sight : Sight) → MayShow meaning es ns sight → names_of sight ≡ passes sight
named_seen meaning _ ns All sees = fun_ext (λ id. refl)
named_seen meaning _ ns (Of ids) sees = fun_ext (λ id. refl)
named_seen meaning _ ns (Part ids) sees = absurd sees

-- so what was made of it names what is seen
pub seen_makes : {O : Type 0} (meaning : O → Meaning) (d : Parts O) (tree : Tree) (w : RowWrite) (sight : Sight) → MayShow meaning d.graph.edges tree.operators sight → (result : Result Making (Fault IdsSpent))
    → MakesWrite meaning d tree w (passes sight) (names_of sight) result → MakesWrite meaning d tree w (passes sight) (passes sight) result
seen_makes meaning d tree w sight sees result makes = subst (λ (names : ℕ → Bool). MakesWrite meaning d tree w (passes sight) names result) (named_seen meaning d.graph.edges tree.operators sight sees) makes
