-- The changes of a write of what is seen of a tree may be carried, and what follows where they were.
use Rattle.std.specs.Prelude.{◌==◌, ◌+◌, if◌then◌else◌}
use Rattle.std.proofs.Common.{◌≡◌, ℕ, ◌*◌, ◌≤◌, length, List, [], ◌∷◌, Bool, true, false, map, Ok, Err, refl, sym, ap, ◌∙◌, subst, arith}
use Rattle.std.proofs.lemmas.Bool.{cond-true, eq-eqb}
use Rattle.std.proofs.lemmas.List.{length-map}
use Rattle.std.proofs.lemmas.Nat.{mul-le}
use Rattle.std.proofs.Math.Path.{fun_ext}
use Rattle.par_base.specs.declared.fault.Fault.{Fault}
use Rattle.par_base.specs.declared.fault.Fault.TheVariants.{Refused, Memory as OutOfMemory}
use Rattle.par_base.specs.declared.refusal.IdsSpent.{IdsSpent}
use Rattle.row_store.specs.Rows.{Rows}
use Rattle.row_store.specs.Changes.{AreOld, ChangesRise}
use Rattle.row_store.specs.declared.change.Change.{Change}
use Rattle.op_law.specs.Identifiers.{IdsRise, has_id}
use Rattle.op_law.specs.Calls.{IsSpent, first_refused}
use Rattle.op_law.specs.Laws.{Laws}
use Rattle.op_law.specs.Local.{only, rows_only}
use Rattle.op_law.specs.Meaning.{Meaning}
use Rattle.version_graph.specs.Sets.{In}
use Rattle.version_graph.specs.Forest.{Crossing, Link, crossing, forest, walk}
use Rattle.version_graph.specs.declared.parts.Placed.{Placed}
use Rattle.version_graph.proofs.SetLaws.{each_at, each_of}
use Rattle.row_changes.specs.Changed.{changed}
use Rattle.row_changes.specs.Touched.{AllPass}
use Rattle.row_changes.proofs.ChangedLaws.{only_changed, only_old}
use Rattle.changes_walk.specs.Calls.{MayCarryBy}
use Rattle.changes_walk.specs.Changing.{changing_state, latest_changes}
use Rattle.changes_walk.specs.declared.progress.Changing.{Changing}
use Rattle.changes_walk.proofs.StartLaws.{first_fit, first_state}
use Rattle.version_model.specs.Bounds.{AreLocal}
use Rattle.version_model.specs.Kept.{HasSides, auxes_at, rows_at}
use Rattle.version_model.specs.Sound.{IsSound}
use Rattle.version_model.specs.States.{State, headings}
use Rattle.version_model.specs.Steps.{IsRelated, run}
use Rattle.version_model.specs.Writes.{MayWrite, write, written}
use Rattle.version_model.proofs.ProgressLaws.{state_is}
use Rattle.version_model.proofs.WriteLaws.{write_is_ordinary}
use Rattle.storage_law.specs.Storage.{StandsOver, aux_of, stored_way}
use Rattle.db_state.specs.Calls.{IsRelatedAt}
use Rattle.db_state.specs.Fields.{IsDatabase, state_for, storage_in}
use Rattle.db_state.specs.Parts.{MaySee, SeenWithin, passes}
use Rattle.db_state.specs.declared.parts.Parts.{Parts}
use Rattle.db_state.specs.declared.sight.Sight.{Sight}
use Rattle.db_state.specs.declared.sight.Sight.TheVariants.{All, Of, Part}
use Rattle.write_plans.specs.Calls.{CopiesTree}
use Rattle.write_plans.specs.Making.{CarriesWrite, CarriesWriteWithin, IsMaking, MakesWrite, MayChangeAuxAt, MayChangeAuxes, MayPlan, copied_state, first_changes, names_of, seen_write}
use Rattle.write_plans.specs.Plans.{rows_written}
use Rattle.changes_walk.specs.Reach.{IsWhole}
use Rattle.write_plans.specs.Trees.{part}
use Rattle.write_plans.specs.declared.copies.Copies.{Copies}
use Rattle.write_plans.specs.declared.making.Making.{Making}
use Rattle.write_plans.specs.declared.plans.RowWrite.{RowWrite}
use Rattle.write_plans.specs.declared.tree.Tree.{Tree}
use Rattle.write_plans.proofs.PartShownLemmas.{before_part, small_sound}
use Rattle.write_plans.proofs.ShownLemmas.{shown}
use Rattle.write_plans.proofs.TreeLemmas.{all_sound, local_sound, part_may, part_table}
use Rattle.write_plans.proofs.WholeLemmas.{lives, path, path_local, path_long}

-- the identifiers that changes name pass where the rows of these are seen
abbrev pub ids_of : List Change → List ℕ
ids_of changes = map (λ (change : Change). change.id) changes

pub named_rise : (n : ℕ) (cs : List Change) → ChangesRise n cs → IdsRise n (ids_of cs)
named_rise n [] rise = tt
named_rise n (c ∷ cs) rise = (rise.0, named_rise (c.id + 1) cs rise.1)

more_pass : (id : ℕ) (ids : List ℕ) (cs : List Change) → AllPass (has_id ids) cs → AllPass (has_id (id ∷ ids)) cs
more_pass id ids [] pass = tt
more_pass id ids (c ∷ cs) pass = (elim (id == c.id) as (λ b. (if b then true else has_id ids c.id) ≡ true) [ true ↦ refl | false ↦ pass.0 ], more_pass id ids cs pass.1)

pub named_pass : (cs : List Change) → AllPass (has_id (ids_of cs)) cs
named_pass [] = tt
named_pass (c ∷ cs) = (cond-true (c.id == c.id) true (has_id (ids_of cs) c.id) (eq-eqb c.id c.id refl), more_pass c.id (ids_of cs) cs (named_pass cs))

-- what passes one test passes a wider one
pub pass_wider : (P Q : ℕ → Bool) → ((id : ℕ) → P id ≡ true → Q id ≡ true) → (cs : List Change) → AllPass P cs → AllPass Q cs
pass_wider P Q wider [] pass = tt
pass_wider P Q wider (c ∷ cs) pass = (wider c.id pass.0, pass_wider P Q wider cs pass.1)

-- as many identifiers as changes
pub steps_named : (cs : List Change) (ids : List ℕ) → ids ≡ ids_of cs → (n most s t : ℕ) → most ≤ 16 → t ≤ s + most * (length ids * n) → t ≤ s + 16 * (length cs * n)
steps_named cs ids is n most s t less within =
    let long : length ids ≡ length cs = ap (λ (l : List ℕ). length l) is ∙ length-map cs (λ (change : Change). change.id) in
    let own = subst (λ (k : ℕ). t ≤ s + most * (k * n)) long within in
    let all = mul-le most (length cs * n) 16 (length cs * n) less (omega arith) in
    omega (arith, own, all)

-- all identifiers pass where all rows are seen
pub all_pass : (cs : List Change) → AllPass (passes All) cs
all_pass [] = tt
all_pass (c ∷ cs) = (refl, all_pass cs)

module _ {O : Type 0} (meaning : O → Meaning) (laws : (o : O) → Laws (meaning o)) (d : Parts O) (good : IsDatabase meaning d) (tree : Tree) (w : RowWrite) (plans : MayPlan meaning d tree w) where
  abbrev es : List (Placed O)
  es = d.graph.edges

  abbrev s : State
  s = state_for meaning d

  abbrev rows : Rows
  rows = rows_written meaning d w

  pub of_tree : IsWhole es tree.operators tree.tables
  of_tree = plans.walked.whole

  -- the crossings that the write can reach
  abbrev ps : List (Crossing O)
  ps = path es w.set w.table tree plans.walked

  seen_sound : (sight : Sight) → MaySee meaning es s tree.operators sight → IsSound meaning es (part (passes sight) tree s)
  seen_sound All sees = all_sound meaning laws es s good.sound tree of_tree (passes All) (λ q. refl)
  seen_sound (Of ids) sees = local_sound meaning laws es s good.sound tree of_tree (passes (Of ids)) sees.1
  seen_sound (Part ids) sees = small_sound meaning laws d good tree w plans (passes (Part ids)) sees.1

  -- each operator of the tree relates its sides in a sound state
  related_at : (x : State) → IsSound meaning es x → (n : ℕ) → In n tree.operators → IsRelatedAt meaning es x n
  related_at x sound n i =
      let l = lives es w.set w.table tree plans.walked n i in
      record {
        over = l.0;
        lives = l.1;
        number = sym l.2;
        sides = each_at HasSides (forest es) l.0 l.1 good.sides;
        related = each_at (λ (f : Link O). IsRelated meaning (headings es) x (crossing false f)) (forest es) l.0 l.1 sound.related;
      }

  module _ (sight : Sight) (sees : MaySee meaning es s tree.operators sight) (named : AllPass (passes sight) w.changes) where
    abbrev test : ℕ → Bool
    test = passes sight

    abbrev small : State
    small = part (passes sight) tree s

    small_may : MayWrite es small w.set w.table (rows_only test rows) w.ids.next
    small_may = part_may meaning laws es s good.sound tree of_tree test w.set w.table rows w.ids.next plans.may

    abbrev end : State
    end = seen_write meaning d tree w (passes sight)

    end_sound : IsSound meaning es end
    end_sound = (write_is_ordinary meaning es small (seen_sound sight sees) w.set w.table (rows_only test rows) w.ids.next small_may laws good.graph.edges).sound

    module _ (copies : Copies) (copied : CopiesTree meaning d tree sight copies) where
      -- the old rows are among those that were copied
      copied_rows : rows_at copies.tables w.table ≡ rows_only test (s.tables w.table)
      copied_rows = copied.tables w.table ∙ part_table test tree s w.table plans.walked.held

      copied_old : AreOld (rows_at copies.tables w.table) w.changes
      copied_old = subst (λ (x : Rows). AreOld x w.changes) (sym copied_rows) (only_old test (s.tables w.table) w.changes named plans.old)

      rows_are : changed (rows_at copies.tables w.table) w.changes ≡ rows_only test rows
      rows_are = ap (λ (x : Rows). changed x w.changes) copied_rows ∙ sym (only_changed test (s.tables w.table) w.changes (good.sound.well.tables w.table).0 named)

      module _ (next : ℕ) (same : next ≡ d.ids.next) where
        abbrev old : State
        old = copied_state copies next

        pub copied_is : old ≡ small
        copied_is = state_is _ _ _ _ _ _ (fun_ext copied.tables) (fun_ext copied.memories) same

        pub first_is : changing_state old (first_changes w) ≡ written old w.table (rows_only test rows) w.ids.next
        first_is = first_state old w.table w.changes w.ids ∙ ap (λ (x : Rows). written old w.table x w.ids.next) rows_are

        -- THE CHANGES OF THE WRITE MAY BE CARRIED
        pub may_carry : ChangesRise 0 w.changes → MayCarryBy meaning es old (first_changes w) w.set tree.operators
        may_carry rise = record {
          edges = good.graph.edges;
          sides = good.sides;
          sound = subst (λ (y : State). IsSound meaning es y) (sym copied_is) (seen_sound sight sees);
          lives = plans.lives;
          table = w.table;
          rows = rows_only test rows;
          next = w.ids.next;
          may = subst (λ (y : State). MayWrite es y w.set w.table (rows_only test rows) w.ids.next) (sym copied_is) small_may;
          fit = first_fit old w.table w.changes rise copied_old;
          start = first_is;
          tables = tree.tables;
          reach = plans.walked;
        }

        carried_is : run meaning old (changing_state old (first_changes w)) (walk (forest es) w.set) ≡ end
        carried_is = ap (λ (y : State). run meaning old y (walk (forest es) w.set)) first_is ∙ ap (λ (y : State). write meaning es y w.set w.table (rows_only test rows) w.ids.next) copied_is

        -- where it was carried
        pub making_is : (made : Changing) → CarriesWrite meaning es old w tree.operators (Ok made) → IsMaking meaning d tree w (passes sight) (names_of sight) (record { copies = copies; made = made })
        making_is made was = record {
          tables = copied.tables;
          memories = copied.memories;
          made = was.0.1 ∙ carried_is;
          fits = was.0.2;
          pass = all_named sight sees named made was.1;
          within = subst (λ (n : ℕ). n ≤ first_refused w.ids) (ap (λ (y : State). y.next) carried_is) was.0.0;
          limit = was.0.3;
        }
          where
            all_named : (sight : Sight) → MaySee meaning es s tree.operators sight → AllPass (passes sight) w.changes → (made : Changing)
                → ((ids : List ℕ) → AreLocal meaning ps → AllPass (has_id ids) w.changes → (t : ℕ) → AllPass (has_id ids) (latest_changes made.tables t)) → (t : ℕ) → AllPass (names_of sight) (latest_changes made.tables t)
            all_named All sees named made only t = all_pass (latest_changes made.tables t)
            all_named (Of ids) sees named made only t = only ids.now (path_local es w.set w.table tree plans.walked meaning sees.1) named t
            all_named (Part ids) sees named made only t = all_pass (latest_changes made.tables t)

        -- and where it was refused
        pub making_refused : (fault : Fault IdsSpent) → CarriesWrite meaning es old w tree.operators (Err fault) → MakesWrite meaning d tree w (passes sight) (names_of sight) (Err fault)
        making_refused (Refused spent) h = subst (λ (n : ℕ). IsSpent n w.ids w.ids spent) (ap (λ (y : State). y.next) carried_is) h
        making_refused (OutOfMemory memory) h = tt

    -- what it takes
    pub carry_within : (from to : ℕ) → CarriesWriteWithin meaning es w tree.operators from to → SeenWithin 6 sight (length tree.operators) from to
    carry_within from to within = of_sight sight sees named
      where
        of_sight : (sight : Sight) → MaySee meaning es s tree.operators sight → AllPass (passes sight) w.changes → SeenWithin 6 sight (length tree.operators) from to
        of_sight All sees named = tt
        of_sight (Of ids) sees named =
            let own = within ids.now sees.0 (path_local es w.set w.table tree plans.walked meaning sees.1) named in
            subst (λ (n : ℕ). to ≤ from + 6 * (length ids.now * n)) (path_long es w.set w.table tree plans.walked) own
        of_sight (Part ids) sees named = tt

    -- THE CHANGES OF AUXILIARY TABLES MAY BE TAKEN of what was made
    module _ (making : Making) (is : IsMaking meaning d tree w (passes sight) (names_of sight) making) where
      abbrev over : Link O → Crossing O
      over e = stored_way d.layout.operators e

      before_is : copied_state making.copies d.ids.next ≡ small
      before_is = state_is _ _ _ _ _ _ (fun_ext is.tables) (fun_ext is.memories) refl

      -- what is kept beside the stored side of what is seen
      aux_seen : (sight : Sight) → MaySee meaning es s tree.operators sight → AllPass (passes sight) w.changes → (e : Link O) → In e (forest es) → In e.number tree.operators → aux_of meaning (part (passes sight) tree s) (over e) ≡ only (passes sight) (aux_of meaning s (over e))
      aux_seen All sees named = (shown meaning laws d good tree w plans All sees named).aux_before
      aux_seen (Of ids) sees named = (shown meaning laws d good tree w plans (Of ids) sees named).aux_before
      aux_seen (Part ids) sees named = before_part meaning laws d good tree w plans (passes (Part ids)) sees.1

      pub may_change_auxes : MayChangeAuxes meaning d (passes sight) (names_of sight) making tree.operators
      may_change_auxes =
          each_of (MayChangeAuxAt meaning d (passes sight) (names_of sight) making) tree.operators (λ n i. record {
            kept = good;
            fits = is.fits;
            pass = is.pass;
            old = subst (λ (x : State). IsRelatedAt meaning es x n) (sym before_is) (related_at small (seen_sound sight sees) n i);
            new = subst (λ (x : State). IsRelatedAt meaning es x n) (sym is.made) (related_at end end_sound n i);
            aux = λ e j number.
                let own : In e.number tree.operators = subst (λ (k : ℕ). In k tree.operators) (sym number) i in
                let stood : auxes_at d.aux e.number ≡ aux_of meaning s (over e) = (each_at (λ (f : Link O). StandsOver meaning (headings es) (storage_in d) s (stored_way d.layout.operators f)) (forest es) e j good.stands.edges).aux in
                ap (λ (k : ℕ). only test (auxes_at d.aux k)) (sym number) ∙ ap (only test) stood ∙ sym (aux_seen sight sees named e j own)
                ∙ ap (λ (x : State). aux_of meaning x (over e)) (sym before_is);
          })
