-- Operators stay built from the texts that they keep, under a greater next identifier and where other operators go.
use Rattle.std.proofs.Common.{◌≡◌, ℕ, ◌≤◌, List, [], ◌∷◌, ◌++◌, Bool, true, false, cond, Option, Some, None, Ok, Err, inl, refl, sym, ap, subst, ◌∙◌, arith}
use Rattle.std.specs.Prelude.{◌==◌, ◌||◌, nat_le}
use Rattle.std.specs.List.{find, remove}
use Rattle.std.specs.Str.{bytes_eq}
use Rattle.std.proofs.lemmas.Bool.{lt-leb, leb-false}
use Rattle.expr_lang.specs.Terms.{references_in}
use Rattle.expr_lang.specs.Resolved.{place_of, resolved, is_unknown, first_unknown_id}
use Rattle.statements.specs.Views.{Tree, BranchView, OpView}
use Rattle.statements.specs.Views as «text»
use Rattle.version_graph.specs.Tables.{TableVersion, headings_of}
use Rattle.version_graph.specs.Edges.{is_in, working}
use Rattle.version_graph.specs.Dropped.{staying}
use Rattle.version_graph.specs.declared.parts.Heading.{Heading}
use Rattle.version_graph.specs.declared.parts.Placed.{Placed}
use Rattle.version_graph.proofs.StayLaws.{working_stays}
use Rattle.par_base.specs.Checked.{Checked, ◌then◌}
use Rattle.op_any.specs.Operators.{AnyView}
use Rattle.op_checks.specs.NameChecks.{heading_named, is_passing, known_table, other_table, new_table, known_column, known_columns, new_columns, same_columns, few_columns, known_id, known_ids}
use Rattle.op_any.specs.Build.{adding_column, dropping_column, splitting_in_one, splitting_in_two, splitting_table, merging_tables, planned_edge, built}
use Rattle.op_any.specs.BuildJoins.{Parting, parting, divided, decomposing_on, decomposing_table, meeting, columns_of_both, joining_on, joining_tables}
use Rattle.op_any.specs.BuiltOn.{IsBuiltOn, AreBuiltOn}

-- ---- checks

-- what the first of two chains of checks gives, the second one gives too
abbrev pub GivesToo : {A : Type 0} → Checked A → Checked A → Type 0
GivesToo {A} c d = (x : A) → c ≡ Ok x → d ≡ Ok x

-- it is enough that each check gives what its twin gives
both_too : {A B : Type 0} (c d : Checked A) (f g : A → Checked B) → GivesToo c d → ((x : A) → GivesToo (f x) (g x)) → GivesToo (c then f) (d then g)
both_too (Ok x) d f g first more y e = ap (λ k. k then g) (first x refl) ∙ more x y e
both_too (Err r) d f g first more y e = absurd (cc)

-- behind one and the same check
then_too : {A B : Type 0} (c : Checked A) (f g : A → Checked B) → ((x : A) → GivesToo (f x) (g x)) → GivesToo (c then f) (c then g)
then_too c f g more = both_too c c f g (λ x e. e) more

-- ---- a greater next identifier

module _ (n m : ℕ) (less : n ≤ m) where
  -- an identifier that is known stays known
  known_above : (id : ℕ) → is_unknown n id ≡ false → is_unknown m id ≡ false
  known_above id h = by (id == 0) (nat_le n id) refl refl h
    where
      by : (a b : Bool) → (id == 0) ≡ a → nat_le n id ≡ b → (a || b) ≡ false → ((id == 0) || nat_le m id) ≡ false
      by true b p q h = absurd (cc)
      by false true p q h = absurd (cc)
      by false false p q h =
          let below = leb-false n id q in
          ap (λ (c : Bool). c || nat_le m id) p ∙ lt-leb m id (omega (arith, below, less))

  -- and where the first is known, the others are tried
  known_first : (id : ℕ) (ids : List ℕ) (b : Bool) → is_unknown n id ≡ b → (find (is_unknown n) ids ≡ None → find (is_unknown m) ids ≡ None)
      → cond b (Some id) (find (is_unknown n) ids) ≡ None → find (is_unknown m) (id ∷ ids) ≡ None
  known_first id ids true p rest h = absurd (cc)
  known_first id ids false p rest h = ap (λ (c : Bool). cond c (Some id) (find (is_unknown m) ids)) (known_above id p) ∙ rest h

  all_known : (ids : List ℕ) → find (is_unknown n) ids ≡ None → find (is_unknown m) ids ≡ None
  all_known [] h = refl
  all_known (id ∷ ids) h = known_first id ids (is_unknown n id) refl (all_known ids) h

  first_known : (t : Tree) → first_unknown_id n t ≡ None → first_unknown_id m t ≡ None
  unfolding first_unknown_id
  first_known t h = all_known (references_in t) h

  ids_too : (t : Tree) → GivesToo (known_ids n t) (known_ids m t)
  ids_too t x e = ap (known_id m) (first_known t (is_none (first_unknown_id n t) e))
    where
      is_none : (o : Option ℕ) → known_id n o ≡ Ok x → o ≡ None
      is_none (Some id) e = absurd (cc)
      is_none None e = refl

  module _ (set : List Heading) where
    adding_too : (column : List ℕ) (value : Tree) (table : List ℕ) (tracked : Bool) → GivesToo (adding_column set n column value table tracked) (adding_column set m column value table tracked)
    unfolding adding_column
    adding_too column value table tracked =
        then_too (known_table table (heading_named set table)) _ _ (λ source.
        then_too (known_columns (resolved source.columns value)) _ _ (λ e.
        then_too (new_columns source.columns (column ∷ [])) _ _ (λ u.
        then_too (few_columns table (source.columns ++ column ∷ [])) _ _ (λ v.
        both_too (known_ids n value) (known_ids m value) _ _ (ids_too value) (λ w x h. h)))))

    dropping_too : (column table : List ℕ) (value : Tree) → GivesToo (dropping_column set n column table value) (dropping_column set m column table value)
    unfolding dropping_column
    dropping_too column table value =
        then_too (known_table table (heading_named set table)) _ _ (λ source.
        then_too (known_column column (place_of source.columns column)) _ _ (λ place.
        then_too (known_columns (resolved (remove source.columns place) value)) _ _ (λ e.
        both_too (known_ids n value) (known_ids m value) _ _ (ids_too value) (λ w x h. h))))

    splitting_one_too : (table : List ℕ) (r : BranchView) → GivesToo (splitting_in_one set n table r) (splitting_in_one set m table r)
    splitting_one_too table r =
        then_too (known_table table (heading_named set table)) _ _ (λ source.
        then_too (new_table r.table (is_passing set (table ∷ []) r.table)) _ _ (λ u.
        then_too (known_columns (resolved source.columns r.condition)) _ _ (λ c.
        both_too (known_ids n r.condition) (known_ids m r.condition) _ _ (ids_too r.condition) (λ w x h. h))))

    splitting_two_too : (table : List ℕ) (r s : BranchView) → GivesToo (splitting_in_two set n table r s) (splitting_in_two set m table r s)
    splitting_two_too table r s =
        then_too (known_table table (heading_named set table)) _ _ (λ source.
        then_too (new_table r.table (is_passing set (table ∷ []) r.table)) _ _ (λ u.
        then_too (new_table s.table (bytes_eq s.table r.table || is_passing set (table ∷ []) s.table)) _ _ (λ v.
        then_too (known_columns (resolved source.columns r.condition)) _ _ (λ c.
        then_too (known_columns (resolved source.columns s.condition)) _ _ (λ d.
        both_too (known_ids n r.condition) (known_ids m r.condition) _ _ (ids_too r.condition) (λ w.
        both_too (known_ids n s.condition) (known_ids m s.condition) _ _ (ids_too s.condition) (λ z x h. h)))))))

    merging_too : (r s : BranchView) (target : List ℕ) → GivesToo (merging_tables set n r s target) (merging_tables set m r s target)
    unfolding merging_tables
    merging_too r s target =
        then_too (known_table r.table (heading_named set r.table)) _ _ (λ first.
        then_too (known_table s.table (heading_named set s.table)) _ _ (λ second.
        then_too (other_table s.table (bytes_eq s.table r.table)) _ _ (λ u.
        then_too (new_table target (is_passing set (r.table ∷ s.table ∷ []) target)) _ _ (λ v.
        then_too (known_columns (resolved first.columns r.condition)) _ _ (λ c.
        then_too (known_columns (resolved second.columns s.condition)) _ _ (λ d.
        then_too (same_columns first second) _ _ (λ w.
        both_too (known_ids n r.condition) (known_ids m r.condition) _ _ (ids_too r.condition) (λ y.
        both_too (known_ids n s.condition) (known_ids m s.condition) _ _ (ids_too s.condition) (λ z x h. h)))))))))

    decomposing_too : (table : List ℕ) (s u : Heading) (condition : Tree) → GivesToo (decomposing_on set n table s u condition) (decomposing_on set m table s u condition)
    decomposing_too table s u condition =
        then_too (parting set table s u) _ _ (λ (parts : Parting).
        then_too (known_columns (resolved parts.source.columns condition)) _ _ (λ c.
        then_too (divided parts.source s u) _ _ (λ v.
        both_too (known_ids n condition) (known_ids m condition) _ _ (ids_too condition) (λ w x h. h))))

    joining_too : (outer : Bool) (first second target : List ℕ) (condition : Tree) → GivesToo (joining_on set n outer first second target condition) (joining_on set m outer first second target condition)
    joining_too outer first second target condition =
        then_too (meeting set first second target) _ _ (λ t.
        then_too (known_columns (resolved (t.first.columns ++ t.second.columns) condition)) _ _ (λ c.
        then_too (columns_of_both target t.first.columns t.second.columns) _ _ (λ columns.
        both_too (known_ids n condition) (known_ids m condition) _ _ (ids_too condition) (λ w x h. h))))

    planned_too : (text : OpView) → GivesToo (planned_edge set n text) (planned_edge set m text)
    unfolding splitting_table decomposing_table joining_tables
    planned_too («text».CreateTable table columns) = λ x h. h
    planned_too («text».DropTable table) = λ x h. h
    planned_too («text».RenameTable table new) = λ x h. h
    planned_too («text».RenameColumn column table new) = λ x h. h
    planned_too («text».AddColumn column value table tracked) = adding_too column value table tracked
    planned_too («text».DropColumn column table value) = dropping_too column table value
    planned_too («text».DecomposeSingle table target columns) = λ x h. h
    planned_too («text».Decompose table first first_columns second second_columns «text».Primary) = λ x h. h
    planned_too («text».Decompose table first first_columns second second_columns («text».Foreign key)) = λ x h. h
    planned_too («text».Decompose table first first_columns second second_columns («text».Condition condition)) =
        decomposing_too table (record { name = first; columns = first_columns }) (record { name = second; columns = second_columns }) condition
    planned_too («text».Join outer first second target «text».Primary) = λ x h. h
    planned_too («text».Join outer first second target («text».Foreign key)) = λ x h. h
    planned_too («text».Join outer first second target («text».Condition condition)) = joining_too outer first second target condition
    planned_too («text».Split table first None) = splitting_one_too table first
    planned_too («text».Split table first (Some second)) = splitting_two_too table first second
    planned_too («text».Merge first second target) = merging_too first second target

    -- what a text builds, it builds under a greater next identifier too
    pub built_too : (text : OpView) → GivesToo (built set n text) (built set m text)
    built_too text = both_too (planned_edge set n text) (planned_edge set m text) _ _ (planned_too text) (λ p x h. h)

  -- A GREATER NEXT IDENTIFIER KEEPS EACH OPERATOR BUILT
  pub built_above : (es : List (Placed AnyView)) → AreBuiltOn n es → AreBuiltOn m es
  built_above [] are = tt
  built_above (e ∷ es) are =
      (record { texts = are.0.texts; built = built_too (headings_of (working es e.parent)) e.edge.operator.text e.edge are.0.built }, built_above es are.1)

-- ---- operators that go

-- on a working set that is as it was
on_same : (next : ℕ) (es fs : List (Placed AnyView)) (e : Placed AnyView) → working fs e.parent ≡ working es e.parent → IsBuiltOn next es e.parent e.edge → IsBuiltOn next fs e.parent e.edge
on_same next es fs e same is = record {
  texts = is.texts;
  built = subst (λ (set : List TableVersion). built (headings_of set) next e.edge.operator.text ≡ Ok e.edge) (sym same) is.built;
}

-- A DROP KEEPS EACH OPERATOR BUILT THAT STAYS
pub built_stays : (next : ℕ) (es : List (Placed AnyView)) (needed : List ℕ) → AreBuiltOn next es → AreBuiltOn next (staying needed es)
built_stays next [] needed are = tt
built_stays next (e ∷ es) needed are =
    elim (is_in e.number needed) as (λ c. AreBuiltOn next (cond c (e ∷ staying (e.parent ∷ needed) es) (staying needed es))) [
      | true ↦ (on_same next es (staying (e.parent ∷ needed) es) e (working_stays es e.parent (e.parent ∷ needed) (inl refl)) are.0, built_stays next es (e.parent ∷ needed) are.1)
      | false ↦ built_stays next es needed are.1
    ]
