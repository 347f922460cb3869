-- What operators remember, as the texts from which they are built say it.
use Rattle.std.specs.Prelude.{◌==◌, ◌||◌, IfOk}
use Rattle.std.specs.List.{remove}
use Rattle.std.specs.Option.{option_map_or}
use Rattle.std.specs.Str.{bytes_eq}
use Rattle.std.proofs.Common.{◌≡◌, ℕ, List, [], ◌∷◌, ◌++◌, length, Bool, true, false, Option, Some, None, Ok, Err, Result, inl, inr, refl, sym, ap, ◌∙◌, subst, arith}
use Rattle.std.proofs.lemmas.Bool.{cond-false, cond-true, eq-eqb, false≢true, ne_eqb}
use Rattle.par_base.specs.Checked.{Checked, ◌then◌}
use Rattle.expr_lang.specs.Resolved.{place_of, resolved}
use Rattle.id_memory.specs.Pairs.{IsOneToOne, Pairs, RiseFrom}
use Rattle.statements.specs.Views.{Tree, BranchView, KeyView, OpView, Primary, Foreign, Condition}
use Rattle.statements.specs.Views as «text»
use Rattle.version_graph.specs.Edges.{AreEdges, edge_of, numbers}
use Rattle.version_graph.specs.Forest.{Link, forest}
use Rattle.version_graph.specs.Sets.{In}
use Rattle.version_graph.specs.declared.parts.Edge.{Edge}
use Rattle.version_graph.specs.declared.parts.Heading.{Heading}
use Rattle.version_graph.specs.declared.parts.Placed.{Placed}
use Rattle.op_law.specs.Tables.{Tables}
use Rattle.expr_lang.specs.Terms.{Term}
use Rattle.op_any.specs.Operators.{AnyView, Built, CreateTable, DropTable, Rename, AddColumn, AddTracked, DropColumn, Split, Merge, DecomposeSingle, DecomposePk, OuterJoinPk, JoinPk, DecomposeFk, OuterJoinFk, JoinFk, JoinOn, DecomposeOn, OuterJoinOn, meaning_of}
use Rattle.op_checks.specs.NameChecks.{heading_named, is_passing, repeated, known_table, other_table, new_table, known_column, known_places, known_columns, well_divided, new_columns, same_columns, few_columns, known_ids}
use Rattle.op_any.specs.Build.{adding_column, built, column_adder, creating_table, dropping_column, dropping_table, merging_tables, planned_edge, renaming_column, renaming_table, splitting_in_one, splitting_in_two, splitting_table, with_text}
use Rattle.op_any.specs.BuildJoins.{columns_of_both, decomposing_in_one, decomposing_table, divided, joining_tables, meeting, on_fk, on_pk, parting}
use Rattle.op_any.specs.BuiltOn.{AreBuiltOn}
use Rattle.dump_file.specs.Told.{is_on_condition, remembers}

-- ---- the memory of a related pair

-- whether a built operator remembers pairs
abbrev pub keeps_pairs : Built → Bool
keeps_pairs (JoinOn first second c) = true
keeps_pairs (DecomposeOn first second c) = true
keeps_pairs (OuterJoinOn first second c) = true
keeps_pairs _ = false

-- one that doesn't has no memory
pub no_pairs : (o : Built) → keeps_pairs o ≡ false → (s t : Tables) (m : Pairs) → (meaning_of o).Related s t m → m ≡ []
no_pairs CreateTable is s t m related = related.0
no_pairs (DropTable width) is s t m related = related.0
no_pairs Rename is s t m related = related.0
no_pairs (AddColumn place e) is s t m related = related.0
no_pairs (AddTracked e) is s t m related = related.0
no_pairs (DropColumn place e) is s t m related = related.0
no_pairs (Split width first second) is s t m related = related.0
no_pairs (Merge width first second) is s t m related = related.0
no_pairs (DecomposeSingle columns width) is s t m related = related.0
no_pairs (DecomposePk first second) is s t m related = related.0
no_pairs (OuterJoinPk first second) is s t m related = related.0
no_pairs (JoinPk first second) is s t m related = related.0
no_pairs (DecomposeFk first second place) is s t m related = related.0
no_pairs (OuterJoinFk first second place) is s t m related = related.0
no_pairs (JoinFk first second place) is s t m related = related.0
no_pairs (JoinOn first second c) is s t m related = absurd (false≢true (sym is))
no_pairs (DecomposeOn first second c) is s t m related = absurd (false≢true (sym is))
no_pairs (OuterJoinOn first second c) is s t m related = absurd (false≢true (sym is))

-- what a memory always is: identifiers rise, and each pair stands once
abbrev pub IsMemory : Pairs → Type 0
IsMemory m = RiseFrom 0 m × IsOneToOne m

none_remembered : (m : Pairs) → m ≡ [] → IsMemory m
none_remembered m is = subst IsMemory (sym is) (tt, λ s t. omega arith)

pub are_pairs : (o : Built) (s t : Tables) (m : Pairs) → (meaning_of o).Related s t m → IsMemory m
are_pairs CreateTable s t m related = none_remembered m related.0
are_pairs (DropTable width) s t m related = none_remembered m related.0
are_pairs Rename s t m related = none_remembered m related.0
are_pairs (AddColumn place e) s t m related = none_remembered m related.0
are_pairs (AddTracked e) s t m related = none_remembered m related.0
are_pairs (DropColumn place e) s t m related = none_remembered m related.0
are_pairs (Split width first second) s t m related = none_remembered m related.0
are_pairs (Merge width first second) s t m related = none_remembered m related.0
are_pairs (DecomposeSingle columns width) s t m related = none_remembered m related.0
are_pairs (DecomposePk first second) s t m related = none_remembered m related.0
are_pairs (OuterJoinPk first second) s t m related = none_remembered m related.0
are_pairs (JoinPk first second) s t m related = none_remembered m related.0
are_pairs (DecomposeFk first second place) s t m related = none_remembered m related.0
are_pairs (OuterJoinFk first second place) s t m related = none_remembered m related.0
are_pairs (JoinFk first second place) s t m related = none_remembered m related.0
are_pairs (JoinOn first second c) s t m related = (related.rises, related.one)
are_pairs (DecomposeOn first second c) s t m related = (related.rises, related.one)
are_pairs (OuterJoinOn first second c) s t m related = (related.joined.rises, related.joined.one)

-- ---- a text on no condition builds an operator that remembers no pairs

if_then : {A B : Type 0} (P : B → Type 0) (c : Checked A) (f : A → Checked B) → ((x : A) → c ≡ Ok x → IfOk (f x) P) → IfOk (c then f) P
if_then P (Ok x) f h = h x refl
if_then P (Err r) f h = tt

at_ok : {A E : Type 0} (P : A → Type 0) (c : Result A E) (x : A) → c ≡ Ok x → IfOk c P → P x
at_ok {A} {E} P c x e h = subst (λ (r : Result A E). IfOk r P) e h

abbrev Unkept : Edge Built → Type 0
Unkept e = keeps_pairs e.operator ≡ false

adder_unkept : (tracked : Bool) (count : ℕ) (e : Term ℕ) → keeps_pairs (column_adder tracked count e) ≡ false
adder_unkept true count e = refl
adder_unkept false count e = refl

on_pk_unkept : (outer : Bool) (first second : ℕ) → keeps_pairs (on_pk outer first second) ≡ false
on_pk_unkept false first second = refl
on_pk_unkept true first second = refl

on_fk_unkept : (outer : Bool) (first left second place : ℕ) → keeps_pairs (on_fk outer first left second place) ≡ false
on_fk_unkept false first left second place = refl
on_fk_unkept true first left second place = refl

module _ (set : List Heading) (next : ℕ) where
  creating : (table : List ℕ) (columns : List (List ℕ)) → IfOk (creating_table set table columns) Unkept
  unfolding creating_table
  creating table columns =
      if_then Unkept (new_table table (is_passing set [] table)) _ (λ u a.
      if_then Unkept (new_columns [] columns) _ (λ v b.
      if_then Unkept (few_columns table columns) _ (λ w c. refl)))

  dropping : (table : List ℕ) → IfOk (dropping_table set table) Unkept
  unfolding dropping_table
  dropping table = if_then Unkept (known_table table (heading_named set table)) _ (λ h a. refl)

  renaming : (table new : List ℕ) → IfOk (renaming_table set table new) Unkept
  unfolding renaming_table
  renaming table new =
      if_then Unkept (known_table table (heading_named set table)) _ (λ h a.
      if_then Unkept (new_table new (is_passing set (table ∷ []) new)) _ (λ u b. refl))

  renaming_a_column : (column table new : List ℕ) → IfOk (renaming_column set column table new) Unkept
  unfolding renaming_column
  renaming_a_column column table new =
      if_then Unkept (known_table table (heading_named set table)) _ (λ h a.
      if_then Unkept (known_column column (place_of h.columns column)) _ (λ place b.
      if_then Unkept (new_columns (remove h.columns place) (new ∷ [])) _ (λ u c. refl)))

  adding : (column : List ℕ) (value : Tree) (table : List ℕ) (tracked : Bool) → IfOk (adding_column set next column value table tracked) Unkept
  unfolding adding_column
  adding column value table tracked =
      if_then Unkept (known_table table (heading_named set table)) _ (λ h a.
      if_then Unkept (known_columns (resolved h.columns value)) _ (λ e b.
      if_then Unkept (new_columns h.columns (column ∷ [])) _ (λ u c.
      if_then Unkept (few_columns table (h.columns ++ column ∷ [])) _ (λ v d.
      if_then Unkept (known_ids next value) _ (λ w f. adder_unkept tracked (length h.columns) e)))))

  dropping_a_column : (column table : List ℕ) (value : Tree) → IfOk (dropping_column set next column table value) Unkept
  unfolding dropping_column
  dropping_a_column column table value =
      if_then Unkept (known_table table (heading_named set table)) _ (λ h a.
      if_then Unkept (known_column column (place_of h.columns column)) _ (λ place b.
      if_then Unkept (known_columns (resolved (remove h.columns place) value)) _ (λ e c.
      if_then Unkept (known_ids next value) _ (λ u d. refl))))

  splitting_one : (table : List ℕ) (r : BranchView) → IfOk (splitting_in_one set next table r) Unkept
  splitting_one table r =
      if_then Unkept (known_table table (heading_named set table)) _ (λ h a.
      if_then Unkept (new_table r.table (is_passing set (table ∷ []) r.table)) _ (λ u b.
      if_then Unkept (known_columns (resolved h.columns r.condition)) _ (λ c d.
      if_then Unkept (known_ids next r.condition) _ (λ v e. refl))))

  splitting_two : (table : List ℕ) (r s : BranchView) → IfOk (splitting_in_two set next table r s) Unkept
  splitting_two table r s =
      if_then Unkept (known_table table (heading_named set table)) _ (λ h a.
      if_then Unkept (new_table r.table (is_passing set (table ∷ []) r.table)) _ (λ u b.
      if_then Unkept (new_table s.table (bytes_eq s.table r.table || is_passing set (table ∷ []) s.table)) _ (λ v c.
      if_then Unkept (known_columns (resolved h.columns r.condition)) _ (λ d e.
      if_then Unkept (known_columns (resolved h.columns s.condition)) _ (λ f g.
      if_then Unkept (known_ids next r.condition) _ (λ w i.
      if_then Unkept (known_ids next s.condition) _ (λ x j. refl)))))))

  splitting : (table : List ℕ) (r : BranchView) (o : Option BranchView) → IfOk (splitting_table set next table r o) Unkept
  unfolding splitting_table
  splitting table r None = splitting_one table r
  splitting table r (Some s) = splitting_two table r s

  merging : (r s : BranchView) (target : List ℕ) → IfOk (merging_tables set next r s target) Unkept
  unfolding merging_tables
  merging r s target =
      if_then Unkept (known_table r.table (heading_named set r.table)) _ (λ h a.
      if_then Unkept (known_table s.table (heading_named set s.table)) _ (λ k b.
      if_then Unkept (other_table s.table (bytes_eq s.table r.table)) _ (λ u c.
      if_then Unkept (new_table target (is_passing set (r.table ∷ s.table ∷ []) target)) _ (λ v d.
      if_then Unkept (known_columns (resolved h.columns r.condition)) _ (λ e f.
      if_then Unkept (known_columns (resolved k.columns s.condition)) _ (λ g i.
      if_then Unkept (same_columns h k) _ (λ w j.
      if_then Unkept (known_ids next r.condition) _ (λ x l.
      if_then Unkept (known_ids next s.condition) _ (λ y m. refl)))))))))

  decomposing : (table : List ℕ) (s : Heading) → IfOk (decomposing_in_one set table s) Unkept
  unfolding decomposing_in_one
  decomposing table s =
      if_then Unkept (known_table table (heading_named set table)) _ (λ h a.
      if_then Unkept (new_table s.name (is_passing set (table ∷ []) s.name)) _ (λ u b.
      if_then Unkept (known_places h.columns s.columns) _ (λ places c.
      if_then Unkept (well_divided (repeated [] s.columns)) _ (λ v d. refl))))

  decomposing_two : (table : List ℕ) (s u : Heading) (key : KeyView) → Rattle.dump_file.specs.Told.is_by_condition key ≡ false → IfOk (decomposing_table set next table s u key) Unkept
  unfolding decomposing_table
  decomposing_two table s u Primary is =
      if_then Unkept (parting set table s u) _ (λ parts a.
      if_then Unkept (divided parts.source s u) _ (λ v b. refl))
  decomposing_two table s u (Foreign key) is =
      if_then Unkept (parting set table s u) _ (λ parts a.
      if_then Unkept (divided parts.source s u) _ (λ v b.
      if_then Unkept (new_columns s.columns (key ∷ [])) _ (λ w c.
      if_then Unkept (few_columns s.name (s.columns ++ key ∷ [])) _ (λ x d. refl))))
  decomposing_two table s u (Condition condition) is = absurd (false≢true (sym is))

  joining : (outer : Bool) (first second target : List ℕ) (key : KeyView) → Rattle.dump_file.specs.Told.is_by_condition key ≡ false → IfOk (joining_tables set next outer first second target key) Unkept
  unfolding joining_tables
  joining outer first second target Primary is =
      if_then Unkept (meeting set first second target) _ (λ t a.
      if_then Unkept (columns_of_both target t.first.columns t.second.columns) _ (λ columns b. on_pk_unkept outer _ _))
  joining outer first second target (Foreign key) is =
      if_then Unkept (meeting set first second target) _ (λ t a.
      if_then Unkept (known_column key (place_of t.first.columns key)) _ (λ place b.
      if_then Unkept (columns_of_both target (remove t.first.columns place) t.second.columns) _ (λ columns c. on_fk_unkept outer _ _ _ _)))
  joining outer first second target (Condition condition) is = absurd (false≢true (sym is))

  planned : (text : OpView) → is_on_condition text ≡ false → IfOk (planned_edge set next text) Unkept
  planned («text».CreateTable table columns) is = creating table columns
  planned («text».DropTable table) is = dropping table
  planned («text».RenameTable table new) is = renaming table new
  planned («text».RenameColumn column table new) is = renaming_a_column column table new
  planned («text».AddColumn column value table tracked) is = adding column value table tracked
  planned («text».DropColumn column table value) is = dropping_a_column column table value
  planned («text».DecomposeSingle table target columns) is = decomposing table (record { name = target; columns = columns })
  planned («text».Decompose table first first_columns second second_columns key) is =
      decomposing_two table (record { name = first; columns = first_columns }) (record { name = second; columns = second_columns }) key is
  planned («text».Join outer first second target key) is = joining outer first second target key is
  planned («text».Split table first second) is = splitting table first second
  planned («text».Merge first second target) is = merging first second target

  built_unkept : (text : OpView) (e : Edge AnyView) → is_on_condition text ≡ false → built set next text ≡ Ok e → keeps_pairs e.operator.operator ≡ false
  built_unkept text e is from =
      at_ok (λ (x : Edge AnyView). keeps_pairs x.operator.operator ≡ false) (built set next text) e from
      (if_then (λ (x : Edge AnyView). keeps_pairs x.operator.operator ≡ false) (planned_edge set next text) (λ p. Ok (with_text text p)) (λ p h. at_ok Unkept (planned_edge set next text) p h (planned text is)))

-- ---- so it is in a forest

pub link_number : {O : Type 0} (es : List (Placed O)) (l : Link O) → In l (forest es) → In l.number (numbers es)
link_number [] l i = absurd i
link_number {O} (e ∷ es) l (inl same) = inl (ap (λ (y : Link O). y.number) same)
link_number (e ∷ es) l (inr i) = inr (link_number es l i)

abbrev on_condition : Option (Placed AnyView) → Bool
on_condition o = option_map_or (λ (e : Placed AnyView). is_on_condition e.edge.operator.text) o false

-- an operator that isn't on a condition, by its text, remembers no pairs
pub link_unkept : (next : ℕ) (es : List (Placed AnyView)) → AreEdges es → AreBuiltOn next es → (l : Link AnyView) → In l (forest es) → remembers es l.number ≡ false → keeps_pairs l.operator.operator ≡ false
link_unkept next [] edges built l i is = absurd i
link_unkept next (e ∷ es) edges built l (inl same) is =
    let here : remembers (e ∷ es) e.number ≡ is_on_condition e.edge.operator.text =
    ap on_condition (cond-true (e.number == e.number) (Some e) (edge_of es e.number) (eq-eqb e.number e.number refl)) in
    subst (λ (k : Link AnyView). remembers (e ∷ es) k.number ≡ false → keeps_pairs k.operator.operator ≡ false) (sym same)
    (λ un. built_unkept _ next e.edge.operator.text e.edge (sym here ∙ un) built.0.built) is
link_unkept next (e ∷ es) edges built l (inr i) is =
    let older = edges.0.newest l.number (inr (link_number es l i)) in
    let there : remembers (e ∷ es) l.number ≡ remembers es l.number =
    ap on_condition (cond-false (l.number == e.number) (Some e) (edge_of es l.number) (ne_eqb l.number e.number (λ same. omega (arith, same, older)))) in
    link_unkept next es edges.1 built.1 l i (sym there ∙ is)
