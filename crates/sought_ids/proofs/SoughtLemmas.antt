-- Kept keys of an operator's tables, operators that are closed one after another, and crossings that are seen.
use Rattle.std.specs.Prelude.{if◌then◌else◌}
use Rattle.std.proofs.Common.{◌≡◌, ℕ, ◌+◌, ◌<◌, ◌≤◌, ◌++◌, List, [], ◌∷◌, Bool, true, false, length, take, get_or, map, Some, inl, inr, refl, sym, ap, ◌∙◌, subst}
use Rattle.std.proofs.lemmas.Bool.{false≢true}
use Rattle.std.proofs.lemmas.List.{take_all, take_more}
use Rattle.std.specs.Prelude.{Option}
use Rattle.row_store.specs.Rows.{Rows}
use Rattle.version_graph.specs.Sets.{Each, In}
use Rattle.version_graph.specs.Edges.{AreEdges}
use Rattle.version_graph.specs.Forest.{Crossing, Link, crossing, forest, step_told, walk}
use Rattle.version_graph.specs.declared.parts.Placed.{Placed}
use Rattle.version_graph.specs.declared.parts.Step.{Step}
use Rattle.version_graph.specs.Edges.{is_in}
use Rattle.version_graph.proofs.SetLaws.{each_append, each_at, each_of, in_append, in_of_test, is_in_true}
use Rattle.changes_walk.specs.Reach.{reached}
use Rattle.op_law.specs.Identifiers.{IdsRise}
use Rattle.op_law.specs.Tables.{RowsWide}
use Rattle.op_law.specs.Meaning.{Meaning}
use Rattle.version_model.specs.Calls.{IsCrossing, IsTold}
use Rattle.version_model.specs.declared.numbered.Numbered.{Numbered}
use Rattle.version_model.proofs.CrossingLaws.{GoesOver, crossings_live, walk_goes_over}
use Rattle.version_model.proofs.ToldLaws.{told_is}
use Rattle.table_keys.specs.Keys.{keys_by}
use Rattle.table_keys.specs.States.{KeysState}
use Rattle.table_keys.specs.declared.columns.KeyColumns.TheVariants.{One}
use Rattle.kept_keys.specs.Kept.{AreKeysAt}
use Rattle.op_seeks.specs.declared.place.SeekPlace.{SeekPlace}
use Rattle.operator_changes.proofs.DrawnLemmas.{append_assoc, append_none}
use Rattle.sought_ids.specs.Sought.{AreSomeKeys, ClosesAt, ClosesOver, KeptState, SeesStep}

-- ---- keys

-- a key in one column has one value
one_wide : (place : ℕ) (rows : Rows) → RowsWide 1 (keys_by (One place) rows)
one_wide place [] = tt
one_wide place (r ∷ rs) = (refl, one_wide place rs)

pub keys_wide : (items : List (Numbered KeysState)) (table place : ℕ) (rows : Rows) → AreSomeKeys items → AreKeysAt items table (One place) rows → RowsWide 1 rows
keys_wide items table place rows some at = subst (λ (l : Rows). RowsWide 1 l) (sym (at some.0 some.1)) (one_wide place (some.0 table))

-- ---- identifiers

-- one that is behind the others, and then all
pub rise_more : (ids : List ℕ) (i n : ℕ) → i < length ids → ((rest : List ℕ) → IdsRise n rest → IdsRise 0 (take i ids ++ rest)) → n ≤ get_or ids i 0 → (rest : List ℕ) → IdsRise (get_or ids i 0 + 1) rest → IdsRise 0 (take (i + 1) ids ++ rest)
rise_more ids i n within so_far less rest rise =
    let x = get_or ids i 0 in
    subst (λ (l : List ℕ). IdsRise 0 l) (sym (ap (λ (l : List ℕ). l ++ rest) (take_more ids i 0 within) ∙ append_assoc (take i ids) (x ∷ []) rest)) (so_far (x ∷ rest) (less, rise))

pub rise_all : (ids : List ℕ) (i n : ℕ) → length ids ≤ i → ((rest : List ℕ) → IdsRise n rest → IdsRise 0 (take i ids ++ rest)) → IdsRise 0 ids
rise_all ids i n whole so_far = subst (λ (l : List ℕ). IdsRise 0 l) (sym (append_none (take i ids)) ∙ take_all i ids whole) (so_far [] tt)

-- ---- operators

-- an operator is crossed either way
crosses : {O : Type 0} (es : List (Placed O)) → AreEdges es → (e : Link O) → In e (forest es) → (back : Bool) → IsCrossing es (crossing back e)
crosses {O} es edges e i back =
    let both = each_at (λ (f : Link O). IsCrossing es (crossing true f) × IsCrossing es (crossing false f)) (forest es) e i (crossings_live es edges) in
    elim back as (λ b. IsCrossing es (crossing b e)) [ true ↦ both.0 | false ↦ both.1 ]

module _ {O : Type 0} (meaning : O → Meaning) (seeks : O → Option SeekPlace) (es : List (Placed O)) (kept : KeptState) (ids : List ℕ) where
  -- what a step tells of is the operator of its number
  pub closes_told : AreEdges es → (n : ℕ) (q : Crossing O) → IsTold es (record { operator = n; backward = false }) (Some q) → ClosesOver meaning seeks kept ids q → ClosesAt meaning seeks es kept (n ∷ []) ids
  closes_told edges n q told closes e at (inl number) =
      let same = told_is es (record { operator = n; backward = false }) (crossing false e) q (crosses es edges e at false) (ap (λ (k : ℕ). record { operator = k; backward = false }) number) told in
      subst (λ (p : Crossing O). ClosesOver meaning seeks kept ids p) same closes
  closes_told edges n q told closes e at (inr none) = absurd none

  -- one operator more
  pub closes_more : (ns : List ℕ) (i : ℕ) → i < length ns → ClosesAt meaning seeks es kept (take i ns) ids → ClosesAt meaning seeks es kept (get_or ns i 0 ∷ []) ids → ClosesAt meaning seeks es kept (take (i + 1) ns) ids
  closes_more ns i within so_far here e at mine =
      elim (in_append e.number (take i ns) (get_or ns i 0 ∷ []) (subst (λ (l : List ℕ). In e.number l) (take_more ns i 0 within) mine)) as (λ _. ClosesOver meaning seeks kept ids (crossing false e)) [
        | inl k ↦ so_far e at k
        | inr k ↦ here e at k
      ]

-- ---- a walk

module _ {O : Type 0} (es : List (Placed O)) (ns : List ℕ) (Sees : Crossing O → Type 0) where
  abbrev Steps : Step → Type 0
  Steps step = SeesStep es ns Sees step

  -- one step more
  pub step_more : (steps : List Step) (i : ℕ) (d : Step) → i < length steps → Each Steps (take i steps) → Steps (get_or steps i d) → Each Steps (take (i + 1) steps)
  step_more steps i d within so_far here =
      subst (λ (l : List Step). Each Steps l) (sym (take_more steps i d within)) (each_append Steps (take i steps) (get_or steps i d ∷ []) so_far (here, tt))

  -- a step over another operator
  pub step_passed : (step : Step) → is_in step.operator ns ≡ false → Steps step
  step_passed step other i = absurd (false≢true (sym other ∙ is_in_true step.operator ns i))

  told_each : (ps : List (Crossing O)) → Each Steps (map step_told ps) → Each (λ (p : Crossing O). Steps (step_told p)) ps
  told_each [] all = tt
  told_each (p ∷ ps) all = (all.0, told_each ps all.1)

  seen_reached : (ps : List (Crossing O)) → Each (λ (p : Crossing O). In p.number ns → Sees p) ps → Each Sees (reached ns ps)
  seen_reached [] all = tt
  seen_reached (p ∷ ps) all =
      elim (is_in p.number ns) as (λ b. is_in p.number ns ≡ b → Each Sees (if b then p ∷ reached ns ps else reached ns ps)) [
        | true ↦ λ e. (all.0 (in_of_test p.number ns e), seen_reached ps all.1)
        | false ↦ λ e. seen_reached ps all.1
      ] refl

  live : AreEdges es → (p : Crossing O) → GoesOver (forest es) p → IsCrossing es p
  live edges p over = subst (λ (q : Crossing O). IsCrossing es q) (sym over.is) (crosses es edges over.over over.among over.back)

  -- all steps of a walk tell of all crossings over these operators
  pub walk_seen : AreEdges es → (set : ℕ) (steps : List Step) → steps ≡ map step_told (walk (forest es) set) → Each Steps steps → Each Sees (reached ns (walk (forest es) set))
  walk_seen edges set steps told all =
      let path = walk (forest es) set in
      let each = told_each path (subst (λ (l : List Step). Each Steps l) told all) in
      seen_reached path (each_of (λ (p : Crossing O). In p.number ns → Sees p) path (λ p i own.
      each_at (λ (q : Crossing O). Steps (step_told q)) path p i each own p (live edges p (each_at (GoesOver (forest es)) path p i (walk_goes_over (forest es) set))) refl))
