-- What is in the layout, is pending or was counted stays of what lives, and no number is above the last ones given.
use Rattle.std.specs.Prelude.{Option, Some, None, Ok, ◌&&◌, nat_lt}
use Rattle.std.proofs.Common.{◌≡◌, ◌≤◌, ◌+◌, ◌==◌, ℕ, suc, Bool, true, false, not, cond, filter, List, [], ◌∷◌, length, inl, inr, refl, sym, subst, arith}
use Rattle.std.specs.Str.{bytes_eq}
use Rattle.std.proofs.lemmas.List.{map-append, reverse-reverse}
use mathlib.Core.List.{reverse}
use Rattle.par_base.specs.declared.limits.Target.{Target}
use Rattle.par_base.specs.declared.refusal.Refusal.{Refusal}
use Rattle.version_graph.specs.Sets.{Each, In}
use Rattle.version_graph.specs.Tables.{TableVersion, table_numbers}
use Rattle.version_graph.specs.Edges.{Drawn, is_in, made, made_by_edge, numbers, version_sets}
use Rattle.version_graph.specs.Evolve.{evolved, grown, numbers_after, placed_next, targets_in}
use Rattle.version_graph.specs.Dropped.{dropped, other_versions, staying}
use Rattle.version_graph.specs.declared.parts.Edge.{Edge}
use Rattle.version_graph.specs.declared.parts.Placed.{Placed}
use Rattle.version_graph.proofs.GrowLaws.{length_after, top_after}
use Rattle.version_graph.proofs.SetLaws.{each_append, each_at, each_more, each_of, in_append, in_map, in_of_test, origin}
use Rattle.version_graph.proofs.StayLaws.{fewer_numbers, fewer_tables, in_others}
use Rattle.version_graph.proofs.TableLaws.{in_filter, numbers_made, passes}
use Rattle.version_graph.proofs.WalkStepLaws.{in_reverse}
use Rattle.layout_rules.specs.Changes.{creates_above, is_empty, layout_after}
use Rattle.layout_rules.specs.Closed.{closed_layout, closing, closing_refusal, unless}
use Rattle.layout_rules.specs.Lookups.{numbers_up}
use Rattle.layout_planner.specs.Counts.{counts_in, is_living}
use Rattle.layout_planner.specs.declared.planning.TableCount.{TableCount}
use Rattle.migration.specs.Pending.{next_flip, pending_for}
use Rattle.migration.specs.Sides.{changing}
use Rattle.op_any.specs.Operators.{AnyView}
use Rattle.engine_state.specs.declared.reply.Reply.{Reply}
use Rattle.engine_state.specs.declared.reply.Reply.TheVariants.{Pending}
use Rattle.engine_transactions.proofs.ChainLaws.{both_give, ok_is}
use Rattle.engine_transactions.specs.Laid.{Laid, materialized, moved_count}
use Rattle.engine_transactions.specs.EngineMovesAct.{flipped_by, started, stepped, stepped_at}
use Rattle.engine_transactions.specs.Moving.{Moving}

-- ---- numbers

-- no number is above the last ones given
pub record IsOrdered (g : Drawn AnyView) : Type 0 where
  pub operators : Each (λ n. n ≤ g.last_operator) (numbers g.edges)
  pub tables : Each (λ t. t ≤ g.last_table) (table_numbers (made g.edges))
  pub sets : Each (λ n. n ≤ g.last_operator) (version_sets g.versions)

numbers_grow : (es : List (Placed AnyView)) (p o t : ℕ) (edges : List (Edge AnyView)) → Each (λ n. n ≤ o) (numbers es) → Each (λ n. n ≤ o + length edges) (numbers (grown es p o t edges))
numbers_grow es p o t [] each = each_more (λ n. n ≤ o) (λ n. n ≤ o + 0) (λ n h. omega (arith, h)) (numbers es) each
numbers_grow es p o t (e ∷ edges) each =
    let new = placed_next p o t e in
    let all = grown (new ∷ es) (o + 1) (o + 1) (t + length e.targets) edges in
    let many : o + 1 + length edges ≡ o + suc (length edges) = omega arith in
    subst (λ (m : ℕ). Each (λ n. n ≤ m) (numbers all)) many
    (numbers_grow (new ∷ es) (o + 1) (o + 1) (t + length e.targets) edges (omega arith, each_more (λ n. n ≤ o) (λ n. n ≤ o + 1) (λ n h. omega (arith, h)) (numbers es) each))

tables_grow : (es : List (Placed AnyView)) (p o t : ℕ) (edges : List (Edge AnyView)) → Each (λ k. k ≤ t) (table_numbers (made es)) → Each (λ k. k ≤ t + targets_in edges) (table_numbers (made (grown es p o t edges)))
tables_grow es p o t [] each = each_more (λ k. k ≤ t) (λ k. k ≤ t + 0) (λ k h. omega (arith, h)) (table_numbers (made es)) each
tables_grow es p o t (e ∷ edges) each =
    let new = placed_next p o t e in
    let all = grown (new ∷ es) (o + 1) (o + 1) (t + length e.targets) edges in
    let sum : t + length e.targets + targets_in edges ≡ t + (length e.targets + targets_in edges) = omega arith in
    let here : table_numbers (made_by_edge new) ≡ numbers_after t e.targets = numbers_made (numbers_after t e.targets) e.targets (length_after t e.targets) in
    subst (λ (m : ℕ). Each (λ k. k ≤ m) (table_numbers (made all))) sum
    (tables_grow (new ∷ es) (o + 1) (o + 1) (t + length e.targets) edges
    (subst (λ (l : List ℕ). Each (λ k. k ≤ t + length e.targets) l) (sym (map-append (λ (v : TableVersion). v.number) (made_by_edge new) (made es)))
    (each_append (λ k. k ≤ t + length e.targets) (table_numbers (made_by_edge new)) (table_numbers (made es))
    (subst (λ (l : List ℕ). Each (λ k. k ≤ t + length e.targets) l) (sym here) (top_after t e.targets))
    (each_more (λ k. k ≤ t) (λ k. k ≤ t + length e.targets) (λ k h. omega (arith, h)) (table_numbers (made es)) each))))

pub evolved_ordered : (g : Drawn AnyView) (name : List ℕ) (w : ℕ) (edges : List (Edge AnyView)) → IsOrdered g → IsOrdered (evolved g name w edges)
evolved_ordered g name w edges is = record {
  operators = numbers_grow g.edges w g.last_operator g.last_table edges is.operators;
  tables = tables_grow g.edges w g.last_operator g.last_table edges is.tables;
  sets = subst (λ (l : List ℕ). Each (λ n. n ≤ g.last_operator + length edges) l) (sym (map-append (λ (v : List ℕ × ℕ). v.1) g.versions ((name, g.last_operator + length edges) ∷ [])))
      (each_append (λ n. n ≤ g.last_operator + length edges) (version_sets g.versions) ((g.last_operator + length edges) ∷ [])
      (each_more (λ n. n ≤ g.last_operator) (λ n. n ≤ g.last_operator + length edges) (λ n h. omega (arith, h)) (version_sets g.versions) is.sets)
      (omega arith, tt));
}

pub dropped_ordered : (g : Drawn AnyView) (name : List ℕ) → IsOrdered g → IsOrdered (dropped g name)
dropped_ordered g name is =
    let left = other_versions g.versions name in
    let needed = version_sets left in
    let set = λ (v : List ℕ × ℕ). v.1 in
    record {
      operators = each_of (λ n. n ≤ g.last_operator) (numbers (staying needed g.edges)) (λ n i. each_at (λ k. k ≤ g.last_operator) (numbers g.edges) n (fewer_numbers g.edges needed n i) is.operators);
      tables = each_of (λ t. t ≤ g.last_table) (table_numbers (made (staying needed g.edges))) (λ t i. each_at (λ k. k ≤ g.last_table) (table_numbers (made g.edges)) t (fewer_tables g.edges needed t i) is.tables);
      sets = each_of (λ n. n ≤ g.last_operator) needed (λ n i.
          let o = origin set n left i in
          each_at (λ k. k ≤ g.last_operator) (version_sets g.versions) n (subst (λ (k : ℕ). In k (version_sets g.versions)) (sym o.2) (in_map set o.0 g.versions (in_others (bytes_eq name) o.0 g.versions o.1))) is.sets);
    }

-- ---- what lives

abbrev pub AllLive : List (Placed AnyView) → List ℕ → Type 0
AllLive es ns = Each (λ n. In n (numbers es)) ns

pub live_kept : (es : List (Placed AnyView)) (ns : List ℕ) → AllLive es (filter (λ n. is_in n (numbers es)) ns)
live_kept es ns = each_of (λ n. In n (numbers es)) (filter (λ n. is_in n (numbers es)) ns) (λ n i. in_of_test n (numbers es) (passes (λ n. is_in n (numbers es)) n ns i))

turned : (es : List (Placed AnyView)) (n : ℕ) → In n (numbers_up es) → In n (numbers es)
turned es n i = subst (λ (l : List ℕ). In n l) (reverse-reverse (numbers es)) (in_reverse n (reverse (numbers es)) i)

-- some of the live ones
pub live_chosen : (es : List (Placed AnyView)) (test : ℕ → Bool) → AllLive es (filter test (numbers_up es))
live_chosen es test = each_of (λ n. In n (numbers es)) (filter test (numbers_up es)) (λ n i. turned es n (in_filter test n (numbers_up es) i))

created_in : (last : ℕ) (es : List (Placed AnyView)) (n : ℕ) → In n (creates_above last es) → In n (numbers es)
created_in last [] n i = i
created_in last (e ∷ es) n i =
    elim (in_append n (creates_above last es) (cond (nat_lt last e.number && is_empty e.edge.sources) (e.number ∷ []) []) i) as (λ _. In n (numbers (e ∷ es))) [
      | inl j ↦ inr (created_in last es n j)
      | inr j ↦ (elim (nat_lt last e.number && is_empty e.edge.sources) as (λ b. In n (cond b (e.number ∷ []) []) → In n (numbers (e ∷ es))) [
        | true ↦ λ k. elim k as (λ _. In n (numbers (e ∷ es))) [ inl same ↦ inl same | inr none ↦ absurd none ]
        | false ↦ λ k. absurd k
      ]) j
    ]

-- the layout behind a statement on the data
pub layout_lives : (layout : List ℕ) (old new : Drawn AnyView) → AllLive new.edges (layout_after layout old new)
layout_lives layout old new =
    each_append (λ n. In n (numbers new.edges)) (filter (λ n. is_in n (numbers new.edges)) layout) (creates_above old.last_operator new.edges) (live_kept new.edges layout)
    (each_of (λ n. In n (numbers new.edges)) (creates_above old.last_operator new.edges) (λ n i. created_in old.last_operator new.edges n i))

-- counts of tables that live
abbrev pub AllCounted : List (Placed AnyView) → List TableCount → Type 0
AllCounted es counts = Each (λ (c : TableCount). is_living es c ≡ true) counts

pub counted_kept : (es : List (Placed AnyView)) (counts : List TableCount) → AllCounted es (counts_in es counts)
counted_kept es counts = each_of (λ (c : TableCount). is_living es c ≡ true) (counts_in es counts) (λ c i. passes (is_living es) c counts i)

-- ---- the data, their layout and what is pending

pub record IsMoving (m : Moving) : Type 0 where
  pub graph : IsOrdered m.laid.database.graph
  pub layout : AllLive m.laid.database.graph.edges m.laid.layout
  pub pending : AllLive m.laid.database.graph.edges m.pending

some_left : (es : List (Placed AnyView)) (test : ℕ → Bool) (ns : List ℕ) → AllLive es ns → AllLive es (filter test ns)
some_left es test ns live = each_of (λ n. In n (numbers es)) (filter test ns) (λ n i. each_at (λ k. In k (numbers es)) ns n (in_filter test n ns i) live)

-- a move in steps begins
pub started_moving : (m : Moving) (named : List Target) (r : Reply × Moving) → IsMoving m → started m named ≡ Ok r → IsMoving r.1
started_moving m named r is h =
    let g = m.laid.database.graph in
    let a = both_give (pending_for g m.laid.layout named) (λ pending. Ok (Pending (length pending), record m { pending = pending })) r h in
    let b = both_give (closing g m.laid.layout named) (λ goal. Ok (changing g.edges m.laid.layout goal)) a.0 a.1 in
    let same : changing g.edges m.laid.layout b.0 ≡ a.0 = ok_is _ a.0 b.2 in
    let live : AllLive g.edges a.0 = subst (λ (l : List ℕ). AllLive g.edges l) same (live_chosen g.edges _) in
    subst (λ (q : Reply × Moving). IsMoving q.1) (ok_is _ r a.2) (record { graph = is.graph; layout = is.layout; pending = live })

-- and goes a step
pub stepped_moving : (m : Moving) (r : Reply × Moving) → IsMoving m → stepped m ≡ Ok r → IsMoving r.1
stepped_moving m r is h = go (next_flip m.laid.layout m.pending) h
  where
    go : (o : Option ℕ) → stepped_at m o ≡ Ok r → IsMoving r.1
    go None h = absurd (let no : ⊥ = cc in no)
    go (Some n) h =
        subst (λ (q : Reply × Moving). IsMoving q.1) (ok_is (_, flipped_by m n) r h)
        (record { graph = is.graph; layout = live_chosen m.laid.database.graph.edges _; pending = some_left m.laid.database.graph.edges (λ k. not (k == n)) m.pending is.pending })

unless_is : (o : Option Refusal) (x y : List ℕ) → unless o x ≡ Ok y → x ≡ y
unless_is (Some r) x y e = absurd (let no : ⊥ = cc in no)
unless_is None x y e = ok_is x y e

-- the layout that a move leaves
pub materialized_lives : (l : Laid) (named : List Target) (r : ℕ × Laid) → materialized l named ≡ Ok r → (r.1.database ≡ l.database) × AllLive l.database.graph.edges r.1.layout
materialized_lives l named r h =
    let g = l.database.graph in
    let a = both_give (closing g l.layout named) (λ new. Ok (moved_count l new, record l { layout = new })) r h in
    let same : closed_layout g l.layout named ≡ a.0 = unless_is (closing_refusal g l.layout named) (closed_layout g l.layout named) a.0 a.1 in
    let live : AllLive g.edges a.0 = subst (λ (ns : List ℕ). AllLive g.edges ns) same (live_chosen g.edges _) in
    subst (λ (q : ℕ × Laid). (q.1.database ≡ l.database) × AllLive g.edges q.1.layout) (ok_is (moved_count l a.0, record l { layout = a.0 }) r a.2) (refl, live)
