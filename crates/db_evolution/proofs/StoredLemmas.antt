-- The tables that are stored after an evolution: those that were, and those that new CREATE TABLE operators make.
use Rattle.std.specs.Prelude.{◌⊎◌}
use Rattle.std.proofs.Common.{ℕ, ◌≤◌, false, List, ◌++◌, inl, inr, subst, arith}
use Rattle.version_graph.specs.Sets.{In, Each, Within}
use Rattle.version_graph.specs.Edges.{AreEdges, numbers}
use Rattle.version_graph.specs.Evolve.{grown}
use Rattle.version_graph.specs.Forest.{Link, crossing, forest}
use Rattle.version_graph.specs.declared.parts.Edge.{Edge}
use Rattle.version_graph.specs.declared.parts.Placed.{Placed}
use Rattle.version_graph.proofs.SetLaws.{each_at, in_append, in_left, in_right}
use Rattle.version_graph.proofs.WalkLaws.{Of, all_of, is_forest}
use Rattle.layout_rules.specs.Changes.{creates_next}
use Rattle.layout_rules.specs.Layouts.{IsStored}
use Rattle.layout_rules.proofs.ChangeLaws.{link_number}
use Rattle.version_model.proofs.CrossingLaws.{IsWithin, is_within}
use Rattle.version_model.proofs.EvolveLaws.{before_grown}
use Rattle.version_model.proofs.GrownLaws.{grown_links}
use Rattle.db_evolution.specs.News.{created_in}
use Rattle.db_evolution.proofs.NewLemmas.{IsNew, are_new, create_above, create_of, created_by, grown_edges, grown_new, grown_old, grown_split}

module _ {O : Type 0} (es : List (Placed O)) (p o t : ℕ) (edges : List (Edge O)) (all : AreEdges (grown es p o t edges)) (layout : List ℕ) (live : Within layout (numbers es)) (low : Each (λ n. n ≤ o) (numbers es)) where
  abbrev pub layout_after : List ℕ
  layout_after = layout ++ creates_next o edges

  abbrev pub created : List ℕ
  created = created_in (grown_edges p o t edges)

  abbrev fs : List (Link O)
  fs = grown_links es p o t edges

  old_edges : AreEdges es
  old_edges = before_grown es p o t edges all

  -- the tables of an older operator live
  pub older_within : (f : Link O) → In f (forest es) → IsWithin es (crossing false f)
  older_within f i = is_within es old_edges (crossing false f) (each_at (λ (g : Link O). Of (forest es) (crossing false g)) (forest es) f i (all_of (forest es) (is_forest es old_edges)))

  pub new_at : (f : Link O) → In f fs → IsNew es f
  new_at f i = each_at (IsNew es) fs f i (are_new es es p o t edges all (λ n j. j) (λ x j. j))

  -- an older operator is in the layout where it was
  pub old_in : (n : ℕ) → In n (numbers es) → In n layout_after → In n layout
  old_in n i a = elim (in_append n layout (creates_next o edges) a) as (λ _. In n layout) [ inl b ↦ b | inr c ↦ absurd (create_above o edges n c (each_at (λ k. k ≤ o) (numbers es) n i low)) ]

  new_in : (f : Link O) → In f fs → In f.number layout_after → In f.number (creates_next o edges)
  new_in f i a = elim (in_append f.number layout (creates_next o edges) a) as (λ _. In f.number (creates_next o edges)) [
    | inl b ↦ (let less = (new_at f i).number f.number (live f.number b) in absurd (omega (arith, less)))
    | inr c ↦ c
  ]

  takes_none : (f : Link O) (x : ℕ) → In f fs → In f.number layout_after → In x f.sources → ⊥
  takes_none f x i a b = subst (λ (l : List ℕ). In x l) (create_of es p o t edges f i (new_in f i a)).0 b

  stored_before : (x : ℕ) → IsStored (forest (grown es p o t edges)) layout_after x → (f : Link O) → In f (forest es) → In f.number layout_after → In x f.targets → IsStored (forest es) layout x
  stored_before x k f i a b = record {
    made = (f, i, old_in f.number (link_number es f i) a, b);
    free = λ q. k.free (q.0, grown_old es p o t edges q.0 q.1, in_left q.0.number layout (creates_next o edges) q.2, q.3);
  }

  -- WHAT IS STORED WAS STORED, OR IS CREATED
  pub stored_split : (x : ℕ) → IsStored (forest (grown es p o t edges)) layout_after x → IsStored (forest es) layout x ⊎ In x created
  stored_split x k =
      let f = k.made.0 in
      elim (grown_split es p o t edges f k.made.1) as (λ _. IsStored (forest es) layout x ⊎ In x created) [
        | inl i ↦ inl (stored_before x k f i k.made.2 k.made.3)
        | inr i ↦ inr ((create_of es p o t edges f i (new_in f i k.made.2)).1 x k.made.3)
      ]

  -- and conversely
  pub stored_still : (x : ℕ) → IsStored (forest es) layout x → IsStored (forest (grown es p o t edges)) layout_after x
  stored_still x k = record {
    made = (k.made.0, grown_old es p o t edges k.made.0 k.made.1, in_left k.made.0.number layout (creates_next o edges) k.made.2, k.made.3);
    free = λ q. elim (grown_split es p o t edges q.0 q.1) as (λ _. ⊥) [
      | inl i ↦ k.free (q.0, i, old_in q.0.number (link_number es q.0 i) q.2, q.3)
      | inr i ↦ takes_none q.0 x i q.2 q.3
    ];
  }

  pub stored_created : (x : ℕ) → In x created → IsStored (forest (grown es p o t edges)) layout_after x
  stored_created x c =
      let m = created_by es p o t edges x c in
      record {
        made = (m.0, grown_new es p o t edges m.0 m.1, in_right m.0.number layout (creates_next o edges) m.2, m.3);
        free = λ q. elim (grown_split es p o t edges q.0 q.1) as (λ _. ⊥) [
          | inl i ↦ (new_at m.0 m.1).targets x m.3 ((older_within q.0 i).near x q.3)
          | inr i ↦ takes_none q.0 x i q.2 q.3
        ];
      }
