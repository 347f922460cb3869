-- Exactly one operator changes sides where one is to.
use Rattle.std.specs.Prelude.{◌↔◌, ◌==◌, Some}
use Rattle.std.specs.Option.{is_some, IsSome}
use Rattle.std.proofs.Common.{◌≡◌, ℕ, List, [], ◌∷◌, Bool, true, false, cond, Result, Ok, Err, IfOk, inl, inr, refl, sym, ◌∙◌, ap, subst}
use Rattle.std.proofs.lemmas.Bool.{false≢true, eqb-true}
use Rattle.version_graph.specs.Sets.{In}
use Rattle.version_graph.specs.Edges.{edge_of, numbers}
use Rattle.version_graph.specs.Forest.{forest}
use Rattle.version_graph.specs.declared.parts.Placed.{Placed}
use Rattle.layout_rules.specs.declared.layout.Layout.{Layout}
use Rattle.layout_rules.specs.Layouts.{Lives}
use Rattle.layout_rules.specs.Lookups.{numbers_up}
use Rattle.layout_rules.proofs.ChangeLaws.{filter_in}
use Rattle.layout_rules.proofs.LinkLaws.{in_or_out}
use Rattle.storage_law.specs.Flips.{Turns}
use Rattle.migration.specs.declared.moved.Moved.{Moved}
use Rattle.migration.specs.Sides.{changes_side, flipped_layout}
use Rattle.migration.proofs.SideLemmas.{up_in, goes, comes, side_listed, listed_side}

module _ {O : Type 0} where
  -- an operator that is found lives
  found_lives : (es : List (Placed O)) (n : ℕ) → IsSome (edge_of es n) → In n (numbers es)
  found_lives [] n is = false≢true is
  found_lives (e ∷ es) n is = go (n == e.number) refl (found_lives es n) is
    where
      go : (b : Bool) → (n == e.number) ≡ b → (IsSome (edge_of es n) → In n (numbers es)) → is_some (cond b (Some e) (edge_of es n)) ≡ true → In n (numbers (e ∷ es))
      go true same later is = inl (eqb-true n e.number same)
      go false other later is = inr (later is)

  module _ (es : List (Placed O)) (n : ℕ) (layout : List ℕ) (live : (m : ℕ) → In m layout → Lives (forest es) m) where
    -- every other operator stays where it is
    others_stay : (m : ℕ) → (m ≡ n → ⊥) → In m (flipped_layout es n layout) ↔ In m layout
    others_stay m other = (
      (λ i. elim (listed_side es layout (n ∷ []) m i) [ inl a ↦ a.0 | inr b ↦ absurd (elim b.1 [ inl same ↦ other same | inr none ↦ none ]) ]),
      λ i.
          let l = live m i in
          let there = subst (λ (k : ℕ). In k layout) l.2 i in
          let out : In l.0.number (n ∷ []) → ⊥ = λ j. elim j [ inl same ↦ other (l.2 ∙ same) | inr none ↦ none ] in
          subst (λ (k : ℕ). In k (flipped_layout es n layout)) (sym l.2) (side_listed es layout (n ∷ []) l.0 l.1 (goes layout (n ∷ []) l.0.number there out)),
    )

    pub flip_turns : IsSome (edge_of es n) → Turns n layout (flipped_layout es n layout)
    flip_turns is = elim (in_or_out n layout) as (λ _. Turns n layout (flipped_layout es n layout)) [
      | inl there ↦ inl (
        there,
        record {
          gone = λ i. elim (listed_side es layout (n ∷ []) n i) [ inl a ↦ a.1 (inl refl) | inr b ↦ b.0 there ];
          others = others_stay;
        },
      )
      | inr out ↦ inr (
        out,
        record {
          there = filter_in (changes_side layout (n ∷ [])) n (numbers_up es) (up_in es n (found_lives es n is)) (comes layout (n ∷ []) n out (inl refl));
          others = others_stay;
        },
      )
    ]

-- so it does in a move to that layout
pub turns_if : {E : Type 0} (r : Result Moved E) (goal : Layout) (n : ℕ) (layout new : List ℕ) → goal.operators ≡ new → Turns n layout new → IfOk r (λ moved. moved.layout ≡ goal)
    → IfOk r (λ moved. Turns n layout moved.layout.operators)
turns_if (Ok moved) goal n layout new same turns is = subst (λ (l : List ℕ). Turns n layout l) (sym (ap (λ (l : Layout). l.operators) is ∙ same)) turns
turns_if (Err e) goal n layout new same turns is = tt
