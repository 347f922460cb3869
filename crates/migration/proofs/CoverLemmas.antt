-- What a move reads is covered by the operators that change sides: both layouts are valid.
use Rattle.std.proofs.Common.{ℕ, List, Bool, true, false, inl, inr, sym, subst}
use Rattle.version_graph.specs.Sets.{In}
use Rattle.version_graph.specs.Edges.{AreEdges, is_in}
use Rattle.version_graph.specs.Forest.{Link, crossing, forest}
use Rattle.version_graph.specs.declared.parts.Placed.{Placed}
use Rattle.version_graph.proofs.WalkLaws.{is_forest}
use Rattle.layout_rules.specs.Layouts.{IsStored, IsValid}
use Rattle.layout_rules.proofs.LinkLaws.{maker_in, same_maker}
use Rattle.db_state.specs.Covered.{Covers, CoversItself}
use Rattle.migration.specs.Sides.{changing}
use Rattle.migration.proofs.SideLemmas.{comes, goes, listed_side, side_listed}

module _ {O : Type 0} (es : List (Placed O)) (edges : AreEdges es) (layout goal : List ℕ) (old : IsValid (forest es) layout) (new : IsValid (forest es) goal) where
  abbrev ns : List ℕ
  ns = changing es layout goal

  -- who made the table is in the goal
  made_in : (f e : Link O) (t : ℕ) → In f (forest es) → In e (forest es) → In e.number goal → In t e.sources → In t f.targets → In f.number goal
  made_in f e t j i b s a = maker_in (forest es) goal f t (is_forest es edges) j a (new.makers e i b t s)

  -- an operator of the layout that isn't in the goal changes sides
  out_of : (f : Link O) → In f (forest es) → In f.number layout → (In f.number goal → ⊥) → In f.number ns
  out_of f j a none = side_listed es layout goal f j (goes layout goal f.number a none)

  into : (f : Link O) → In f (forest es) → (In f.number layout → ⊥) → In f.number goal → In f.number ns
  into f j none b = side_listed es layout goal f j (comes layout goal f.number none b)

  -- a table that the goal stores
  pub stored_covered : (t : ℕ) → IsStored (forest es) goal t → Covers (forest es) layout ns t
  stored_covered t k f j (inl up) = into f j up.1 (maker_in (forest es) goal f t (is_forest es edges) j up.0 k.made)
  stored_covered t k f j (inr down) = out_of f j down.2 (λ b. k.free (f, j, b, down.1))

  -- the sources of an operator that changes sides
  pub source_covered : (e : Link O) (t : ℕ) → In e (forest es) → In e.number ns → In t e.sources → Covers (forest es) layout ns t
  source_covered e t i n s f j over =
      elim (listed_side es layout goal e.number n) as (λ _. In f.number ns) [
        | inl side ↦ elim over as (λ _. In f.number ns) [
          | inl up ↦ absurd (up.1 (maker_in (forest es) layout f t (is_forest es edges) j up.0 (old.makers e i side.0 t s)))
          | inr down ↦ subst (λ (m : ℕ). In m ns) (old.once e f i j side.0 down.2 (t, s, down.1)) n
        ]
        | inr side ↦ elim over as (λ _. In f.number ns) [
          | inl up ↦ into f j up.1 (made_in f e t j i side.1 s up.0)
          | inr down ↦ out_of f j down.2 (λ b. side.0 (subst (λ (m : ℕ). In m layout) (sym (new.once e f i j side.1 b (t, s, down.1))) down.2))
        ]
      ]

  -- and its targets
  pub target_covered : (e : Link O) (t : ℕ) → In e (forest es) → In e.number ns → In t e.targets → Covers (forest es) layout ns t
  target_covered e t i n a f j over =
      elim (listed_side es layout goal e.number n) as (λ _. In f.number ns) [
        | inl side ↦ elim over as (λ _. In f.number ns) [
          | inl up ↦ absurd (up.1 (subst (λ (y : Link O). In y.number layout) (same_maker (forest es) e f t (is_forest es edges) i j a up.0) side.0))
          | inr down ↦ out_of f j down.2 (λ b. side.1 (made_in e f t i j b down.1 a))
        ]
        | inr side ↦ elim over as (λ _. In f.number ns) [
          | inl up ↦ subst (λ (y : Link O). In y.number ns) (same_maker (forest es) e f t (is_forest es edges) i j a up.0) n
          | inr down ↦ absurd (side.0 (maker_in (forest es) layout e t (is_forest es edges) i a down.0))
        ]
      ]

  near_covered : (e : Link O) (x : Bool) (t : ℕ) → In e (forest es) → In e.number ns → In t (crossing x e).near → Covers (forest es) layout ns t
  near_covered e true t i n a = target_covered e t i n a
  near_covered e false t i n a = source_covered e t i n a

  -- THE OPERATORS THAT CHANGE SIDES COVER THEMSELVES
  pub covers_itself : CoversItself (forest es) layout ns
  covers_itself e i n t a = near_covered e (is_in e.number layout) t i n a
